-- Sealing the tables of a draft answers what its text says.
use Rattle.std.proofs.Common.{◌≡◌, ℕ, suc, ◌+◌, ◌-◌, ◌≤◌, List, [], ◌∷◌, ◌++◌, length, get_or, Some, None, Ok, Err, Option, sym, refl, ap, ◌∙◌, subst, inl, inr, arith}
use Rattle.engine.specs.declared.alphabet.ContentAtom.{ContentAtom}
use Rattle.models.specs.Readers.{Numbered}
use Rattle.models.specs.declared.node.Node.{Node}
use Rattle.models.proofs.Numbering.{numbered_in, numbered_some}
use Rattle.scan.specs.Lists.{zero_entry}
use Rattle.scan.specs.Readings.{Repeats, none, more}
use Rattle.scan.specs.declared.entry.Entry.{Entry}
use Rattle.declarations.specs.Contents.{Placed}
use Rattle.declarations.specs.Grammar.{Item, State, ContentSpec, beginning}
use Rattle.declarations.proofs.Grammars.{grammar_is_read}
use Rattle.drafts.specs.Drafted.{declarations, text_models, most}
use Rattle.drafts.specs.Layouts.{all_code, runs_from}
use Rattle.drafts.specs.Questions.{declared_names}
use Rattle.drafts.specs.Tables.{entry_of, entries_of}
use Rattle.drafts.proofs.Accepting.{Accepted}
use Rattle.drafts.proofs.Coding.{length_runs}
use Rattle.drafts.proofs.Counting.{length_models}
use Rattle.sealed.specs.Checks.{Judged}
use Rattle.sealed.specs.declared.questions.Unsealed.{Unsealed}
use Rattle.sealed.specs.declared.questions.Unsealed.TheVariants as unsealed
use Rattle.agreement.specs.Places.{place_at, refusal_of}
use Rattle.sealing.specs.Questions as tables
use Rattle.agreement.specs.Sealing as text
use Rattle.agreement.proofs.Meaning.{Written, few, has_model, ambiguous_is, is_ambiguous, tree_is, is_tree, first_no_too}

-- Where the n-th declaration stands, by the entries.
entry_at : (t : List ℕ) (found : List Placed) (b n : ℕ) (p : Placed) → Numbered found b n p → get_or (entries_of t found) (n - (b + 1)) zero_entry ≡ entry_of t p
entry_at t [] b n p h = absurd h
entry_at t (q ∷ found) b n p (inl (at, is)) =
    ap (λ k. get_or (entries_of t (q ∷ found)) k zero_entry) (let i : n - (b + 1) ≡ 0 = omega arith in i) ∙ ap (entry_of t) is
entry_at t (q ∷ found) b n p (inr h) =
    let there = numbered_in found (b + 1) n p h in
    let i : n - (b + 1) ≡ suc (n - ((b + 1) + 1)) = omega (arith, there.0) in
    ap (λ k. get_or (entries_of t (q ∷ found)) k zero_entry) i ∙ entry_at t found (b + 1) n p h

place_is : (t : List ℕ) (n : ℕ) → 1 ≤ n → n ≤ length (declarations t) → text.PlaceOf t n (place_at (entries_of t (declarations t)) n)
place_is t n low high =
    let some = numbered_some (declarations t) 0 n (omega arith) (omega arith) in
    let i : n - (0 + 1) ≡ n - 1 = omega arith in
    let is = subst (λ k. get_or (entries_of t (declarations t)) k zero_entry ≡ entry_of t some.0) i (entry_at t (declarations t) 0 n some.0 some.1) in
    (some.0, some.1, ap (λ (e : Entry). e.place) is)

-- The content of each declaration of a text stands in that text.
abbrev Contented : Placed → Type 0
Contented p = (t : List ℕ) × (r : List ℕ) × ContentSpec t p.declaration.content r

abbrev AllContented : List Placed → Type 0
AllContented [] = Unit {0}
AllContented (p ∷ ps) = Contented p × AllContented ps

with_one : (found : List Placed) (q : Placed) → AllContented found → Contented q → AllContented (found ++ (q ∷ []))
with_one [] q all one = (one, tt)
with_one (r ∷ found) q all one = (all.0, with_one found q all.1 one)

with_none : (found : List Placed) → found ++ [] ≡ found
with_none [] = refl
with_none (p ∷ ps) = ap (λ t. p ∷ t) (with_none ps)

item_contented : (s : State) (t : List ℕ) (after : State) (r : List ℕ) → Item s t after r → AllContented s.found → AllContented after.found
item_contented s t after r (inl (b, is)) all = subst (λ (x : State). AllContented x.found) (sym is) (subst AllContented (sym (with_none s.found)) all)
item_contented s t after r (inr (inl (i, c, is))) all = subst (λ (x : State). AllContented x.found) (sym is) (subst AllContented (sym (with_none s.found)) all)
item_contented s t after r (inr (inr (d, e, is))) all =
    subst (λ (x : State). AllContented x.found) (sym is) (with_one s.found (record { place = s.place; declaration = d }) all (e.before_content, e.after_content, e.content))

items_contented : (s : State) (t : List ℕ) (after : State) (r : List ℕ) → Repeats Item s t after r → AllContented s.found → AllContented after.found
items_contented s t after r (none a b) all = subst (λ (x : State). AllContented x.found) a all
items_contented s t after r (more s' t' step rest) all = items_contented s' t' after r rest (item_contented s t s' t' step all)

contented_written : (found : List Placed) → AllContented found → Written found
contented_written [] all b n p h = absurd h
contented_written (q ∷ found) all b n p (inl (at, is)) = subst Contented is all.0
contented_written (q ∷ found) all b n p (inr h) = contented_written found all.1 (b + 1) n p h

pub all_written : (t : List ℕ) → Accepted most t (declarations t) → Written (declarations t)
all_written t accepted =
    let reads = (grammar_is_read.is_read t accepted.end accepted.rest accepted.reads).1 in
    let run = items_contented beginning t reads.0 [] reads.1 tt in
    contented_written (declarations t) (subst AllContented (reads.2 ∙ accepted.found_is) run)

module _ (t : List ℕ) (accepted : Accepted most t (declarations t)) (after : List (Node ContentAtom)) where
  written : Written (declarations t)
  written = all_written t accepted

  abbrev N : List (Node ContentAtom)
  N = all_code (text_models t) ++ after

  size : length (runs_from 0 (text_models t)) ≡ length (declarations t)
  size = length_runs 0 (text_models t) ∙ length_models (declared_names (declarations t)) (declarations t)

  -- The first no of each question, of the tables and of the text.
  ambiguity : (r : Option ℕ) → tables.FirstNo (tables.Unambiguous N (runs_from 0 (text_models t))) (tables.IsAmbiguous N (runs_from 0 (text_models t))) (length (runs_from 0 (text_models t))) r → tables.FirstNo (text.Unambiguous t) (text.IsAmbiguous t) (length (declarations t)) r
  ambiguity r = first_no_too (tables.Unambiguous N (runs_from 0 (text_models t))) (tables.IsAmbiguous N (runs_from 0 (text_models t))) (text.Unambiguous t) (text.IsAmbiguous t) (length (runs_from 0 (text_models t))) (length (declarations t)) r size (λ n clear a. clear (is_ambiguous t accepted written after n a)) (λ n a. ambiguous_is t accepted written after n a)

  trees : (r : Option ℕ) → tables.FirstNo (tables.HasTree N (runs_from 0 (text_models t))) (tables.HasNoTree N (runs_from 0 (text_models t))) (length (runs_from 0 (text_models t))) r → tables.FirstNo (text.HasTree t) (text.HasNoTree t) (length (declarations t)) r
  trees r = first_no_too (tables.HasTree N (runs_from 0 (text_models t))) (tables.HasNoTree N (runs_from 0 (text_models t))) (text.HasTree t) (text.HasNoTree t) (length (runs_from 0 (text_models t))) (length (declarations t)) r size (λ n h. tree_is t accepted written after n h) (λ n not h. not (is_tree t accepted written after n h))

  pub sealed_ok : (v : Unit {0}) → Judged N (runs_from 0 (text_models t)) (Ok v) → text.SealAnswer t (Ok v)
  sealed_ok v s = (ambiguity None s.unambiguous, trees None s.trees)

  pub sealed_not : (why : Unsealed) → Judged N (runs_from 0 (text_models t)) (Err why) → text.SealAnswer t (Err (refusal_of (entries_of t (declarations t)) why))
  sealed_not unsealed.TooMany h = absurd (omega (arith, h, size, few t accepted written))
  sealed_not (unsealed.NoModel n) (low, (from, to, not, before)) = absurd (not (has_model t accepted written after n from to))
  sealed_not (unsealed.Ambiguous n) (low, models, first) =
      let moved = ambiguity (Some n) first in
      (n, place_is t n moved.0 moved.1, inl (refl, moved))
  sealed_not (unsealed.NoTree n) (low, models, clear, first) =
      let moved = trees (Some n) first in
      (n, place_is t n moved.0 moved.1, inr (refl, ambiguity None clear, moved))
