-- What the tables of a draft say is what its text says.
use Rattle.std.proofs.Common.{◌≡◌, ℕ, suc, ◌+◌, ◌<◌, ◌≤◌, List, [], ◌∷◌, ◌++◌, length, Some, None, Option, sym, refl, ap, ◌∙◌, subst, inl, inr, arith, leb-true}
use Rattle.engine.specs.Atoms.{StandsFor}
use Rattle.engine.specs.Languages.{Language, Each}
use Rattle.engine.specs.declared.alphabet.ContentAtom.{ContentAtom}
use Rattle.engine.specs.declared.alphabet.Letter.{Letter}
use Rattle.models.specs.Expressions.{Exp, atoms}
use Rattle.models.specs.Folds.{code, depth}
use Rattle.models.specs.Readers.{Numbered, atoms_of}
use Rattle.models.specs.Tables.{Coded, ModelWords, Speaks}
use Rattle.models.specs.declared.node.Node.{Node}
use Rattle.models.proofs.ModelTables.{coded_one}
use Rattle.models.proofs.Numbering.{numbered_some, coded_leaves, leaves}
use Rattle.scan.specs.Names.{Name}
use Rattle.declarations.specs.Contents.{Placed}
use Rattle.declarations.specs.Grammar.{ContentSpec}
use Rattle.drafts.specs.Drafted.{declarations, text_models, most}
use Rattle.drafts.specs.Layouts.{all_code, runs_from}
use Rattle.drafts.specs.Questions.{model_of, declared_names, few_atoms, names_declared}
use Rattle.drafts.specs.Tables.{models_in}
use Rattle.drafts.proofs.Accepting.{Accepted, none_yes, each_yes, few_records}
use Rattle.drafts.proofs.Coding.{coded_at, length_runs}
use Rattle.drafts.proofs.Counting.{length_models}
use Rattle.drafts.proofs.Depths.{model_fits}
use Rattle.sealing.specs.Questions as tables
use Rattle.sealed.specs.Checks.{HasModel, Names}
use Rattle.agreement.specs.Sealing.{ModelOf, TextWords, SpeaksText}
use Rattle.agreement.specs.Sealing as text
use Rattle.agreement.proofs.Naming.{model_good}
use Rattle.agreement.proofs.Trees.{valid_too}

-- A model's declaration, and a declaration's model.
model_from : (names : List Name) (found : List Placed) (b n : ℕ) (e : Exp ContentAtom) → Numbered (models_in names found) b n e → (p : Placed) × Numbered found b n p × (model_of names p ≡ e)
model_from names [] b n e h = absurd h
model_from names (q ∷ found) b n e (inl (at, is)) = (q, inl (at, refl), is)
model_from names (q ∷ found) b n e (inr h) = let r = model_from names found (b + 1) n e h in (r.0, inr r.1, r.2)

length_names : (found : List Placed) → length (declared_names found) ≡ length found
length_names [] = refl
length_names (p ∷ ps) = ap suc (length_names ps)

-- Each declaration's content stands in some text.
abbrev pub Written : List Placed → Type 0
Written found = (b n : ℕ) (p : Placed) → Numbered found b n p → (t : List ℕ) × (r : List ℕ) × ContentSpec t p.declaration.content r

module _ (t : List ℕ) (accepted : Accepted most t (declarations t)) (written : Written (declarations t)) where
  pub fit : (n : ℕ) (e : Exp ContentAtom) → ModelOf t n e → (atoms e ≤ 63) × (depth e ≤ 64)
  fit n e h =
      let from = model_from (declared_names (declarations t)) (declarations t) 0 n e h in
      let p = from.0 in
      let asked = each_yes (few_atoms most (declared_names (declarations t))) [] (declarations t) 0 n p (none_yes (few_atoms most (declared_names (declarations t))) [] (declarations t) accepted.yes.1.0) from.1 in
      let few = leb-true (atoms (model_of (declared_names (declarations t)) p)) 63 asked.1 in
      let where-read = written 0 n p from.1 in
      let deep = model_fits (declared_names (declarations t)) where-read.0 p.declaration.content where-read.1 where-read.2 few in
      (subst (λ m. atoms m ≤ 63) from.2 few, subst (λ m. depth m ≤ 64) from.2 deep)

  pub good : (n : ℕ) (e : Exp ContentAtom) → ModelOf t n e → Each (Names (length (declarations t))) (atoms_of (code e))
  good n e h =
      let from = model_from (declared_names (declarations t)) (declarations t) 0 n e h in
      let p = from.0 in
      let asked = each_yes (names_declared most (declared_names (declarations t))) [] (declarations t) 0 n p (none_yes (names_declared most (declared_names (declarations t))) [] (declarations t) accepted.yes.1.1.1.0) from.1 in
      let all = model_good (declared_names (declarations t)) p.declaration.content asked.1 in
      let moved = subst (λ k. Each (Names k) (leaves (model_of (declared_names (declarations t)) p))) (length_names (declarations t)) all in
      subst (λ m. Each (Names (length (declarations t))) (atoms_of (code m))) from.2 (subst (Each (Names (length (declarations t)))) (sym (coded_leaves (model_of (declared_names (declarations t)) p))) moved)

  pub few : length (declarations t) ≤ 63
  few = let h = few_records most (declared_names (declarations t)) [] (declarations t) (omega arith) (none_yes _ [] (declarations t) accepted.yes.0) in omega arith

  -- The tables code, for each number, the model of the text.
  module _ (after : List (Node ContentAtom)) where
    pub is_coded : (n : ℕ) (e : Exp ContentAtom) → ModelOf t n e → Coded (all_code (text_models t) ++ after) (runs_from 0 (text_models t)) n e
    is_coded n e h = coded_at (text_models t) n e after h (fit n e h).0 (fit n e h).1

    pub coded_is : (n : ℕ) (e : Exp ContentAtom) → Coded (all_code (text_models t) ++ after) (runs_from 0 (text_models t)) n e → ModelOf t n e
    coded_is n e c =
        let len = length_runs 0 (text_models t) in
        let low : 0 < n = omega (arith, c.from_one) in
        let high : n ≤ 0 + length (text_models t) = omega (arith, c.listed, len) in
        let some = numbered_some (text_models t) 0 n low high in
        let same = coded_one (all_code (text_models t) ++ after) (runs_from 0 (text_models t)) n some.0 e (is_coded n some.0 some.1) c in
        subst (ModelOf t n) same some.1

    -- What is said of the tables is said of the text, and the other way round.
    pub ambiguous_is : (n : ℕ) → tables.IsAmbiguous (all_code (text_models t) ++ after) (runs_from 0 (text_models t)) n → text.IsAmbiguous t n
    ambiguous_is n (e, c, a) = (e, coded_is n e c, a)

    pub is_ambiguous : (n : ℕ) → text.IsAmbiguous t n → tables.IsAmbiguous (all_code (text_models t) ++ after) (runs_from 0 (text_models t)) n
    is_ambiguous n (e, m, a) = (e, is_coded n e m, a)

    words_are : (n : ℕ) (w : List Letter) → ModelWords StandsFor (all_code (text_models t) ++ after) (runs_from 0 (text_models t)) n w → TextWords t n w
    words_are n w (e, c, h) = (e, coded_is n e c, h)

    are_words : (n : ℕ) (w : List Letter) → TextWords t n w → ModelWords StandsFor (all_code (text_models t) ++ after) (runs_from 0 (text_models t)) n w
    are_words n w (e, m, h) = (e, is_coded n e m, h)

    pub tree_is : (n : ℕ) → tables.HasTree (all_code (text_models t) ++ after) (runs_from 0 (text_models t)) n → text.HasTree t n
    tree_is n (f, v) = (f, valid_too (ModelWords StandsFor (all_code (text_models t) ++ after) (runs_from 0 (text_models t))) (TextWords t) words_are n f v)

    pub is_tree : (n : ℕ) → text.HasTree t n → tables.HasTree (all_code (text_models t) ++ after) (runs_from 0 (text_models t)) n
    is_tree n (f, v) = (f, valid_too (TextWords t) (ModelWords StandsFor (all_code (text_models t) ++ after) (runs_from 0 (text_models t))) are_words n f v)

    pub has_model : (n : ℕ) → 1 ≤ n → n ≤ length (runs_from 0 (text_models t)) → HasModel (all_code (text_models t) ++ after) (runs_from 0 (text_models t)) n
    has_model n low high =
        let len : length (runs_from 0 (text_models t)) ≡ length (declarations t) = length_runs 0 (text_models t) ∙ length_models (declared_names (declarations t)) (declarations t) in
        let some = numbered_some (text_models t) 0 n (omega arith) (omega (arith, length_runs 0 (text_models t))) in
        (some.0, is_coded n some.0 some.1, subst (λ k. Each (Names k) (atoms_of (code some.0))) (sym len) (good n some.0 some.1))

    -- The languages of the tables are those of the text.
    pub speaks_text : (language : ℕ → Language Letter) → Speaks StandsFor (all_code (text_models t) ++ after) (runs_from 0 (text_models t)) language → SpeaksText t language
    speaks_text language s = record {
      words = λ n e m. s.coded n e (is_coded n e m);
      others = λ n no. s.none n (λ e c. no e (coded_is n e c));
    }

-- The first no is the same where yes and no mean the same.
pub first_no_too : (Y N Y' N' : ℕ → Type 0) (last last' : ℕ) (r : Option ℕ) → last ≡ last' → ((n : ℕ) → Y n → Y' n) → ((n : ℕ) → N n → N' n) → tables.FirstNo Y N last r → tables.FirstNo Y' N' last' r
first_no_too Y N Y' N' last last' None e y k h = λ n low high. y n (h n low (omega arith))
first_no_too Y N Y' N' last last' (Some n) e y k (low, high, here, before) = (low, omega arith, k n here, λ m l less. y m (before m l less))
