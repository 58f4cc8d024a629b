-- The declaration at an index of the list, asked and written as it is told.
use Rattle.std.proofs.Common.{◌≡◌, ℕ, zero, suc, ◌+◌, ◌<◌, ◌≤◌, Bool, true, false, eqb, leb, List, [], ◌∷◌, ◌++◌, length, get_or, take, drop, set, Some, None, Option, sym, refl, ap, ◌∙◌, subst, arith, length-take, take_all, le-leb}
use borrow.Author.Tests.{lt-leb}
use Rattle.std.specs.Option.{option_eq}
use Rattle.std.proofs.lemmas.Bool.{ne_eqb}
use Rattle.std.proofs.lemmas.List.{take_more}
use Rattle.engine.specs.declared.alphabet.ContentAtom.{ContentAtom}
use Rattle.models.specs.Folds.{code}
use Rattle.models.specs.declared.node.Model.{Model}
use Rattle.models.specs.declared.node.Node.{Node}
use Rattle.scan.specs.Lists.{number_of, NumberIs, name_at, names_at, puts, zero_entry}
use Rattle.scan.specs.Names.{Name}
use Rattle.scan.specs.Readings.{Front, bad, got}
use Rattle.scan.specs.declared.entry.Entry.{Entry}
use Rattle.declarations.specs.Answers.{DeclaredAt, DeclaredIs, numbered_names, with_model}
use Rattle.declarations.specs.Contents.{Declaration, Placed}
use Rattle.declarations.specs.Readers.{read_declaration}
use Rattle.declarations.specs.declared.declared.Declared.{Declared}
use Rattle.drafts.specs.Asks.{Listed, EnteredAs, Answers, fit_in}
use Rattle.drafts.specs.Drafted.{most}
use Rattle.drafts.specs.Layouts.{all_code, runs_from}
use Rattle.drafts.specs.Questions.{Asked, first_no, declared_names, model_of, nodes_of, few_atoms, new_name, names_declared, names_once}
use Rattle.drafts.specs.Tables.{entry_of, models_in}
use Rattle.drafts.specs.declared.ask.Entered.{Entered}
use Rattle.drafts.proofs.Accepting.{YesFrom, none_yes}
use Rattle.drafts.proofs.Coding.{length_runs}
use Rattle.drafts.proofs.Counting.{length_entries, length_models}
use Rattle.scan.proofs.Writing.{puts_append, puts_one}
use Rattle.drafts.proofs.Laying.{models_append, code_append, runs_append, nodes_counted, nodes_append}
use Rattle.drafts.proofs.Looping.{at_place, read_at, names_around, length_names}
use Rattle.drafts.proofs.Naming.{entry_name, entry_names}
use Rattle.drafts.proofs.NewNames.{new_by_number}

bad_got : (d : Declaration) (rest : List ℕ) → bad ≡ got d rest → ⊥
bad_got d rest e = let k : ◌≡◌ {A = ℕ} 0 1 = cc in omega arith

read_as : Declaration → Front Declaration → Declaration
read_as other bad = other
read_as other (got d rest) = d

-- The names with numbers are those of the declarations.
pub names_are : (text : List ℕ) (entries : List Entry) (found : List Placed) → Listed text entries found → numbered_names text entries ≡ declared_names found
names_are text entries found list =
    let few : length entries ≤ 63 = omega (arith, ap length list.entries_are, length_entries text found, list.few) in
    ap (names_at text) (take_all 63 entries few) ∙ ap (names_at text) list.entries_are ∙ entry_names text found list.read_again

-- The declaration at an index, where its entry is this one.
pub record At (text : List ℕ) (found : List Placed) (k : ℕ) (entry : Entry) : Type 0 where
  pub it : Placed
  pub there : k < length found
  pub is : get_or found k it ≡ it
  pub entry_is : entry ≡ entry_of text it
  pub rest : List ℕ
  pub read : read_declaration (drop entry.place text) ≡ got it.declaration rest

pub listed_at : (text : List ℕ) (entries : List Entry) (found : List Placed) (k : ℕ) → Listed text entries found → k < length entries → At text found k (get_or entries k zero_entry)
listed_at text entries found k list inside =
    let there : k < length found = omega (arith, ap length list.entries_are, length_entries text found) in
    let at = at_place text found k there in
    let is = ap (λ es. get_or es k zero_entry) list.entries_are ∙ at.2 in
    let again = read_at text found k at.0 list.read_again there at.1 in
    record {
      it = at.0;
      there = there;
      is = at.1;
      entry_is = is;
      rest = again.0;
      read = ap (λ (e : Entry). read_declaration (drop e.place text)) is ∙ again.1;
    }

-- A declaration is told at its place.
pub not_none : (text : List ℕ) (found : List Placed) (k : ℕ) (entry : Entry) (names : List Name) → At text found k entry → DeclaredAt text names entry.place None → ⊥
not_none text found k entry names at none = bad_got at.it.declaration at.rest (sym none ∙ at.read)

-- What is told is of this declaration, with the names that are declared.
abbrev pub Told : List ℕ → List Placed → Entry → Declaration → Declared → Type 0
Told text found entry d told = (rest : List ℕ) × DeclaredIs text (declared_names found) entry.place d rest told

pub told_at : (text : List ℕ) (entries : List Entry) (found : List Placed) (k : ℕ) (entry : Entry) (told : Declared) → Listed text entries found → (at : At text found k entry) → DeclaredAt text (numbered_names text entries) entry.place (Some told) → Told text found entry at.it.declaration told
unfolding read_as
told_at text entries found k entry told list at some =
    let same : some.0 ≡ at.it.declaration = ap (read_as some.0) (sym some.2 ∙ at.read) in
    let moved = subst (λ d. DeclaredIs text (numbered_names text entries) entry.place d some.1 told) same some.3 in
    (some.1, subst (λ names. DeclaredIs text names entry.place at.it.declaration some.1 told) (names_are text entries found list) moved)

-- A question that gets a yes everywhere gets one at each index, whatever stands before.
yes_at : (asked : Asked) (before found : List Placed) (k : ℕ) (p : Placed) → YesFrom asked before found → k < length found → get_or found k p ≡ p → (others : List Placed) × (asked others p ≡ true)
yes_at asked before [] k p y h e = absurd (omega arith)
yes_at asked before (q ∷ found) zero p y h e = (before, subst (λ r. asked before r ≡ true) e y.0)
yes_at asked before (q ∷ found) (suc k) p y h e = yes_at asked (before ++ (q ∷ [])) found k p y.1 (omega arith) e

-- The number of its name says whether it is new.
new_at : (text : List ℕ) (entries : List Entry) (found : List Placed) (k : ℕ) (entry : Entry) (number : ℕ) → Listed text entries found → (at : At text found k entry) → number ≡ number_of (names_at text (take 63 entries)) (name_at text entry) → eqb number (k + 1) ≡ new_name most (declared_names found) (take k found) at.it
new_at text entries found k entry number list at is =
    let p = at.it in
    let name : name_at text entry ≡ p.declaration.name =
    ap (name_at text) at.entry_is ∙ entry_name text p at.rest (ap (λ (e : Entry). read_declaration (drop e.place text)) (sym at.entry_is) ∙ at.read) in
    let names = names_are text entries found list ∙ names_around found k p at.there at.is in
    let number_is = is ∙ ap (number_of (numbered_names text entries)) name ∙ ap (λ ns. number_of ns p.declaration.name) names in
    let before : length (declared_names (take k found)) + 1 ≡ k + 1 = omega (arith, length_names (take k found), length-take k found, at.there) in
    ap (λ n. eqb n (k + 1)) number_is
    ∙ ap (eqb (number_of (declared_names (take k found) ++ (p.declaration.name ∷ declared_names (drop (k + 1) found))) p.declaration.name)) (sym before)
    ∙ new_by_number (declared_names (take k found)) p.declaration.name (declared_names (drop (k + 1) found))

-- What a function answers about each declaration, by what is told of it, is the answer to the question.
module _ (text : List ℕ) (found : List Placed) (Answer : Entered → Bool → Type 0) where
  pub few_answered : ((e : Entered) (b : Bool) → Answer e b → b ≡ leb e.told.atoms 63) → Answers text found (few_atoms most (declared_names found)) Answer
  few_answered says = record { says = λ k it there is e so b h. says e b h ∙ ap (λ n. leb n 63) so.told.atom_count }

  pub new_answered : ((e : Entered) (b : Bool) → Answer e b → b ≡ e.is_new) → Answers text found (new_name most (declared_names found)) Answer
  new_answered says = record { says = λ k it there is e so b h. says e b h ∙ so.new }

  pub known_answered : ((e : Entered) (b : Bool) → Answer e b → b ≡ e.told.known) → Answers text found (names_declared most (declared_names found)) Answer
  known_answered says = record { says = λ k it there is e so b h. says e b h ∙ so.told.all_known }

  -- That names differ is told where all are declared.
  pub once_answered : first_no (names_declared most (declared_names found)) [] found ≡ None → ((e : Entered) (b : Bool) → Answer e b → b ≡ e.told.distinct) → Answers text found (names_once most (declared_names found)) Answer
  once_answered ready says = record {
    says = λ k it there is e so b h.
        let yes-there = yes_at (names_declared most (declared_names found)) [] found k it (none_yes (names_declared most (declared_names found)) [] found ready) there is in
        says e b h ∙ so.told.differ (so.told.all_known ∙ yes-there.1);
  }

-- What is told of the declaration of an entry, by its name's number.
pub entered_at : (text : List ℕ) (entries : List Entry) (found : List Placed) (k : ℕ) (entry : Entry) (number : Option ℕ) (told : Declared) (new : Bool) → Listed text entries found → (at : At text found k entry) → NumberIs (number_of (names_at text (take 63 entries)) (name_at text entry)) number → Told text found entry at.it.declaration told → new ≡ option_eq eqb number (Some (k + 1)) → EnteredAs text found k at.it (record { told = told; is_new = new })
entered_at text entries found k entry number told new list at is says same =
    record {
      rest = says.0;
      told = subst (λ p. DeclaredIs text (declared_names found) p at.it.declaration says.0 told) (ap (λ (e : Entry). e.place) at.entry_is) says.1;
      new = same ∙ by number is ∙ new_at text entries found k entry (number_of (names_at text (take 63 entries)) (name_at text entry)) list at refl;
    }
  where
    by : (number : Option ℕ) → NumberIs (number_of (names_at text (take 63 entries)) (name_at text entry)) number → option_eq eqb number (Some (k + 1)) ≡ eqb (number_of (names_at text (take 63 entries)) (name_at text entry)) (k + 1)
    by None none = sym (ne_eqb (number_of (names_at text (take 63 entries)) (name_at text entry)) (k + 1) (λ e. absurd (omega arith)))
    by (Some n) (e, some) = ap (λ m. eqb m (k + 1)) (sym e)

-- Places that are left are enough for the nodes exactly when all fit.
pub fits_at : (limit left nodes : ℕ) (names : List Name) (before : List Placed) (p : Placed) → left + nodes_of names before ≡ limit → nodes ≡ length (code (model_of names p)) → nodes ≤ left → fit_in limit names before p ≡ true
fits_at limit left nodes names before p sum is h = le-leb (nodes_of names before + length (code (model_of names p))) limit (omega arith)

pub beyond_at : (limit left nodes : ℕ) (names : List Name) (before : List Placed) (p : Placed) → left + nodes_of names before ≡ limit → nodes ≡ length (code (model_of names p)) → left < nodes → fit_in limit names before p ≡ false
beyond_at limit left nodes names before p sum is h = lt-leb (nodes_of names before + length (code (model_of names p))) limit (omega arith)

front_more : (found : List Placed) (k : ℕ) (p : Placed) → k < length found → get_or found k p ≡ p → take (k + 1) found ≡ take k found ++ (p ∷ [])
front_more found k p there is = take_more found k p there ∙ ap (λ x. take k found ++ (x ∷ [])) is

-- The nodes with one declaration more.
pub nodes_more : (names : List Name) (found : List Placed) (k : ℕ) (p : Placed) → k < length found → get_or found k p ≡ p → nodes_of names (take (k + 1) found) ≡ nodes_of names (take k found) + length (code (model_of names p))
nodes_more names found k p there is = ap (nodes_of names) (front_more found k p there is) ∙ nodes_append names (take k found) p

-- The first declarations have no more nodes than all.
pub nodes_front : (names : List Name) (k : ℕ) (found : List Placed) → nodes_of names (take k found) ≤ nodes_of names found
nodes_front names zero found = omega arith
nodes_front names (suc k) [] = omega arith
nodes_front names (suc k) (p ∷ found) = let h = nodes_front names k found in omega arith

-- The models of these declarations are written over the tables, and take up so many places.
pub record WrittenSoFar (names : List Name) (found : List Placed) (nodes nodes-after : List (Node ContentAtom)) (models models-after : List Model) (used : ℕ) : Type 0 where
  pub nodes_are : nodes-after ≡ puts nodes 0 (all_code (models_in names found))
  pub models_are : models-after ≡ puts models 0 (runs_from 0 (models_in names found))
  pub used_is : used ≡ nodes_of names found

pub written_none : (names : List Name) (nodes : List (Node ContentAtom)) (models : List Model) → WrittenSoFar names [] nodes nodes models models 0
unfolding puts
written_none names nodes models = record { nodes_are = refl; models_are = refl; used_is = refl }

-- One model more is written.
pub written_push : (names : List Name) (found : List Placed) (p : Placed) (nodes nodes-so nodes-after : List (Node ContentAtom)) (models models-so models-after : List Model) (used end : ℕ) → WrittenSoFar names found nodes nodes-so models models-so used → nodes-after ≡ puts nodes-so used (code (model_of names p)) → end ≡ used + length (code (model_of names p)) → models-after ≡ set models-so (length found) (record { start = used; end = end }) → WrittenSoFar names (found ++ (p ∷ [])) nodes nodes-after models models-after end
written_push names found p nodes nodes-so nodes-after models models-so models-after used end so wrote ends put =
    let es = models_in names found in
    let e = model_of names p in
    let used_code : used ≡ 0 + length (all_code es) = omega (arith, so.used_is, nodes_counted names found) in
    let run_at : length found ≡ 0 + length (runs_from 0 es) = omega (arith, length_runs 0 es, length_models names found) in
    let all = models_append names found p in
    record {
      nodes_are = wrote
          ∙ ap (λ t. puts t used (code e)) so.nodes_are
          ∙ ap (λ k. puts (puts nodes 0 (all_code es)) k (code e)) used_code
          ∙ sym (puts_append nodes 0 (all_code es) (code e))
          ∙ ap (puts nodes 0) (sym (code_append es e))
          ∙ ap (λ ms. puts nodes 0 (all_code ms)) (sym all);
      models_are = put
          ∙ ap (λ t. set t (length found) (record { start = used; end = end })) so.models_are
          ∙ ap (λ x. set (puts models 0 (runs_from 0 es)) (length found) (record { start = used; end = x })) ends
          ∙ sym (puts_one (puts models 0 (runs_from 0 es)) (length found) (record { start = used; end = used + length (code e) }))
          ∙ ap (λ k. puts (puts models 0 (runs_from 0 es)) k (record { start = used; end = used + length (code e) } ∷ [])) run_at
          ∙ sym (puts_append models 0 (runs_from 0 es) (record { start = used; end = used + length (code e) } ∷ []))
          ∙ ap (puts models 0) (sym (runs_append 0 es e used used_code))
          ∙ ap (λ ms. puts models 0 (runs_from 0 ms)) (sym all);
      used_is = ends ∙ ap (λ u. u + length (code e)) so.used_is ∙ sym (nodes_append names found p);
    }

-- The nodes that are written for the declaration at its place.
pub model_there : (text : List ℕ) (entries : List Entry) (found : List Placed) (k : ℕ) (entry : Entry) (table : List (Node ContentAtom)) (used : ℕ) → Listed text entries found → (at : At text found k entry) → with_model (numbered_names text entries) (read_declaration (drop entry.place text)) table used ≡ puts table used (code (model_of (declared_names found) at.it))
unfolding with_model
model_there text entries found k entry table used list at =
    ap (λ r. with_model (numbered_names text entries) r table used) at.read
    ∙ ap (λ names. puts table used (code (model_of names at.it))) (names_are text entries found list)

pub written_more : (names : List Name) (found : List Placed) (k : ℕ) (p : Placed) (nodes nodes-so nodes-after : List (Node ContentAtom)) (models models-so models-after : List Model) (used end : ℕ) → k < length found → get_or found k p ≡ p → WrittenSoFar names (take k found) nodes nodes-so models models-so used → nodes-after ≡ puts nodes-so used (code (model_of names p)) → end ≡ used + length (code (model_of names p)) → models-after ≡ set models-so k (record { start = used; end = end }) → WrittenSoFar names (take (k + 1) found) nodes nodes-after models models-after end
written_more names found k p nodes nodes-so nodes-after models models-so models-after used end there is so wrote ends put =
    let at : k ≡ length (take k found) = omega (arith, length-take k found) in
    let done = written_push names (take k found) p nodes nodes-so nodes-after models models-so models-after used end so wrote ends (put ∙ ap (λ i. set models-so i (record { start = used; end = end })) at) in
    subst (λ ps. WrittenSoFar names ps nodes nodes-after models models-after end) (sym (front_more found k p there is)) done
