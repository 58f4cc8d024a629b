-- What is in the tables after every question about a text got a yes.
use Rattle.std.proofs.Common.{◌≡◌, ℕ, ◌+◌, ◌-◌, ◌≤◌, min, true, List, [], ◌∷◌, ◌++◌, length, take, replicate, Ok, Err, sym, refl, ap, ◌∙◌, subst, arith, leb-true}
use lib.ListN.{length-replicate}
use Rattle.engine.specs.declared.alphabet.ContentAtom.{ContentAtom}
use Rattle.models.specs.Folds.{code}
use Rattle.models.specs.declared.node.Model.{Model}
use Rattle.models.specs.declared.node.Node.{Node}
use Rattle.models.specs.declared.node.Node.TheVariants.{Unused}
use Rattle.scan.specs.Lists.{puts, zero_entry}
use Rattle.scan.specs.Names.{Name}
use Rattle.scan.specs.declared.entry.Entry.{Entry}
use Rattle.declarations.specs.Contents.{Placed}
use Rattle.drafts.specs.Asks.{Listed, fit_in}
use Rattle.drafts.specs.Drafted.{declarations, text_models, is_accepted}
use Rattle.drafts.specs.Layouts.{all_code, runs_from}
use Rattle.drafts.specs.Questions.{Room, refused, accepted, judge, declared_names, model_of, nodes_of, nodes_fit}
use Rattle.drafts.specs.Reading.{AskedText, ReadInto, Tells, room_of}
use Rattle.drafts.specs.Refusals.{number}
use Rattle.drafts.specs.declared.refusal.Refusal.{Refusal}
use Rattle.drafts.specs.Tables.{entries_of, filled, zero_model}
use Rattle.drafts.specs.Writes.{WritesModels}
use Rattle.drafts.proofs.Accepting.{Accepted, YesFrom, accepted_yes, none_yes, few_records}
use Rattle.drafts.proofs.Coding.{length_runs}
use Rattle.drafts.proofs.Counting.{length_models, length_entries}
use Rattle.writing.proofs.Writing.{length_puts}
use Rattle.drafts.proofs.Filling.{puts_behind, puts_front}
use Rattle.drafts.proofs.Laying.{nodes_append, nodes_counted}

-- With a yes for each declaration, all nodes together fit.
all_fit : (limit : ℕ) (names : List Name) (before found : List Placed) → nodes_of names before ≤ limit → YesFrom (fit_in limit names) before found → nodes_of names before + nodes_of names found ≤ limit
all_fit limit names before [] h y = omega arith
all_fit limit names before (p ∷ found) h y =
    let here = leb-true (nodes_of names before + length (code (model_of names p))) limit y.0 in
    let more = nodes_append names before p in
    let rest = all_fit limit names (before ++ (p ∷ [])) found (omega arith) y.1 in
    omega arith

-- A list that fits, written over a table of zeros, fills it.
fills : {A : Type 0} (z : A) (n : ℕ) (t xs after : List A) → t ≡ replicate n z → length xs ≤ n → after ≡ puts t 0 xs → after ≡ filled z (length after) xs
fills z n t xs after zeros fits is =
    let whole : after ≡ xs ++ replicate (n - length xs) z = is ∙ ap (λ u. puts u 0 xs) zeros ∙ puts_behind [] z n xs fits in
    let size : length after ≡ n = ap length is ∙ length_puts t 0 xs ∙ ap length zeros ∙ length-replicate n z in
    whole ∙ ap (λ k. xs ++ replicate (k - length xs) z) (sym size)

module _ (text : List ℕ) (room : Room) (yes_to_all : is_accepted (judge room text) ≡ true) where
  all : Accepted room text (declarations text)
  all = accepted_yes room text yes_to_all

  pub few_declared : length (declarations text) ≤ min 63 room.records
  few_declared = let h = few_records room (declared_names (declarations text)) [] (declarations text) (omega arith) (none_yes _ [] (declarations text) all.yes.0) in omega arith

  pub few_nodes : nodes_of (declared_names (declarations text)) (declarations text) ≤ min 2048 room.nodes
  few_nodes = let h = all_fit (min 2048 room.nodes) (declared_names (declarations text)) [] (declarations text) (omega arith) (none_yes (nodes_fit room (declared_names (declarations text))) [] (declarations text) all.yes.1.1.1.1.1.0) in omega arith

module _ (text : List ℕ) (nodes nodesZ nodes' : List (Node ContentAtom)) (models modelsZ models' : List Model) (entries entriesZ entries' : List Entry) (count : ℕ) (nz : nodesZ ≡ replicate (length nodes) Unused) (mz : modelsZ ≡ replicate (length models) zero_model) (ez : entriesZ ≡ replicate (length entries) zero_entry) (asked : AskedText (record { nodes = length nodesZ; records = min (length modelsZ) (length entriesZ) }) text entriesZ entries' (Ok count)) where
  sizes : (length nodesZ ≡ length nodes) × (length modelsZ ≡ length models) × (length entriesZ ≡ length entries)
  sizes = (ap length nz ∙ length-replicate (length nodes) Unused, ap length mz ∙ length-replicate (length models) zero_model, ap length ez ∙ length-replicate (length entries) zero_entry)

  accepted_all : is_accepted (judge (record { nodes = length nodesZ; records = min (length modelsZ) (length entriesZ) }) text) ≡ true
  accepted_all = ap is_accepted asked.0

  few : length (declarations text) ≤ min 63 (min (length modelsZ) (length entriesZ))
  few = few_declared text (record { nodes = length nodesZ; records = min (length modelsZ) (length entriesZ) }) accepted_all

  pub count_fits : count ≤ length entries'
  count_fits = omega (arith, asked.1, few, ap length asked.2, length_puts entriesZ 0 (entries_of text (declarations text)))

  pub read_filled : WritesModels text (take (count - 0) entries') nodesZ nodes' modelsZ models' → ReadInto text nodes models entries nodes' models' entries' (Ok count)
  read_filled writes =
      let l = length_entries text (declarations text) in
      let m = length_models (declared_names (declarations text)) (declarations text) in
      let r = length_runs 0 (text_models text) in
      let k = nodes_counted (declared_names (declarations text)) (declarations text) in
      let nodes-few = few_nodes text (record { nodes = length nodesZ; records = min (length modelsZ) (length entriesZ) }) accepted_all in
      let f = few in
      let s = sizes in
      let front : take (count - 0) entries' ≡ entries_of text (declarations text) = ap (take (count - 0)) asked.2 ∙ puts_front entriesZ (entries_of text (declarations text)) count (omega arith) (asked.1 ∙ sym l) in
      let listed = subst (λ es. Listed text es (declarations text)) (sym front) asked.3 in
      let written = writes (declarations text) listed (omega arith) in (
        subst (λ x. judge x text ≡ accepted (declarations text)) (ap (λ n. record { nodes = n; records = min (length modelsZ) (length entriesZ) }) s.0 ∙ ap (λ n. record { nodes = length nodes; records = min n (length entriesZ) }) s.1 ∙ ap (λ n. record { nodes = length nodes; records = min (length models) n }) s.2) asked.0,
        asked.1,
        record {
          nodes_are = fills Unused (length nodes) nodesZ (all_code (text_models text)) nodes' nz (omega arith) written.nodes_are;
          models_are = fills zero_model (length models) modelsZ (runs_from 0 (text_models text)) models' mz (omega arith) written.models_are;
          entries_are = fills zero_entry (length entries) entriesZ (entries_of text (declarations text)) entries' ez (omega arith) asked.2;
        },
      )

-- The verdict is that on the tables that were lent.
module _ (text : List ℕ) (nodes nodes₂ : List (Node ContentAtom)) (models models₂ : List Model) (entries entries₂ : List Entry) (n : nodes₂ ≡ nodes) (m : models₂ ≡ models) (e : entries₂ ≡ entries) where
  lent : judge (room_of nodes₂ models₂ entries₂) text ≡ judge (room_of nodes models entries) text
  lent = ap (λ x. judge (room_of x models₂ entries₂) text) n ∙ ap (λ x. judge (room_of nodes x entries₂) text) m ∙ ap (λ x. judge (room_of nodes models x) text) e

  pub tells_yes : (found : List Placed) → judge (room_of nodes₂ models₂ entries₂) text ≡ accepted found → Tells (judge (room_of nodes models entries) text) (Ok tt)
  tells_yes found h = subst (λ v. Tells v (Ok tt)) (sym h ∙ lent) tt

  pub tells_no : (r : Refusal) → judge (room_of nodes₂ models₂ entries₂) text ≡ refused (number r.question) r.place → Tells (judge (room_of nodes models entries) text) (Err r)
  tells_no r h = subst (λ v. Tells v (Err r)) (sym h ∙ lent) (refl, refl)
