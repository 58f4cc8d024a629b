-- Rows, columns and walks at their beginning, the nodes of a table met one by one, and a table that holds
-- the nodes and records it was filled from.
use Rattle.std.proofs.Common.{◌≡◌, ℕ, zero, suc, ◌+◌, ◌<◌, ◌≤◌, Bool, List, [], ◌∷◌, ◌++◌, length, get_or, take, drop, sym, refl, ap, ◌∙◌, subst, inl, inr, arith, length-append, take-append-drop}
use lib.Bits.{bit_or}
use Rattle.std.proofs.lemmas.List.{take_more, drop_more}
use Rattle.bits.specs.Sets.{Has, guarded, singleton}
use Rattle.bits.proofs.Bits.{has_none}
use Rattle.engine.specs.Languages.{Same}
use Rattle.models.specs.Expressions.{Exp, atoms}
use Rattle.models.specs.Folds.{value}
use Rattle.models.specs.Readers.{atoms_of, Numbered}
use Rattle.models.specs.Tables.{ModelWords, ModelRest, Speaks}
use Rattle.models.specs.declared.node.Model.{Model}
use Rattle.models.specs.declared.node.Node.{Node}
use Rattle.models.specs.declared.node.Node.TheVariants as node
use Rattle.models.proofs.Clearing.{no_atom}
use Rattle.models.proofs.Numbering.{atoms_of_append, numbered_append}
use Rattle.derivative.specs.Derivation.{derivation, after_state, ends_in}
use Rattle.derivative.specs.declared.derive.Derived.{Derived}
use Rattle.derivative.proofs.Stepping.{speaks}
use Rattle.positions.specs.Columns.{Sorted, Columns, Complete}
use Rattle.positions.specs.Following.{everything, row}
use Rattle.positions.proofs.Gathering.{Gathered}
use Rattle.positions.proofs.Reading.{after_in, row_next}

-- A row from what was computed for it.
pub row_made : {A : Type 0} (e : Exp A) (p from : ℕ) (d : Derived) (reached : ℕ) (t : Bool) (w : ℕ) → from ≡ singleton p → d ≡ value (derivation from everything) 0 e → reached ≡ after_state from d → t ≡ ends_in from d → w ≡ guarded t 1 → bit_or reached w ≡ row e p
row_made e p from d reached t w is known got ended bit =
    let made : ℕ → Derived → ℕ = λ s v. bit_or (after_state s v) (guarded (ends_in s v) 1) in
    ap (λ r. bit_or r w) got
    ∙ ap (λ b. bit_or (after_state from d) b) (bit ∙ ap (λ u. guarded u 1) ended)
    ∙ ap (made from) known
    ∙ ap (λ s. made s (value (derivation s everything) 0 e)) is

module _ {A : Type 0} (nodes : List (Node A)) where
  met_more : (i : ℕ) (x : Node A) → i < length nodes → x ≡ get_or nodes i x → atoms_of (take (i + 1) nodes) ≡ atoms_of (take i nodes) ++ atoms_of (x ∷ [])
  met_more i x lt is =
      ap atoms_of (take_more nodes i x lt ∙ ap (λ y. take i nodes ++ (y ∷ [])) (sym is)) ∙ atoms_of_append (take i nodes) (x ∷ [])

  -- Another node changes no count, an atom raises it by one.
  pub met_same : (i : ℕ) (x : Node A) → i < length nodes → x ≡ get_or nodes i x → ((a : A) → x ≡ node.Atom a → ⊥) → length (atoms_of (take (i + 1) nodes)) ≡ length (atoms_of (take i nodes))
  met_same i x lt is other =
      let e = ap length (met_more i x lt is) ∙ length-append (atoms_of (take i nodes)) (atoms_of (x ∷ [])) in
      let z : length (atoms_of (x ∷ [])) ≡ 0 = ap (λ cs. length (cs ++ [])) (no_atom x other) in
      omega arith

  pub met_atom : (i : ℕ) (x : Node A) (a : A) → i < length nodes → x ≡ get_or nodes i x → x ≡ node.Atom a → length (atoms_of (take (i + 1) nodes)) ≡ length (atoms_of (take i nodes)) + 1
  met_atom i x a lt is at =
      let e = ap length (met_more i x lt is) ∙ length-append (atoms_of (take i nodes)) (atoms_of (x ∷ [])) in
      let o : length (atoms_of (x ∷ [])) ≡ 1 = ap (λ y. length (atoms_of (y ∷ []))) at in
      omega arith

  -- The atom met is the one with the next number.
  pub met_number : (i : ℕ) (x : Node A) (a : A) → i < length nodes → x ≡ get_or nodes i x → x ≡ node.Atom a → Numbered (atoms_of nodes) 0 (length (atoms_of (take i nodes)) + 1) a
  met_number i x a lt is at =
      let whole : atoms_of nodes ≡ atoms_of (take i nodes) ++ (a ∷ atoms_of (drop (i + 1) nodes)) =
      ap atoms_of (sym (take-append-drop i nodes))
      ∙ ap (λ ns. atoms_of (take i nodes ++ ns)) (drop_more nodes i x lt ∙ ap (λ y. y ∷ drop (i + 1) nodes) (sym is ∙ at))
      ∙ atoms_of_append (take i nodes) (node.Atom a ∷ drop (i + 1) nodes) in
      subst (λ cs. Numbered cs 0 (length (atoms_of (take i nodes)) + 1) a) (sym whole)
      ((numbered_append (atoms_of (take i nodes)) (a ∷ atoms_of (drop (i + 1) nodes)) 0 _ a).1 (inr (inl (omega arith, refl))))

-- The numbers in a row are those of atoms, or 0.
module _ {A : Type 0} (e : Exp A) (few : atoms e ≤ 63) where
  pub row_in : (p n : ℕ) → Has (row e p) n → n ≤ 63
  row_in p zero h = omega arith
  row_in p (suc n) h = let k = after_in e few p (suc n) (row_next e few p (suc n) (omega arith) h) in omega arith

-- A walk that took nothing out yet.
module _ (gives : ℕ → ℕ → Type 0) (set : ℕ) where
  pub gathered_none : Gathered gives set set 0
  gathered_none = ((λ n h. h), λ n. (λ h. absurd (has_none n h), λ h. absurd (h.1.1 h.1.0)))

module _ {A X : Type 0} (stands : A → X → Type 0) (falls : X → ℕ) (atoms : List (Node A)) where
  -- A column of no atoms yet.
  pub sorted_none : (base bucket : ℕ) → Sorted stands falls atoms base bucket 0 0
  sorted_none base bucket q = (λ h. absurd (has_none q h), λ h. let lt = h.0 in absurd (omega arith))

  -- Exact columns miss no atom.
  pub columns_complete : (columns : List ℕ) → Columns stands falls atoms columns → Complete stands falls atoms columns
  columns_complete columns all i q (inside, small, sorts) = (all i inside q).1 (small, sorts)

-- A table that holds the nodes and records it was filled from has their languages.
module _ {A X : Type 0} (stands : A → X → Type 0) {nodes held : List (Node A)} {models kept : List Model} (same_nodes : held ≡ nodes) (same_models : kept ≡ models) where
  pub speaks_held : Speaks stands nodes models (ModelWords stands held kept)
  speaks_held =
      subst (λ ns. Speaks stands ns models (ModelWords stands held kept)) same_nodes (subst (λ ms. Speaks stands held ms (ModelWords stands held kept)) same_models (speaks stands held kept))

  pub rests_held : (number state : ℕ) → Same (ModelRest stands held kept number state) (ModelRest stands nodes models number state)
  rests_held number state =
      subst (λ ns. Same (ModelRest stands held kept number state) (ModelRest stands ns models number state)) same_nodes
      (subst (λ ms. Same (ModelRest stands held kept number state) (ModelRest stands held ms number state)) same_models (λ w. (λ h. h, λ h. h)))
