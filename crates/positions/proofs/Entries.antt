-- The entries of the tables, one by one.
use Rattle.std.proofs.Common.{◌≡◌, ℕ, zero, suc, ◌+◌, ◌*◌, ◌/◌, ◌%◌, ◌<◌, ◌≤◌, ◌≢◌, ◌⊎◌, List, [], ◌∷◌, length, get_or, set, filter_map, slice_get, Option, Some, None, MatchOption, sym, refl, ap, ◌∙◌, subst, inl, inr, arith, below_more, get_or-set_other, get_or-set_same}
use native.Mathlib.Decide.{dec_le}
use lib.Bits.{bit_or}
use lib.ListN.{get_or-eq_default}
use Rattle.derivative.specs.Derivation.{derivation, after_state, ends_in}
use Rattle.derivative.specs.declared.derive.Derived.{Derived}
use Rattle.models.specs.Expressions.{Exp}
use Rattle.models.specs.Folds.{Folded, value}
use Rattle.models.specs.Readers.{atom_in, atoms_of, Numbered}
use Rattle.bits.specs.Sets.{guarded, singleton}
use Rattle.models.specs.Tables.{Coded, NodesOf}
use Rattle.models.specs.declared.node.Model.{Model}
use Rattle.models.specs.declared.node.Node.{Node}
use Rattle.models.specs.declared.node.Node.TheVariants as node
use Rattle.models.proofs.ModelTables.{coded_one}
use Rattle.models.proofs.Numbering.{atoms_found, numbered_in, numbered_one}
use Rattle.positions.specs.Following.{everything, row, AtomAt, RowAt, Rows, Atoms, Followed, Blank, Placed, Spare}

-- One place more is written.
pub written_more : {A : Type 0} (P : ℕ → A → Type 0) (d : A) (xs : List A) (i : ℕ) (x : A) → i < length xs → ((k : ℕ) → k < i → P k (get_or xs k d)) → P i x → (k : ℕ) → k < i + 1 → P k (get_or (set xs i x) k d)
written_more P d xs i x lt before here =
    below_more _ _
    (λ k h. let ne : k ≢ i = omega arith in subst (P k) (sym (get_or-set_other xs i k x d ne)) (before k h))
    (subst (P i) (sym (get_or-set_same xs i x d lt)) here)

-- A row from what was computed for it.
module _ {A : Type 0} (nodes : List (Node A)) (models : List Model) (i : ℕ) (slice : List (Node A)) (of : NodesOf nodes models (i / 64 + 1) slice) where
  pub row_found : (from : ℕ) → from ≡ singleton (i % 64) → (o : Option Derived) → Folded (derivation from everything) 64 slice o → (entry : ℕ) → MatchOption o (entry ≡ 0) (λ d. entry ≡ bit_or (after_state from d) (guarded (ends_in from d) 1)) → RowAt nodes models i entry
  row_found from is None never entry made = record {
    coded = λ e h. absurd (never e ((of e).1 h));
    none = λ h. made;
  }
  row_found from is (Some d) (e, codes, known) entry made =
      let made_of : ℕ → Derived → ℕ = λ s v. bit_or (after_state s v) (guarded (ends_in s v) 1) in
      let coded = (of e).0 codes in
      let entry_is : entry ≡ row e (i % 64) = made ∙ ap (made_of from) known ∙ ap (λ s. made_of s (value (derivation s everything) 0 e)) is in
      record {
        coded = λ f h. entry_is ∙ ap (λ g. row g (i % 64)) (coded_one nodes models (i / 64 + 1) e f coded h);
        none = λ h. absurd (h e coded);
      }

-- An atom at a place has the next number; past the end there is none.
get_numbered : {A : Type 0} (xs : List A) (b k : ℕ) (a : A) → slice_get xs k ≡ Some a → Numbered xs b (b + k + 1) a
get_numbered [] b k a h = cc
get_numbered (c ∷ xs) b zero a h = let e : c ≡ a = cc in inl (omega arith, e)
get_numbered (c ∷ xs) b (suc k) a h = inr (subst (λ m. Numbered xs (b + 1) m a) (omega arith) (get_numbered xs (b + 1) k a h))

get_past : {A : Type 0} (xs : List A) (k : ℕ) → slice_get xs k ≡ None → length xs ≤ k
get_past [] k h = omega arith
get_past (a ∷ xs) zero h = cc
get_past (a ∷ xs) (suc k) h = let le = get_past xs k h in omega arith

module _ {A : Type 0} (nodes : List (Node A)) where
  pub atom_found : (n : ℕ) (x : Node A) (a : A) → x ≡ node.Atom a → Numbered (atoms_of nodes) 0 n a → AtomAt nodes n x
  atom_found n x a is here = record {
    found = λ c h. is ∙ ap node.Atom (numbered_one (atoms_of nodes) 0 n a c here h);
    none = λ h. absurd (h a here);
  }

  pub atom_missing : (n : ℕ) → (length (atoms_of nodes) < n) ⊎ (n ≡ 0) → AtomAt nodes n node.Unused
  atom_missing n far = record {
    found = λ c h. let k = numbered_in (atoms_of nodes) 0 n c h in absurd (omega arith);
    none = λ h. refl;
  }

  pub atom_at : (k : ℕ) (r : Option A) → r ≡ slice_get (filter_map atom_in nodes) k → (x : Node A) → MatchOption r (x ≡ node.Unused) (λ a. x ≡ node.Atom a) → AtomAt nodes (k + 1) x
  atom_at k None is x made =
      let le = get_past (atoms_of nodes) k (ap (λ xs. slice_get xs k) (sym (atoms_found nodes)) ∙ sym is) in
      subst (AtomAt nodes (k + 1)) (sym made) (atom_missing (k + 1) (inl (omega arith)))
  atom_at k (Some a) is x made =
      let n = get_numbered (atoms_of nodes) 0 k a (ap (λ xs. slice_get xs k) (sym (atoms_found nodes)) ∙ sym is) in
      atom_found (k + 1) x a made (subst (λ m. Numbered (atoms_of nodes) 0 m a) (omega arith) n)

-- From places that were written one by one to what a follow table keeps.
module _ {A : Type 0} (nodes : List (Node A)) (models : List Model) where
  inside : (i : ℕ) (e : Exp A) → Coded nodes models (i / 64 + 1) e → i < 64 * length models
  inside i e c = let l = c.listed in omega arith

  pub rows_followed : (rows : List ℕ) → Rows nodes models rows → 64 * length models ≤ length rows → Followed nodes models rows
  rows_followed rows all room i e c = let k = inside i e c in (all i (omega arith)).coded e c

  pub rows_blank : (rows : List ℕ) → Rows nodes models rows → Blank nodes models rows
  rows_blank rows all i never =
      elim (dec_le (suc i) (length rows)) [ yes lt ↦ (all i lt).none never | no ge ↦ get_or-eq_default rows 0 (omega arith) ]

  pub atoms_placed : (places : List (Node A)) → Atoms nodes models places → 64 * length models ≤ length places → Placed nodes models places
  atoms_placed places all room i a (e, c, k) = let m = inside i e c in (all i (omega arith) e c).found a k

  pub atoms_spare : (places : List (Node A)) → Atoms nodes models places → 64 * length models ≤ length places → Spare nodes models places
  atoms_spare places all room i e (c, never) = let m = inside i e c in (all i (omega arith) e c).none never
