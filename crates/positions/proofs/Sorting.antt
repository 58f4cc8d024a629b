-- Columns: how one is gathered, and that a walk over a letter's column finds every atom that reads the letter.
use Rattle.std.proofs.Common.{◌≡◌, ℕ, suc, ◌+◌, ◌*◌, ◌/◌, ◌%◌, ◌^◌, ◌<◌, ◌≤◌, Bool, true, false, List, length, get_or, sym, refl, ap, ◌∙◌, subst, inl, inr, arith}
use native.Mathlib.Decide.{dec_le}
use lib.Bits.{bit_and, bit_or}
use Rattle.engine.specs.Languages.{Decides}
use Rattle.bits.specs.Sets.{Has, guarded, singleton}
use Rattle.models.specs.declared.node.Node.{Node}
use Rattle.models.specs.declared.node.Node.TheVariants as node
use Rattle.bits.proofs.Bits.{has_or, has_or_l, has_or_r, has_and, and_has, has_guarded, guarded_has, has_single, single_has, has_small}
use Rattle.positions.specs.Columns.{Sorts, Sorted, Complete}
use Rattle.positions.specs.Walks.{Kept}

decided : {P : Type 0} (t : Bool) → Decides t P → t ≡ true → P
decided true d e = d
decided false d e = let z : ◌≡◌ {A = ℕ} 0 1 = cc in absurd (omega arith)

told : {P : Type 0} (t : Bool) → Decides t P → P → t ≡ true
told true d p = refl
told false d p = absurd (d p)

module _ {A X : Type 0} (stands : A → X → Type 0) (falls : X → ℕ) (atoms : List (Node A)) where
  -- A column with one atom more.
  pub sorted_more : (base bucket n found : ℕ) (t : Bool) → n < 64 → Decides t (Sorts stands falls (get_or atoms (base + n) node.Unused) bucket) → Sorted stands falls atoms base bucket n found → Sorted stands falls atoms base bucket (n + 1) (bit_or found (guarded t (singleton n)))
  sorted_more base bucket n found t lt d so_far q = (
    λ h. elim (has_or found (guarded t (singleton n)) q h) [
      | inl k ↦ let m = (so_far q).0 k in (omega (arith, m.0), m.1)
      | inr k ↦
          let g = has_guarded t (singleton n) q k in
          let e = has_single n q lt g.1 in
          (omega arith, subst (λ m. Sorts stands falls (get_or atoms (base + m) node.Unused) bucket) (sym e) (decided t d g.0))
    ],
    λ h. elim (dec_le (suc q) n) [
      | yes before ↦ has_or_l found (guarded t (singleton n)) q ((so_far q).1 (before, h.1))
      | no after ↦
          let e : q ≡ n = omega (arith, h.0) in
          has_or_r found (guarded t (singleton n)) q
          (guarded_has t (singleton n) q (told t d (subst (λ m. Sorts stands falls (get_or atoms (base + m) node.Unused) bucket) e h.1), subst (Has (singleton n)) (sym e) (single_has n lt)))
    ],
  )

  module _ (columns : List ℕ) (complete : Complete stands falls atoms columns) (few : (x : X) → falls x < 64) where
    -- What a walk over the column of the letter's bucket keeps is what a walk over all would keep.
    pub kept_all : (number base : ℕ) → base ≡ 64 * number → base + 64 ≤ length columns → (x : X) (u k : ℕ) → u < 2 ^ 64 → Kept stands atoms base x (bit_and u (get_or columns (base + falls x) 0)) k → Kept stands atoms base x u k
    kept_all number base starts room x u k fits kept n = (
      λ h. let m = (kept n).0 h in ((has_and u (get_or columns (base + falls x) 0) n m.0).0, m.1),
      λ h.
          let (a, is, reads) = h.1 in
          let lt = few x in
          let at : (base + falls x) / 64 * 64 + n ≡ base + n = omega arith in
          let of : falls x ≡ (base + falls x) % 64 = omega arith in
          let here = complete (base + falls x) n (omega arith, has_small u n fits h.0, (a, ap (λ i. get_or atoms i node.Unused) at ∙ is, (x, reads, of))) in
          (kept n).1 (and_has u (get_or columns (base + falls x) 0) n h.0 here, h.1),
    )
