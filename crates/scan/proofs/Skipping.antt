-- How many blanks are skipped.
use Rattle.std.proofs.Common.{◌≡◌, ℕ, suc, ◌+◌, Bool, true, false, cond, List, [], ◌∷◌, drop, refl, ap, ◌∙◌, arith}
use Rattle.std.specs.List.{prefix_len}
use Rattle.scan.specs.Bytes.{is_blank, skip}

-- The text behind its blanks, by their number.
pub skip_leading : (t : List ℕ) → skip t ≡ drop (prefix_len is_blank t) t
unfolding skip
skip_leading [] = refl
skip_leading (b ∷ t) = by (is_blank b) (skip_leading t)
  where
    by : (x : Bool) → skip t ≡ drop (prefix_len is_blank t) t → elim x [ true ↦ skip t | false ↦ b ∷ t ] ≡ drop (cond x (1 + prefix_len is_blank t) 0) (b ∷ t)
    by true h = h ∙ ap (λ k. drop k (b ∷ t)) (let k : suc (prefix_len is_blank t) ≡ 1 + prefix_len is_blank t = omega arith in k)
    by false h = refl
