-- What a search through a range of numbers tells: a fact of each of them, or of one.
use Rattle.std.proofs.Common.{ℕ, ◌+◌, ◌-◌, ◌<◌, ◌≤◌, length, ◌∙◌, subst, arith}
use Rattle.std.specs.List.{range_with_len, HoldsAt, AllWithin}
use Rattle.std.proofs.lemmas.List.FromFn.{length-range_with_len, get_or-range_with_len}

module _ (P : ℕ → Type 0) (a n : ℕ) where
  pub each_in_range : AllWithin P (range_with_len a n) 0 (length (range_with_len a n)) → (k : ℕ) → a ≤ k → k < a + n → P k
  each_in_range h k low high =
      subst P (get_or-range_with_len a n (k - a) 0 (omega arith) ∙ omega arith) (h (k - a) 0 (omega arith) (omega (arith, length-range_with_len a n)))

  pub one_in_range : (k : ℕ) × (k < length (range_with_len a n)) × HoldsAt P (range_with_len a n) k → (k : ℕ) × (a ≤ k) × (k < a + n) × P k
  one_in_range (k, below, holds) =
      let in' : k < n = omega (arith, length-range_with_len a n) in
      (a + k, omega arith, omega arith, subst P (get_or-range_with_len a n k 0 in') (holds 0))
