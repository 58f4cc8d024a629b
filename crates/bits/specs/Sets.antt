-- Sets of numbers as the binary digits of one number.
use Rattle.std.specs.Prelude.{◌≡◌, ℕ, ◌/◌, ◌%◌, ◌^◌, ◌<◌, Bool, true, false, ◌==◌, ◌≢◌, nat_lt, Option, Some, None}

-- Whether the number p lies in the set s: digit p of s, counted from the lowest as 0, is one.
abbrev pub has : ℕ → ℕ → Bool
has s p = s / 2 ^ p % 2 == 1

-- The number n is in the set.
abbrev pub Has : ℕ → ℕ → Type 0
Has set n = (set / 2 ^ n) % 2 ≡ 1

-- The set of one number, and the empty set where the number has no digit in a word.
abbrev pub singleton : ℕ → ℕ
singleton n = elim (nat_lt n 64) [ true ↦ 2 ^ n | false ↦ 0 ]

-- The set if the test holds, else the empty set.
abbrev pub guarded : Bool → ℕ → ℕ
guarded test set = elim test [ true ↦ set | false ↦ 0 ]

-- The lowest number was taken out of the set, and the others are left; there is none where the set is empty.
abbrev pub TakesLowest : ℕ → Option ℕ → ℕ → Type 0
TakesLowest set None left = (set ≡ 0) × (left ≡ 0)
TakesLowest set (Some p) left =
    (p < 64) × (has set p ≡ true) × ((q : ℕ) → q < p → has set q ≡ false)
    × (has left p ≡ false) × ((q : ℕ) → (q ≢ p) → has left q ≡ has set q)
