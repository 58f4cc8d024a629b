-- Numbers in base ten, told by the number alone.
use Rattle.std.specs.Prelude.{◌≡◌, ℕ, ◌+◌, ◌-◌, ◌*◌, ◌<◌, ◌≤◌, List, [], ◌∷◌, length, slice_index_or}

-- Digits are read from the left: a digit adds itself to ten times the number before it. The digit `0` is byte 48.
abbrev pub value_after : ℕ → List ℕ → ℕ
value_after before [] = before
value_after before (d ∷ ds) = value_after (10 * before + (d - 48)) ds

-- Each byte is a digit from `0` to `9`.
abbrev pub Digits : List ℕ → Type 0
Digits [] = Unit {0}
Digits (d ∷ ds) = (48 ≤ d) × (d ≤ 57) × Digits ds

-- The text of a number in base ten: digits, at least one, of which the first is `0` only where it is all of the
-- text, and which read from the left are the number.
pub record Decimal (n : ℕ) (ds : List ℕ) : Type 0 where
  pub digits : Digits ds
  pub some : 0 < length ds
  pub lead : slice_index_or ds 0 0 ≡ 48 → ds ≡ 48 ∷ []
  pub value : value_after 0 ds ≡ n

-- Every number has exactly one text in base ten.
abbrev pub OneDecimal : Type 0
OneDecimal = (n : ℕ) → (ds : List ℕ) × Decimal n ds × ((others : List ℕ) → Decimal n others → others ≡ ds)
