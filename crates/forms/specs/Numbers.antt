-- Numbers of bytes, and ranges between two of them.
use Rattle.std.specs.Prelude.{◌≡◌, ℕ, ◌+◌, ◌-◌, ◌*◌, ◌<◌, ◌≤◌, Bool, true, false, not, ◌&&◌, List, [], ◌∷◌, ◌++◌, length, take, drop, fold, ◌==◌, nat_le, nat_lt}
use Rattle.std.proofs.Common.{ltb-true}
use Rattle.std.specs.List.{prefix_len}
use Rattle.scan.specs.Bytes.{within, first_is}
use Rattle.scan.specs.Readings.{Front, bad, got}

-- A digit.
abbrev pub is_digit : ℕ → Bool
is_digit b = within 48 57 b

-- The number that digits write in base ten.
abbrev pub value_of : List ℕ → ℕ
value_of ds = fold (λ v d. 10 * v + (d - 48)) 0 ds

abbrev pub all_digits : List ℕ → Bool
all_digits [] = true
all_digits (d ∷ ds) = is_digit d && all_digits ds

-- No zero stands before another digit.
abbrev pub no_leading_zero : List ℕ → Bool
no_leading_zero [] = true
no_leading_zero (d ∷ []) = true
no_leading_zero (d ∷ (e ∷ ds)) = not (d == 48)

-- A byte in base ten at the front of the text: at least one digit, no leading zero, and as far as digits go.
pub record ReadsByte (text : List ℕ) (n : ℕ) (rest : List ℕ) : Type 0 where
  pub digits : List ℕ
  pub whole : text ≡ digits ++ rest
  pub form : all_digits digits ≡ true
  pub some : 1 ≤ length digits
  pub plain : no_leading_zero digits ≡ true
  pub value : value_of digits ≡ n
  pub small : n < 256
  pub longest : first_is is_digit rest ≡ false

-- Whether a number is a byte.
abbrev pub is_small : ℕ → Bool
is_small n = nat_lt n 256

pub small_enough : (n : ℕ) → is_small n ≡ true → n < 256
small_enough n e = ltb-true n 256 e

-- The same, worked out.
abbrev pub is_byte_of : List ℕ → Bool
is_byte_of ds = nat_le 1 (length ds) && (no_leading_zero ds && is_small (value_of ds))

abbrev pub read_byte : List ℕ → Front ℕ
read_byte t =
    elim (is_byte_of (take (prefix_len is_digit t) t)) [ true ↦ got (value_of (take (prefix_len is_digit t) t)) (drop (prefix_len is_digit t) t) | false ↦ bad ]
