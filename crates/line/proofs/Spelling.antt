-- Every number has a text in base ten: that of its tenth with its last digit behind.
use Rattle.std.proofs.Common.{◌≡◌, ℕ, zero, suc, ◌+◌, ◌-◌, ◌*◌, ◌/◌, ◌%◌, ◌^◌, ◌<◌, ◌≤◌, List, [], ◌∷◌, ◌++◌, get_or, decimal, refl, ap, ◌∙◌, arith, length-append}
use native.Mathlib.Decide.{dec_lt}
use Rattle.std.proofs.lemmas.Fmt.{decimal_by_steps}
use Rattle.line.specs.Decimals.{value_after, Digits, Decimal, OneDecimal}
use Rattle.line.proofs.Reading.{at_most_one}

one_digit : (n : ℕ) → n < 10 → Decimal n ((48 + n) ∷ [])
one_digit n small = record {
  digits = (omega arith, omega arith, tt);
  some = omega arith;
  lead = λ e. ap (λ d. d ∷ []) e;
  value = omega arith;
}

both_digits : (ds : List ℕ) (d : ℕ) → Digits ds → 48 ≤ d → d ≤ 57 → Digits (ds ++ (d ∷ []))
both_digits [] d digits low high = (low, high, tt)
both_digits (x ∷ ds) d digits low high = (digits.0, digits.1, both_digits ds d digits.2 low high)

last_value : (v : ℕ) (ds : List ℕ) (d : ℕ) → value_after v (ds ++ (d ∷ [])) ≡ 10 * value_after v ds + (d - 48)
last_value v [] d = refl
last_value v (x ∷ ds) d = last_value (10 * v + (x - 48)) ds d

-- A text that begins with `0` is that of 0, so its number is no tenth of one with more digits.
lead_more : (n : ℕ) (ds : List ℕ) (d : ℕ) → 10 ≤ n → Decimal (n / 10) ds → get_or (ds ++ (d ∷ [])) 0 0 ≡ 48 → ds ++ (d ∷ []) ≡ 48 ∷ []
lead_more n [] d more whole e = absurd (omega (arith, whole.some))
lead_more n (x ∷ ds) d more whole e =
    let alone : x ∷ ds ≡ 48 ∷ [] = whole.lead e in
    let none : value_after 0 (x ∷ ds) ≡ 0 = ap (value_after 0) alone in
    absurd (omega (arith, whole.value, none))

one_more : (n : ℕ) (ds : List ℕ) → 10 ≤ n → Decimal (n / 10) ds → Decimal n (ds ++ ((48 + n % 10) ∷ []))
one_more n ds more whole = record {
  digits = both_digits ds (48 + n % 10) whole.digits (omega arith) (omega arith);
  some = simp length-append (omega arith);
  lead = lead_more n ds (48 + n % 10) more whole;
  value = last_value 0 ds (48 + n % 10) ∙ omega (arith, whole.value);
}

spelled_within : (turns n : ℕ) → n ≤ turns → (ds : List ℕ) × Decimal n ds
spelled_within zero n few = ((48 + n) ∷ [], one_digit n (omega arith))
spelled_within (suc turns) n few =
    elim (dec_lt n 10) [
      | yes small ↦ ((48 + n) ∷ [], one_digit n small)
      | no large ↦ let front = spelled_within turns (n / 10) (omega arith) in (front.0 ++ ((48 + n % 10) ∷ []), one_more n front.0 (omega arith) front.1)
    ]

pub spelled : (n : ℕ) → (ds : List ℕ) × Decimal n ds
spelled n = spelled_within n n (omega arith)

pub one_decimal : OneDecimal
one_decimal n = ((spelled n).0, (spelled n).1, λ others whole. at_most_one n others (spelled n).0 whole (spelled n).1)

-- The library's text of a number is that text.
pub library_text : (n : ℕ) → n < 2 ^ 64 → Decimal n (decimal n)
library_text = decimal_by_steps Decimal one_digit one_more
