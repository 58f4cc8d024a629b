-- Digits read from the left: which texts have one value, and which have more than another.
use Rattle.std.proofs.Common.{◌≡◌, ℕ, zero, suc, ◌+◌, ◌-◌, ◌*◌, ◌<◌, ◌≤◌, List, [], ◌∷◌, length, replicate, sym, refl, ap, ◌∙◌, arith}
use native.Mathlib.Decide.{dec_lt}
use lib.ListN.{length-replicate}
use Rattle.line.specs.Decimals.{value_after, Digits, Decimal}

value_grows : (v : ℕ) (ds : List ℕ) → v ≤ value_after v ds
value_grows v [] = omega arith
value_grows v (d ∷ ds) = omega (arith, value_grows (10 * v + (d - 48)) ds)

-- What comes before weighs more than all digits after it.
earlier_weighs : (u v : ℕ) (a b : List ℕ) → Digits a → length a ≤ length b → u < v → value_after u a < value_after v b
earlier_weighs u v [] b digits short less = omega (arith, value_grows v b)
earlier_weighs u v (x ∷ a) [] digits short less = absurd (omega arith)
earlier_weighs u v (x ∷ a) (y ∷ b) digits short less =
    earlier_weighs (10 * u + (x - 48)) (10 * v + (y - 48)) a b digits.2 (omega arith) (omega (arith, digits.0, digits.1))

same_length : (u v : ℕ) (a b : List ℕ) → Digits a → Digits b → length a ≡ length b → value_after u a ≡ value_after v b → (u ≡ v) × (a ≡ b)
same_length u v [] [] da db l e = (e, refl)
same_length u v [] (y ∷ b) da db l e = absurd (omega arith)
same_length u v (x ∷ a) [] da db l e = absurd (omega arith)
same_length u v (x ∷ a) (y ∷ b) da db l e =
    let rest = same_length (10 * u + (x - 48)) (10 * v + (y - 48)) a b da.2 db.2 (omega arith) e in
    let first : x ≡ y = omega (arith, rest.0, da.0, da.1, db.0, db.1) in
    (omega (arith, rest.0, da.0, da.1, db.0, db.1), ap (λ z. z ∷ a) first ∙ ap (λ l. y ∷ l) rest.1)

-- A decimal text is worth more than every shorter text of digits.
pub longer_is_more : (n : ℕ) (a b : List ℕ) → Digits a → 0 < length a → Decimal n b → length a < length b → value_after 0 a < n
longer_is_more n a [] digits some whole long = absurd (omega arith)
longer_is_more n a (y ∷ b) digits some whole long =
    let first : 48 < y =
    elim (dec_lt 48 y) [
      | yes more ↦ more
      | no less ↦
          let zero_first : y ≡ 48 = omega (arith, whole.digits.0) in
          let alone = ap length (whole.lead zero_first) in
          absurd (omega (arith, alone))
    ] in
    let less = earlier_weighs 0 (10 * 0 + (y - 48)) a b digits (omega arith) (omega arith) in
    omega (arith, less, whole.value)

-- A number has at most one decimal text.
pub at_most_one : (n : ℕ) (a b : List ℕ) → Decimal n a → Decimal n b → a ≡ b
at_most_one n a b first second =
    elim (dec_lt (length a) (length b)) [
      | yes less ↦ absurd (omega (arith, longer_is_more n a b first.digits first.some second less, first.value))
      | no atleast ↦
          elim (dec_lt (length b) (length a)) [
            | yes more ↦ absurd (omega (arith, longer_is_more n b a second.digits second.some first more, second.value))
            | no atmost ↦ (same_length 0 0 a b first.digits second.digits (omega arith) (first.value ∙ sym second.value)).1
          ]
    ]

abbrev pub nines : ℕ → List ℕ
nines k = replicate k 57

nines_are_digits : (k : ℕ) → Digits (nines k)
nines_are_digits zero = tt
nines_are_digits (suc k) = (omega arith, omega arith, nines_are_digits k)

-- A number that is no more than so many nines has no more digits.
pub within_nines : (n k : ℕ) (ds : List ℕ) → 0 < k → n ≤ value_after 0 (nines k) → Decimal n ds → length ds ≤ k
within_nines n k ds some small whole =
    let l : length (nines k) ≡ k = length-replicate k _ in
    elim (dec_lt k (length ds)) [
      | yes long ↦ absurd (omega (arith, longer_is_more n (nines k) ds (nines_are_digits k) (omega arith) whole (omega arith)))
      | no short ↦ omega arith
    ]
