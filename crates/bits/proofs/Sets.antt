-- The laws of sets held as binary digits: what the operations on words make of their members, when two
-- sets are the same, and where the lowest member stands.
use Rattle.std.proofs.Common.{◌≡◌, ℕ, zero, suc, ◌+◌, ◌-◌, ◌/◌, ◌%◌, ◌^◌, ◌<◌, ◌≤◌, Bool, true, false, ◌&&◌, ◌||◌, eqb, sym, refl, ap, ◌∙◌, subst, inl, inr, suc-le-suc, zero-le, lt_of_lt_of_le, mod-lt, zero-lt-suc, le_antisymm, one-mul, pow-suc, div-add-mod', div-one, mul-div_cancel, add-one, one-add, arith, pow_pos, pow_mono, shr-shr, shr_lt, eq-eqb, ne_eqb, eqb-true}
use mathlib.Core.Bool.{not, or-true, or-false, and-true, and-false}
use native.Mathlib.Nat.{zero-div, div-eq_of_lt, mul-mod_left}
use lib.Arith.{bin_ind, lt-one}
use lib.Bits.{bit_and, bit_or, and_shr, or_shr, and_mod, or_mod, or_shifted}
use lib.Count.{count_trailing_zeros, under}
use lib.Dec.{eqb-suc-suc, eqb-suc-zero, eqb-zero-suc}
use borrow.Author.Tests.{both_ways}
use Rattle.std.proofs.lemmas.Bool.{cases_eq, cases_lt}
use mir.Syntax.{w64}
use Rattle.std.proofs.lemmas.Nat.Bits.{bit_at_not}
use Rattle.bits.specs.Sets.{has, singleton}
use Rattle.bits.proofs.Bits.{singleton_is, singleton_none, singleton_fits}

digit_lt : (n : ℕ) → n % 2 < 2
digit_lt n = mod-lt n (zero-lt-suc 1)

-- A set holds 0 when its lowest digit is one, and q + 1 when its half holds q.
pub has_zero : (s : ℕ) → has s 0 ≡ eqb (s % 2) 1
has_zero s = ap (λ n. eqb (n % 2) 1) (div-one s)

pub has_suc : (s q : ℕ) → has s (suc q) ≡ has (s / 2) q
has_suc s q = ap (λ n. eqb (n % 2) 1) (ap (λ k. s / 2 ^ k) (sym (one-add q)) ∙ sym (shr-shr s 1 q))

-- No number lies in 0.
pub empty : (q : ℕ) → has 0 q ≡ false
empty q = ap (λ n. eqb (n % 2) 1) (zero-div (2 ^ q))

-- Every member of a set of `width` digits is below the width.
pub out_of_width : (width s q : ℕ) → s < 2 ^ width → width ≤ q → has s q ≡ false
out_of_width width s q h le = ap (λ n. eqb (n % 2) 1) (div-eq_of_lt (lt_of_lt_of_le h (pow_mono le)))

pub out_of_word : (s q : ℕ) → s < 2 ^ 64 → 64 ≤ q → has s q ≡ false
out_of_word s q = out_of_width 64 s q

-- A set whose members all lie in another is no greater as a number.
lowest_digit_le : (a b : ℕ) → (has a 0 ≡ true → has b 0 ≡ true) → a % 2 ≤ b % 2
lowest_digit_le a b h =
    elim (cases_eq (a % 2) 1) [
      | inl one ↦ omega (arith, eqb-true (b % 2) 1 (sym (has_zero b) ∙ h (has_zero a ∙ eq-eqb (a % 2) 1 one)))
      | inr other ↦ omega (arith, digit_lt a, other)
    ]

pub subset_le : (a b : ℕ) → ((q : ℕ) → has a q ≡ true → has b q ≡ true) → a ≤ b
subset_le =
    bin_ind (λ n. (b : ℕ) → ((q : ℕ) → has n q ≡ true → has b q ≡ true) → n ≤ b) (λ b h. zero-le)
    (λ n ih b h.
    let halves : n / 2 ≤ b / 2 = ih (b / 2) (λ q m. sym (has_suc b q) ∙ h (suc q) (has_suc n q ∙ m)) in
    omega (arith, lowest_digit_le n b (h 0), div-add-mod' n 2, div-add-mod' b 2))

-- It is less where it lacks a member of the other.
pub subset_lt : (a b p : ℕ) → ((q : ℕ) → has a q ≡ true → has b q ≡ true) → has a p ≡ false → has b p ≡ true → a < b
subset_lt a b p h out within =
    elim (cases_eq a b) [
      | inl same ↦ absurd (both_ways (has b p) (subst (λ n. has n p ≡ false) same out) within)
      | inr other ↦ omega (arith, subset_le a b h, other)
    ]

-- Sets with the same members are the same.
pub same_members : (a b : ℕ) → ((q : ℕ) → has a q ≡ has b q) → a ≡ b
same_members a b h = le_antisymm (subset_le a b (λ q m. sym (h q) ∙ m)) (subset_le b a (λ q m. h q ∙ m))

pub same_set : (a b : ℕ) → a < 2 ^ 64 → b < 2 ^ 64 → ((q : ℕ) → q < 64 → has a q ≡ has b q) → a ≡ b
same_set a b ha hb h =
    same_members a b (λ q.
    elim (cases_lt q 64) [ inl below ↦ h q below | inr above ↦ out_of_word a q ha above ∙ sym (out_of_word b q hb above) ])

-- An operation on digits answers for each number apart.
module _ (op : ℕ → ℕ → ℕ) (on : Bool → Bool → Bool)
    (shr : (a b k : ℕ) → op a b / 2 ^ k ≡ op (a / 2 ^ k) (b / 2 ^ k))
    (low : (a b k : ℕ) → op a b % 2 ^ k ≡ op (a % 2 ^ k) (b % 2 ^ k))
    (digit : (x y : ℕ) → x < 2 → y < 2 → eqb (op x y) 1 ≡ on (eqb x 1) (eqb y 1)) where
  has_op : (a b q : ℕ) → has (op a b) q ≡ on (has a q) (has b q)
  has_op a b q =
      ap (λ n. eqb n 1) (ap (λ n. n % 2) (shr a b q) ∙ low (a / 2 ^ q) (b / 2 ^ q) 1)
      ∙ digit (a / 2 ^ q % 2) (b / 2 ^ q % 2) (digit_lt (a / 2 ^ q)) (digit_lt (b / 2 ^ q))

-- What holds of the digits 0 and 1 holds of every digit.
by_digits : (P : ℕ → ℕ → Type 0) → P 0 0 → P 0 1 → P 1 0 → P 1 1 → (x y : ℕ) → x < 2 → y < 2 → P x y
by_digits P a b c d zero zero hx hy = a
by_digits P a b c d zero (suc zero) hx hy = b
by_digits P a b c d (suc zero) zero hx hy = c
by_digits P a b c d (suc zero) (suc zero) hx hy = d
by_digits P a b c d zero (suc (suc y)) hx hy = absurd (omega arith)
by_digits P a b c d (suc zero) (suc (suc y)) hx hy = absurd (omega arith)
by_digits P a b c d (suc (suc x)) y hx hy = absurd (omega arith)

pub has_or : (a b q : ℕ) → has (bit_or a b) q ≡ (has a q || has b q)
has_or =
    has_op bit_or ◌||◌ or_shr or_mod
    (by_digits (λ x y. eqb (bit_or x y) 1 ≡ (eqb x 1 || eqb y 1)) refl refl refl refl)

pub has_and : (a b q : ℕ) → has (bit_and a b) q ≡ (has a q && has b q)
has_and =
    has_op bit_and ◌&&◌ and_shr and_mod
    (by_digits (λ x y. eqb (bit_and x y) 1 ≡ (eqb x 1 && eqb y 1)) refl refl refl refl)

-- A power of two holds its exponent and nothing else.
pub has_power : (k q : ℕ) → has (2 ^ k) q ≡ eqb q k
has_power zero zero = refl
has_power zero (suc q) = has_suc 1 q ∙ empty q ∙ sym (eqb-suc-zero q)
has_power (suc k) zero =
    has_zero (2 ^ suc k) ∙ ap (λ n. eqb (n % 2) 1) (pow-suc 2 k) ∙ ap (λ n. eqb n 1) (mul-mod_left (2 ^ k) 2) ∙ sym (eqb-zero-suc k)
has_power (suc k) (suc q) =
    has_suc (2 ^ suc k) q ∙ ap (λ n. has (n / 2) q) (pow-suc 2 k) ∙ ap (λ n. has n q) (mul-div_cancel (2 ^ k) (zero-lt-suc 1))
    ∙ has_power k q ∙ sym (eqb-suc-suc q k)

-- Or with a power of two adds its exponent, keeps the rest and makes the number greater where the
-- exponent was no member.
pub has_or_power : (s k q : ℕ) → has (bit_or s (2 ^ k)) q ≡ (has s q || eqb q k)
has_or_power s k q = has_or s (2 ^ k) q ∙ ap (λ t. has s q || t) (has_power k q)

pub or_power_here : (s k : ℕ) → has (bit_or s (2 ^ k)) k ≡ true
or_power_here s k = has_or_power s k k ∙ ap (λ t. has s k || t) (eq-eqb k k refl) ∙ or-true (has s k)

pub or_power_elsewhere : (s k q : ℕ) → (q ≡ k → ⊥) → has (bit_or s (2 ^ k)) q ≡ has s q
or_power_elsewhere s k q ne = has_or_power s k q ∙ ap (λ t. has s q || t) (ne_eqb q k ne) ∙ or-false (has s q)

pub or_power_more : (s k : ℕ) → has s k ≡ false → s < bit_or s (2 ^ k)
or_power_more s k out =
    subset_lt s (bit_or s (2 ^ k)) k (λ q m. has_or_power s k q ∙ ap (λ t. t || eqb q k) m) out (or_power_here s k)

-- The digits of a word with every digit turned.
not_digit : (d : ℕ) → d < 2 → eqb (1 - d) 1 ≡ not (eqb d 1)
not_digit zero h = refl
not_digit (suc zero) h = refl
not_digit (suc (suc d)) h = absurd (omega arith)

has_not : (n q : ℕ) → n < 2 ^ 64 → q < 64 → has (2 ^ 64 - 1 - n) q ≡ not (has n q)
has_not n q h below = ap (λ d. eqb d 1) (bit_at_not w64 n q h below) ∙ not_digit (n / 2 ^ q % 2) (digit_lt (n / 2 ^ q))

has_singleton : (p q : ℕ) → q < 64 → has (singleton p) q ≡ eqb q p
has_singleton p q below =
    elim (cases_lt p 64) [
      | inl within ↦ ap (λ n. has n q) (singleton_is p within) ∙ has_power p q
      | inr above ↦ ap (λ n. has n q) (singleton_none p above) ∙ empty q ∙ sym (ne_eqb q p (omega arith))
    ]

-- And with all numbers but one takes that one away, keeps the rest and makes the number less where it was
-- a member.
module _ (s p : ℕ) (fits : s < 2 ^ 64) where
  has_cleared : (q : ℕ) → q < 64 → has (bit_and s (2 ^ 64 - 1 - singleton p)) q ≡ (has s q && not (eqb q p))
  has_cleared q below =
      has_and s (2 ^ 64 - 1 - singleton p) q
      ∙ ap (λ t. has s q && t) (has_not (singleton p) q (singleton_fits p) below ∙ ap not (has_singleton p q below))

  cleared_above : (q : ℕ) → 64 ≤ q → has (bit_and s (2 ^ 64 - 1 - singleton p)) q ≡ false
  cleared_above q above = has_and s (2 ^ 64 - 1 - singleton p) q ∙ ap (λ t. t && has (2 ^ 64 - 1 - singleton p) q) (out_of_word s q fits above)

  pub cleared_here : has (bit_and s (2 ^ 64 - 1 - singleton p)) p ≡ false
  cleared_here =
      elim (cases_lt p 64) [
        | inl below ↦ has_cleared p below ∙ ap (λ t. has s p && not t) (eq-eqb p p refl) ∙ and-false (has s p)
        | inr above ↦ cleared_above p above
      ]

  pub cleared_elsewhere : (q : ℕ) → (q ≡ p → ⊥) → has (bit_and s (2 ^ 64 - 1 - singleton p)) q ≡ has s q
  cleared_elsewhere q ne =
      elim (cases_lt q 64) [
        | inl below ↦ has_cleared q below ∙ ap (λ t. has s q && not t) (ne_eqb q p ne) ∙ and-true (has s q)
        | inr above ↦ cleared_above q above ∙ sym (out_of_word s q fits above)
      ]

  pub cleared_absent : has s p ≡ false → bit_and s (2 ^ 64 - 1 - singleton p) ≡ s
  cleared_absent out =
      same_members (bit_and s (2 ^ 64 - 1 - singleton p)) s (λ q.
      elim (cases_eq q p) [ inl e ↦ rw e (cleared_here ∙ sym out) | inr ne ↦ cleared_elsewhere q ne ])

  pub cleared_less : has s p ≡ true → bit_and s (2 ^ 64 - 1 - singleton p) < s
  cleared_less m =
      subset_lt (bit_and s (2 ^ 64 - 1 - singleton p)) s p (λ q h.
      elim (cases_eq q p) [ inl e ↦ rw e m | inr ne ↦ sym (cleared_elsewhere q ne) ∙ h ]) cleared_here m

-- The count of the zeros below the lowest digit that is one is the lowest member: the lowest digit is
-- d, and t zeros stand at the low end of the digits above it.
zero_digit : (d t : ℕ) → 0 < under d t → eqb d 1 ≡ false
zero_digit zero t h = refl
zero_digit (suc d) t h = absurd (omega arith)

zeros_above : (d t q : ℕ) → suc q < under d t → q < t
zeros_above zero t q h = omega arith
zeros_above (suc d) t q h = absurd (omega arith)

pub before_lowest : (width s q : ℕ) → q < count_trailing_zeros width s → has s q ≡ false
unfolding count_trailing_zeros
before_lowest zero s q h = absurd (omega arith)
before_lowest (suc width) s zero h = has_zero s ∙ zero_digit (s % 2) (count_trailing_zeros width (s / 2)) h
before_lowest (suc width) s (suc q) h =
    has_suc s q ∙ before_lowest width (s / 2) q (zeros_above (s % 2) (count_trailing_zeros width (s / 2)) q h)

at_lowest : (width s d t : ℕ) → d ≡ s % 2 → (t < width → has (s / 2) t ≡ true) → under d t < suc width → has s (under d t) ≡ true
at_lowest width s zero t e above h = has_suc s t ∙ above (omega arith)
at_lowest width s (suc d) t e above h = has_zero s ∙ eq-eqb (s % 2) 1 (omega (arith, digit_lt s))

pub lowest_member : (width s : ℕ) → count_trailing_zeros width s < width → has s (count_trailing_zeros width s) ≡ true
unfolding count_trailing_zeros
lowest_member zero s h = absurd (omega arith)
lowest_member (suc width) s h =
    at_lowest width s (s % 2) (count_trailing_zeros width (s / 2)) refl (lowest_member width (s / 2)) h

under_below : (width d t : ℕ) → (d ≡ 0 → t < width) → under d t < suc width
under_below width zero t above = suc-le-suc (above refl)
under_below width (suc d) t above = zero-lt-suc width

pub lowest_below : (width s : ℕ) → s < 2 ^ width → (s ≡ 0 → ⊥) → count_trailing_zeros width s < width
unfolding count_trailing_zeros
lowest_below zero s h some = absurd (some (lt-one h))
lowest_below (suc width) s h some =
    under_below width (s % 2) (count_trailing_zeros width (s / 2)) (λ even.
    lowest_below width (s / 2) (shr_lt width 1 (rw add-one h)) (λ e. some (omega (arith, e, even, div-add-mod' s 2))))
