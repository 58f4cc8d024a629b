-- The bits of a number as a set: unions, intersections, sets of one number, and that only zero is empty.
use Rattle.std.proofs.Common.{◌≡◌, ℕ, zero, suc, ◌+◌, ◌-◌, ◌/◌, ◌%◌, ◌^◌, ◌<◌, ◌≤◌, Bool, true, false, ◌≢◌, ◌⊎◌, sym, refl, ap, ◌∙◌, subst, ap₂, inl, inr, one-mul, pow-suc, div-one, arith, le-ltb, lt-ltb}
use native.Mathlib.Decide.{dec_le}
use native.Mathlib.Nat.{zero-div, div-eq_of_lt}
use lib.Bits.{bit_and, bit_or, or_shr, and_shr, or_mod, and_mod, or_zero_l, and_zero_l, and_zero_r}
use Rattle.std.proofs.lemmas.Bool.{cases_lt}
use Rattle.std.proofs.lemmas.Nat.{pow-add, shl-shr, shr-shr, pow_below, div_below}
use Rattle.bits.specs.Sets.{Has, singleton, guarded}

digit : (n : ℕ) → (n % 2 ≡ 0) ⊎ (n % 2 ≡ 1)
digit n = elim (dec_le (n % 2) 0) [ yes h ↦ inl (omega arith) | no h ↦ inr (omega arith) ]

or_odd : (a b : ℕ) → bit_or a b % 2 ≡ 1 → (a % 2 ≡ 1) ⊎ (b % 2 ≡ 1)
or_odd a b h =
    elim (digit a) [
      | inl z ↦ inr (sym (or_zero_l (b % 2)) ∙ ap (λ x. bit_or x (b % 2)) (sym z) ∙ sym (or_mod a b 1) ∙ h)
      | inr o ↦ inl o
    ]

or_odd_l : (a b : ℕ) → a % 2 ≡ 1 → bit_or a b % 2 ≡ 1
or_odd_l a b o = elim (digit b) [ inl z ↦ or_mod a b 1 ∙ ap₂ bit_or o z | inr p ↦ or_mod a b 1 ∙ ap₂ bit_or o p ]

or_odd_r : (a b : ℕ) → b % 2 ≡ 1 → bit_or a b % 2 ≡ 1
or_odd_r a b o = elim (digit a) [ inl z ↦ or_mod a b 1 ∙ ap₂ bit_or z o | inr p ↦ or_mod a b 1 ∙ ap₂ bit_or p o ]

and_odd : (a b : ℕ) → bit_and a b % 2 ≡ 1 → (a % 2 ≡ 1) × (b % 2 ≡ 1)
and_odd a b h =
    elim (digit a) [
      | inl z ↦ let e = sym (and_zero_l (b % 2)) ∙ ap (λ x. bit_and x (b % 2)) (sym z) ∙ sym (and_mod a b 1) ∙ h in absurd (omega arith)
      | inr o ↦
          elim (digit b) [
            | inl z ↦ let e = sym (and_zero_r (a % 2)) ∙ ap (λ x. bit_and (a % 2) x) (sym z) ∙ sym (and_mod a b 1) ∙ h in absurd (omega arith)
            | inr p ↦ (o, p)
          ]
    ]

odd_and : (a b : ℕ) → a % 2 ≡ 1 → b % 2 ≡ 1 → bit_and a b % 2 ≡ 1
odd_and a b o p = and_mod a b 1 ∙ ap₂ bit_and o p

pub has_or : (s t n : ℕ) → Has (bit_or s t) n → Has s n ⊎ Has t n
has_or s t n h = or_odd (s / 2 ^ n) (t / 2 ^ n) (ap (λ x. x % 2) (sym (or_shr s t n)) ∙ h)

pub has_or_l : (s t n : ℕ) → Has s n → Has (bit_or s t) n
has_or_l s t n h = ap (λ x. x % 2) (or_shr s t n) ∙ or_odd_l (s / 2 ^ n) (t / 2 ^ n) h

pub has_or_r : (s t n : ℕ) → Has t n → Has (bit_or s t) n
has_or_r s t n h = ap (λ x. x % 2) (or_shr s t n) ∙ or_odd_r (s / 2 ^ n) (t / 2 ^ n) h

pub has_and : (s t n : ℕ) → Has (bit_and s t) n → Has s n × Has t n
has_and s t n h = and_odd (s / 2 ^ n) (t / 2 ^ n) (ap (λ x. x % 2) (sym (and_shr s t n)) ∙ h)

pub and_has : (s t n : ℕ) → Has s n → Has t n → Has (bit_and s t) n
and_has s t n h k = ap (λ x. x % 2) (and_shr s t n) ∙ odd_and (s / 2 ^ n) (t / 2 ^ n) h k

pub has_none : (n : ℕ) → Has 0 n → ⊥
has_none n h = let e = zero-div (2 ^ n) in omega arith

-- No number is in a set that is smaller than its bit.
pub has_below : (s n : ℕ) → Has s n → 2 ^ n ≤ s
has_below s n h = elim (dec_le (2 ^ n) s) [ yes le ↦ le | no gt ↦ let lt : s < 2 ^ n = omega arith in let e = div-eq_of_lt lt in absurd (omega arith) ]

pub has_small : (s n : ℕ) → s < 2 ^ 64 → Has s n → n < 64
has_small s n fits h =
    elim (dec_le n 64) [
      | yes le ↦
          elim (dec_le n 63) [
            | yes below ↦ omega arith
            | no above ↦ let e : n ≡ 64 = omega arith in let k = subst (λ m. 2 ^ m ≤ s) e (has_below s n h) in absurd (omega arith)
          ]
      | no gt ↦ let far : 64 < n = omega arith in let p = pow_below 64 n far in let k = has_below s n h in absurd (omega arith)
    ]

pub has_own : (m : ℕ) → Has (2 ^ m) m
has_own m = ap (λ x. x % 2) (ap (λ x. x / 2 ^ m) (sym (one-mul (2 ^ m))) ∙ shl-shr 1 m)

even_pow : (n k : ℕ) → 2 ^ (suc k + n) / 2 ^ n % 2 ≡ 0
even_pow n k =
    ap (λ x. x / 2 ^ n % 2) (pow-add 2 (suc k) n) ∙ ap (λ x. x % 2) (shl-shr (2 ^ suc k) n) ∙ ap (λ x. x % 2) (pow-suc 2 k) ∙ omega arith

pub has_power : (m n : ℕ) → Has (2 ^ m) n → n ≡ m
has_power m n h =
    elim (dec_le n m) [
      | yes le ↦
          elim (dec_le m n) [
            | yes ge ↦ omega arith
            | no gt ↦
                let e : m ≡ suc (m - n - 1) + n = omega arith in
                let k = subst (λ j. 2 ^ j / 2 ^ n % 2 ≡ 1) e h in
                let z = even_pow n (m - n - 1) in
                absurd (omega arith)
          ]
      | no gt ↦ let p = pow_below m n (omega arith) in let k = has_below (2 ^ m) n h in absurd (omega arith)
    ]

pub singleton_is : (m : ℕ) → m < 64 → singleton m ≡ 2 ^ m
singleton_is m lt = rw (lt-ltb m 64 lt, singleton)

pub singleton_none : (m : ℕ) → 64 ≤ m → singleton m ≡ 0
singleton_none m le = rw (le-ltb m 64 le, singleton)

pub singleton_fits : (m : ℕ) → singleton m < 2 ^ 64
singleton_fits m =
    elim (cases_lt m 64) [
      | inl below ↦ subst (λ s. s < 2 ^ 64) (sym (singleton_is m below)) (pow_below m 64 below)
      | inr above ↦ subst (λ s. s < 2 ^ 64) (sym (singleton_none m above)) (omega arith)
    ]

pub has_single : (m n : ℕ) → m < 64 → Has (singleton m) n → n ≡ m
has_single m n lt h = has_power m n (subst (λ s. Has s n) (singleton_is m lt) h)

pub single_has : (m : ℕ) → m < 64 → Has (singleton m) m
single_has m lt = subst (λ s. Has s m) (sym (singleton_is m lt)) (has_own m)

pub has_guarded : (t : Bool) (s n : ℕ) → Has (guarded t s) n → (t ≡ true) × Has s n
has_guarded true s n h = (refl, h)
has_guarded false s n h = absurd (has_none n h)

pub guarded_has : (t : Bool) (s n : ℕ) → (t ≡ true) × Has s n → Has (guarded t s) n
guarded_has true s n h = h.1
guarded_has false s n h = let e = h.0 in let z : ◌≡◌ {A = ℕ} 0 1 = cc in absurd (omega arith)

-- A set with no number is zero.
pub some_bit : (k s : ℕ) → s < 2 ^ k → s ≢ 0 → (n : ℕ) × Has s n
some_bit zero s fits ne = absurd (ne (omega arith))
some_bit (suc k) s fits ne =
    elim (digit s) [
      | inl z ↦
          let half : s / 2 < 2 ^ k = div_below s 2 (2 ^ k) (omega arith) (subst (λ x. s < x) (pow-suc 2 k) fits) in
          let (n, h) = some_bit k (s / 2) half (λ e. ne (omega arith)) in
          (1 + n, ap (λ x. x % 2) (sym (shr-shr s 1 n)) ∙ h)
      | inr o ↦ (0, ap (λ x. x % 2) (div-one s) ∙ o)
    ]
