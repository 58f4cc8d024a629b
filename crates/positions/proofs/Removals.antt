-- One number taken out of a set, and the lowest number of one.
use Rattle.std.proofs.Common.{◌≡◌, ℕ, zero, suc, ◌+◌, ◌/◌, ◌%◌, ◌^◌, ◌<◌, ◌≢◌, ◌⊎◌, sym, ap, ◌∙◌, subst, ap₂, inl, inr, pow-suc, div-one, arith}
use native.Mathlib.Decide.{dec_le}
use lib.Bits.{bit_and, bit_xor, xor_shr, xor_mod, xor_zero_r, xor_add_and}
use lib.Count.{count_trailing_zeros, under}
use Rattle.std.proofs.lemmas.Nat.{pow_pos, shr-shr, div_below}
use Rattle.bits.specs.Sets.{Has}
use Rattle.bits.proofs.Bits.{has_below, has_own, has_power, and_has}

digit : (n : ℕ) → (n % 2 ≡ 0) ⊎ (n % 2 ≡ 1)
digit n = elim (dec_le (n % 2) 0) [ yes h ↦ inl (omega arith) | no h ↦ inr (omega arith) ]

-- Taking out a number that is there.
pub out_has : (s p n : ℕ) → Has s p → Has (bit_xor s (2 ^ p)) n → Has s n × (n ≡ p → ⊥)
out_has s p n own h =
    let bits = sym (ap (λ x. x % 2) (xor_shr s (2 ^ p) n) ∙ xor_mod (s / 2 ^ n) (2 ^ p / 2 ^ n) 1) ∙ h in
    elim (digit (2 ^ p / 2 ^ n)) [
      | inl z ↦ (
        sym (xor_zero_r (s / 2 ^ n % 2)) ∙ ap (λ y. bit_xor (s / 2 ^ n % 2) y) (sym z) ∙ bits,
        λ e. let k = subst (λ m. Has (2 ^ p) m) (sym e) (has_own p) in omega arith,
      )
      | inr o ↦
          let e = has_power p n o in
          let k : s / 2 ^ n % 2 ≡ 1 = subst (λ m. Has s m) (sym e) own in
          let z = sym (ap₂ bit_xor k o) ∙ bits in
          absurd (omega arith)
    ]

pub has_out : (s p n : ℕ) → Has s n → (n ≡ p → ⊥) → Has (bit_xor s (2 ^ p)) n
has_out s p n h ne =
    elim (digit (2 ^ p / 2 ^ n)) [
      | inl z ↦
          ap (λ x. x % 2) (xor_shr s (2 ^ p) n) ∙ xor_mod (s / 2 ^ n) (2 ^ p / 2 ^ n) 1 ∙ ap (λ y. bit_xor (s / 2 ^ n % 2) y) z ∙ xor_zero_r (s / 2 ^ n % 2) ∙ h
      | inr o ↦ absurd (ne (has_power p n o))
    ]

pub out_less : (s p : ℕ) → Has s p → bit_xor s (2 ^ p) < s
out_less s p h =
    let sum = xor_add_and s (2 ^ p) in
    let both = has_below (bit_and s (2 ^ p)) p (and_has s (2 ^ p) p h (has_own p)) in
    let some = pow_pos p in
    omega arith

-- The lowest number of a set that is not empty.
pub lowest : (k s : ℕ) → s < 2 ^ k → s ≢ 0 → (count_trailing_zeros k s < k) × Has s (count_trailing_zeros k s)
unfolding count_trailing_zeros
lowest zero s fits ne = absurd (ne (omega arith))
lowest (suc k) s fits ne =
    elim (digit s) [
      | inl z ↦
          let half : s / 2 < 2 ^ k = div_below s 2 (2 ^ k) (omega arith) (subst (λ x. s < x) (pow-suc 2 k) fits) in
          let low = lowest k (s / 2) half (λ e. ne (omega arith)) in
          let t = count_trailing_zeros k (s / 2) in
          let at : under (s % 2) t ≡ 1 + t = ap (λ d. under d t) z ∙ omega arith in
          let has : Has s (1 + t) = ap (λ x. x % 2) (sym (shr-shr s 1 t)) ∙ low.1 in
          (subst (λ x. x < suc k) (sym at) (omega (arith, low.0)), subst (Has s) (sym at) has)
      | inr o ↦
          let t = count_trailing_zeros k (s / 2) in
          let at : under (s % 2) t ≡ 0 = ap (λ d. under d t) o in
          let has : Has s 0 = ap (λ x. x % 2) (div-one s) ∙ o in
          (subst (λ x. x < suc k) (sym at) (omega arith), subst (Has s) (sym at) has)
    ]

-- What the numbers that were taken out so far gave.
