-- Sets by the exclusive or with a power of two and by a power added to a number below it; and that a number
-- with no member is zero.
use Rattle.std.proofs.Common.{◌≡◌, ℕ, zero, suc, ◌+◌, ◌/◌, ◌%◌, ◌^◌, ◌<◌, Bool, true, false, ◌||◌, eqb, sym, refl, ap, ◌∙◌, ap₂, inl, inr, mod-lt, zero-lt-suc, one-mul, arith, pow_pos, eq-eqb, ne_eqb}
use mathlib.Core.Bool.{xor}
use lib.Bits.{bit_or, bit_xor, xor_shr, xor_mod, or_shifted}
use lib.Count.{count_trailing_zeros}
use borrow.Author.Tests.{both_ways}
use Rattle.std.proofs.lemmas.Bool.{cases_eq, cases_lt}
use Rattle.bits.specs.Sets.{has}
use Rattle.bits.proofs.Sets.{empty, out_of_width, subset_lt, same_set, has_or, has_power, lowest_member, lowest_below}

-- Every member of a set of `width` digits is below the width.
pub member_below : (width s q : ℕ) → s < 2 ^ width → has s q ≡ true → q < width
member_below width s q h m =
    elim (cases_lt q width) [ inl below ↦ below | inr above ↦ absurd (both_ways (has s q) (out_of_width width s q h above) m) ]

-- Exclusive or answers for each number apart.
on_digits : (x y : ℕ) → x < 2 → y < 2 → eqb (bit_xor x y) 1 ≡ xor (eqb x 1) (eqb y 1)
unfolding xor
on_digits zero zero hx hy = refl
on_digits zero (suc zero) hx hy = refl
on_digits (suc zero) zero hx hy = refl
on_digits (suc zero) (suc zero) hx hy = refl
on_digits zero (suc (suc y)) hx hy = absurd (omega arith)
on_digits (suc zero) (suc (suc y)) hx hy = absurd (omega arith)
on_digits (suc (suc x)) y hx hy = absurd (omega arith)

pub has_xor : (a b q : ℕ) → has (bit_xor a b) q ≡ xor (has a q) (has b q)
has_xor a b q =
    ap (λ n. eqb n 1) (ap (λ n. n % 2) (xor_shr a b q) ∙ xor_mod (a / 2 ^ q) (b / 2 ^ q) 1)
    ∙ on_digits (a / 2 ^ q % 2) (b / 2 ^ q % 2) (mod-lt (a / 2 ^ q) (zero-lt-suc 1)) (mod-lt (b / 2 ^ q) (zero-lt-suc 1))

xor_false : (b : Bool) → xor b false ≡ b
unfolding xor
xor_false true = refl
xor_false false = refl

-- A power of two that is greater than the set, added to it, adds its exponent.
pub has_power_plus : (k s q : ℕ) → s < 2 ^ k → has (2 ^ k + s) q ≡ (eqb q k || has s q)
has_power_plus k s q h =
    ap (λ n. has (n + s) q) (sym (one-mul (2 ^ k))) ∙ ap (λ n. has n q) (sym (or_shifted 1 k s h))
    ∙ ap (λ n. has (bit_or n s) q) (one-mul (2 ^ k)) ∙ has_or (2 ^ k) s q ∙ ap (λ t. t || has s q) (has_power k q)

-- Exclusive or with a power of two whose exponent is a member takes it away, keeps the rest and makes the
-- number less.
pub has_xor_power : (s k q : ℕ) → has (bit_xor s (2 ^ k)) q ≡ xor (has s q) (eqb q k)
has_xor_power s k q = has_xor s (2 ^ k) q ∙ ap (λ t. xor (has s q) t) (has_power k q)

pub xor_power_here : (s k : ℕ) → has s k ≡ true → has (bit_xor s (2 ^ k)) k ≡ false
unfolding xor
xor_power_here s k m = has_xor_power s k k ∙ ap₂ xor m (eq-eqb k k refl)

pub xor_power_elsewhere : (s k q : ℕ) → (q ≡ k → ⊥) → has (bit_xor s (2 ^ k)) q ≡ has s q
xor_power_elsewhere s k q ne = has_xor_power s k q ∙ ap (λ t. xor (has s q) t) (ne_eqb q k ne) ∙ xor_false (has s q)

pub xor_power_less : (s k : ℕ) → has s k ≡ true → bit_xor s (2 ^ k) < s
xor_power_less s k m =
    subset_lt (bit_xor s (2 ^ k)) s k (λ q h.
    elim (cases_eq q k) [ inl e ↦ rw e m | inr ne ↦ sym (xor_power_elsewhere s k q ne) ∙ h ]) (xor_power_here s k m) m

-- A set that is not 0 has a member, and a set with none is 0.
pub some_member : (s : ℕ) → s < 2 ^ 64 → (s ≡ 0 → ⊥) → (q : ℕ) × (q < 64) × (has s q ≡ true)
some_member s h some =
    let below = lowest_below 64 s h some in
    (count_trailing_zeros 64 s, below, lowest_member 64 s below)

pub no_member : (s : ℕ) → s < 2 ^ 64 → ((q : ℕ) → q < 64 → has s q ≡ false) → s ≡ 0
no_member s h none = same_set s 0 h (pow_pos 64) (λ q below. none q below ∙ sym (empty q))
