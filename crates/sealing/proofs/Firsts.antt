-- Asking numbers and nodes in turn.
use Rattle.std.proofs.Common.{◌≡◌, ℕ, zero, suc, ◌+◌, ◌<◌, ◌≤◌, Bool, true, false, List, [], ◌∷◌, length, get_or, take, min, Option, Some, None, sym, ap, ◌∙◌, subst, take_all, zero-add, arith}
use native.Mathlib.Decide.{dec_le}
use Rattle.std.specs.Bool.{MatchBool}
use Rattle.std.specs.List.{AllWithin, HoldsAt, range_with_len}
use Rattle.std.proofs.lemmas.List.FromFn.{length-range_with_len, get_or-range_with_len}
use Rattle.std.specs.Option.{MatchOption}
use Rattle.engine.specs.Languages.{Decides, Each}
use Rattle.sealing.specs.Questions.{FirstNo}

pub decided_yes : {P : Type 0} (t : Bool) → Decides t P → t ≡ true → P
decided_yes true p e = p
decided_yes false p e = cc

pub decided_no : {P : Type 0} (t : Bool) → Decides t P → t ≡ false → P → ⊥
decided_no true p e = cc
decided_no false p e = p

-- The first number of a range from 1 on that a test finds is the first no.
pub first_no : {Found Passed : ℕ → Type 0} (Yes No : ℕ → Type 0) (start end last : ℕ) (r : Option ℕ) → start ≡ 1 → end ≡ last + 1 → ((n : ℕ) → Found n → No n) → ((n : ℕ) → Passed n → Yes n) → MatchOption r ((k : ℕ) → start ≤ k → k < end → Passed k) (λ i. (start ≤ i) × (i < end) × Found i × ((k : ℕ) → start ≤ k → k < i → Passed k)) → FirstNo Yes No last r
first_no Yes No start end last None one to fails holds h = λ n low high. holds n (h n (omega arith) (omega arith))
first_no Yes No start end last (Some n) one to fails holds (low, high, found, before) =
    (omega arith, omega arith, fails n found, λ m l lt. holds m (before m (omega arith) lt))

-- What `any` and `all` decide of a list.
pub any_decides : {X : Type 0} (P : X → Type 0) (d : X) (xs : List X) (r : Bool) → MatchBool r ((k : ℕ) × (k < length xs) × HoldsAt P xs k) (AllWithin (λ x. P x → ⊥) xs 0 (length xs)) → Decides r ((k : ℕ) × (k < length xs) × P (get_or xs k d))
any_decides P d xs true (k, lt, h) = (k, lt, h d)
any_decides P d xs false none = λ (k, lt, h). none k d (omega arith) lt h

pub each_of : {X : Type 0} (P : X → Type 0) (d : X) (xs : List X) → ((k : ℕ) → k < length xs → P (get_or xs k d)) → Each P xs
each_of P d [] h = tt
each_of P d (x ∷ xs) h = (h zero (omega arith), each_of P d xs (λ k lt. h (suc k) (omega arith)))

of_each : {X : Type 0} (P : X → Type 0) (d : X) (xs : List X) → Each P xs → (k : ℕ) → k < length xs → P (get_or xs k d)
of_each P d [] h k lt = absurd (omega arith)
of_each P d (x ∷ xs) h zero lt = h.0
of_each P d (x ∷ xs) h (suc k) lt = of_each P d xs h.1 k (omega arith)

pub all_decides : {X : Type 0} (P : X → Type 0) (d : X) (xs : List X) (r : Bool) → MatchBool r (AllWithin P xs 0 (length xs)) ((k : ℕ) × (k < length xs) × HoldsAt (λ x. P x → ⊥) xs k) → Decides r (Each P xs)
all_decides P d xs true all = each_of P d xs (λ k lt. all k d (omega arith) lt)
all_decides P d xs false (k, lt, h) = λ each. h d (of_each P d xs each k lt)

-- The same of the numbers below 64.
pub in_range : (P : ℕ → Type 0) (r : Bool) → Decides r ((k : ℕ) × (k < length (range_with_len 0 64)) × P (get_or (range_with_len 0 64) k 0)) → Decides r ((p : ℕ) × (p ≤ 63) × P p)
in_range P true (k, lt, h) =
    let below : k < 64 = omega (arith, length-range_with_len 0 64) in
    (k, omega arith, subst P (get_or-range_with_len 0 64 k 0 below ∙ zero-add k) h)
in_range P false never = λ (p, le, h).
    let below : p < 64 = omega arith in
    never (p, omega (arith, length-range_with_len 0 64), subst P (sym (get_or-range_with_len 0 64 p 0 below ∙ zero-add p)) h)

-- No more can be taken than there are.
pub take_fewer : {A : Type 0} (n : ℕ) (xs : List A) → take (min (length xs) n) xs ≡ take n xs
take_fewer n xs =
    elim (dec_le (length xs) n) [
      | yes few ↦ ap (λ m. take m xs) (omega arith) ∙ take_all (length xs) xs (omega arith) ∙ sym (take_all n xs few)
      | no more ↦ ap (λ m. take m xs) (omega arith)
    ]
