-- The numbers that digits write.
use Rattle.std.proofs.lemmas.Bool.Decides.{nat_tests}
use Rattle.std.proofs.Common.{◌≡◌, ℕ, ◌+◌, ◌-◌, ◌*◌, ◌<◌, ◌≤◌, eqb, List, [], ◌∷◌, length, get_or, take, drop, sym, ap, ◌∙◌, arith, take-append-drop}
use Rattle.std.specs.List.{fold}
use Rattle.std.proofs.lemmas.List.Sums.{fold_more, fold-append}
use Rattle.forms.specs.Numbers.{value_of}

pub flip : (a b : ℕ) → eqb a b ≡ eqb b a
flip a b = grind (arith, nat_tests)

-- One digit more.
pub value_more : (ds : List ℕ) (i : ℕ) → i < length ds → value_of (take (i + 1) ds) ≡ 10 * value_of (take i ds) + (get_or ds i 0 - 48)
value_more ds i lt = fold_more (λ n d. 10 * n + (d - 48)) 0 ds i 0 lt

grows : (v : ℕ) (ds : List ℕ) → v ≤ fold (λ n d. 10 * n + (d - 48)) v ds
grows v [] = omega arith
grows v (d ∷ ds) = omega (arith, grows (10 * v + (d - 48)) ds)

-- Digits write no less than those at their front.
pub value_front : (ds : List ℕ) (i : ℕ) → value_of (take i ds) ≤ value_of ds
value_front ds i =
    let whole : fold (λ n d. 10 * n + (d - 48)) (value_of (take i ds)) (drop i ds) ≡ value_of ds =
    sym (fold-append (λ n d. 10 * n + (d - 48)) 0 (take i ds) (drop i ds)) ∙ ap value_of (take-append-drop i ds) in
    omega (arith, grows (value_of (take i ds)) (drop i ds))
