-- Lists written over a table.
use Rattle.std.proofs.Common.{◌≡◌, ℕ, zero, suc, ◌+◌, ◌-◌, ◌≤◌, List, [], ◌∷◌, ◌++◌, length, take, drop, set, replicate, sym, refl, ap, ◌∙◌, append_assoc, arith, length-append}
use lib.Seq.{take-append_seam}
use Rattle.scan.specs.Lists.{puts}
use Rattle.drafts.specs.Tables.{filled}

set_seam : {A : Type 0} (xs : List A) (y : A) (ys : List A) (x : A) → set (xs ++ (y ∷ ys)) (length xs) x ≡ xs ++ (x ∷ ys)
set_seam [] y ys x = refl
set_seam (z ∷ xs) y ys x = ap (λ t. z ∷ t) (set_seam xs y ys x)

-- A list that fits, written behind what is there already.
pub puts_behind : {A : Type 0} (done : List A) (zero-value : A) (n : ℕ) (xs : List A) → length xs ≤ n → puts (done ++ replicate n zero-value) (length done) xs ≡ done ++ (xs ++ replicate (n - length xs) zero-value)
unfolding puts
puts_behind done z n [] h = ap (λ k. done ++ replicate k z) (let k : n ≡ n - 0 = omega arith in k)
puts_behind done z zero (x ∷ xs) h = absurd (omega arith)
puts_behind done z (suc n) (x ∷ xs) h =
    let more : length (done ++ (x ∷ [])) ≡ length done + 1 = simp length-append in
    let fits : length xs ≤ n = omega arith in
    let left : suc n - suc (length xs) ≡ n - length xs = omega arith in
    ap (λ t. puts t (length done + 1) xs) (set_seam done z (replicate n z) x ∙ sym (append_assoc done (x ∷ []) (replicate n z)))
    ∙ ap (λ k. puts ((done ++ (x ∷ [])) ++ replicate n z) k xs) (sym more)
    ∙ puts_behind (done ++ (x ∷ [])) z n xs fits
    ∙ append_assoc done (x ∷ []) (xs ++ replicate (n - length xs) z)
    ∙ ap (λ k. done ++ (x ∷ (xs ++ replicate k z))) (sym left)

-- The list at the front of a table that it fills.
pub filled_front : {A : Type 0} (z : A) (n : ℕ) (xs t : List A) (k : ℕ) → t ≡ filled z n xs → k ≡ length xs → take (k - 0) t ≡ xs
filled_front z n xs t k e is =
    ap (take (k - 0)) e ∙ ap (λ m. take m (filled z n xs)) (let m : k - 0 ≡ length xs = omega arith in m) ∙ take-append_seam xs (replicate (n - length xs) z)

pub filled_room : {A : Type 0} (z : A) (n : ℕ) (xs t : List A) (k : ℕ) → t ≡ filled z n xs → k ≡ length xs → k ≤ length t
filled_room z n xs t k e is = omega (arith, ap length e, length-append xs (replicate (n - length xs) z))

-- A list that fits, written over what is there, stands in front of the rest.
pub puts_over : {A : Type 0} (done rest xs : List A) → length xs ≤ length rest → puts (done ++ rest) (length done) xs ≡ done ++ (xs ++ drop (length xs) rest)
unfolding puts
puts_over done rest [] h = refl
puts_over done [] (x ∷ xs) h = absurd (omega arith)
puts_over done (y ∷ rest) (x ∷ xs) h =
    let more : length (done ++ (x ∷ [])) ≡ length done + 1 = simp length-append in
    ap (λ t. puts t (length done + 1) xs) (set_seam done y rest x ∙ sym (append_assoc done (x ∷ []) rest))
    ∙ ap (λ k. puts ((done ++ (x ∷ [])) ++ rest) k xs) (sym more)
    ∙ puts_over (done ++ (x ∷ [])) rest xs (omega arith)
    ∙ append_assoc done (x ∷ []) (xs ++ drop (length xs) rest)

pub puts_front : {A : Type 0} (t xs : List A) (k : ℕ) → length xs ≤ length t → k ≡ length xs → take (k - 0) (puts t 0 xs) ≡ xs
puts_front t xs k h is =
    ap (take (k - 0)) (puts_over [] t xs h) ∙ ap (λ m. take m (xs ++ drop (length xs) t)) (let m : k - 0 ≡ length xs = omega arith in m)
    ∙ take-append_seam xs (drop (length xs) t)
