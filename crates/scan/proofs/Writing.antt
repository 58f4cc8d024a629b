-- Writing lists over a table.
use Rattle.std.proofs.Common.{◌≡◌, ℕ, suc, ◌+◌, ◌≤◌, List, [], ◌∷◌, ◌++◌, length, set, sym, refl, ap, ◌∙◌, add-zero, arith}
use Rattle.std.proofs.lemmas.List.{set_past}
use Rattle.scan.specs.Lists.{puts}

-- A list in two parts is written part by part.
pub puts_append : {A : Type 0} (t : List A) (at : ℕ) (xs ys : List A) → puts t at (xs ++ ys) ≡ puts (puts t at xs) (at + length xs) ys
unfolding puts
puts_append t at [] ys = ap (λ i. puts t i ys) (sym (add-zero at))
puts_append t at (x ∷ xs) ys =
    let moved : (at + 1) + length xs ≡ at + suc (length xs) = omega arith in
    puts_append (set t at x) (at + 1) xs ys ∙ ap (λ i. puts (puts (set t at x) (at + 1) xs) i ys) moved

pub puts_one : {A : Type 0} (t : List A) (at : ℕ) (x : A) → puts t at (x ∷ []) ≡ set t at x
unfolding puts
puts_one t at x = refl

-- Past the end nothing is written.
pub puts_past : {A : Type 0} (t : List A) (at : ℕ) (xs : List A) → length t ≤ at → puts t at xs ≡ t
unfolding puts
puts_past t at [] h = refl
puts_past t at (x ∷ xs) h =
    let e = set_past t at x h in
    ap (λ s. puts s (at + 1) xs) e ∙ puts_past t (at + 1) xs (omega arith)
