-- The first no of a question, one declaration more at a time.
use Rattle.std.proofs.Common.{◌≡◌, ℕ, Bool, true, false, List, [], ◌∷◌, ◌++◌, Some, None, Option, sym, refl, ap, ◌∙◌, subst, append_assoc, arith}
use Rattle.declarations.specs.Contents.{Placed}
use Rattle.drafts.specs.Questions.{Asked, first_no}

append-nil : {A : Type 0} (xs : List A) → xs ++ [] ≡ xs
append-nil [] = refl
append-nil (x ∷ xs) = ap (λ t. x ∷ t) (append-nil xs)

pub first_no_more : (asked : Asked) (before : List Placed) (q : Placed) (found : List Placed) → asked before q ≡ true → first_no asked before (q ∷ found) ≡ first_no asked (before ++ (q ∷ [])) found
unfolding first_no
first_no_more asked before q found e = rw (e, first_no)

pub first_no_at : (asked : Asked) (before : List Placed) (q : Placed) (found : List Placed) → asked before q ≡ false → first_no asked before (q ∷ found) ≡ Some q.place
unfolding first_no
first_no_at asked before q found e = rw (e, first_no)

pub none_some : (place : ℕ) → None ≡ Some place → ⊥
none_some place e = let k : ◌≡◌ {A = ℕ} 0 1 = cc in omega arith

-- One declaration more: where the ones before get a yes, it is asked alone; a no before it stays the first.
pub first_no_push : (asked : Asked) (before found : List Placed) (p : Placed) (r : Option ℕ) → first_no asked before found ≡ None → first_no asked (before ++ found) (p ∷ []) ≡ r → first_no asked before (found ++ (p ∷ [])) ≡ r
unfolding first_no
first_no_push asked before [] p r none alone = subst (λ b. first_no asked b (p ∷ []) ≡ r) (append-nil before) alone
first_no_push asked before (q ∷ found) p r none alone = by (asked before q) refl (first_no_push asked (before ++ (q ∷ [])) found p r)
  where
    by : (b : Bool) → asked before q ≡ b → (first_no asked (before ++ (q ∷ [])) found ≡ None → first_no asked ((before ++ (q ∷ [])) ++ found) (p ∷ []) ≡ r → first_no asked (before ++ (q ∷ [])) (found ++ (p ∷ [])) ≡ r) → first_no asked before ((q ∷ found) ++ (p ∷ [])) ≡ r
    by true e go =
        first_no_more asked before q (found ++ (p ∷ [])) e
        ∙ go (sym (first_no_more asked before q found e) ∙ none) (subst (λ t. first_no asked t (p ∷ []) ≡ r) (sym (append_assoc before (q ∷ []) found)) alone)
    by false e go = absurd (none_some q.place (sym none ∙ first_no_at asked before q found e))

-- The first no stays the first, whatever comes behind it.
pub first_no_stays : (asked : Asked) (before found more : List Placed) (place : ℕ) → first_no asked before found ≡ Some place → first_no asked before (found ++ more) ≡ Some place
unfolding first_no
first_no_stays asked before [] more place e = absurd (none_some place e)
first_no_stays asked before (q ∷ found) more place h = by (asked before q) refl (first_no_stays asked (before ++ (q ∷ [])) found more place)
  where
    by : (b : Bool) → asked before q ≡ b → (first_no asked (before ++ (q ∷ [])) found ≡ Some place → first_no asked (before ++ (q ∷ [])) (found ++ more) ≡ Some place) → first_no asked before ((q ∷ found) ++ more) ≡ Some place
    by true e go = first_no_more asked before q (found ++ more) e ∙ go (sym (first_no_more asked before q found e) ∙ h)
    by false e go = first_no_at asked before q (found ++ more) e ∙ sym (first_no_at asked before q found e) ∙ h
