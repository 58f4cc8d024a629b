-- The nesting element's languages: the law of contents, and what its engine answers.
use Rattle.std.proofs.Common.{◌≡◌, ℕ, List, [], ◌∷◌, Some, None, Option, sym, refl, subst, arith}
use Rattle.engine.specs.Languages.{residue, Answers, Each}
use Rattle.engine.specs.Trees.{none, Contents, Declared, Plain, IsKnown}
use Rattle.engine.specs.declared.alphabet.Letter.{Letter}
use Rattle.engine.specs.declared.alphabet.Letter.TheVariants.{Text, Element}
use Rattle.limits.specs.Nest.{Nested, Nests, NestLeft}

one_declared : (n : ℕ) → n ≡ 1 → Declared Nests n
one_declared n e = ([], (e, tt))

known : (a : Letter) → Nested a → IsKnown Nests a
known Text h = tt
known (Element n) h = one_declared n h

each_known : (w : List Letter) → Each Nested w → Each (IsKnown Nests) w
each_known [] h = tt
each_known (a ∷ w) (p, h) = (known a p, each_known w h)

pub nests_law : Contents Nests
nests_law = record {
  numbers = λ n (w, (e, h)). (omega arith, omega arith);
  words = λ n w (e, h). each_known w h;
  trees = λ n (w, (e, h)). (none, (record { content = (e, tt); value = λ (v, k). k }, tt));
}

-- No number is plain: element 1 may hold itself, and the others nothing at all.
pub never_plain : (n : ℕ) → Plain Nests n → ⊥
never_plain n h =
    let (e, t) = (h []).1 tt in
    ((h (Element 1 ∷ [])).0 (e, (refl, tt))).0

-- What is left after a letter that may come.
pub nests_after : (n s : ℕ) (a : Letter) → n ≡ 1 → s ≡ 0 → Nested a → Answers (residue (NestLeft n s) (a ∷ [])) (NestLeft n) (Some 0)
nests_after n s a one zeroth fits =
    (([], (zeroth, (one, (fits, tt)))), λ w. ((λ (e, (o, h)). (zeroth, (one, (fits, h)))), λ (e, (o, h)). (refl, (one, h.1))))

-- A child goes on exactly when it can be opened.
pub child_after : (n s child : ℕ) (r : Option ℕ) → n ≡ 1 → s ≡ 0 → Answers (Nests child) (NestLeft child) r → Answers (residue (NestLeft n s) (Element child ∷ [])) (NestLeft n) r
child_after n s child None one zeroth never = λ w (e, (o, h)). never [] (h.0, tt)
child_after n s child (Some t) one zeroth ((w, (is, h)), same) =
    let (zero-t, more) = (same []).1 (is, tt) in
    subst (λ x. Answers (residue (NestLeft n s) (Element child ∷ [])) (NestLeft n) (Some x)) (sym zero-t) (nests_after n s (Element child) one zeroth is)
