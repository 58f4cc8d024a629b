-- A name is new exactly when its number is that of its own declaration.
use Rattle.std.proofs.Common.{◌≡◌, ℕ, ◌+◌, ◌≤◌, Bool, true, false, not, eqb, List, [], ◌∷◌, ◌++◌, length, refl, arith, eq-eqb, ne_eqb, eqb-true}
use native.Mathlib.Decide.{dec_le}
use borrow.Author.Tests.{eqb-false}
use Rattle.scan.specs.Lists.{same, number_of, listed}
use Rattle.scan.specs.Names.{Name}

same_self : (n : Name) → same n n ≡ true
unfolding same
same_self [] = refl
same_self (b ∷ n) = rw (eq-eqb b b refl) (same_self n)

number_same : (m : Name) (ns : List Name) (n : Name) → same m n ≡ true → number_of (m ∷ ns) n ≡ 1
unfolding number_of
number_same m ns n e = rw (e, number_of)

number_zero : (m : Name) (ns : List Name) (n : Name) → same m n ≡ false → number_of ns n ≡ 0 → number_of (m ∷ ns) n ≡ 0
unfolding number_of
number_zero m ns n e z = rw (e, eq-eqb (number_of ns n) 0 z, number_of)

number_more : (m : Name) (ns : List Name) (n : Name) → same m n ≡ false → (number_of ns n ≡ 0 → ⊥) → number_of (m ∷ ns) n ≡ number_of ns n + 1
unfolding number_of
number_more m ns n e z = rw (e, ne_eqb (number_of ns n) 0 z, number_of)

-- The number of a name that stands behind others: theirs if it is among them, else one more than they are.
pub record Behind (names : List Name) (n : Name) (more : List Name) : Type 0 where
  pub among : 1 ≤ number_of names n → number_of (names ++ (n ∷ more)) n ≤ length names
  pub new : number_of names n ≡ 0 → number_of (names ++ (n ∷ more)) n ≡ length names + 1

step_small : (m : Name) (ns : List Name) (n : Name) (k : ℕ) → same m n ≡ false → number_of ns n ≤ k → Dec (1 ≤ number_of ns n) → number_of (m ∷ ns) n ≤ k + 1
step_small m ns n k e h (yes some) = let j = number_more m ns n e (λ z. omega arith) in omega arith
step_small m ns n k e h (no none) = let z : number_of ns n ≡ 0 = omega (arith, none) in let j = number_zero m ns n e z in omega arith

behind_more : (m : Name) (names : List Name) (n : Name) (more : List Name) → same m n ≡ false → Behind names n more → Dec (1 ≤ number_of names n) → Behind (m ∷ names) n more
behind_more m names n more e ih (yes some) = record {
  among = λ h. let k = step_small m (names ++ (n ∷ more)) n (length names) e (ih.among some) (dec_le 1 (number_of (names ++ (n ∷ more)) n)) in omega arith;
  new = λ h. let k = number_more m names n e (λ z. omega arith) in absurd (omega arith);
}
behind_more m names n more e ih (no none) =
    let z : number_of names n ≡ 0 = omega (arith, none) in
    record {
      among = λ h. let k = number_zero m names n e z in absurd (omega arith);
      new = λ h. let w = ih.new z in let k = number_more m (names ++ (n ∷ more)) n e (λ y. omega arith) in omega arith;
    }

pub number_behind : (names : List Name) (n : Name) (more : List Name) → Behind names n more
unfolding number_of
number_behind [] n more = record { among = λ h. absurd (omega arith); new = λ h. number_same n more n (same_self n) }
number_behind (m ∷ names) n more = by (same m n) refl (number_behind names n more)
  where
    by : (b : Bool) → same m n ≡ b → Behind names n more → Behind (m ∷ names) n more
    by true e ih = record {
      among = λ h. let k = number_same m (names ++ (n ∷ more)) n e in omega arith;
      new = λ h. let k = number_same m names n e in absurd (omega arith);
    }
    by false e ih = behind_more m names n more e ih (dec_le 1 (number_of names n))

-- The test by numbers says whether the name is new.
pub new_by_number : (names : List Name) (n : Name) (more : List Name) → eqb (number_of (names ++ (n ∷ more)) n) (length names + 1) ≡ not (listed names n)
new_by_number names n more = by (eqb (number_of names n) 0) refl
  where
    by : (b : Bool) → eqb (number_of names n) 0 ≡ b → eqb (number_of (names ++ (n ∷ more)) n) (length names + 1) ≡ not (not b)
    by true e = eq-eqb (number_of (names ++ (n ∷ more)) n) (length names + 1) ((number_behind names n more).new (eqb-true (number_of names n) 0 e))
    by false e =
        let some = eqb-false (number_of names n) 0 e in
        let small = (number_behind names n more).among (omega (arith, some)) in
        ne_eqb (number_of (names ++ (n ∷ more)) n) (length names + 1) (λ is. omega arith)
