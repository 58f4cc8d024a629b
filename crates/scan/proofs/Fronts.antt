-- The byte at a place, and the blanks from a place on.
use Rattle.std.proofs.Common.{◌≡◌, ℕ, ◌<◌, ◌≤◌, Bool, true, false, eqb, List, length, get_or, drop, Some, None, Option, slice_get, MatchOption, sym, ap, ◌∙◌, subst, ◌⊎◌, inl, inr, arith}
use Rattle.std.proofs.lemmas.List.{drop_more, drop_all}
use Rattle.std.proofs.lemmas.Option.{slice_get-get_or, slice_get_past}
use Rattle.std.proofs.lemmas.Bool.{cases_lt, both_ways}
use Rattle.std.proofs.lemmas.Bool.Decides.{nat_tests}
use Rattle.std.specs.Option.{option_eq}
use Rattle.scan.specs.Bytes.{first_is}

-- Inside the text a test of the front asks the byte at the place; past the end it fails.
pub first_inside : (test : ℕ → Bool) (t : List ℕ) (i d : ℕ) → i < length t → first_is test (drop i t) ≡ test (get_or t i d)
first_inside test t i d lt = ap (first_is test) (drop_more t i d lt)

pub first_past : (test : ℕ → Bool) (t : List ℕ) (i : ℕ) → length t ≤ i → first_is test (drop i t) ≡ false
first_past test t i le = ap (first_is test) (drop_all i t le)

-- The byte at the place tells what a test of the front answers.
pub first_peeked : (test : ℕ → Bool) (t : List ℕ) (i : ℕ) (o : Option ℕ) → o ≡ slice_get t i → MatchOption o (first_is test (drop i t) ≡ false) (λ b. first_is test (drop i t) ≡ test b)
first_peeked test t i o e = subst (λ o. MatchOption o (first_is test (drop i t) ≡ false) (λ b. first_is test (drop i t) ≡ test b)) (sym e) (there (cases_lt i (length t)))
  where
    there : (i < length t) ⊎ (length t ≤ i) → MatchOption (slice_get t i) (first_is test (drop i t) ≡ false) (λ b. first_is test (drop i t) ≡ test b)
    there (inl lt) = rw (slice_get-get_or t i 0 lt) (first_inside test t i 0 lt)
    there (inr le) = rw (slice_get_past t i le) (first_past test t i le)

pub first_asked : (test : ℕ → Bool) (t : List ℕ) (i : ℕ) (o : Option ℕ) (r : Bool) → o ≡ slice_get t i → MatchOption o (r ≡ false) (λ b. r ≡ test b) → r ≡ first_is test (drop i t)
first_asked test t i None r e h = h ∙ sym (first_peeked test t i None e)
first_asked test t i (Some b) r e h = h ∙ sym (first_peeked test t i (Some b) e)

pub first_compared : (b : ℕ) (t : List ℕ) (i : ℕ) (o : Option ℕ) (r : Bool) → o ≡ slice_get t i → r ≡ option_eq eqb o (Some b) → r ≡ first_is (eqb b) (drop i t)
first_compared b t i o r e h = first_asked (eqb b) t i o r e (by o h)
  where
    by : (o : Option ℕ) → r ≡ option_eq eqb o (Some b) → MatchOption o (r ≡ false) (λ c. r ≡ eqb b c)
    by None h = h
    by (Some c) h = h ∙ grind (arith, nat_tests)

-- Where the front passes a test, there is a byte.
pub first_there : (test : ℕ → Bool) (t : List ℕ) (i : ℕ) → first_is test (drop i t) ≡ true → i < length t
first_there test t i holds =
    elim (cases_lt i (length t)) [ inl lt ↦ lt | inr le ↦ absurd (both_ways _ (first_past test t i le) holds) ]
