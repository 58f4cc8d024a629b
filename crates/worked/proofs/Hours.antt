-- The worked examples hold: rows are computed, words are shown.
use mathlib.Core.Path.{◌≡◌, refl, sym, subst}
use mathlib.Core.List.{[], ◌∷◌}
use mathlib.Core.Bool.{true, false}
use mathlib.Core.Logic.{inl, inr}
use Prim.Native.Nat.{ℕ, ◌≤◌}
use native.Mathlib.Omega.{arith}
use lib.Dec.{lit≤}
use Rattle.engine.specs.Atoms.{StandsFor, InRange}
use Rattle.engine.specs.declared.alphabet.Letter.TheVariants as letter
use Rattle.engine.specs.declared.range.ByteRange.{ByteRange}
use Rattle.models.specs.Expressions.{seq, alt, option, done, Words}
use Rattle.models.specs.Folds.{value}
use Rattle.models.specs.Marks.{Ambiguous}
use Rattle.bits.specs.Sets.{Has}
use Rattle.models.proofs.Numbering.{leaves}
use Rattle.derivative.specs.Derivation.{derivation}
use Rattle.derivative.proofs.Knowing.{Agrees, computed, ends_computed}
use Rattle.derivative.proofs.Stepping.{left_step}
use Rattle.worked.specs.Examples.{Worked, element, hours}

-- Two marked words that begin with the same letter, read by the atoms 1 and 2.
title_twice : Ambiguous StandsFor (alt (alt (element 2) (seq (element 2) (element 3))) (element 3))
title_twice = record {
  shared = [];
  letter = letter.Element 2;
  one = 1;
  other = 2;
  differ = λ e. omega arith;
  after_one = [];
  after_other = (letter.Element 3, 3) ∷ [];
  first_word = inl (inl ((letter.Element 2, 1), (refl, refl), refl));
  second_word = inl (inr ((letter.Element 2, 2) ∷ [], (letter.Element 3, 3) ∷ [], refl, ((letter.Element 2, 2), (refl, refl), refl), ((letter.Element 3, 3), (refl, refl), refl)));
}

option_swallows : Ambiguous StandsFor (seq (option (element 2)) (element 2))
option_swallows = record {
  shared = [];
  letter = letter.Element 2;
  one = 1;
  other = 2;
  differ = λ e. omega arith;
  after_one = (letter.Element 2, 2) ∷ [];
  after_other = [];
  first_word = ((letter.Element 2, 1) ∷ [], (letter.Element 2, 2) ∷ [], refl, inr ((letter.Element 2, 1), (refl, refl), refl), ((letter.Element 2, 2), (refl, refl), refl));
  second_word = ([], (letter.Element 2, 2) ∷ [], refl, inl refl, ((letter.Element 2, 2), (refl, refl), refl));
}

whole : Words InRange hours (55 ∷ [])
whole = (55 ∷ [], [], refl, (55 ∷ [], [], refl, (55, (lit≤ tt, lit≤ tt), refl), done refl), inl refl)

half : Words InRange hours (55 ∷ (46 ∷ (53 ∷ (48 ∷ []))))
half = (
  55 ∷ [],
  46 ∷ (53 ∷ (48 ∷ [])),
  refl,
  (55 ∷ [], [], refl, (55, (lit≤ tt, lit≤ tt), refl), done refl),
  inr (46 ∷ (53 ∷ []), 48 ∷ [], refl, (46 ∷ [], 53 ∷ [], refl, (46, (lit≤ tt, lit≤ tt), refl), (53, (lit≤ tt, lit≤ tt), refl)), (48, (lit≤ tt, lit≤ tt), refl)),
)

-- Which atoms read a digit, and which the point.
digits_read : (x : ℕ) → 48 ≤ x → x ≤ 57 → (s : ℕ) → Agrees {A = ByteRange} {X = ℕ} (λ n. InRange) x s 26 (leaves hours) 0
digits_read x lo hi s n a (inl (e, is)) = (λ h. subst (λ r. InRange r x) is (lo, hi), λ h. subst (Has 26) (sym e) refl)
digits_read x lo hi s n a (inr (inl (e, is))) = (
  λ h. let k = subst (Has 26) e h in absurd (omega arith),
  λ h. let k = subst (λ r. InRange r x) (sym is) h in let u = k.1 in absurd (omega arith),
)
digits_read x lo hi s n a (inr (inr (inl (e, is)))) = (λ h. subst (λ r. InRange r x) is (lo, hi), λ h. subst (Has 26) (sym e) refl)
digits_read x lo hi s n a (inr (inr (inr (inl (e, is))))) = (λ h. subst (λ r. InRange r x) is (lo, hi), λ h. subst (Has 26) (sym e) refl)
digits_read x lo hi s n a (inr (inr (inr (inr h)))) = absurd h

point_read : (s : ℕ) → Agrees {A = ByteRange} {X = ℕ} (λ n. InRange) 46 s 4 (leaves hours) 0
point_read s n a (inl (e, is)) = (
  λ h. let k = subst (Has 4) e h in absurd (omega arith),
  λ h. let k = subst (λ r. InRange r 46) (sym is) h in let u = k.0 in absurd (omega arith),
)
point_read s n a (inr (inl (e, is))) = (λ h. subst (λ r. InRange r 46) is (lit≤ tt, lit≤ tt), λ h. subst (Has 4) (sym e) refl)
point_read s n a (inr (inr (inl (e, is)))) = (
  λ h. let k = subst (Has 4) e h in absurd (omega arith),
  λ h. let k = subst (λ r. InRange r 46) (sym is) h in let u = k.0 in absurd (omega arith),
)
point_read s n a (inr (inr (inr (inl (e, is))))) = (
  λ h. let k = subst (Has 4) e h in absurd (omega arith),
  λ h. let k = subst (λ r. InRange r 46) (sym is) h in let u = k.0 in absurd (omega arith),
)
point_read s n a (inr (inr (inr (inr h)))) = absurd h

-- After `7.5` the state is the third atom alone, and no word ends there.
not_half : Words InRange hours (55 ∷ (46 ∷ (53 ∷ []))) → ⊥
not_half h =
    let one = (left_step InRange 55 1 26 hours (value (derivation 1 26) 0 hours) (computed (λ n. InRange) 55 1 26 hours 0 (lit≤ tt) (digits_read 55 (lit≤ tt) (lit≤ tt) 1)) (46 ∷ (53 ∷ []))).0 (inl (refl, h)) in
    let two = (left_step InRange 46 2 4 hours (value (derivation 2 4) 0 hours) (computed (λ n. InRange) 46 2 4 hours 0 (lit≤ tt) (point_read 2)) (53 ∷ [])).0 (inr one) in
    let three = (left_step InRange 53 4 26 hours (value (derivation 4 26) 0 hours) (computed (λ n. InRange) 53 4 26 hours 0 (lit≤ tt) (digits_read 53 (lit≤ tt) (lit≤ tt) 4)) []).0 (inr two) in
    let ended : false ≡ true = (ends_computed (λ n. InRange) 8 0 hours 0).1 three in
    let z : ◌≡◌ {A = ℕ} 0 1 = cc in
    omega arith

pub worked : Worked
worked = record {
  week_nodes = refl;
  sheet_row = refl;
  note_row = refl;
  hours_row = refl;
  one_or_more_row = refl;
  title_row = refl;
  title_twice = title_twice;
  option_swallows = option_swallows;
  hours_whole = whole;
  hours_half = half;
  hours_not = not_half;
}
