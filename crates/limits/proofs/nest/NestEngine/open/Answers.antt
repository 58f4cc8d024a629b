use Rattle.std.specs.Bool.{Decides, then_some}
use mathlib.Core.Bool.{true≢false}
use Rattle.std.proofs.Common.{◌≡◌, ℕ, Bool, true, false, List, [], ◌∷◌, refl, sym, subst}
use Rattle.std.proofs.lemmas.Bool.Decides.{Decides-eqb}
use Rattle.engine.specs.Languages.{Answers, Each}
use Rattle.engine.specs.declared.alphabet.Letter.{Letter}
use Rattle.limits.specs.Nest.{Nests, NestLeft}
use Rattle.limits.proofs.nest.NestEngine.open.Goals as goal

every : (w : List Letter) → Each (λ _. Unit {0}) w
every [] = tt
every (a ∷ w) = (tt, every w)

-- The element of number 1 opens, and no other.
opened : (n : ℕ) (b : Bool) → Decides b (n ≡ 1) → Answers (Nests n) (NestLeft n) (then_some b 0)
opened n true told = (([], (told.0 refl, tt)), λ w. ((λ h. h.1), (λ h. (refl, h))))
opened n false told = λ w h. absurd (true≢false (sym (told.1 h.0)))

pub returns-clause-answer : goal.returns-clause-answer
returns-clause-answer c = subst (Answers (Nests c.args.number) (NestLeft c.args.number)) (sym c.then_some.ensures) (opened c.args.number _ (Decides-eqb c.args.number 1))

pub returns-clause-real : goal.returns-clause-real
returns-clause-real c = λ w h. every w
