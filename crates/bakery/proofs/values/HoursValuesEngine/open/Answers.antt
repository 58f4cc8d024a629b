use Rattle.std.proofs.Common.{sym, subst}
use Rattle.std.proofs.lemmas.Bool.Decides.{Decides-eqb}
use Rattle.engine.specs.Languages.{Answers}
use Rattle.bakery.specs.Values.{Reads}
use Rattle.bakery.specs.Rests.{ValueLeft}
use Rattle.bakery.proofs.ValueMoves.{opened, all_real}
use Rattle.bakery.proofs.values.HoursValuesEngine.open.Goals as goal

pub returns-clause-answer : goal.returns-clause-answer
returns-clause-answer c = subst (Answers (Reads c.args.number) ValueLeft) (sym c.then_some.ensures) (opened c.args.number _ (Decides-eqb c.args.number 5))

pub returns-clause-real : goal.returns-clause-real
returns-clause-real c = all_real c.args.number
