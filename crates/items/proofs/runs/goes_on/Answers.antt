use Rattle.std.proofs.Common.{not, rules}
use Rattle.scan.proofs.Fronts.{first_asked}
use Rattle.items.specs.Grammar.{is_markup}
use Rattle.items.proofs.runs.goes_on.Goals as goal

pub returns : goal.returns
returns c = first_asked (λ b. not (is_markup b)) c.args.text.now c.args.at c.peek.result c.is_some_and.result c.peek.ensures (search rules)
