use Rattle.limits.proofs.Nesting.{nests_law, never_plain}
use Rattle.limits.proofs.nest.NestContent.plain.Goals as goal

pub returns : goal.returns
returns c = record { answer = never_plain c.args._number; law = nests_law }
