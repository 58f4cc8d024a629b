use Rattle.bits.proofs.Sets.{has_or}
use Rattle.bits.proofs.union.Goals as goal

pub returns : goal.returns
returns c = has_or c.args.a c.args.b
