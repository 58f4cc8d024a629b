use Rattle.bits.proofs.Sets.{has_and}
use Rattle.bits.proofs.meet.Goals as goal

pub returns : goal.returns
returns c = has_and c.args.a c.args.b
