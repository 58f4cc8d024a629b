use Rattle.scan.proofs.Fronts.{first_compared}
use Rattle.scan.proofs.bytes.byte_is.Goals as goal

pub returns : goal.returns
returns c = first_compared c.args.byte c.args.text.now c.args.at c.peek.result c.eq.result c.peek.ensures c.eq.ensures
