use Rattle.std.proofs.Common.{take, ap, ◌∙◌}
use Rattle.sealing.proofs.Firsts.{take_fewer}
use Rattle.sealing.proofs.elements.records_of.Goals as goal

pub returns : goal.returns
returns c = ap (λ n. take n c.args.models.now) c.min.ensures ∙ take_fewer 63 c.args.models.now
