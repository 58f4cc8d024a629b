use Rattle.std.proofs.Common.{length, ap, arith, length-take}
use Rattle.sealing.proofs.elements.numbers_of.Goals as goal

pub overflow_cast-result : goal.overflow_cast-result
overflow_cast-result c =
    omega (arith, ap length c.records_of.ensures, length-take 63 c.args.models.now)

pub overflow_add-result : goal.overflow_add-result
overflow_add-result c =
    omega (arith, ap length c.records_of.ensures, length-take 63 c.args.models.now)
