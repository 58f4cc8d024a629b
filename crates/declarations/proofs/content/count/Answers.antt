use Rattle.std.proofs.Common.{take, arith, length-take}
use Rattle.declarations.proofs.Repeated.{names_length}
use Rattle.declarations.proofs.content.count.Goals as goal

pub returns : goal.returns
returns c text =
    let a = names_length text (take 63 c.args.entries.now) in
    let b = length-take 63 c.args.entries.now in
    omega arith
