use Rattle.std.proofs.Common.{Some, subst, arith}
use Rattle.frames.specs.Asks.{OpensFrame}
use Rattle.frames.specs.Meanings.{meaning}
use Rattle.sheet.proofs.Steps.{root_right}
use Rattle.sheet.proofs.sheet.Sheet.ask_root.Goals as goal

pub returns : goal.returns
returns g c is =
    let M = meaning g.C.Engine g.V.Engine c.args.self.now.engines in
    let s = c.args.self.now.state in
    let opened : OpensFrame M c.args.number (Some c.in_ok-frame.frame) = subst (OpensFrame M c.args.number) c.in_ok-frame.ensures.ok_part c.open_frame.ensures in
    ((omega arith, tt), λ calls st. root_right M s calls c.args.number c.in_ok-frame.frame is (omega arith) (omega arith) opened st)
