use Rattle.std.proofs.Common.{arith}
use Rattle.frames.specs.Meanings.{meaning}
use Rattle.cases.proofs.Slices.{told_laid}
use Rattle.cases.proofs.lists.play_known.Goals as goal

pub returns : goal.returns
returns g c said right is known =
    let M = meaning g.C.Engine g.V.Engine c.args.engines in
    told_laid M.contents M.values c.args.calls.now said right
    c.args.answers.now c.play.new.answers c.play.result is known c.play.ensures.answer (omega arith) c.play.ensures.same c.play.ensures.law
