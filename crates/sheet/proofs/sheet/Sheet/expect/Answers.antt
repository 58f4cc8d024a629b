use Rattle.frames.specs.Meanings.{meaning}
use Rattle.sheet.proofs.Expecting.{expects_root, expects_ended, open_underway}
use Rattle.sheet.proofs.sheet.Sheet.expect.Goals as goal

pub returns-in-Begun : goal.returns-in-Begun
returns-in-Begun g c calls st =
    let M = meaning g.C.Engine g.V.Engine c.args.self.now.engines in
    let s = c.args.self.now.state in
    expects_root M s calls c.with-set.result c.in-Begun.is c.with-set.ensures.added c.with-set.ensures.others st

pub returns-in-Open : goal.returns-in-Open
returns-in-Open g c calls st =
    let M = meaning g.C.Engine g.V.Engine c.args.self.now.engines in
    let s = c.args.self.now.state in
    (open_underway M s calls c.in-Open.is st, c.expect_inside.ensures c.in-Open.is calls st)

pub returns-in-Ended : goal.returns-in-Ended
returns-in-Ended g c calls st =
    let M = meaning g.C.Engine g.V.Engine c.args.self.now.engines in
    let s = c.args.self.now.state in
    expects_ended M s calls c.in-Ended.is st
