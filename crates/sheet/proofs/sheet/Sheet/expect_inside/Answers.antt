use Rattle.sheet.proofs.Expecting.{expects_inside, expects_top}
use Rattle.frames.specs.Meanings.{meaning}
use Rattle.sheet.proofs.sheet.Sheet.expect_inside.Goals as goal

pub returns-in_default : goal.returns-in_default
returns-in_default g c is calls st =
    let M = meaning g.C.Engine g.V.Engine c.args.self.now.engines in
    let s = c.args.self.now.state in
    expects_top M s calls is st c.in_default.ensures.last

pub returns : goal.returns
returns g c is calls st =
    let M = meaning g.C.Engine g.V.Engine c.args.self.now.engines in
    let s = c.args.self.now.state in
    expects_inside M s calls c.in-Some.top is c.in-Some.ensures.last st c.next_letters.result c.is_complete.result
    c.next_letters.ensures.text c.next_letters.ensures.starts c.is_complete.ensures
