use Rattle.std.proofs.Common.{sym, subst}
use Rattle.frames.specs.Meanings.{meaning}
use Rattle.sheet.specs.Said.{said}
use Rattle.sheet.specs.Stands.{Asked}
use Rattle.sheet.proofs.Steps.{ended_unwelcome}
use Rattle.sheet.proofs.sheet.Sheet.ask.Goals as goal

pub returns-in-Begun-Start : goal.returns-in-Begun-Start
returns-in-Begun-Start g c =
    let M = meaning g.C.Engine g.V.Engine c.args.self.now.engines in
    let s = c.args.self.now.state in
    subst (λ e. Asked M s (said e) c.ask_root.result) (sym c.in-Begun-Start.is-1) (c.ask_root.ensures c.in-Begun-Start.is-0)

pub returns-in-Open-Start : goal.returns-in-Open-Start
returns-in-Open-Start g c =
    let M = meaning g.C.Engine g.V.Engine c.args.self.now.engines in
    let s = c.args.self.now.state in
    subst (λ e. Asked M s (said e) c.ask_child.result) (sym c.in-Open-Start.is-1) (c.ask_child.ensures c.in-Open-Start.is-0)

pub returns-in-Open-Text : goal.returns-in-Open-Text
returns-in-Open-Text g c =
    let M = meaning g.C.Engine g.V.Engine c.args.self.now.engines in
    let s = c.args.self.now.state in
    subst (λ e. Asked M s (said e) c.ask_text.result) (sym c.in-Open-Text.is-1) (c.ask_text.ensures c.in-Open-Text.is-0)

pub returns-in-Open-End : goal.returns-in-Open-End
returns-in-Open-End g c =
    let M = meaning g.C.Engine g.V.Engine c.args.self.now.engines in
    let s = c.args.self.now.state in
    subst (λ e. Asked M s (said e) c.ask_end.result) (sym c.in-Open-End.is-1) (c.ask_end.ensures c.in-Open-End.is-0)

pub returns-in-Ended-default : goal.returns-in-Ended-default
returns-in-Ended-default g c calls st =
    let M = meaning g.C.Engine g.V.Engine c.args.self.now.engines in
    let s = c.args.self.now.state in
    ended_unwelcome M s calls (said c.args.event) c.unwelcome-in-Ended-default.result c.in-Ended-default.is-0 c.unwelcome-in-Ended-default.ensures st
