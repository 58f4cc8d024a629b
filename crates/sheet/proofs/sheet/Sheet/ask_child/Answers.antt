use Rattle.calls.specs.Replies.{refused}
use Rattle.calls.specs.declared.answer.Refusal.TheVariants.{NotUnderway, Offending}
use Rattle.engine.specs.Trees.{start}
use Rattle.engine.specs.declared.alphabet.Letter.TheVariants.{Element}
use Rattle.frames.specs.Asks.{OpensFrame, ReadsLetter}
use Rattle.frames.specs.Meanings.{meaning}
use Rattle.sheet.specs.Histories.{send}
use Rattle.sheet.specs.Stands.{Asked}
use Rattle.sheet.specs.States.{depth}
use Rattle.std.proofs.Common.{◌≡◌, ◌<◌, Some, Err, sym, subst, ◌∙◌, arith, rules}
use Rattle.sheet.proofs.Frames.{full, not_full, not_empty}
use Rattle.sheet.proofs.Steps.{has_top, child_offends, child_too_deep, child_too_many, child_right}
use Rattle.sheet.proofs.sheet.Sheet.ask_child.Goals as goal

pub returns-in_err-top : goal.returns-in_err-top
returns-in_err-top g c is =
    let M = meaning g.C.Engine g.V.Engine c.args.self.now.engines in
    let s = c.args.self.now.state in
    let answered : c.from_residual-in_err-top.result ≡ Err NotUnderway = search rules in
    subst (Asked M s (start c.args.number)) (sym answered) (λ calls st. has_top M s calls (send (start c.args.number)) (refused 34) is st (sym c.in_err-top.ensures.ok_part ∙ c.top.ensures.last))

pub returns-in_err-parent : goal.returns-in_err-parent
returns-in_err-parent g c is =
    let M = meaning g.C.Engine g.V.Engine c.args.self.now.engines in
    let s = c.args.self.now.state in
    let opened : OpensFrame M c.args.number (Some c.in_ok-child.child) = subst (OpensFrame M c.args.number) c.in_ok-child.ensures.ok_part c.open_frame.ensures in
    let last = sym c.in_ok-top.ensures.ok_part ∙ c.top.ensures.last in
    let answered : c.from_residual-in_err-parent.result ≡ Err Offending = search rules in
    subst (Asked M s (start c.args.number)) (sym answered) (λ calls st. child_offends M s calls c.in_ok-top.top is last st c.args.number opened.1.0 (subst (ReadsLetter M c.in_ok-top.top (Element c.args.number)) c.in_err-parent.ensures.ok_part c.read_letter.ensures))

pub returns-then-is_full : goal.returns-then-is_full
returns-then-is_full g c is calls st =
    let M = meaning g.C.Engine g.V.Engine c.args.self.now.engines in
    let s = c.args.self.now.state in
    let opened : OpensFrame M c.args.number (Some c.in_ok-child.child) = subst (OpensFrame M c.args.number) c.in_ok-child.ensures.ok_part c.open_frame.ensures in
    let last = sym c.in_ok-top.ensures.ok_part ∙ c.top.ensures.last in
    let read : ReadsLetter M c.in_ok-top.top (Element c.args.number) (Some c.in_ok-parent.parent) = subst (ReadsLetter M c.in_ok-top.top (Element c.args.number)) c.in_ok-parent.ensures.ok_part c.read_letter.ensures in
    child_too_deep M s calls c.in_ok-top.top is last st c.args.number c.in_ok-parent.parent c.in_ok-child.child opened read (full _ _ c.is_full.ensures.value c.if-is_full.true)

pub returns-then-self-ge-MAX_EVENTS : goal.returns-then-self-ge-MAX_EVENTS
returns-then-self-ge-MAX_EVENTS g c is calls st =
    let M = meaning g.C.Engine g.V.Engine c.args.self.now.engines in
    let s = c.args.self.now.state in
    let opened : OpensFrame M c.args.number (Some c.in_ok-child.child) = subst (OpensFrame M c.args.number) c.in_ok-child.ensures.ok_part c.open_frame.ensures in
    let last = sym c.in_ok-top.ensures.ok_part ∙ c.top.ensures.last in
    let read : ReadsLetter M c.in_ok-top.top (Element c.args.number) (Some c.in_ok-parent.parent) = subst (ReadsLetter M c.in_ok-top.top (Element c.args.number)) c.in_ok-parent.ensures.ok_part c.read_letter.ensures in
    child_too_many M s calls c.in_ok-top.top is last st c.args.number c.in_ok-parent.parent c.in_ok-child.child opened read
    (not_full _ _ c.is_full.ensures.value c.is_full.ensures.fits c.if-is_full.false) (omega arith)

pub returns : goal.returns
returns g c is =
    let M = meaning g.C.Engine g.V.Engine c.args.self.now.engines in
    let s = c.args.self.now.state in
    let opened : OpensFrame M c.args.number (Some c.in_ok-child.child) = subst (OpensFrame M c.args.number) c.in_ok-child.ensures.ok_part c.open_frame.ensures in
    let last = sym c.in_ok-top.ensures.ok_part ∙ c.top.ensures.last in
    let read : ReadsLetter M c.in_ok-top.top (Element c.args.number) (Some c.in_ok-parent.parent) = subst (ReadsLetter M c.in_ok-top.top (Element c.args.number)) c.in_ok-parent.ensures.ok_part c.read_letter.ensures in
    let shallow : depth s < 64 = not_full _ _ c.is_full.ensures.value c.is_full.ensures.fits c.if-is_full.false in (
      (omega arith, (not_empty _ _ _ last, shallow)),
      λ calls st. child_right M s calls c.in_ok-top.top is last st c.args.number c.in_ok-parent.parent c.in_ok-child.child opened read shallow (omega arith),
    )
