use Rattle.engine.specs.Trees.{end}
use Rattle.frames.specs.Meanings.{meaning}
use Rattle.sheet.specs.Histories.{send}
use Rattle.std.proofs.Common.{◌≡◌, Err, sym, subst, ◌∙◌, arith, rules}
use Rattle.sheet.proofs.Frames.{not_empty}
use Rattle.calls.specs.Replies.{refused}
use Rattle.calls.specs.declared.answer.Refusal.TheVariants.{NotUnderway}
use Rattle.sheet.specs.Stands.{Asked}
use Rattle.sheet.proofs.Steps.{has_top, end_offends, end_too_many, end_right}
use Rattle.sheet.proofs.sheet.Sheet.ask_end.Goals.{then-number-top-via-then-number-top, then-number-top-via-else-number-top+then-not-is_complete}
use Rattle.sheet.proofs.sheet.Sheet.ask_end.Goals as goal

pub returns-in_err-top : goal.returns-in_err-top
returns-in_err-top g c is =
    let M = meaning g.C.Engine g.V.Engine c.args.self.now.engines in
    let s = c.args.self.now.state in
    let answered : c.from_residual.result ≡ Err NotUnderway = search rules in
    subst (Asked M s (end c.args.number)) (sym answered) (λ calls st. has_top M s calls (send (end c.args.number)) (refused 34) is st (sym c.in_err-top.ensures.ok_part ∙ c.top.ensures.last))

pub returns-then-number-top : goal.returns-then-number-top
returns-then-number-top g c is calls st =
    let M = meaning g.C.Engine g.V.Engine c.args.self.now.engines in
    let s = c.args.self.now.state in
    end_offends M s calls c.in_ok-top.top is (sym c.in_ok-top.ensures.ok_part ∙ c.top.ensures.last) st c.args.number c.if-not-is_declared.ensures
    (λ same complete. elim c.then-number-top.branch [ then-number-top-via-then-number-top w ↦ w.if-number-top.true same | then-number-top-via-else-number-top+then-not-is_complete w ↦ w.if-not-is_complete.ensures complete ])

pub returns-then-self-ge-MAX_EVENTS : goal.returns-then-self-ge-MAX_EVENTS
returns-then-self-ge-MAX_EVENTS g c is calls st =
    let M = meaning g.C.Engine g.V.Engine c.args.self.now.engines in
    let s = c.args.self.now.state in
    end_too_many M s calls c.in_ok-top.top is (sym c.in_ok-top.ensures.ok_part ∙ c.top.ensures.last) st c.args.number c.if-not-is_declared.ensures (omega arith) c.if-not-is_complete.ensures (omega arith)

pub returns : goal.returns
returns g c is =
    let M = meaning g.C.Engine g.V.Engine c.args.self.now.engines in
    let s = c.args.self.now.state in
    ((omega arith, not_empty _ _ _ (sym c.in_ok-top.ensures.ok_part ∙ c.top.ensures.last)), λ calls st. end_right M s calls c.in_ok-top.top is (sym c.in_ok-top.ensures.ok_part ∙ c.top.ensures.last) st c.args.number c.if-not-is_declared.ensures (omega arith) c.if-not-is_complete.ensures (omega arith))
