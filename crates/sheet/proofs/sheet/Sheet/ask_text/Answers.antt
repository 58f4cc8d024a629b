use Rattle.calls.specs.Replies.{refused}
use Rattle.calls.specs.declared.answer.Refusal.TheVariants.{NotUnderway, Offending}
use Rattle.engine.specs.Trees.{text}
use Rattle.frames.specs.Asks.{ReadsText}
use Rattle.frames.specs.Meanings.{meaning}
use Rattle.sheet.specs.Histories.{send}
use Rattle.sheet.specs.Stands.{Asked}
use Rattle.std.proofs.Common.{◌≡◌, Some, Err, sym, subst, ◌∙◌, arith, rules}
use Rattle.sheet.proofs.Frames.{not_empty}
use mir.Facts.{Fits-lt-pow}
use Rattle.sheet.proofs.Letters.{each_byte, has_byte}
use Rattle.sheet.proofs.Steps.{has_top, text_offends, text_too_many, text_right}
use Rattle.sheet.proofs.sheet.Sheet.ask_text.Goals as goal

pub returns-in_err-top : goal.returns-in_err-top
returns-in_err-top g c is =
    let M = meaning g.C.Engine g.V.Engine c.args.self.now.engines in
    let s = c.args.self.now.state in
    let answered : c.from_residual.result ≡ Err NotUnderway = search rules in
    subst (Asked M s (text c.args.bytes.now)) (sym answered) (λ calls st. has_top M s calls (send (text c.args.bytes.now)) (refused 34) is st (sym c.in_err-top.ensures.ok_part ∙ c.top.ensures.last))

pub returns-in_err-frame : goal.returns-in_err-frame
returns-in_err-frame g c is =
    let M = meaning g.C.Engine g.V.Engine c.args.self.now.engines in
    let s = c.args.self.now.state in
    let last = sym c.in_ok-top.ensures.ok_part ∙ c.top.ensures.last in
    let answered : c.from_residual-in_err-frame.result ≡ Err Offending = search rules in
    subst (Asked M s (text c.args.bytes.now)) (sym answered) (λ calls st. text_offends M s calls c.in_ok-top.top is last st c.args.bytes.now (has_byte _ _ c.is_empty.ensures c.if-is_empty.false) (subst (ReadsText M c.in_ok-top.top c.args.bytes.now) c.in_err-frame.ensures.ok_part c.read_text.ensures))

pub returns-then-self-ge-MAX_EVENTS : goal.returns-then-self-ge-MAX_EVENTS
returns-then-self-ge-MAX_EVENTS g c is calls st =
    let M = meaning g.C.Engine g.V.Engine c.args.self.now.engines in
    let s = c.args.self.now.state in
    let last = sym c.in_ok-top.ensures.ok_part ∙ c.top.ensures.last in
    let read : ReadsText M c.in_ok-top.top c.args.bytes.now (Some c.in_ok-frame.frame) = subst (ReadsText M c.in_ok-top.top c.args.bytes.now) c.in_ok-frame.ensures.ok_part c.read_text.ensures in
    text_too_many M s calls c.in_ok-top.top is last st c.args.bytes.now c.in_ok-frame.frame (has_byte _ _ c.is_empty.ensures c.if-is_empty.false) (each_byte _ (λ i. Fits-lt-pow (c.type_inv.bytes i))) read (omega arith)

pub returns : goal.returns
returns g c is =
    let M = meaning g.C.Engine g.V.Engine c.args.self.now.engines in
    let s = c.args.self.now.state in
    let last = sym c.in_ok-top.ensures.ok_part ∙ c.top.ensures.last in
    let read : ReadsText M c.in_ok-top.top c.args.bytes.now (Some c.in_ok-frame.frame) = subst (ReadsText M c.in_ok-top.top c.args.bytes.now) c.in_ok-frame.ensures.ok_part c.read_text.ensures in
    ((omega arith, (not_empty _ _ _ last, c.top.ensures.fits)), λ calls st. text_right M s calls c.in_ok-top.top is last st c.args.bytes.now c.in_ok-frame.frame (has_byte _ _ c.is_empty.ensures c.if-is_empty.false) (each_byte _ (λ i. Fits-lt-pow (c.type_inv.bytes i))) read (omega arith))
