use Rattle.std.proofs.Common.{◌+◌, ◌-◌, ◌<◌, ◌++◌, length, take, drop, sym, refl, ap, ◌∙◌, subst, arith}
use Rattle.std.proofs.lemmas.List.Edits.{paste_all}
use Rattle.std.proofs.lemmas.Slice.{put_mid-paste}
use Rattle.line.specs.Placed.{Put, short}
use Rattle.line.specs.Reached.{reached}
use Rattle.line.proofs.Pieces.{standing}
use Rattle.line.proofs.put.Writer.put_bytes.Goals as goal

pub returns-in_err-next-clause-written : goal.returns-in_err-next-clause-written
returns-in_err-next-clause-written c =
    let bytes = c.args.bytes.now in
    let writer = c.args.self.now in
    let less : length writer.out.now < writer.at + length bytes = omega (arith, c.in_err-next.ensures) in
    subst (λ r. Put bytes writer.out.now writer.at writer.out.now (reached writer r)) (sym c.from_residual.ensures) (short less)

pub returns-then-next-self-clause-written : goal.returns-then-next-self-clause-written
returns-then-next-self-clause-written c = short (omega (arith, c.in_ok-next.ensures.1))

pub returns-clause-written : goal.returns-clause-written
returns-clause-written c =
    let at = c.args.self.now.at in
    let bytes = c.args.bytes.now in
    let out = c.args.self.now.out.now in
    let next = c.in_ok-next.next in
    let far = c.in_ok-next.ensures.1 in
    standing bytes out _ at next far c.if-next-self.false
    (put_mid-paste at (next - at) out c.copy_from_slice.new.self bytes (length bytes) c.copy_from_slice.ensures.after (omega (arith, far)) refl
    ∙ paste_all out at bytes (length bytes) refl ∙ ap (λ n. take at out ++ (bytes ++ drop n out)) (sym far))
