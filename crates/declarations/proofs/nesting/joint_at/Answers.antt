use Rattle.std.proofs.Common.{true, false, drop, sym, ap, ◌∙◌}
use Rattle.declarations.proofs.Groups.{joint_is}
use Rattle.declarations.proofs.Stages.{comes}
use Rattle.declarations.proofs.nesting.joint_at.Goals as goal

pub returns-then-byte_is : goal.returns-then-byte_is
returns-then-byte_is c =
    let text = c.args.text.now in
    sym (joint_is (drop c.args.at text) true (ap (comes 124) (sym c.skip_blanks.ensures.behind) ∙ ap (λ k. comes k (drop c.skip_blanks.result text)) (sym c.sign.ensures) ∙ sym c.byte_is.ensures ∙ c.if-byte_is.true))

pub returns-else-byte_is : goal.returns-else-byte_is
returns-else-byte_is c =
    let text = c.args.text.now in
    sym (joint_is (drop c.args.at text) false (ap (comes 124) (sym c.skip_blanks.ensures.behind) ∙ ap (λ k. comes k (drop c.skip_blanks.result text)) (sym c.sign.ensures) ∙ sym c.byte_is.ensures ∙ c.if-byte_is.false))
