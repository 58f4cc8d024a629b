use Rattle.std.proofs.Common.{[], ◌∷◌, sym, subst}
use Rattle.engine.specs.Languages.{Answers, residue}
use Rattle.limits.specs.Nest.{NestLeft}
use Rattle.limits.proofs.Nesting.{child_after}
use Rattle.limits.proofs.nest.NestEngine.step.Goals as goal

pub returns-in-Element : goal.returns-in-Element
returns-in-Element c =
    let n = c.args.number in
    let s = c.args.state in
    subst (λ a. Answers (residue (NestLeft n s) (a ∷ [])) (NestLeft n) c.open.result) (sym c.in-Element.is)
    (child_after n s c.in-Element.child c.open.result c.if-number-ne-NEST.false c.if-state-ne-ANYTHING.false c.open.ensures.answer)
