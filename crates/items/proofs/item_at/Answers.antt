use Rattle.std.proofs.Common.{sym, ◌∙◌, subst, arith}
use Rattle.items.specs.Places.{ItemOf}
use Rattle.items.proofs.Choosing.{at_markup, at_reference, at_run, at_end}
use Rattle.items.proofs.item_at.Goals as goal

pub returns-in_err-peek : goal.returns-in_err-peek
returns-in_err-peek c =
    subst (ItemOf c.args.text.now c.args.at _) (sym c.from_residual.ensures) (at_end c.args.text.now c.args.at (sym c.in_err-peek.was ∙ c.peek.ensures))

pub returns-in-60 : goal.returns-in-60
returns-in-60 c = at_markup c.args.text.now c.args.at _ c.in_ok-peek.field-0 (sym c.in_ok-peek.was ∙ c.peek.ensures) c.in-60.is c.markup_at.ensures

pub returns-in-38 : goal.returns-in-38
returns-in-38 c = at_reference c.args.text.now c.args.at _ c.in_ok-peek.field-0 (sym c.in_ok-peek.was ∙ c.peek.ensures) c.in-38.is c.reference_at.ensures

pub returns-in_default : goal.returns-in_default
returns-in_default c =
    at_run c.args.text.now c.args.at _ c.in_ok-peek.field-0 (sym c.in_ok-peek.was ∙ c.peek.ensures) (λ e. omega (arith, e)) (λ e. omega (arith, e)) c.run_at.ensures
