use Rattle.std.proofs.Common.{sym, ap, ◌∙◌, rules}
use Rattle.declarations.proofs.Parts.{mark_of, mark_nowhere, mark_peeked, no_mark}
use Rattle.declarations.proofs.marks.mark_at.Goals as goal

pub returns-in_err-peek : goal.returns-in_err-peek
returns-in_err-peek c =
    c.from_residual.ensures ∙ sym (mark_nowhere c.args.text.now c.args.at (sym c.in_err-peek.was ∙ c.peek.ensures))

pub returns-in-63 : goal.returns-in-63
returns-in-63 c =
    sym (mark_peeked c.args.text.now c.args.at c.in_ok-peek.field-0 (sym c.in_ok-peek.was ∙ c.peek.ensures) ∙ ap mark_of c.in-63.is)

pub returns-in-42 : goal.returns-in-42
returns-in-42 c =
    sym (mark_peeked c.args.text.now c.args.at c.in_ok-peek.field-0 (sym c.in_ok-peek.was ∙ c.peek.ensures) ∙ ap mark_of c.in-42.is)

pub returns-in-43 : goal.returns-in-43
returns-in-43 c =
    sym (mark_peeked c.args.text.now c.args.at c.in_ok-peek.field-0 (sym c.in_ok-peek.was ∙ c.peek.ensures) ∙ ap mark_of c.in-43.is)

pub returns-in_default : goal.returns-in_default
returns-in_default c =
    let b = c.in_ok-peek.field-0 in
    sym (mark_peeked c.args.text.now c.args.at b (sym c.in_ok-peek.was ∙ c.peek.ensures) ∙ no_mark b (search rules) (search rules) (search rules))
