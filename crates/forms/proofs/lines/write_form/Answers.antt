use Rattle.std.proofs.Common.{sym, ◌∙◌, rules}
use Rattle.forms.proofs.Lining.{form_past, form_none, form_some}
use Rattle.forms.proofs.lines.write_form.Goals as goal

pub returns-then-used-nodes : goal.returns-then-used-nodes
returns-then-used-nodes c = form_past c.args.text.now c.args.at c.args.nodes.now c.args.used c.if-used-nodes.true

pub returns-then-is_some : goal.returns-then-is_some
returns-then-is_some c =
    let some = form_some c.args.text.now c.args.at c.new.result c.form_at.result c.line.result c.line.new.writer (sym c.is_some.ensures ∙ c.if-is_some.true) c.form_at.ensures c.line.ensures.read in
    search (rules, some)

pub returns-else-is_some : goal.returns-else-is_some
returns-else-is_some c =
    form_none c.args.text.now c.args.at c.args.nodes.now c.args.used c.form_at.result (sym c.is_some.ensures ∙ c.if-is_some.false) c.form_at.ensures
