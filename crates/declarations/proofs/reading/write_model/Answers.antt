use Rattle.std.proofs.Common.{sym, ◌∙◌, rules}
use Rattle.declarations.specs.Answers.{numbered_names}
use Rattle.declarations.proofs.Heads.{model_past, model_none, model_some}
use Rattle.declarations.proofs.reading.write_model.Goals as goal

pub returns-then-used-nodes : goal.returns-then-used-nodes
returns-then-used-nodes c =
    let text = c.args.text.now in
    model_past text (numbered_names text c.args.entries.now) c.args.at c.args.nodes.now c.args.used c.if-used-nodes.true

pub returns-then-is_some : goal.returns-then-is_some
returns-then-is_some c =
    let text = c.args.text.now in
    let some = model_some text (numbered_names text c.args.entries.now) c.args.at c.new-model.result c.declaration_at.result c.declaration.result c.declaration.new.model (sym c.is_some.ensures ∙ c.if-is_some.true) c.declaration_at.ensures c.declaration.ensures.read in
    search (rules, some)

pub returns-else-is_some : goal.returns-else-is_some
returns-else-is_some c =
    let text = c.args.text.now in
    model_none text (numbered_names text c.args.entries.now) c.args.at c.args.nodes.now c.args.used c.declaration_at.result (sym c.is_some.ensures ∙ c.if-is_some.false) c.declaration_at.ensures
