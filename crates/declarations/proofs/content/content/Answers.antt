use Rattle.std.proofs.Common.{lit<}
use Rattle.declarations.specs.Answers.{numbered_names}
use Rattle.declarations.proofs.Wholes.{content_empty, content_else}
use Rattle.declarations.proofs.content.content.Goals as goal

pub returns-in_default-clause-read : goal.returns-in_default-clause-read
returns-in_default-clause-read c =
    let text = c.args.source.text.now in
    content_else text (numbered_names text c.args.source.entries.now) c.args.at c.args.model.now c.any_or_bracketed.result c.any_or_bracketed.new.model (c.in_default.ensures.answer (lit< tt)) c.any_or_bracketed.ensures.read

pub returns-clause-read : goal.returns-clause-read
returns-clause-read c =
    let text = c.args.source.text.now in
    content_empty text (numbered_names text c.args.source.entries.now) c.args.at c.args.model.now c.in-Some.end _ (c.in-Some.ensures.answer (lit< tt)) (c.put.ensures.wrote, c.put.ensures.told)
