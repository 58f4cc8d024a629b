use Rattle.std.proofs.Common.{lit<}
use Rattle.declarations.specs.Answers.{numbered_names}
use Rattle.declarations.proofs.Wholes.{content_any, content_bracketed}
use Rattle.declarations.proofs.content.any_or_bracketed.Goals as goal

pub returns-in_default-clause-read : goal.returns-in_default-clause-read
returns-in_default-clause-read c =
    let text = c.args.source.text.now in
    content_bracketed text (numbered_names text c.args.source.entries.now) c.args.at c.args.model.now c.bracketed.result c.bracketed.new.model (c.in_default.ensures.answer (lit< tt)) c.bracketed.ensures.read

pub returns-clause-read : goal.returns-clause-read
returns-clause-read c =
    let text = c.args.source.text.now in
    content_any text (numbered_names text c.args.source.entries.now) c.args.at c.args.model.now c.in-Some.end c.put.new.self c.put-2.new.self c.count.result (c.in-Some.ensures.answer (lit< tt)) (c.count.ensures text) (c.put.ensures.wrote, c.put.ensures.told) (c.put-2.ensures.wrote, c.put-2.ensures.told)
