use Rattle.std.proofs.Common.{lit<, rules}
use Rattle.items.proofs.Answering.{first_answer}
use Rattle.items.proofs.markup.start_tag_closed.Goals as goal

pub returns : goal.returns
returns c = first_answer c.args.text.now c.args.at _ _ c.closed_with-start.result c.or_else.result (c.closed_with-start.ensures (lit< tt)) (search rules)
