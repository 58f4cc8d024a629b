use Rattle.std.proofs.Common.{drop, rules}
use Rattle.scan.specs.Comments.{read_comment}
use Rattle.items.proofs.Answering.{comment_ended}
use Rattle.items.proofs.markup.comment.Goals as goal

pub returns : goal.returns
returns c =
    let text = c.args.text.now in
    comment_ended text c.args.at (read_comment (drop c.args.at text)) c.comment_end.result c.map.result c.comment_end.ensures (search rules)
