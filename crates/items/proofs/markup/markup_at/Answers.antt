use Rattle.std.proofs.Common.{drop, codes, rules}
use Rattle.scan.specs.Comments.{read_comment}
use Rattle.scan.specs.Readings.{word}
use Rattle.items.specs.Places.{ItemOf}
use Rattle.items.specs.Readers.{first_of, commented, end_opened, start_opened}
use Rattle.items.proofs.Answering.{first_answer, first_regrouped}
use Rattle.items.proofs.markup.markup_at.Goals as goal

pub returns : goal.returns
returns c =
    let text = c.args.text.now in
    let t = drop c.args.at text in
    let f = commented (read_comment t) in
    let g = end_opened (word (codes "</") t) in
    let h = start_opened (word (codes "<") t) in
    let two : ItemOf text c.args.at (first_of f g) c.or_else.result = first_answer text c.args.at f g c.comment.result c.or_else.result c.comment.ensures (search rules) in
    first_regrouped text c.args.at f g h c.or_else-2.result (first_answer text c.args.at (first_of f g) h c.or_else.result c.or_else-2.result two (search rules))
