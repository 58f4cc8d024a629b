use Rattle.std.proofs.Common.{drop, codes, sym, subst, lit<}
use Rattle.scan.specs.Readings.{word}
use Rattle.items.specs.Places.{ItemOf}
use Rattle.items.specs.Readers.{start_opened}
use Rattle.items.proofs.Answering.{start_behind, start_unopened}
use Rattle.items.proofs.markup.start_tag.Goals as goal

pub returns-in_err-start : goal.returns-in_err-start
returns-in_err-start c =
    let text = c.args.text.now in
    let f = word (codes "<") (drop c.args.at text) in
    subst (ItemOf text c.args.at (start_opened f)) (sym c.from_residual.ensures)
    (start_unopened text c.args.at f (c.in_err-start.ensures.answer (lit< tt)))

pub returns : goal.returns
returns c =
    let text = c.args.text.now in
    start_behind text c.args.at c.in_ok-start.start (word (codes "<") (drop c.args.at text)) c.start_tag_named.result (c.in_ok-start.ensures.answer (lit< tt)) c.start_tag_named.ensures
