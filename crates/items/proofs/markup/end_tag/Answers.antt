use Rattle.std.proofs.Common.{drop, codes, sym, subst, lit<}
use Rattle.scan.specs.Readings.{word}
use Rattle.items.specs.Places.{ItemOf}
use Rattle.items.specs.Readers.{end_opened}
use Rattle.items.proofs.Answering.{end_behind, end_unopened}
use Rattle.items.proofs.markup.end_tag.Goals as goal

pub returns-in_err-start : goal.returns-in_err-start
returns-in_err-start c =
    let text = c.args.text.now in
    let f = word (codes "</") (drop c.args.at text) in
    subst (ItemOf text c.args.at (end_opened f)) (sym c.from_residual.ensures)
    (end_unopened text c.args.at f (c.in_err-start.ensures.answer (lit< tt)))

pub returns : goal.returns
returns c =
    let text = c.args.text.now in
    end_behind text c.args.at c.in_ok-start.start (word (codes "</") (drop c.args.at text)) c.end_tag_named.result (c.in_ok-start.ensures.answer (lit< tt)) c.end_tag_named.ensures
