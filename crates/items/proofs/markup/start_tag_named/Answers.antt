use Rattle.std.proofs.Common.{◌≤◌, drop, sym, subst, arith}
use Rattle.scan.specs.Names.{read_name}
use Rattle.items.specs.Places.{ItemOf}
use Rattle.items.specs.Readers.{start_named}
use Rattle.items.proofs.Answering.{start_closed, start_unnamed, end_forward}
use Rattle.items.proofs.markup.start_tag_named.Goals as goal

pub returns-in_err-end : goal.returns-in_err-end
returns-in_err-end c =
    let text = c.args.text.now in
    let f = read_name (drop c.args.start text) in
    subst (ItemOf text c.args.start (start_named f)) (sym c.from_residual.ensures)
    (start_unnamed text c.args.start f c.in_err-end.ensures.answer)

pub returns : goal.returns
returns c =
    let text = c.args.text.now in
    let f = read_name (drop c.args.start text) in
    let forward : c.args.start ≤ c.in_ok-end.end = end_forward text c.args.start c.in_ok-end.end f c.in_ok-end.ensures.answer in
    let behind : c.in_ok-end.end ≤ c.skip_blanks.result = c.skip_blanks.ensures.forward in
    start_closed text c.args.start c.in_ok-end.end c.skip_blanks.result f c.start_tag_closed.result c.in_ok-end.ensures.name c.skip_blanks.ensures.behind (omega arith) c.start_tag_closed.ensures
