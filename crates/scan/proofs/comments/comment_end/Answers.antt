use Rattle.std.proofs.Common.{drop, codes, sym, subst, lit<}
use Rattle.scan.specs.Comments.{read_comment}
use Rattle.scan.specs.Readings.{word, EndOf}
use Rattle.scan.proofs.Remarks.{opened, unopened}
use Rattle.scan.proofs.comments.comment_end.Goals as goal

pub returns-in_err-inside : goal.returns-in_err-inside
returns-in_err-inside c =
    subst (EndOf c.args.text.now c.args.at (read_comment (drop c.args.at c.args.text.now))) (sym c.from_residual.ensures)
    (unopened c.args.text.now c.args.at (word (codes "<!--") (drop c.args.at c.args.text.now)) (c.in_err-inside.ensures.answer (lit< tt)))

pub returns : goal.returns
returns c =
    opened c.args.text.now c.args.at c.in_ok-inside.inside (word (codes "<!--") (drop c.args.at c.args.text.now)) c.comment_rest_end.result (c.in_ok-inside.ensures.answer (lit< tt)) c.comment_rest_end.ensures
