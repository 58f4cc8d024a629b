use Rattle.std.proofs.Common.{drop, sym, subst, lit<}
use Rattle.scan.specs.Comments.{comment_rest}
use Rattle.scan.specs.Readings.{EndOf}
use Rattle.scan.proofs.Remarks.{end_nowhere, end_closing}
use Rattle.scan.proofs.comments.comment_rest_end.Goals as goal

pub returns-in_err-stop : goal.returns-in_err-stop
returns-in_err-stop c =
    subst (EndOf c.args.text.now c.args.at (comment_rest (drop c.args.at c.args.text.now))) (sym c.from_residual.ensures) (end_nowhere c.args.text.now c.args.at c.in_err-stop.ensures)

pub returns : goal.returns
returns c = end_closing c.args.text.now c.args.at c.in_ok-stop.stop c.word_end.result c.in_ok-stop.ensures (c.word_end.ensures.answer (lit< tt))
