use Rattle.std.proofs.Common.{◌<◌, drop, lit<}
use Rattle.scan.specs.Names.{read_name}
use Rattle.scan.proofs.Ends.{end_got}
use Rattle.forms.proofs.Lining.{no_line, no_bracket, no_name, no_space, no_shape, no_end, lined}
use Rattle.forms.proofs.lines.line.Goals as goal

one : 0 < 1
one = lit< tt

two : 0 < 2
two = lit< tt

pub returns-in_err-start-clause-read : goal.returns-in_err-start-clause-read
returns-in_err-start-clause-read c =
    let text = c.args.text.now in
    let at = c.args.at in
    no_line text at c.args.writer.now c.from_residual.result c.args.writer.now c.from_residual.ensures (no_bracket text at (c.in_err-start.ensures.answer one))

pub returns-in_err-end-clause-read : goal.returns-in_err-end-clause-read
returns-in_err-end-clause-read c =
    let text = c.args.text.now in
    let at = c.args.at in
    no_line text at c.args.writer.now c.from_residual-in_err-end.result c.args.writer.now c.from_residual-in_err-end.ensures
    (no_name text at c.in_ok-start.start (c.in_ok-start.ensures.answer one) c.in_err-end.ensures.answer)

pub returns-in_err-shape-clause-read : goal.returns-in_err-shape-clause-read
returns-in_err-shape-clause-read c =
    let text = c.args.text.now in
    let at = c.args.at in
    no_line text at c.args.writer.now c.from_residual-in_err-shape.result c.args.writer.now c.from_residual-in_err-shape.ensures
    (no_space text at c.in_ok-start.start (c.in_ok-start.ensures.answer one) c.in_ok-end.end c.in_ok-end.ensures.name (c.in_err-shape.ensures.answer one))

pub returns-in_err-bracket-clause-read : goal.returns-in_err-bracket-clause-read
returns-in_err-bracket-clause-read c =
    let text = c.args.text.now in
    let at = c.args.at in
    no_line text at c.args.writer.now c.from_residual-in_err-bracket.result c.expression.new.writer c.from_residual-in_err-bracket.ensures
    (no_shape text at c.in_ok-start.start (c.in_ok-start.ensures.answer one) c.in_ok-end.end c.in_ok-end.ensures.name c.in_ok-shape.shape (c.in_ok-shape.ensures.answer one) c.in_err-bracket.ensures.read)

pub returns-in_err-behind-clause-read : goal.returns-in_err-behind-clause-read
returns-in_err-behind-clause-read c =
    let text = c.args.text.now in
    let at = c.args.at in
    no_line text at c.args.writer.now c.from_residual-in_err-behind.result c.expression.new.writer c.from_residual-in_err-behind.ensures
    (no_end text at c.in_ok-start.start (c.in_ok-start.ensures.answer one) c.in_ok-end.end c.in_ok-end.ensures.name c.in_ok-shape.shape (c.in_ok-shape.ensures.answer one) c.args.writer.now c.in_ok-bracket.bracket c.expression.new.writer c.in_ok-bracket.ensures.read (c.in_err-behind.ensures.answer two))

pub returns-clause-read : goal.returns-clause-read
returns-clause-read c =
    let text = c.args.text.now in
    let at = c.args.at in
    let start = c.in_ok-start.start in
    let name = c.in_ok-end.end in
    let stands = (end_got text start (read_name (drop start text)) name c.in_ok-end.ensures.answer).3 in
    lined text at start (c.in_ok-start.ensures.answer one) name c.in_ok-end.ensures.name c.in_ok-shape.shape (c.in_ok-shape.ensures.answer one) c.args.writer.now c.in_ok-bracket.bracket c.expression.new.writer c.in_ok-bracket.ensures.read c.in_ok-behind.behind (c.in_ok-behind.ensures.answer two) stands.forward
