use Rattle.std.proofs.Common.{◌<◌, lit<}
use Rattle.forms.proofs.Between.{range_none, no_low, no_space, no_high, no_end, no_range, ranged}
use Rattle.forms.proofs.numerals.range_at.Goals as goal

one : 0 < 1
one = lit< tt

pub returns-in_err-low : goal.returns-in_err-low
returns-in_err-low c =
    let text = c.args.text.now in
    let at = c.args.at in
    range_none text at c.from_residual.result c.from_residual.ensures (no_low text at c.in_err-low.ensures)

pub returns-in_err-space : goal.returns-in_err-space
returns-in_err-space c =
    let text = c.args.text.now in
    let at = c.args.at in
    range_none text at c.from_residual-in_err-space.result c.from_residual-in_err-space.ensures
    (no_space text at c.in_ok-low.low c.in_ok-low.ensures (c.in_err-space.ensures.answer one))

pub returns-in_err-high : goal.returns-in_err-high
returns-in_err-high c =
    let text = c.args.text.now in
    let at = c.args.at in
    range_none text at c.from_residual-in_err-high.result c.from_residual-in_err-high.ensures
    (no_high text at c.in_ok-low.low c.in_ok-low.ensures c.in_ok-space.space (c.in_ok-space.ensures.answer one) c.in_err-high.ensures)

pub returns-in_err-end : goal.returns-in_err-end
returns-in_err-end c =
    let text = c.args.text.now in
    let at = c.args.at in
    range_none text at c.from_residual-in_err-end.result c.from_residual-in_err-end.ensures
    (no_end text at c.in_ok-low.low c.in_ok-low.ensures c.in_ok-space.space (c.in_ok-space.ensures.answer one) c.in_ok-high.high c.in_ok-high.ensures (c.in_err-end.ensures.answer one))

pub returns-in_err-value : goal.returns-in_err-value
returns-in_err-value c =
    let text = c.args.text.now in
    let at = c.args.at in
    range_none text at c.from_residual-in_err-value.result c.from_residual-in_err-value.ensures
    (no_range text at c.in_ok-low.low c.in_ok-low.ensures c.in_ok-space.space (c.in_ok-space.ensures.answer one) c.in_ok-high.high c.in_ok-high.ensures c.in_ok-end.end (c.in_ok-end.ensures.answer one) c.in_err-value.ensures)

pub returns : goal.returns
returns c =
    let text = c.args.text.now in
    let at = c.args.at in
    let made = c.in_ok-value.ensures in
    ranged text at c.in_ok-low.low c.in_ok-low.ensures c.in_ok-space.space (c.in_ok-space.ensures.answer one) c.in_ok-high.high c.in_ok-high.ensures c.in_ok-end.end (c.in_ok-end.ensures.answer one) c.in_ok-value.value made.0 made.1
