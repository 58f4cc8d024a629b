use Rattle.std.proofs.Common.{sym, ◌∙◌}
use Rattle.sealed.proofs.Walking.{no_end, text_told}
use Rattle.sealed.proofs.text.text_after.Goals as goal

pub returns-then-not-may_end : goal.returns-then-not-may_end
returns-then-not-may_end c =
    let got = c.in_ok-derived.ensures in
    no_end c.args.nodes.now c.args.last c.requires c.readers.result c.readers.ensures c.only-state.result c.only-state.ensures
    c.in_ok-derived.derived got.0 got.1 got.2 (sym c.may_end.ensures ∙ c.if-not-may_end.true)

pub returns : goal.returns
returns c =
    let got = c.in_ok-derived.ensures in
    text_told c.args.nodes.now c.args.last c.requires c.readers.result c.readers.ensures c.only-state.result c.only-state.ensures
    c.in_ok-derived.derived got.0 got.1 got.2 (sym c.may_end.ensures ∙ c.if-not-may_end.false) c.reached.result c.reached.ensures c.lowest.result c.lowest.ensures
