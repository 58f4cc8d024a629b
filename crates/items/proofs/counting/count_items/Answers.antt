use Rattle.std.proofs.Common.{◌<◌, arith}
use Rattle.items.proofs.Tallying.{tallied_start, tallied_more, tallied_none, tallied_all}
use Rattle.items.proofs.counting.count_items.Goals as goal

pub loop-at-init : goal.loop-at-init
loop-at-init c = tallied_start c.args.text.now

pub returns-in_default : goal.returns-in_default
returns-in_default c = tallied_none c.args.text.now c.loop-at.at c.loop-at.count c.loop-at.invariant c.loop-at-test.true c.in_default.ensures

pub loop-at-smaller : goal.loop-at-smaller
loop-at-smaller c =
    let further : c.loop-at.at < c.in-Some.item.end = (tallied_more c.args.text.now c.loop-at.at c.loop-at.count c.in-Some.item c.loop-at.invariant c.in-Some.ensures).0 in
    omega arith

pub loop-at-preserved : goal.loop-at-preserved
loop-at-preserved c = (tallied_more c.args.text.now c.loop-at.at c.loop-at.count c.in-Some.item c.loop-at.invariant c.in-Some.ensures).1

pub returns : goal.returns
returns c = tallied_all c.args.text.now c.loop-at.at c.loop-at.count c.loop-at.invariant c.loop-at-test.false
