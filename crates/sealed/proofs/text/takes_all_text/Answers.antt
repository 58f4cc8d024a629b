use Rattle.std.proofs.Common.{sym, ◌∙◌, arith}
use Rattle.sealed.proofs.Walking.{walked_more, all_texts, not_all_texts}
use Rattle.sealed.proofs.text.takes_all_text.Goals as goal

pub returns-in_default : goal.returns-in_default
returns-in_default c = not_all_texts c.args.nodes.now c.loop-next.seen c.loop-next.last c.loop-next.invariant c.in_default.ensures

pub loop-next-preserved : goal.loop-next-preserved
loop-next-preserved c =
    walked_more c.args.nodes.now c.loop-next.seen c.loop-next.last c.with-seen.result c.in-Some.next c.loop-next.invariant c.in-Some.ensures (c.with-seen.ensures.added (omega (arith, c.loop-next.invariant.low))) c.with-seen.ensures.others

pub returns : goal.returns
returns c never = all_texts c.args.nodes.now c.loop-next.seen c.loop-next.last c.loop-next.invariant (sym c.contains.ensures ∙ c.loop-next-test.false)
