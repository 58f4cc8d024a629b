use Rattle.std.proofs.Common.{◌+◌, get_or, inl, inr}
use lib.Bits.{bit_or}
use Rattle.bits.specs.Sets.{Has}
use Rattle.bits.proofs.Bits.{has_or, has_or_l, has_or_r}
use Rattle.positions.proofs.Gathering.{gathered_more, gathered_all}
use Rattle.positions.proofs.walks.union_of.Goals as goal

pub loop-number-preserved : goal.loop-number-preserved
loop-number-preserved c =
    let got = c.loop-number.union in
    let one = get_or c.args.rows.now (c.args.base + c.in-Some.number) 0 in
    gathered_more (λ q n. Has (get_or c.args.rows.now (c.args.base + q) 0) n) c.args.set c.loop-number.number-iterator.left c.next.new.self.left c.in-Some.number got (bit_or got one)
    c.in-Some.ensures.steps c.loop-number.invariant
    (λ n. (has_or got one n, elim [ inl h ↦ has_or_l got one n h | inr h ↦ has_or_r got one n h ]))

pub returns : goal.returns
returns c =
    gathered_all (λ q n. Has (get_or c.args.rows.now (c.args.base + q) 0) n) c.args.set c.loop-number.number-iterator.left c.next.new.self.left c.loop-number.union
    c.in-None.ensures.steps c.loop-number.invariant
