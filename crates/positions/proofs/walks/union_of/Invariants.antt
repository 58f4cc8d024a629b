use Rattle.std.proofs.Common.{◌+◌, get_or}
use Rattle.bits.specs.Sets.{Has}
use Rattle.positions.proofs.Gathering.{Gathered}
use Rattle.positions.proofs.walks.union_of.Given as goal

abbrev pub invariant-loop-number : goal.invariant-loop-number
invariant-loop-number l = Gathered (λ p n. Has (get_or l.rows (l.base + p) 0) n) l.set l.number-iterator.left l.union
