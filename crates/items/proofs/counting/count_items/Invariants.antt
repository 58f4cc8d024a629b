use Rattle.std.proofs.Common.{◌-◌, length}
use Rattle.items.proofs.Tallying.{Tallied}
use Rattle.items.proofs.counting.count_items.Given as goal

abbrev pub invariant-loop-at : goal.invariant-loop-at
invariant-loop-at l = Tallied l.text l.at l.count

abbrev pub decreases-loop-at : goal.decreases-loop-at
decreases-loop-at l = length l.text - l.at
