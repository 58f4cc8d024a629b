use Rattle.std.proofs.Common.{◌-◌, ◌^◌}
use Rattle.sealed.proofs.Walking.{Walked}
use Rattle.sealed.proofs.text.takes_all_text.Given as goal

abbrev pub invariant-loop-next : goal.invariant-loop-next
invariant-loop-next l = Walked l.nodes l.seen l.last

abbrev pub decreases-loop-next : goal.decreases-loop-next
decreases-loop-next l = 2 ^ 64 - l.seen
