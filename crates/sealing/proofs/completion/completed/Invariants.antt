use Rattle.std.proofs.Common.{◌≡◌, ℕ, ◌-◌, ◌^◌, true}
use Rattle.bits.specs.Sets.{has}
use Rattle.sealing.specs.Questions.{HasTree}
use Rattle.sealing.proofs.completion.completed.Given as goal

abbrev pub invariant-loop-number : goal.invariant-loop-number
invariant-loop-number l = (n : ℕ) → has l.set n ≡ true → HasTree l.tables.nodes.now l.tables.models.now n

abbrev pub decreases-loop-number : goal.decreases-loop-number
decreases-loop-number l = 2 ^ 64 - l.set
