use Rattle.std.proofs.Common.{◌-◌, length}
use Rattle.drafts.specs.Noted.{NotedAt}
use Rattle.drafts.proofs.note.note.Given as goal

abbrev pub invariant-loop-end : goal.invariant-loop-end
invariant-loop-end l = NotedAt l.text l.room l.initial.entries l.at l.noted l.entries

abbrev pub decreases-loop-end : goal.decreases-loop-end
decreases-loop-end l = length l.text - l.at
