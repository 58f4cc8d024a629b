use Rattle.std.proofs.Common.{◌≡◌, ℕ, ◌-◌, ◌<◌, ◌≤◌, [], length, drop}
use Rattle.scan.specs.Readings.{run}
use Rattle.declarations.specs.Answers.{numbered_names}
use Rattle.declarations.specs.Readers.{mixed_name, shut, starred}
use Rattle.declarations.proofs.Mixing.{Mixes}
use Rattle.declarations.proofs.mixed.mixed.Given as goal

abbrev pub invariant-loop-model : goal.invariant-loop-model
invariant-loop-model l =
    ((start : ℕ) → start < l.word → l.word ≤ length l.text → Mixes l.text (numbered_names l.text l.source.entries.now) start (starred (shut (run mixed_name [] (drop l.word l.text)))) l.fn.model l.end l.named l.seen l.model)
    × (l.model.nodes.ghost_name ≡ l.fn.model.nodes.ghost_name)

abbrev pub decreases-loop-model : goal.decreases-loop-model
decreases-loop-model l = length l.text - l.end
