use Rattle.std.proofs.Common.{◌≡◌, ◌+◌, ◌-◌, ◌*◌, length, drop}
use Rattle.declarations.specs.Answers.{numbered_names}
use Rattle.declarations.specs.Readers.{read_group}
use Rattle.declarations.proofs.Groups.{Going}
use Rattle.declarations.proofs.nesting.+group_particle_unit.Given as goal

abbrev pub decreases-group : goal.decreases-group
decreases-group l = 3 * l.left

abbrev pub decreases-particle : goal.decreases-particle
decreases-particle l = 3 * l.left + 2

abbrev pub decreases-unit : goal.decreases-unit
decreases-unit l = 3 * l.left + 1

abbrev pub invariant-group-loop-text : goal.invariant-group-loop-text
invariant-group-loop-text l =
    Going l.text (numbered_names l.text l.source.entries.now) l.at (read_group (l.left - 1)) l.joint (read_group l.left (drop l.at l.text)) l.fn.model l.end l.model
    × (l.model.nodes.ghost_name ≡ l.fn.model.nodes.ghost_name)

abbrev pub decreases-group-loop-text : goal.decreases-group-loop-text
decreases-group-loop-text l = length l.text - l.end
