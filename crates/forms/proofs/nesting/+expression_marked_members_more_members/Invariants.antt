use Rattle.std.proofs.Common.{◌≡◌, ℕ, ◌+◌, ◌-◌, ◌*◌, List, length}
use Rattle.engine.specs.declared.range.ByteRange.{ByteRange}
use Rattle.models.specs.Expressions.{Exp}
use Rattle.writing.specs.declared.writer.Writer.{Writer}
use Rattle.forms.specs.Inner.{PartIs, joint_of, read_more}
use Rattle.forms.proofs.Lists.{Going}
use Rattle.forms.proofs.nesting.+expression_marked_members_more_members.Given as goal

abbrev pub decreases-expression : goal.decreases-expression
decreases-expression l = 3 * l.left

abbrev pub decreases-marked : goal.decreases-marked
decreases-marked l = 3 * l.left + 1

abbrev pub decreases-members : goal.decreases-members
decreases-members l = 3 * l.left + 2

abbrev pub decreases-more_members : goal.decreases-more_members
decreases-more_members l = 3 * l.left + 1

-- Whatever the first two members were read as, the list goes on.
abbrev pub invariant-more_members-loop-joint : goal.invariant-more_members-loop-joint
invariant-more_members-loop-joint l =
    ((start : ℕ) (e : Exp ByteRange) (rest : List ℕ) (before : Writer ByteRange (Unit {0})) → PartIs l.text start e rest before l.initial.here l.initial.writer → Going l.text start l.left l.joint (read_more l.left (joint_of l.joint) e rest) before l.here l.writer)
    × (l.writer.nodes.ghost_name ≡ l.initial.writer.nodes.ghost_name)

abbrev pub decreases-more_members-loop-joint : goal.decreases-more_members-loop-joint
decreases-more_members-loop-joint l = length l.text - l.here
