-- The nodes that stand for joints and marks.
use Rattle.models.specs.declared.node.Node.{Node}
use Rattle.models.specs.declared.node.Node.TheVariants as node
use Rattle.writing.specs.declared.signs.Joint.{Joint}
use Rattle.writing.specs.declared.signs.Joint.TheVariants.{Sequence, Alternatives}
use Rattle.writing.specs.declared.signs.Mark.{Mark}
use Rattle.writing.specs.declared.signs.Mark.TheVariants.{AnyNumber, AtLeastOne, Perhaps}

abbrev pub joint_node : {A : Type 0} → Joint → Node A
joint_node Sequence = node.Seq
joint_node Alternatives = node.Alt

abbrev pub mark_node : {A : Type 0} → Mark → Node A
mark_node AnyNumber = node.Star
mark_node AtLeastOne = node.Plus
mark_node Perhaps = node.Opt
