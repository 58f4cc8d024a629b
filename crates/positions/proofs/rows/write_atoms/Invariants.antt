use Rattle.std.proofs.Common.{ℕ, ◌<◌, get_or}
use Rattle.models.specs.declared.node.Node.TheVariants.{Unused}
use Rattle.positions.specs.Following.{NodeAt}
use Rattle.positions.proofs.rows.write_atoms.Given as goal

abbrev pub invariant-loop-place : goal.invariant-loop-place
invariant-loop-place g l = (k : ℕ) → k < l.place → NodeAt l.tables.nodes.now l.tables.models.now k (get_or l.atoms k Unused)
