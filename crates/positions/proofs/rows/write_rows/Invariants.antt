use Rattle.std.proofs.Common.{ℕ, ◌<◌, get_or}
use Rattle.positions.specs.Following.{RowAt}
use Rattle.positions.proofs.rows.write_rows.Given as goal

abbrev pub invariant-loop-place : goal.invariant-loop-place
invariant-loop-place g l = (k : ℕ) → k < l.place → RowAt l.tables.nodes.now l.tables.models.now k (get_or l.rows k 0)
