use Rattle.std.proofs.Common.{arith}
use Rattle.positions.specs.Following.{RowAt}
use Rattle.positions.proofs.Entries.{written_more}
use Rattle.positions.proofs.rows.write_rows.Goals as goal

pub loop-place-preserved : goal.loop-place-preserved
loop-place-preserved g c =
    written_more (RowAt c.args.tables.nodes.now c.args.tables.models.now) 0 c.loop-place.rows c.loop-place.place c.row_at.result (omega arith)
    c.loop-place.invariant c.row_at.ensures
