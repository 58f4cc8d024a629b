use Rattle.positions.specs.Columns.{Sorted}
use Rattle.positions.proofs.columns.column_at.Given as goal

abbrev pub invariant-loop-number : goal.invariant-loop-number
invariant-loop-number g l = Sorted g.L.Alphabet.stands g.L.Bucketed.falls l.atoms l.base l.bucket l.number l.found
