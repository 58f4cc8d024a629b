use Rattle.std.proofs.Common.{ℕ, ◌*◌, ◌/◌, ◌%◌, ◌<◌, get_or}
use Rattle.positions.specs.Columns.{Sorted}
use Rattle.positions.proofs.columns.write_columns.Given as goal

abbrev pub invariant-loop-place : goal.invariant-loop-place
invariant-loop-place g l = (k : ℕ) → k < l.place → Sorted g.L.Alphabet.stands g.L.Bucketed.falls l.atoms (k / 64 * 64) (k % 64) 64 (get_or l.columns k 0)
