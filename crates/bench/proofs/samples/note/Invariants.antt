use Rattle.std.proofs.Common.{◌≡◌}
use Rattle.bench.proofs.samples.note.Given as goal

abbrev pub invariant-loop-i : goal.invariant-loop-i
invariant-loop-i l = l.word.count ≡ l.i
