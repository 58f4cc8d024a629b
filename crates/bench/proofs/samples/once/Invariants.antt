use Rattle.std.proofs.Common.{◌≡◌}
use Rattle.bench.proofs.samples.once.Given as goal

abbrev pub invariant-loop-before : goal.invariant-loop-before
invariant-loop-before l = l.word.count ≡ l.before
