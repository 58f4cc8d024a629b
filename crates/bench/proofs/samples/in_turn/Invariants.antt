use Rattle.std.proofs.Common.{◌≡◌}
use Rattle.bench.proofs.samples.in_turn.Given as goal

abbrev pub invariant-loop-turn : goal.invariant-loop-turn
invariant-loop-turn l = l.word.count ≡ l._turn
