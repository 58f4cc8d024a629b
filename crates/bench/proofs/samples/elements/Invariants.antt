use Rattle.std.proofs.Common.{◌≡◌, min}
use Rattle.bench.proofs.samples.elements.Given as goal

abbrev pub invariant-loop-number : goal.invariant-loop-number
invariant-loop-number l = l.word.count ≡ min l.number-index 255
