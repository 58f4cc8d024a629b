use Rattle.std.proofs.Common.{◌≡◌, ◌+◌, get_or}
use Rattle.models.specs.declared.node.Node.TheVariants as node
use Rattle.positions.specs.Walks.{Reads}
use Rattle.positions.proofs.Gathering.{Gathered}
use Rattle.positions.proofs.walks.reading.Given as goal

abbrev pub invariant-loop-number : goal.invariant-loop-number
invariant-loop-number g l = Gathered (λ p n. (n ≡ p) × Reads g.L.Alphabet.stands (get_or l.atoms (l.base + p) node.Unused) l.letter) l.set l.number-iterator.left l.found
