use Rattle.std.proofs.Common.{◌≡◌, [], length, drop}
use Rattle.models.specs.Turns.{held}
use Rattle.models.proofs.Folding.{run}
use Rattle.models.proofs.evaluation.evaluate.Given as goal

abbrev pub invariant-loop-node : goal.invariant-loop-node
invariant-loop-node g l =
    let o = g.G.Algebra.operations l.algebra in
    let room = length l.fn.work in
    (length l.stack.places.now ≡ room)
    × (run o room (drop l.node-index l.nodes) (held l.stack.places.now l.stack.height, l.atoms) ≡ run o room l.nodes ([], 0))
