use Rattle.std.proofs.Common.{◌≡◌, rules, length, None, sym, ap, ◌∙◌, subst}
use Rattle.models.specs.Folds.{Folded}
use Rattle.models.specs.Turns.{Stack, turned, held}
use Rattle.models.proofs.Folding.{folded, turn_stop, last, only, only_one}
use Rattle.models.proofs.evaluation.evaluate.Goals as goal

pub returns-in_err-atoms : goal.returns-in_err-atoms
returns-in_err-atoms g c =
    let o = g.G.Algebra.operations c.args.algebra.now in
    let room = length c.args.work.now in
    let x = c.node-item.result in
    let s : Stack _ = (held c.loop-node.stack.places.now c.loop-node.stack.height, c.loop-node.atoms) in
    let stop = subst (λ room. turned o room x s ≡ None) c.loop-node.invariant.0 c.in_err-atoms.ensures.answer in
    subst (Folded o room c.args.nodes.now) (sym c.from_residual.ensures)
    (folded o room c.args.nodes.now None
    (sym c.loop-node.invariant.1 ∙ turn_stop o room c.args.nodes.now c.loop-node.node-index x s c.loop-node-test.true c.node-item.is stop))

pub returns-in_err-answer : goal.returns-in_err-answer
returns-in_err-answer g c =
    let o = g.G.Algebra.operations c.args.algebra.now in
    let room = length c.args.work.now in
    subst (Folded o room c.args.nodes.now) (sym c.from_residual-in_err-answer.ensures)
    (folded o room c.args.nodes.now None
    (sym c.loop-node.invariant.1 ∙ last o room c.args.nodes.now c.loop-node.node-index _ _ c.loop-node-test.false ∙ ap only c.in_err-answer.ensures.answer))

pub returns : goal.returns
returns g c =
    let o = g.G.Algebra.operations c.args.algebra.now in
    let room = length c.args.work.now in
    folded o room c.args.nodes.now c.then_some.result
    (sym c.loop-node.invariant.1
    ∙ last o room c.args.nodes.now c.loop-node.node-index _ _ c.loop-node-test.false
    ∙ ap only c.in_ok-answer.ensures.answer ∙ only_one _ _ _ _ c.pop-2.ensures.answer ∙ search rules)
