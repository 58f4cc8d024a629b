use Rattle.sealing.proofs.Completing.{completed_tree, completed_all, more_trees}
use Rattle.sealing.proofs.completion.completed.Goals as goal

pub loop-number-preserved : goal.loop-number-preserved
loop-number-preserved c =
    let nodes = c.args.tables.nodes.now in
    let models = c.args.tables.models.now in
    let found = c.in-Some.ensures in
    more_trees nodes models c.loop-number.set c.with-set.result c.in-Some.number c.loop-number.invariant
    (completed_tree nodes models c.loop-number.set c.loop-number.invariant c.in-Some.number found.2)
    c.with-set.ensures.others

pub returns : goal.returns
returns c = completed_all c.args.tables.nodes.now c.args.tables.models.now c.loop-number.set c.requires c.loop-number.invariant c.in_default.ensures
