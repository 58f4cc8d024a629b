use Rattle.std.proofs.Common.{◌%◌, subst, arith}
use Rattle.models.specs.declared.node.Node.TheVariants.{Unused}
use Rattle.positions.specs.Following.{AtomAt, NodeAt}
use Rattle.positions.proofs.Entries.{written_more}
use Rattle.positions.proofs.rows.write_atoms.Goals as goal

pub loop-place-preserved : goal.loop-place-preserved
loop-place-preserved g c =
    written_more (NodeAt c.args.tables.nodes.now c.args.tables.models.now) Unused c.loop-place.atoms c.loop-place.place c.atom_of.result (omega arith)
    c.loop-place.invariant
    (λ e h. subst (λ ns. AtomAt ns (c.loop-place.place % 64) c.atom_of.result) ((c.nodes_of.ensures e).1 h).coded c.atom_of.ensures)
