use Rattle.std.proofs.Common.{sym, subst}
use Rattle.engine.specs.Languages.{Decides}
use Rattle.sealing.specs.Completion.{Completes}
use Rattle.sealing.proofs.Completing.{completes_found}
use Rattle.sealing.proofs.completion.completes.Goals as goal

pub returns : goal.returns
returns c =
    let tables = c.args.tables in
    subst (λ b. Decides b (Completes tables.nodes.now tables.models.now c.args.set c.args.number)) (sym c.unwrap_or.ensures)
    (completes_found tables.nodes.now tables.models.now c.args.number c.args.set c.nodes_of-nodes.result.now c.nodes_of-nodes.ensures c.fold.result c.fold.ensures.answer)
