use Rattle.std.proofs.Common.{[]}
use Rattle.engine.specs.Atoms.{StandsFor}
use Rattle.engine.specs.Languages.{Decides}
use Rattle.models.specs.Tables.{ModelRest}
use Rattle.indexed.proofs.Sameness.{of_the_same}
use Rattle.indexed.proofs.indexed.IndexedEngine.ends.Goals as goal

pub returns : goal.returns
returns c =
    let self = c.args.self.now in
    of_the_same (λ nodes models. Decides c.ends.result (ModelRest StandsFor nodes models c.args.number c.args.state []))
    self.table.table.tables.nodes.now self.sealed.engine.tables.nodes.now self.nodes self.table.table.tables.models.now self.sealed.engine.tables.models.now self.models c.ends.ensures
