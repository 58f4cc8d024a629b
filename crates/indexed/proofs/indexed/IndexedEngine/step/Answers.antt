use Rattle.std.proofs.Common.{[], ◌∷◌}
use Rattle.engine.specs.Atoms.{StandsFor}
use Rattle.engine.specs.Languages.{Answers, residue}
use Rattle.models.specs.Tables.{ModelRest}
use Rattle.indexed.proofs.Sameness.{of_the_same}
use Rattle.indexed.proofs.indexed.IndexedEngine.step.Goals as goal

pub returns : goal.returns
returns c =
    let self = c.args.self.now in
    of_the_same (λ nodes models. Answers (residue (ModelRest StandsFor nodes models c.args.number c.args.state) (c.args.letter ∷ [])) (ModelRest StandsFor nodes models c.args.number) c.step.result)
    self.table.table.tables.nodes.now self.sealed.engine.tables.nodes.now self.nodes self.table.table.tables.models.now self.sealed.engine.tables.models.now self.models c.step.ensures
