use Rattle.engine.specs.Atoms.{StandsFor}
use Rattle.engine.specs.Languages.{Answers}
use Rattle.models.specs.Tables.{ModelWords, ModelRest}
use Rattle.sealed.proofs.Plainness.{all_real}
use Rattle.indexed.proofs.Sameness.{of_the_same}
use Rattle.indexed.proofs.indexed.IndexedEngine.open.Goals as goal

pub returns : goal.returns
returns c =
    let self = c.args.self.now in
    record {
      answer =
          of_the_same (λ nodes models. Answers (ModelWords StandsFor nodes models c.args.number) (ModelRest StandsFor nodes models c.args.number) c.open.result)
          self.table.table.tables.nodes.now self.sealed.engine.tables.nodes.now self.nodes self.table.table.tables.models.now self.sealed.engine.tables.models.now self.models c.open.ensures.answer;
      real = λ w h. all_real w;
    }
