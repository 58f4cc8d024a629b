use Rattle.models.proofs.ModelTables.{in_each}
use Rattle.positions.proofs.Reading.{open_answer}
use Rattle.positions.proofs.table.positions.FollowTableEngine.open.Goals as goal

pub returns : goal.returns
returns g c =
    let self = c.args.self.now in
    let based = c.in_ok-base.ensures in
    record {
      answer =
          open_answer g.L.Alphabet.stands self.tables.nodes.now self.tables.models.now self.rows.now c.args.number c.in_ok-base.base based.0 based.2 self.followed self.blank
          (λ a. (g.L.Alphabet.sample a, g.met.L.Alphabet.sampled a)) c.then_some.result c.then_some.ensures;
      real = λ w h. in_each (λ k. g.L.Alphabet.stands) g.L.Alphabet.real (λ k a x r. g.met.L.Alphabet.stands_for_real a x r) h.0 0 w h.2;
    }
