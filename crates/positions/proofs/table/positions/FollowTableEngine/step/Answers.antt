use mir.Facts.{Fits-lt-pow}
use Rattle.positions.proofs.Reading.{step_answer}
use Rattle.positions.proofs.table.positions.FollowTableEngine.step.Goals as goal

pub returns : goal.returns
returns g c =
    let self = c.args.self.now in
    let based = c.in_ok-base.ensures in
    step_answer g.L.Alphabet.stands self.tables.nodes.now self.tables.models.now self.rows.now c.args.number c.in_ok-base.base based.0 based.2 self.followed self.blank
    (λ a. (g.L.Alphabet.sample a, g.met.L.Alphabet.sampled a)) self.atoms.now self.placed self.spare c.args.letter c.args.state c.union_of-after.result c.reading-next.result (Fits-lt-pow c.ranges.state) c.union_of-after.ensures c.reading-next.ensures
    c.reading-next.type_inv c.then_some.result c.then_some.ensures
