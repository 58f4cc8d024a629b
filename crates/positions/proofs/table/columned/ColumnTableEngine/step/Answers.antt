use Rattle.std.proofs.Common.{◌+◌, ◌-◌, get_or, subst, arith}
use lib.Bits.{bit_and}
use mir.Facts.{Fits-lt-pow}
use Rattle.positions.specs.Walks.{Kept}
use Rattle.positions.proofs.Reading.{step_answer}
use Rattle.positions.proofs.Sorting.{kept_all}
use Rattle.positions.proofs.table.columned.ColumnTableEngine.step.Goals as goal

pub returns : goal.returns
returns g c =
    let stands = g.L.Alphabet.stands in
    let self = c.args.self.now in
    let table = self.table in
    let based = c.in_ok-base.ensures in
    let base = c.in_ok-base.base in
    let kept = kept_all stands g.L.Bucketed.falls table.atoms.now self.columns.now self.complete g.met.L.Bucketed.few (c.args.number - 1) base based.2 (omega (arith, based.0, based.1, based.2, self.wide)) c.args.letter c.union_of.result c.reading-next.result c.union_of.type_inv
    (subst (λ b. Kept stands table.atoms.now base c.args.letter (bit_and c.union_of.result (get_or self.columns.now (base + b) 0)) c.reading-next.result) c.bucket.ensures c.reading-next.ensures) in
    step_answer stands table.tables.nodes.now table.tables.models.now table.rows.now c.args.number base based.0 based.2 table.followed table.blank
    (λ a. (g.L.Alphabet.sample a, g.met.L.Alphabet.sampled a)) table.atoms.now table.placed table.spare c.args.letter c.args.state c.union_of.result c.reading-next.result (Fits-lt-pow c.ranges.state) c.union_of.ensures kept
    c.reading-next.type_inv c.then_some.result c.then_some.ensures
