use Rattle.std.proofs.Common.{◌%◌, eqb, ltb, sym, subst}
use Rattle.engine.specs.Atoms.{StandsFor}
use Rattle.engine.specs.Languages.{Decides}
use Rattle.positions.specs.Columns.{Meets, letter_bucket}
use Rattle.positions.proofs.Meeting.{element_meets, all_meets}
use Rattle.positions.proofs.buckets.LetterBucketed.meets.Goals as goal

pub returns-in-Element : goal.returns-in-Element
returns-in-Element c =
    let b = c.args.bucket in
    let n = c.in-Element.n in
    subst (λ a. Decides (eqb b (n % 64)) (Meets StandsFor letter_bucket a b)) (sym c.in-Element.is) (element_meets n b)

pub returns-then-bucket-last : goal.returns-then-bucket-last
returns-then-bucket-last c =
    let b = c.args.bucket in
    subst (λ a. Decides (ltb b 64) (Meets StandsFor letter_bucket a b)) (sym c.in-All.is) (all_meets c.in-All.last b c.if-bucket-last.true)
