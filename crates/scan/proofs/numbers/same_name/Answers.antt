use Rattle.std.proofs.lemmas.Slice.Eq.{slice_eq-Decides}
use Rattle.std.proofs.lemmas.Bool.Decides.{same_from_decides, Decides-eqb}
use Rattle.scan.specs.Lists.{same}
use Rattle.scan.proofs.Numbering.{same_decides}
use Rattle.scan.proofs.numbers.same_name.Goals as goal

pub returns : goal.returns
returns c = same_from_decides _ (same c.args.a.now c.args.b.now) (slice_eq-Decides Decides-eqb _ _ _ c.eq.ensures) (same_decides c.args.a.now c.args.b.now)
