use mir.Facts.{Fits-lt-pow}
use Rattle.bits.proofs.Sets.{cleared_here, cleared_elsewhere, cleared_absent, cleared_less}
use Rattle.bits.proofs.without.Goals as goal

pub returns : goal.returns
returns c =
    let s = c.args.set in
    let p = c.args.place in
    let fits = Fits-lt-pow c.ranges.set in
    record {
      removed = rw c.only.ensures (cleared_here s p fits);
      others = λ q ne. rw c.only.ensures (cleared_elsewhere s p fits q ne);
      absent = λ out. rw c.only.ensures (cleared_absent s p fits out);
      less = λ member. rw c.only.ensures (cleared_less s p fits member);
    }
