use Rattle.std.proofs.Common.{◌<◌}
use lib.Count.{count_trailing_zeros}
use mir.Facts.{Fits-lt-pow}
use Rattle.bits.proofs.Sets.{lowest_below, lowest_member, before_lowest}
use Rattle.bits.proofs.lowest.Goals as goal

pub returns-else-set-eq0 : goal.returns-else-set-eq0
returns-else-set-eq0 c =
    let s = c.args.set in
    let below : count_trailing_zeros 64 s < 64 = lowest_below 64 s (Fits-lt-pow c.ranges.set) c.if-set-eq0.false in
    (below, lowest_member 64 s below, before_lowest 64 s)
