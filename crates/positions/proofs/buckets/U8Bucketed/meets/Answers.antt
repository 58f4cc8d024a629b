use Rattle.positions.proofs.Meeting.{range_meets}
use Rattle.positions.proofs.buckets.U8Bucketed.meets.Goals as goal

pub returns-then-bucket-lt64 : goal.returns-then-bucket-lt64
returns-then-bucket-lt64 c =
    range_meets c.args.atom c.args.bucket c.low.result c.low-then-bucket-lt64.result c.high.result c.if-bucket-lt64.true c.low.ensures c.low-then-bucket-lt64.ensures c.high.ensures
