use Rattle.std.proofs.Common.{sym, ◌∙◌, le-ltb}
use mir.Facts.{Fits-lt-pow}
use Rattle.bits.proofs.Sets.{out_of_word}
use Rattle.bits.proofs.contains.Goals as goal

pub returns-else-place-lt64 : goal.returns-else-place-lt64
returns-else-place-lt64 c =
    le-ltb c.args.place 64 c.if-place-lt64.false
    ∙ sym (out_of_word c.args.set c.args.place (Fits-lt-pow c.ranges.set) c.if-place-lt64.false)
