use Rattle.std.proofs.Common.{◌≡◌}
use Rattle.frames.specs.Meanings.{meaning}
use Rattle.sheet.proofs.Playing.{Played}
use Rattle.sheet.proofs.runs.play.Given as goal

abbrev pub invariant-loop-i : goal.invariant-loop-i
invariant-loop-i g l =
    (l.sheet.engines ≡ l.engines) × Played (meaning g.C.Engine g.V.Engine l.engines) l.calls l.initial.answers l.answers l.i l.sheet.state
