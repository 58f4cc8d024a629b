use Rattle.std.proofs.Common.{◌≤◌, length, take, Some}
use Rattle.engine.specs.Languages.{Advanced}
use Rattle.bench.proofs.speed.steps_made.Given as goal

abbrev pub invariant-loop-i : goal.invariant-loop-i
invariant-loop-i g l = (l.i ≤ length l.word) × Advanced (g.E.Engine.rest l.engine l.number) l.first (take l.i l.word) (Some l.reached)
