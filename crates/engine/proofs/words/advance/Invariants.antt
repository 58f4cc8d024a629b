use Rattle.std.proofs.Common.{◌≤◌, length, take, Some}
use Rattle.engine.specs.Languages.{Advanced}
use Rattle.engine.proofs.words.advance.Given as goal

abbrev pub invariant-loop-letter : goal.invariant-loop-letter
invariant-loop-letter g l = (l.letter-index ≤ length l.word) × Advanced (g.E.Engine.rest l.engine l.number) l.state (take l.letter-index l.word) (Some l.reached)
