-- What a call does to a sheet.
use Rattle.std.specs.Prelude.{◌≡◌, ℕ}
use Rattle.engine.specs.declared.alphabet.ContentAtom.{ContentAtom}
use Rattle.engine.specs.declared.alphabet.Letter.{Letter}
use Rattle.engine.specs.declared.engine.Engine.{Ghosts}
use Rattle.engine.specs.declared.range.ByteRange.{ByteRange}
use Rattle.calls.specs.Replies.{Reply}
use Rattle.frames.specs.Meanings.{meaning}
use Rattle.sheet.specs.Histories.{Call}
use Rattle.sheet.specs.Stands.{Moved}
use Rattle.sheet.specs.declared.sheet.Sheet.{Sheet}

-- The state moves as it should by what the two engines mean, and the engines stay.
pub record Moves {C V : Type 0} (content : Ghosts C Letter ContentAtom) (value : Ghosts V ℕ ByteRange) (before after : Sheet C V) (call : Call) (reply : Reply) : Type 0 where
  pub engines : after.engines ≡ before.engines
  pub moved : Moved (meaning content value before.engines) before.state after.state call reply
