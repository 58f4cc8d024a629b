-- What two engines mean: the language of each number, and the rest of each state.
use Rattle.std.specs.Prelude.{ℕ}
use Rattle.engine.specs.Languages.{Language}
use Rattle.engine.specs.declared.alphabet.ContentAtom.{ContentAtom}
use Rattle.engine.specs.declared.alphabet.Letter.{Letter}
use Rattle.engine.specs.declared.engine.Engine.{Ghosts}
use Rattle.engine.specs.declared.range.ByteRange.{ByteRange}
use Rattle.frames.specs.declared.engines.Engines.{Engines}

-- The languages of contents and of values, and what the states of both engines leave.
pub record Meaning : Type 1 where
  pub contents : ℕ → Language Letter
  pub content_rests : ℕ → ℕ → Language Letter
  pub values : ℕ → Language ℕ
  pub value_rests : ℕ → ℕ → Language ℕ

-- What these two engines mean.
abbrev pub meaning : {C V : Type 0} → Ghosts C Letter ContentAtom → Ghosts V ℕ ByteRange → Engines C V → Meaning
meaning content value engines = record {
  contents = content.language engines.content.now;
  content_rests = content.rest engines.content.now;
  values = value.language engines.value.now;
  value_rests = value.rest engines.value.now;
}
