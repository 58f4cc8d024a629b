-- What may come next in one open element.
use Rattle.std.specs.Prelude.{ℕ, ◌<◌, [], ◌∷◌, Some, None, Option}
use Rattle.engine.specs.Languages.{Language, Inhabited, residue}
use Rattle.engine.specs.declared.alphabet.Letter.TheVariants.{Text, Element}
use Rattle.frames.specs.Meanings.{Meaning}
use Rattle.frames.specs.declared.frame.Frame.{Frame}

-- Some word begins with a byte.
abbrev pub SomeByte : Language ℕ → Type 0
SomeByte left = (b : ℕ) × (b < 256) × Inhabited (residue left (b ∷ []))

-- Some byte goes on from the value state, or there is no value.
abbrev pub ValueGoesOn : (ℕ → Language ℕ) → Option ℕ → Type 0
ValueGoesOn rest None = Unit {0}
ValueGoesOn rest (Some s) = SomeByte (rest s)

module _ (m : Meaning) where
  -- Some text goes on from the frame.
  abbrev pub TextGoesOn : Frame → Type 0
  TextGoesOn f = Inhabited (residue (m.content_rests f.number f.content) (Text ∷ [])) × ValueGoesOn (m.value_rests f.number) f.value

  -- The child n goes on from the frame.
  abbrev pub ChildGoesOn : Frame → ℕ → Type 0
  ChildGoesOn f n = Inhabited (residue (m.content_rests f.number f.content) (Element n ∷ []))
