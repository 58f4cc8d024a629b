-- What the engines answer about one open element, in terms of the rests of its two states.
use Rattle.std.specs.Prelude.{◌≡◌, ℕ, ◌⊎◌, List, [], ◌∷◌, Some, None, Option}
use Rattle.engine.specs.Languages.{Language, Empty, residue, Answers, Advanced}
use Rattle.engine.specs.declared.alphabet.Letter.{Letter}
use Rattle.engine.specs.declared.alphabet.Letter.TheVariants.{Text}
use Rattle.frames.specs.Meanings.{Meaning}
use Rattle.frames.specs.declared.frame.Frame.{Frame}

-- A value state after more text.
abbrev pub AdvancesValue : (ℕ → Language ℕ) → List ℕ → Option ℕ → Option ℕ → Type 0
AdvancesValue rest w None after = after ≡ None
AdvancesValue rest w (Some s) None = ⊥
AdvancesValue rest w (Some s) (Some t) = Advanced rest s w (Some t)

-- No value goes on with the text.
abbrev pub NoValue : (ℕ → Language ℕ) → List ℕ → Option ℕ → Type 0
NoValue rest w None = ⊥
NoValue rest w (Some s) = Advanced rest s w None

abbrev pub ValueEnds : (ℕ → Language ℕ) → Option ℕ → Type 0
ValueEnds rest None = Unit {0}
ValueEnds rest (Some s) = rest s []

-- The frame after a letter, where the content states have these rests: its content state has as its rest the
-- derivative by that letter; there is none where that is empty.
abbrev pub ReadsContent : (ℕ → ℕ → Language Letter) → Frame → Letter → Option Frame → Type 0
ReadsContent CR f a None = Empty (residue (CR f.number f.content) (a ∷ []))
ReadsContent CR f a (Some g) =
    (g.number ≡ f.number) × (g.value ≡ f.value)
    × Answers (residue (CR f.number f.content) (a ∷ [])) (CR f.number) (Some g.content)

module _ (m : Meaning) where
  -- The frame of an element that has just started: its states are those of its two languages; there is
  -- none where the content language is empty.
  abbrev pub OpensFrame : ℕ → Option Frame → Type 0
  OpensFrame n None = Empty (m.contents n)
  OpensFrame n (Some f) =
      (f.number ≡ n) × Answers (m.contents n) (m.content_rests n) (Some f.content) × Answers (m.values n) (m.value_rests n) f.value

  -- The frame after a letter, by what the content engine's states leave.
  abbrev pub ReadsLetter : Frame → Letter → Option Frame → Type 0
  ReadsLetter = ReadsContent m.content_rests

  -- The frame after a text: one text letter of content, and the bytes of the value.
  abbrev pub ReadsText : Frame → List ℕ → Option Frame → Type 0
  ReadsText f w None = ReadsLetter f Text None ⊎ NoValue (m.value_rests f.number) w f.value
  ReadsText f w (Some g) =
      (g.number ≡ f.number)
      × Answers (residue (m.content_rests f.number f.content) (Text ∷ [])) (m.content_rests f.number) (Some g.content)
      × AdvancesValue (m.value_rests f.number) w f.value g.value

  -- Both rests hold the empty word, as far as there is a value.
  abbrev pub Completes : Frame → Type 0
  Completes f = ValueEnds (m.value_rests f.number) f.value × m.content_rests f.number f.content []
