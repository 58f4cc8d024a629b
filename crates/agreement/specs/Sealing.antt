-- What a text of declarations means: the language of each element, and whether the text may be sealed.
use Rattle.std.specs.Prelude.{◌≡◌, ℕ, ◌⊎◌, List, length, Some, None, Ok, Err, Result}
use Rattle.engine.specs.Atoms.{StandsFor}
use Rattle.engine.specs.Languages.{Language, Same, Empty}
use Rattle.engine.specs.Trees.{Forest, Valid, no_values}
use Rattle.engine.specs.declared.alphabet.ContentAtom.{ContentAtom}
use Rattle.engine.specs.declared.alphabet.Letter.{Letter}
use Rattle.models.specs.Expressions.{Exp, Words}
use Rattle.models.specs.Marks.{Ambiguous}
use Rattle.models.specs.Readers.{Numbered}
use Rattle.sealing.specs.Questions.{FirstNo}
use Rattle.declarations.specs.Contents.{Placed}
use Rattle.drafts.specs.Drafted.{declarations, text_models}
use Rattle.drafts.specs.Refusals.{number}
use Rattle.drafts.specs.declared.refusal.Refusal.{Refusal}

module _ (text : List ℕ) where
  -- The model of the element with this number: that of the declaration with this number, counted from 1.
  abbrev pub ModelOf : ℕ → Exp ContentAtom → Type 0
  ModelOf n e = Numbered (text_models text) 0 n e

  -- The language of a number: the words of its model.
  abbrev pub TextWords : ℕ → Language Letter
  TextWords n w = (e : Exp ContentAtom) × ModelOf n e × Words StandsFor e w

  -- The model is ambiguous.
  abbrev pub IsAmbiguous : ℕ → Type 0
  IsAmbiguous n = (e : Exp ContentAtom) × ModelOf n e × Ambiguous StandsFor e

  abbrev pub Unambiguous : ℕ → Type 0
  Unambiguous n = IsAmbiguous n → ⊥

  -- The element has a valid tree, values left aside.
  abbrev pub HasTree : ℕ → Type 0
  HasTree n = (children : Forest) × Valid (TextWords) no_values n children

  abbrev pub HasNoTree : ℕ → Type 0
  HasNoTree n = HasTree n → ⊥

  -- The place is that of the declaration with this number.
  abbrev pub PlaceOf : ℕ → ℕ → Type 0
  PlaceOf n place = (p : Placed) × Numbered (declarations text) 0 n p × (place ≡ p.place)

  abbrev pub last : ℕ
  last = length (declarations text)

  -- The first no, in the order of the two questions, each asked of every element before the next: 19 at the first
  -- ambiguous model, or 20 at the first element without a valid tree.
  abbrev pub SealRefused : Refusal → Type 0
  SealRefused r =
      (n : ℕ) × PlaceOf n r.place
      × (((number r.question ≡ 19) × FirstNo Unambiguous IsAmbiguous last (Some n))
      ⊎ ((number r.question ≡ 20) × FirstNo Unambiguous IsAmbiguous last None × FirstNo HasTree HasNoTree last (Some n)))

  -- No model is ambiguous, and every element has a valid tree.
  abbrev pub Sealable : Type 0
  Sealable = FirstNo Unambiguous IsAmbiguous last None × FirstNo HasTree HasNoTree last None

  -- What sealing answers.
  abbrev pub SealAnswer : Result (Unit {0}) Refusal → Type 0
  SealAnswer (Ok done) = Sealable
  SealAnswer (Err r) = SealRefused r

  -- The languages are those of the text: each number has the words of its model, and numbers without one have no word.
  pub record SpeaksText (language : ℕ → Language Letter) : Type 0 where
    pub words : (n : ℕ) (e : Exp ContentAtom) → ModelOf n e → Same (language n) (Words StandsFor e)
    pub others : (n : ℕ) → ((e : Exp ContentAtom) → ModelOf n e → ⊥) → Empty (language n)
