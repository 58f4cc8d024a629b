-- What two engines agree on: values are for elements of plain text only.
use Rattle.std.specs.Prelude.{ℕ, ◌≤◌, Bool, true, false, ◌⊎◌, List}
use Rattle.engine.specs.Languages.{Language, Empty, Inhabited, Each}
use Rattle.engine.specs.Trees.{Plain, Contents, IsByte}
use Rattle.engine.specs.declared.alphabet.Letter.{Letter}
use Rattle.frames.specs.Meanings.{Meaning}

-- What is agreed: the law of contents; of each number from 1 to 63, that it has no value language, or has
-- one and is plain; and that values are bytes.
pub record Agreed (C : ℕ → Language Letter) (V : ℕ → Language ℕ) : Type 0 where
  pub law : Contents C
  pub values : (n : ℕ) → 1 ≤ n → n ≤ 63 → Empty (V n) ⊎ (Inhabited (V n) × Plain C n)
  pub bytes : (n : ℕ) → 1 ≤ n → n ≤ 63 → (w : List ℕ) → V n w → Each IsByte w

module _ (m : Meaning) where
  -- Yes: it is agreed. No: some number from 1 to 63 has a value language and is not plain.
  abbrev pub Agrees : Bool → Type 0
  Agrees true = Agreed m.contents m.values
  Agrees false = (n : ℕ) × (1 ≤ n) × (n ≤ 63) × Inhabited (m.values n) × (Plain m.contents n → ⊥)

  -- The same of one number.
  abbrev pub AgreesAt : ℕ → Bool → Type 0
  AgreesAt n true = Contents m.contents × (Empty (m.values n) ⊎ (Inhabited (m.values n) × Plain m.contents n)) × ((w : List ℕ) → m.values n w → Each IsByte w)
  AgreesAt n false = Inhabited (m.values n) × (Plain m.contents n → ⊥)
