-- What each element of a bakery's week may hold.
use Rattle.std.specs.Prelude.{◌≡◌, ℕ, suc, List, [], ◌∷◌, ◌++◌, replicate}
use Rattle.engine.specs.Languages.{Language, Each}
use Rattle.engine.specs.Trees.{IsText}
use Rattle.engine.specs.declared.alphabet.Letter.{Letter}
use Rattle.engine.specs.declared.alphabet.Letter.TheVariants.{Element}

-- A sheet closes with so many corrections, and then the lock.
abbrev pub closing : ℕ → List Letter
closing corrections = replicate corrections (Element 3) ++ (Element 4 ∷ [])

-- A sheet holds one shift or more, then any number of corrections, then one lock.
abbrev pub SheetWord : Language Letter
SheetWord w = (more corrections : ℕ) × (w ≡ replicate (suc more) (Element 2) ++ closing corrections)

-- A shift, like a correction, holds exactly one entry of hours.
abbrev pub OneHours : Language Letter
OneHours w = w ≡ Element 5 ∷ []

-- An element of number n may hold the word w: a sheet is 1, a shift 2, a correction 3, the lock, which
-- holds nothing, 4, and hours, which hold text alone, 5; no other number may hold any word.
pub data Holds (n : ℕ) (w : List Letter) : Type 0 where
  sheet : n ≡ 1 → SheetWord w → Holds n w
  shift : n ≡ 2 → OneHours w → Holds n w
  correction : n ≡ 3 → OneHours w → Holds n w
  lock : n ≡ 4 → w ≡ [] → Holds n w
  hours : n ≡ 5 → Each IsText w → Holds n w
