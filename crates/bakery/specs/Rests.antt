-- What may still come in each state of the two engines; in a state of any other number nothing may.
use Rattle.std.specs.Prelude.{◌≡◌, ℕ, List, [], ◌∷◌, ◌++◌, replicate}
use Rattle.engine.specs.Languages.{Language, Each}
use Rattle.engine.specs.Trees.{IsText}
use Rattle.engine.specs.declared.alphabet.Letter.{Letter}
use Rattle.engine.specs.declared.alphabet.Letter.TheVariants.{Element}
use Rattle.bakery.specs.Contents.{closing, SheetWord, OneHours}
use Rattle.bakery.specs.Values.{IsDigit, Hundredths, HoursText}

-- The content that may still come is a whole sheet, further shifts and what closes the sheet, what closes
-- it, one entry of hours, text, or nothing.
pub data ContentLeft (state : ℕ) (w : List Letter) : Type 0 where
  whole : state ≡ 1 → SheetWord w → ContentLeft state w
  shifts : (more corrections : ℕ) → state ≡ 2 → w ≡ replicate more (Element 2) ++ closing corrections → ContentLeft state w
  corrections : (more : ℕ) → state ≡ 3 → w ≡ closing more → ContentLeft state w
  entry : state ≡ 4 → OneHours w → ContentLeft state w
  texts : state ≡ 5 → Each IsText w → ContentLeft state w
  nothing : state ≡ 6 → w ≡ [] → ContentLeft state w

-- After a digit there come any number of digits, and then perhaps hundredths.
abbrev pub DigitsOn : Language ℕ
DigitsOn w = (digits part : List ℕ) × (w ≡ digits ++ part) × Each IsDigit digits × Hundredths part

-- The bytes that may still come are all of the hours, further digits and perhaps hundredths, two digits,
-- one digit, or none.
pub data ValueLeft (state : ℕ) (w : List ℕ) : Type 0 where
  whole : state ≡ 1 → HoursText w → ValueLeft state w
  digits : state ≡ 2 → DigitsOn w → ValueLeft state w
  two : (tenths last : ℕ) → state ≡ 3 → IsDigit tenths → IsDigit last → w ≡ tenths ∷ last ∷ [] → ValueLeft state w
  one : (last : ℕ) → state ≡ 4 → IsDigit last → w ≡ last ∷ [] → ValueLeft state w
  nothing : state ≡ 5 → w ≡ [] → ValueLeft state w
