-- Which texts count as hours.
use Rattle.std.specs.Prelude.{◌≡◌, ℕ, ◌≤◌, List, [], ◌∷◌, ◌++◌}
use Rattle.engine.specs.Languages.{Language, Each}

-- A digit is a byte from 48 to 57.
abbrev pub IsDigit : ℕ → Type 0
IsDigit b = (48 ≤ b) × (b ≤ 57)

-- Hundredths of an hour are left out, or are a point, which is byte 46, and exactly two digits.
pub data Hundredths (w : List ℕ) : Type 0 where
  left_out : w ≡ [] → Hundredths w
  written : (tenths last : ℕ) → IsDigit tenths → IsDigit last → w ≡ 46 ∷ tenths ∷ last ∷ [] → Hundredths w

-- Hours are written with one digit or more, and then perhaps hundredths.
abbrev pub HoursText : Language ℕ
HoursText w = (first : ℕ) × (digits part : List ℕ) × (w ≡ (first ∷ digits) ++ part) × Each IsDigit (first ∷ digits) × Hundredths part

-- The text of an element of number n has to read w: only hours, which are number 5, have such a text.
abbrev pub Reads : ℕ → Language ℕ
Reads n w = (n ≡ 5) × HoursText w
