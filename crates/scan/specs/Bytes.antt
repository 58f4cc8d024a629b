-- Kinds of bytes: blanks, the bytes of names, and the bytes that text may hold.
use Rattle.std.specs.Prelude.{ℕ, Bool, true, false, ◌&&◌, ◌||◌, List, [], ◌∷◌, ◌==◌, nat_le}

-- From a low byte to a high one, both included.
abbrev pub within : ℕ → ℕ → ℕ → Bool
within low high b = nat_le low b && nat_le b high

-- A blank: tab, line feed, carriage return, space.
abbrev pub is_blank : ℕ → Bool
is_blank b = b == 9 || (b == 10 || (b == 13 || b == 32))

-- A letter, `_` or `:`: what a name may begin with.
abbrev pub is_initial : ℕ → Bool
is_initial b = within 65 90 b || (within 97 122 b || (b == 95 || b == 58))

-- What a name may go on with: an initial, a digit, `.` or `-`.
abbrev pub is_name_byte : ℕ → Bool
is_name_byte b = is_initial b || (within 48 57 b || (b == 46 || b == 45))

-- What text and comments may hold: tab, line feed, carriage return, and every byte from 32 on.
abbrev pub is_text_byte : ℕ → Bool
is_text_byte b = b == 9 || (b == 10 || (b == 13 || nat_le 32 b))

-- Whether the text begins with such a byte.
abbrev pub first_is : (ℕ → Bool) → List ℕ → Bool
first_is test [] = false
first_is test (b ∷ t) = test b

-- The text behind its leading blanks.
unfoldable pub skip : List ℕ → List ℕ
skip [] = []
skip (b ∷ t) = elim (is_blank b) [ true ↦ skip t | false ↦ b ∷ t ]
