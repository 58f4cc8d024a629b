-- The worked examples: a week's declarations and a form, their follow rows, and which models are ambiguous.
use Rattle.std.specs.Prelude.{◌≡◌, List, [], ◌∷◌, ℕ, zero, suc, ◌+◌, length}
use Rattle.std.proofs.Common.{lit≤, lit<}
use Rattle.engine.specs.Atoms.{StandsFor, InRange}
use Rattle.engine.specs.declared.alphabet.ContentAtom.{ContentAtom}
use Rattle.engine.specs.declared.alphabet.ContentAtom.TheVariants.{Text, Element}
use Rattle.engine.specs.declared.range.ByteRange.{ByteRange}
use Rattle.models.specs.Expressions.{Exp, empty, atom, seq, alt, star, plus, option, Words}
use Rattle.models.specs.Folds.{code}
use Rattle.models.specs.Marks.{Ambiguous}
use Rattle.positions.specs.Following.{row}

abbrev pub element : ℕ → Exp ContentAtom
element n = atom (Element n)

-- The week: sheet 1, week 2, shift 3, correction 4, lock 5, staff 6, hours 7, note 8.
abbrev pub sheet : Exp ContentAtom
sheet = seq (seq (seq (element 2) (plus (element 3))) (star (element 4))) (element 5)

abbrev pub text_only : Exp ContentAtom
text_only = star (atom Text)

abbrev pub shift : Exp ContentAtom
shift = seq (element 6) (element 7)

abbrev pub correction : Exp ContentAtom
correction = seq (seq (element 6) (option (element 7))) (element 8)

abbrev pub note : Exp ContentAtom
note = star (alt (atom Text) (element 6))

-- The nodes of several expressions together.
abbrev pub nodes_in : List (Exp ContentAtom) → ℕ
nodes_in [] = 0
nodes_in (e ∷ es) = length (code e) + nodes_in es

abbrev pub week : List (Exp ContentAtom)
week = sheet ∷ (text_only ∷ (shift ∷ (correction ∷ (empty ∷ (text_only ∷ (text_only ∷ (note ∷ [])))))))

abbrev pub digit : Exp ByteRange
digit = atom (record { low = 48; high = 57; ordered = (lit≤ tt, lit< tt) })

abbrev pub point : Exp ByteRange
point = atom (record { low = 46; high = 46; ordered = (lit≤ tt, lit< tt) })

-- Hours: digits, and perhaps a point and two digits.
abbrev pub hours : Exp ByteRange
hours = seq (plus digit) (option (seq (seq point digit) digit))

-- The first entries of a follow row, from atom p on.
abbrev pub rows_from : {A : Type 0} → Exp A → ℕ → ℕ → List ℕ
rows_from e p zero = []
rows_from e p (suc k) = row e p ∷ rows_from e (p + 1) k

-- Everything that the worked examples say of the definitions, together.
pub record Worked : Type 0 where
  pub week_nodes : nodes_in week ≡ 29
  pub sheet_row : rows_from sheet 0 5 ≡ 2 ∷ (4 ∷ (28 ∷ (24 ∷ (1 ∷ []))))
  pub note_row : rows_from note 0 3 ≡ 7 ∷ (7 ∷ (7 ∷ []))
  pub hours_row : rows_from hours 0 5 ≡ 2 ∷ (7 ∷ (8 ∷ (16 ∷ (1 ∷ []))))
  pub one_or_more_row : rows_from (seq (element 2) (plus (element 2))) 0 3 ≡ 2 ∷ (4 ∷ (5 ∷ []))
  pub title_row : rows_from (alt (seq (element 2) (option (element 3))) (element 3)) 0 4 ≡ 10 ∷ (5 ∷ (1 ∷ (1 ∷ [])))
  pub title_twice : Ambiguous StandsFor (alt (alt (element 2) (seq (element 2) (element 3))) (element 3))
  pub option_swallows : Ambiguous StandsFor (seq (option (element 2)) (element 2))
  pub hours_whole : Words InRange hours (55 ∷ [])
  pub hours_half : Words InRange hours (55 ∷ (46 ∷ (53 ∷ (48 ∷ []))))
  pub hours_not : Words InRange hours (55 ∷ (46 ∷ (53 ∷ []))) → ⊥
