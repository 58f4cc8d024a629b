-- The grammar of value forms, one a line: each relation says what is read at the front of a text and what is left.
use Rattle.std.specs.Prelude.{◌≡◌, ℕ, zero, suc, ◌+◌, ◌-◌, ◌≢◌, ◌⊎◌, List, [], ◌∷◌, ◌++◌, length, codes}
use Rattle.engine.specs.declared.range.ByteRange.{ByteRange}
use Rattle.models.specs.Expressions.{Exp, atom, seq, alt, star, plus, option}
use Rattle.scan.specs.Names.{Name, ReadsName}
use Rattle.scan.specs.Readings.{Repeats}
use Rattle.forms.specs.Numbers.{ReadsByte}

-- `[range low high]`, where low is at most high: the bytes from low to high.
abbrev pub Range : List ℕ → Exp ByteRange → List ℕ → Type 0
Range text e rest =
    (after_word : List ℕ) × (range : ByteRange) × (after_low : List ℕ) × (before_high : List ℕ) × (after_high : List ℕ)
    × (text ≡ codes "[range " ++ after_word) × ReadsByte after_word range.low after_low
    × (after_low ≡ 32 ∷ before_high) × ReadsByte before_high range.high after_high
    × (after_high ≡ 93 ∷ rest) × (e ≡ atom range)

-- How the members of a list are joined.
pub data Joint : Type 0 where
  in_sequence as_alternatives : Joint

abbrev pub opening : Joint → List ℕ
opening in_sequence = codes "[seq "
opening as_alternatives = codes "[alt "

abbrev pub join : Joint → Exp ByteRange → Exp ByteRange → Exp ByteRange
join in_sequence e f = seq e f
join as_alternatives e f = alt e f

-- What may come again, more than once or not at all.
pub data Mark : Type 0 where
  any_number at_least_one perhaps : Mark

abbrev pub mark_opening : Mark → List ℕ
mark_opening any_number = codes "[star "
mark_opening at_least_one = codes "[plus "
mark_opening perhaps = codes "[opt "

abbrev pub marked : Mark → Exp ByteRange → Exp ByteRange
marked any_number e = star e
marked at_least_one e = plus e
marked perhaps e = option e

-- What stands inside brackets is described by the relation `Inner`.
module _ (Inner : List ℕ → Exp ByteRange → List ℕ → Type 0) where
  -- One more member: a space and an expression. It is joined to those before it.
  abbrev pub Member : Joint → Exp ByteRange → List ℕ → Exp ByteRange → List ℕ → Type 0
  Member joint so_far text joined rest =
      (mid : List ℕ) × (e : Exp ByteRange) × (text ≡ 32 ∷ mid) × Inner mid e rest × (joined ≡ join joint so_far e)

  -- `[seq e e ..]` or `[alt e e ..]`, with two members or more.
  abbrev pub Members : Joint → List ℕ → Exp ByteRange → List ℕ → Type 0
  Members joint text e rest =
      (inside : List ℕ) × (first : Exp ByteRange) × (after_first : List ℕ) × (second : Exp ByteRange) × (after_second : List ℕ) × (end : List ℕ)
      × (text ≡ opening joint ++ inside) × Inner inside first after_first
      × Member joint first after_first second after_second
      × Repeats (Member joint) second after_second e end × (end ≡ 93 ∷ rest)

  -- `[star e]`, `[plus e]` or `[opt e]`.
  abbrev pub Marked : Mark → List ℕ → Exp ByteRange → List ℕ → Type 0
  Marked mark text e rest =
      (inside : List ℕ) × (inner : Exp ByteRange) × (end : List ℕ)
      × (text ≡ mark_opening mark ++ inside) × Inner inside inner end × (end ≡ 93 ∷ rest) × (e ≡ marked mark inner)

-- An expression, with at most so many brackets open at once.
abbrev pub Expression : ℕ → List ℕ → Exp ByteRange → List ℕ → Type 0
Expression zero text e rest = ⊥
Expression (suc left) text e rest =
    Range text e rest
    ⊎ (((joint : Joint) × Members (Expression left) joint text e rest)
    ⊎ ((mark : Mark) × Marked (Expression left) mark text e rest))

-- A form: an element's name, and how its text has to be written.
pub record Form : Type 0 where
  pub name : Name
  pub shape : Exp ByteRange

-- Brackets nest at most 16 deep, and the line's own is the first.
abbrev pub deepest : ℕ
deepest = 15

-- `[name e]` and the end of the line, which is byte 10.
pub record Line (text : List ℕ) (form : Form) (rest : List ℕ) : Type 0 where
  pub before_name : List ℕ
  pub after_name : List ℕ
  pub before_shape : List ℕ
  pub after_shape : List ℕ
  pub opened : text ≡ 91 ∷ before_name
  pub name : ReadsName before_name form.name after_name
  pub space : after_name ≡ 32 ∷ before_shape
  pub shape : Expression deepest before_shape form.shape after_shape
  pub closed : after_shape ≡ 93 ∷ (10 ∷ rest)

-- A form and the place of its line.
pub record Placed : Type 0 where
  pub place : ℕ
  pub form : Form

-- The place in the text, and the forms so far.
pub record State : Type 0 where
  pub place : ℕ
  pub found : List Placed

abbrev pub moved : State → List ℕ → List ℕ → Form → State
moved s text rest form = record { place = s.place + (length text - length rest); found = s.found ++ (record { place = s.place; form = form } ∷ []) }

-- One line more.
abbrev pub OneLine : State → List ℕ → State → List ℕ → Type 0
OneLine s text after rest = (form : Form) × Line text form rest × (after ≡ moved s text rest form)

abbrev pub beginning : State
beginning = record { place = 0; found = [] }

-- The whole text is these forms, a line each.
abbrev pub Reads : List ℕ → List Placed → Type 0
Reads text found = (end : State) × Repeats OneLine beginning text end [] × (end.found ≡ found)

-- Up to this place the text is a list of forms, and there no form stands.
abbrev pub UnreadAt : List ℕ → ℕ → Type 0
UnreadAt text place =
    (end : State) × (rest : List ℕ) × Repeats OneLine beginning text end rest × (end.place ≡ place) × (rest ≢ [])
    × ((after : State) (further : List ℕ) → OneLine end rest after further → ⊥)
