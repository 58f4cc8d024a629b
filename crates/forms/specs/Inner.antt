-- What the steps of reading a value form answer to each other.
use Rattle.std.specs.Prelude.{◌≡◌, ℕ, ◌+◌, ◌<◌, ◌≤◌, List, length, drop, Some, None, Option}
use Rattle.engine.specs.declared.range.ByteRange.{ByteRange}
use Rattle.models.specs.Expressions.{Exp, atom}
use Rattle.models.specs.Folds.{code}
use Rattle.scan.specs.Spans.{bytes_at}
use Rattle.scan.specs.Readings.{Front, bad, got, word, run, Stands, EndOf}
use Rattle.writing.specs.Wrote.{Wrote}
use Rattle.writing.specs.declared.signs.Joint as joint
use Rattle.writing.specs.declared.signs.Joint.TheVariants.{Sequence, Alternatives}
use Rattle.writing.specs.declared.signs.Mark as mark
use Rattle.writing.specs.declared.signs.Mark.TheVariants.{AnyNumber, AtLeastOne, Perhaps}
use Rattle.writing.specs.declared.writer.Writer.{Writer}
use Rattle.forms.specs.Grammar.{Joint, in_sequence, as_alternatives, Mark, any_number, at_least_one, perhaps, Form}
use Rattle.forms.specs.Numbers.{value_of, read_byte}
use Rattle.forms.specs.Readers.{read_range, read_members, read_marked, read_by_word, read_expression, member, ended, read_line}
use Rattle.forms.specs.declared.openings.Opening.{Opening}
use Rattle.forms.specs.declared.openings.Opening.TheVariants.{Range, Members, Marked}
use Rattle.scan.specs.declared.read.Read.{Read}
use Rattle.scan.specs.declared.span.Span.{Span}

-- What is answered about the number that digits write: none where it is no byte.
abbrev pub ValueIs : List ℕ → Option ℕ → Type 0
ValueIs digits None = 256 ≤ value_of digits
ValueIs digits (Some value) = (value ≡ value_of digits) × (value < 256)

-- What is answered about a byte in base ten: none exactly where the reading is bad.
abbrev pub NumeralAt : List ℕ → ℕ → Option (Read ℕ) → Type 0
NumeralAt text at None = read_byte (drop at text) ≡ bad
NumeralAt text at (Some numeral) =
    (rest : List ℕ) × (read_byte (drop at text) ≡ got numeral.value rest) × Stands text at rest numeral.end × (at < numeral.end)

-- What is answered about a range, from behind its opening word on.
abbrev pub RangeAt : List ℕ → ℕ → Option (Read ByteRange) → Type 0
RangeAt text at None = read_range (drop at text) ≡ bad
RangeAt text at (Some range) =
    (rest : List ℕ) × (read_range (drop at text) ≡ got (atom range.value) rest) × Stands text at rest range.end × (at < range.end)

-- The joint and the mark that the code calls by these names.
abbrev pub joint_of : joint.Joint → Joint
joint_of Sequence = in_sequence
joint_of Alternatives = as_alternatives

abbrev pub mark_of : mark.Mark → Mark
mark_of AnyNumber = any_number
mark_of AtLeastOne = at_least_one
mark_of Perhaps = perhaps

-- What is read behind an opening word.
abbrev pub read_opened : (List ℕ → Front (Exp ByteRange)) → Opening → List ℕ → Front (Exp ByteRange)
read_opened inner Range t = read_range t
read_opened inner (Members joint) t = read_members inner (joint_of joint) t
read_opened inner (Marked mark) t = read_marked inner (mark_of mark) t

-- What is answered about one opening word: where it ends, and the opening that it says.
abbrev pub OpenedBy : List ℕ → ℕ → List ℕ → Opening → Option (Read Opening) → Type 0
OpenedBy text at w opening None = 0 < length w → EndOf text at (word w (drop at text)) None
OpenedBy text at w opening (Some opened) =
    (opened.value ≡ opening) × (0 < length w → EndOf text at (word w (drop at text)) (Some opened.end))

-- What is answered about an opening word: it decides what the expression is read as, and where none stands no
-- expression does.
abbrev pub OpenedAt : List ℕ → ℕ → Option (Read Opening) → Type 0
OpenedAt text at None = (inner : List ℕ → Front (Exp ByteRange)) → read_by_word inner (drop at text) ≡ bad
OpenedAt text at (Some opened) =
    (at < opened.end) × (opened.end ≤ length text)
    × ((inner : List ℕ → Front (Exp ByteRange)) → read_by_word inner (drop at text) ≡ read_opened inner opened.value (drop opened.end text))

-- The expression e was read from a place of the text up to an end, with this rest behind it. It has no more nodes than
-- bytes were read, and they were written.
pub record PartIs (text : List ℕ) (at : ℕ) (e : Exp ByteRange) (rest : List ℕ) (before : Writer ByteRange (Unit {0})) (end : ℕ) (after : Writer ByteRange (Unit {0})) : Type 0 where
  pub stands : Stands text at rest end
  pub small : at + length (code e) ≤ end
  pub wrote : Wrote before (code e) after

-- What is answered about an expression: none exactly where the reading is bad.
abbrev pub ExpressionAt : List ℕ → ℕ → Front (Exp ByteRange) → Writer ByteRange (Unit {0}) → Option ℕ → Writer ByteRange (Unit {0}) → Type 0
ExpressionAt text at front before None after = front ≡ bad
ExpressionAt text at front before (Some end) after =
    (e : Exp ByteRange) × (rest : List ℕ) × (front ≡ got e rest) × PartIs text at e rest before end after

-- The members behind those that make the expression so far, and the closing bracket.
abbrev pub read_more : ℕ → Joint → Exp ByteRange → List ℕ → Front (Exp ByteRange)
read_more left joint so_far t = ended (run (member (read_expression left) joint) so_far t)

-- The line of a form stands in the text from a place on: where its name stands, and where the line ends.
pub record LineIs (text : List ℕ) (at : ℕ) (form : Form) (rest : List ℕ) (line : Read Span) : Type 0 where
  pub stands : Stands text at rest line.end
  pub longer : at < line.end
  pub name : bytes_at text line.value ≡ form.name
  pub name_starts : line.value.start ≡ at + 1
  pub name_forward : line.value.start ≤ line.value.end
  pub name_before : line.value.end ≤ line.end
  pub small : at + length (code form.shape) ≤ line.end

-- What is answered about a form whose expression's nodes are written.
abbrev pub WritesAt : List ℕ → ℕ → Writer ByteRange (Unit {0}) → Option (Read Span) → Writer ByteRange (Unit {0}) → Type 0
WritesAt text at before None after = read_line (drop at text) ≡ bad
WritesAt text at before (Some line) after =
    (form : Form) × (rest : List ℕ) × (read_line (drop at text) ≡ got form rest) × LineIs text at form rest line
    × Wrote before (code form.shape) after
