-- What the steps of reading a declaration answer to each other.
use Rattle.std.specs.Prelude.{◌≡◌, ℕ, ◌+◌, ◌<◌, ◌≤◌, Bool, true, false, ◌&&◌, List, length, drop, Some, None, Option, nat_eq}
use Rattle.engine.specs.declared.alphabet.ContentAtom.{ContentAtom}
use Rattle.models.specs.Expressions.{Exp}
use Rattle.models.specs.Folds.{code}
use Rattle.bits.specs.Sets.{Has}
use Rattle.scan.specs.Bytes.{is_initial, first_is}
use Rattle.scan.specs.Lists.{number_of, NumberIs, listed, all_listed, distinct}
use Rattle.scan.specs.Names.{Name, read_name}
use Rattle.scan.specs.Readings.{Front, bad, got, Stands}
use Rattle.scan.specs.Spans.{bytes_at}
use Rattle.scan.specs.declared.read.Read.{Read}
use Rattle.scan.specs.declared.span.Span.{Span}
use Rattle.writing.specs.Wrote.{Wrote}
use Rattle.writing.specs.declared.signs.Joint as joint
use Rattle.writing.specs.declared.signs.Joint.TheVariants.{Sequence, Alternatives}
use Rattle.writing.specs.declared.signs.Mark.{Mark}
use Rattle.writing.specs.declared.signs.Mark.TheVariants.{AnyNumber, AtLeastOne, Perhaps}
use Rattle.declarations.specs.Answers.{name_start}
use Rattle.declarations.specs.Contents.{Content, Declaration}
use Rattle.declarations.specs.Grammar.{Joint, by_comma, by_bar}
use Rattle.declarations.specs.Models.{names_in, content_names, mixed_names, numbered, model}
use Rattle.declarations.specs.Readers.{named, read_group, read_content, with_content, read_declaration}
use Rattle.declarations.specs.declared.mixed.Seen.{Seen}
use Rattle.declarations.specs.Writers.{ModelWriter}
use Rattle.declarations.specs.declared.reading.Head.{Head}

-- An expression was read from a place of the text up to an end, with this rest behind it. Its model m has no more nodes
-- than bytes were read, and they were written; and it is told whether all its names are among the names with numbers.
pub record PartIs (text : List ℕ) (names : List Name) (at : ℕ) (m : Exp ContentAtom) (its : List Name) (rest : List ℕ) (before : ModelWriter) (end : ℕ) (after : ModelWriter) : Type 0 where
  pub stands : Stands text at rest end
  pub small : at + length (code m) ≤ end
  pub all_known : after.told ≡ (before.told && all_listed names its)
  pub wrote : Wrote before (code m) after

-- What is answered about an expression of names: none exactly where the reading is bad.
abbrev pub ExpressionAt : List ℕ → List Name → ℕ → Front (Exp Name) → ModelWriter → Option ℕ → ModelWriter → Type 0
ExpressionAt text names at front before None after = front ≡ bad
ExpressionAt text names at front before (Some end) after =
    (e : Exp Name) × (rest : List ℕ) × (front ≡ got e rest) × PartIs text names at (numbered names e) (names_in e) rest before end after

-- What is answered about a name: where it ends, and its number.
abbrev pub NumberedAt : List ℕ → List Name → ℕ → Option (Read (Option ℕ)) → Type 0
NumberedAt text names at None = read_name (drop at text) ≡ bad
NumberedAt text names at (Some read) =
    (name : Name) × (rest : List ℕ) × (read_name (drop at text) ≡ got name rest) × Stands text at rest read.end × (at < read.end)
    × NumberIs (number_of names name) read.value

-- The mark at the front of a text, if one is there.
abbrev pub mark_at : List ℕ → Option Mark
mark_at t =
    elim (first_is (nat_eq 63) t) [
      | true ↦ Some Perhaps
      | false ↦ elim (first_is (nat_eq 42) t) [ true ↦ Some AnyNumber | false ↦ elim (first_is (nat_eq 43) t) [ true ↦ Some AtLeastOne | false ↦ None ] ]
    ]

-- The joint of the grammar: a comma makes a sequence of members, a bar a choice.
abbrev pub joint_of : joint.Joint → Joint
joint_of Sequence = by_comma
joint_of Alternatives = by_bar

-- A particle without its mark: a name, or a group.
abbrev pub read_unit : ℕ → List ℕ → Front (Exp Name)
read_unit left t = elim (first_is is_initial t) [ true ↦ named (read_name t) | false ↦ read_group left t ]

-- The set holds the numbers of these names, as far as they have any; and if they all have one, it is told whether no
-- name stands twice among them.
pub record SeenIs (names : List Name) (its : List Name) (seen : Seen) : Type 0 where
  pub came : (y : Name) → listed names y ≡ true → Has seen.set (number_of names y) → listed its y ≡ true
  pub comes : (y : Name) → listed names y ≡ true → listed its y ≡ true → Has seen.set (number_of names y)
  pub differ : all_listed names its ≡ true → seen.distinct ≡ distinct its

-- What is answered about the content of a declaration. That the names of a mixed model differ is told where they are
-- all known.
pub record BodyIs (text : List ℕ) (names : List Name) (at : ℕ) (content : Content) (rest : List ℕ) (before : ModelWriter) (body : Read Bool) (after : ModelWriter) : Type 0 where
  pub part : PartIs text names at (model names content) (content_names content) rest before body.end after
  pub differ : all_listed names (content_names content) ≡ true → body.value ≡ distinct (mixed_names content)

abbrev pub ContentAt : List ℕ → List Name → ℕ → Front Content → ModelWriter → Option (Read Bool) → ModelWriter → Type 0
ContentAt text names at front before None after = front ≡ bad
ContentAt text names at front before (Some body) after =
    (content : Content) × (rest : List ℕ) × (front ≡ got content rest) × BodyIs text names at content rest before body after

-- What is answered about the beginning of a declaration, up to its content: where the name stands and where the content
-- begins, from where the rest decides the whole.
abbrev pub HeadAt : List ℕ → ℕ → Option (Read Span) → Type 0
HeadAt text at None = read_declaration (drop at text) ≡ bad
HeadAt text at (Some name) =
    (read_declaration (drop at text) ≡ with_content (bytes_at text name.value) (read_content (drop name.end text)))
    × (at < name.value.start) × (name.value.start ≤ name.value.end) × (name.value.end ≤ name.end) × (name.end ≤ length text)
    × (name.value.start ≡ name_start text at)

-- The declaration d stands in the text from a place on: where it ends, where its name stands, and, if all names of its
-- content are among the names with numbers, whether those of a mixed model differ.
pub record StandsAs (text : List ℕ) (names : List Name) (at : ℕ) (d : Declaration) (rest : List ℕ) (read : Read Head) : Type 0 where
  pub stands : Stands text at rest read.end
  pub longer : at < read.end
  pub name : bytes_at text read.value.name ≡ d.name
  pub begins : read.value.name.start ≡ name_start text at
  pub name_after : at ≤ read.value.name.start
  pub name_forward : read.value.name.start ≤ read.value.name.end
  pub name_before : read.value.name.end ≤ read.end
  pub small : at + length (code (model names d.content)) ≤ read.end
  pub differ : all_listed names (content_names d.content) ≡ true → read.value.distinct ≡ distinct (mixed_names d.content)

-- What is answered about a declaration whose model is written.
abbrev pub WritesAt : List ℕ → List Name → ℕ → ModelWriter → Option (Read Head) → ModelWriter → Type 0
WritesAt text names at before None after = read_declaration (drop at text) ≡ bad
WritesAt text names at before (Some read) after =
    (d : Declaration) × (rest : List ℕ) × (read_declaration (drop at text) ≡ got d rest) × StandsAs text names at d rest read
    × (after.told ≡ (before.told && all_listed names (content_names d.content)))
    × Wrote before (code (model names d.content)) after
