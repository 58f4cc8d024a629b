-- What the calls that read declarations answer.
use Rattle.std.specs.Prelude.{◌≡◌, ℕ, ◌+◌, ◌<◌, ◌≤◌, true, List, [], ◌∷◌, length, take, drop, Some, None, Option}
use Rattle.engine.specs.declared.alphabet.ContentAtom.{ContentAtom}
use Rattle.models.specs.Expressions.{atoms}
use Rattle.models.specs.Folds.{code}
use Rattle.models.specs.declared.node.Node.{Node}
use Rattle.scan.specs.Bytes.{is_blank, first_is}
use Rattle.scan.specs.Comments.{read_comment}
use Rattle.scan.specs.Lists.{all_listed, distinct, names_at, puts}
use Rattle.scan.specs.Names.{Name}
use Rattle.scan.specs.Spans.{bytes_at}
use Rattle.scan.specs.Readings.{Front, bad, got, Stands, EndOf, over, stuck, next}
use Rattle.scan.specs.declared.entry.Entry.{Entry}
use Rattle.std.specs.List.{prefix_len}
use Rattle.declarations.specs.Contents.{Declaration}
use Rattle.declarations.specs.Grammar.{State, moved}
use Rattle.declarations.specs.Models.{content_names, mixed_names, model}
use Rattle.declarations.specs.Readers.{read_declaration, item}
use Rattle.declarations.specs.declared.declared.Declared.{Declared}
use Rattle.declarations.specs.declared.declared.Piece.{Piece}
use Rattle.declarations.specs.declared.declared.Piece.TheVariants.{Blanks, Comment, End, Unread}
use Rattle.declarations.specs.declared.declared.Piece.TheVariants as piece

-- A table of nodes.
abbrev pub Nodes : Type 0
Nodes = List (Node ContentAtom)

-- The names that have numbers: those of the first 63 entries.
abbrev pub numbered_names : List ℕ → List Entry → List Name
numbered_names text entries = names_at text (take 63 entries)

-- Where the name of a declaration begins: behind the nine bytes of `<!ELEMENT` and the blanks after them.
abbrev pub name_start : List ℕ → ℕ → ℕ
name_start text place = (place + 9) + prefix_len is_blank (drop (place + 9) text)

-- The declaration d stands in the text from a place up to the end that is told, with this rest behind it. Told are the
-- place of its name, the numbers of atoms and nodes of its model, whether all names of its content are among the names
-- with numbers, and, if they are, whether those of a mixed model differ.
pub record DeclaredIs (text : List ℕ) (names : List Name) (at : ℕ) (d : Declaration) (rest : List ℕ) (told : Declared) : Type 0 where
  pub stands : Stands text at rest told.end
  pub longer : at < told.end
  pub name : bytes_at text told.name ≡ d.name
  pub begins : told.name.start ≡ name_start text at
  pub name_after : at ≤ told.name.start
  pub name_forward : told.name.start ≤ told.name.end
  pub name_before : told.name.end ≤ told.end
  pub atom_count : told.atoms ≡ atoms (model names d.content)
  pub node_count : told.nodes ≡ length (code (model names d.content))
  pub small : at + told.nodes ≤ told.end
  pub all_known : told.known ≡ all_listed names (content_names d.content)
  pub differ : told.known ≡ true → told.distinct ≡ distinct (mixed_names d.content)

-- What is answered about a declaration: none exactly where none stands at the place.
abbrev pub DeclaredAt : List ℕ → List Name → ℕ → Option Declared → Type 0
DeclaredAt text names at None = read_declaration (drop at text) ≡ bad
DeclaredAt text names at (Some told) =
    (d : Declaration) × (rest : List ℕ) × (read_declaration (drop at text) ≡ got d rest) × DeclaredIs text names at d rest told

-- The table with the nodes of a declaration's model written over it from a place on; where no declaration was read it
-- is as it was.
unfoldable pub with_model : List Name → Front Declaration → Nodes → ℕ → Nodes
with_model names bad table used = table
with_model names (got d rest) table used = puts table used (code (model names d.content))

-- The text from the place on up to an end is read as one item without a declaration.
pub record Passed (text : List ℕ) (at : ℕ) (end : ℕ) : Type 0 where
  pub rest : List ℕ
  pub stands : Stands text at rest end
  pub longer : at < end
  pub turn : (s : State) → item s (drop at text) ≡ next (moved s (drop at text) rest []) rest

-- What is answered about the item at a place: blanks, a comment, a declaration, nothing behind the end, or what is no
-- item.
abbrev pub PieceAt : List ℕ → List Name → ℕ → Piece → Type 0
PieceAt text names at (Blanks end) = (first_is is_blank (drop at text) ≡ true) × Passed text at end
PieceAt text names at (Comment end) = EndOf text at (read_comment (drop at text)) (Some end) × Passed text at end
PieceAt text names at (piece.Declaration told) =
    (d : Declaration) × (rest : List ℕ) × (read_declaration (drop at text) ≡ got d rest) × DeclaredIs text names at d rest told
    × ((s : State) → item s (drop at text) ≡ next (moved s (drop at text) rest (record { place = s.place; declaration = d } ∷ [])) rest)
PieceAt text names at End = (s : State) → item s (drop at text) ≡ over
PieceAt text names at Unread = (s : State) → item s (drop at text) ≡ stuck
