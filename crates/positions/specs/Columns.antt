-- Columns of a table: for each bucket of letters, which atoms stand for some letter of it.
use Rattle.std.specs.Prelude.{◌≡◌, ℕ, ◌+◌, ◌*◌, ◌/◌, ◌%◌, ◌<◌, ◌≤◌, List, length, slice_index, slice_index_or}
use Rattle.engine.specs.declared.alphabet.Letter.{Letter}
use Rattle.engine.specs.declared.alphabet.Letter.TheVariants.{Text, Element}
use Rattle.bits.specs.Sets.{Has}
use Rattle.models.specs.declared.node.Model.{Model}
use Rattle.models.specs.declared.node.Node.{Node}
use Rattle.models.specs.declared.node.Node.TheVariants as node
use Rattle.positions.specs.Following.{Atoms, FollowRows, HasRoom}

-- Text is in bucket 0, and an element in that of its number modulo 64. So the letters of declarations
-- with at most 63 elements have buckets of their own.
abbrev pub letter_bucket : Letter → ℕ
letter_bucket Text = 0
letter_bucket (Element n) = n % 64

-- A byte is in the bucket of its value modulo 64.
abbrev pub byte_bucket : ℕ → ℕ
byte_bucket b = b % 64

-- The atom stands for some letter of the bucket.
abbrev pub Meets : {A X : Type 0} → (A → X → Type 0) → (X → ℕ) → A → ℕ → Type 0
Meets {X = X} stands falls a bucket = (x : X) × stands a x × (falls x ≡ bucket)

-- The node is an atom that stands for some letter of the bucket.
abbrev pub Sorts : {A X : Type 0} → (A → X → Type 0) → (X → ℕ) → Node A → ℕ → Type 0
Sorts {A} stands falls x bucket = (a : A) × (x ≡ node.Atom a) × Meets stands falls a bucket

-- The set has exactly the numbers below a limit whose atom stands for some letter of the bucket. The
-- atoms begin at a place of the table.
abbrev pub Sorted : {A X : Type 0} → (A → X → Type 0) → (X → ℕ) → List (Node A) → ℕ → ℕ → ℕ → ℕ → Type 0
Sorted stands falls atoms base bucket limit set =
    (q : ℕ)
    → (Has set q → (q < limit) × Sorts stands falls (slice_index_or atoms (base + q) node.Unused) bucket)
    × ((q < limit) × Sorts stands falls (slice_index_or atoms (base + q) node.Unused) bucket → Has set q)

-- Every place has its column: that of bucket `i % 64` over the 64 atoms that stand at `i / 64`.
abbrev pub Columns : {A X : Type 0} → (A → X → Type 0) → (X → ℕ) → List (Node A) → List ℕ → Type 0
Columns stands falls atoms columns = (i : ℕ) → i < length columns → Sorted stands falls atoms (i / 64 * 64) (i % 64) 64 (slice_index columns i)

-- No atom is missing in a column: one that stands for a letter is in the column of the letter's bucket.
abbrev pub Complete : {A X : Type 0} → (A → X → Type 0) → (X → ℕ) → List (Node A) → List ℕ → Type 0
Complete stands falls atoms columns =
    (i q : ℕ) → (i < length columns) × (q < 64) × Sorts stands falls (slice_index_or atoms (i / 64 * 64 + q) node.Unused) (i % 64) → Has (slice_index columns i) q

-- There are 64 places of each kind for each element.
abbrev pub HasAllRoom : {A : Type 0} → ℕ → List ℕ → List (Node A) → List ℕ → Type 0
HasAllRoom elements rows atoms columns = HasRoom elements rows atoms × (64 * elements ≤ length columns)

-- A follow table of the models, with the atoms of every number and their columns.
pub record SortedTable {A X : Type 0} (stands : A → X → Type 0) (falls : X → ℕ) (nodes : List (Node A)) (models : List Model) (rows : List ℕ) (atoms : List (Node A)) (columns : List ℕ) : Type 0 where
  pub follow : FollowRows stands nodes models rows
  pub placed : Atoms nodes models atoms
  pub sorted : Columns stands falls atoms columns
