-- Follow sets as rows of a table.
use Rattle.std.specs.Prelude.{◌≡◌, ℕ, ◌+◌, ◌-◌, ◌*◌, ◌/◌, ◌%◌, ◌^◌, ◌<◌, ◌≤◌, List, [], length, replicate, bit_or, slice_index, slice_index_or}
use Rattle.derivative.specs.Derivation.{derivation, after_state, ends_in}
use Rattle.models.specs.Expressions.{Exp}
use Rattle.models.specs.Folds.{code, value}
use Rattle.models.specs.Readers.{atoms_of, Numbered}
use Rattle.models.specs.Marks.{Follows, EndsAfter}
use Rattle.bits.specs.Sets.{Has, guarded, singleton}
use Rattle.models.specs.Tables.{Coded}
use Rattle.models.specs.declared.node.Model.{Model}
use Rattle.models.specs.declared.node.Node.{Node}
use Rattle.models.specs.declared.node.Node.TheVariants as node

-- Every bit of a set.
abbrev pub everything : ℕ
everything = 2 ^ 64 - 1

-- The row of atom p: what may be read after p, whatever the letter, with 0 among it where the word may stop there.
abbrev pub row : {A : Type 0} → Exp A → ℕ → ℕ
row e p =
    let d = value (derivation (singleton p) everything) 0 e in
    bit_or (after_state (singleton p) d) (guarded (ends_in (singleton p) d) 1)

-- The row at a place: that of atom `i % 64` of number `i / 64 + 1`; zero where the number has no expression.
pub record RowAt {A : Type 0} (nodes : List (Node A)) (models : List Model) (i : ℕ) (entry : ℕ) : Type 0 where
  pub coded : (e : Exp A) → Coded nodes models (i / 64 + 1) e → entry ≡ row e (i % 64)
  pub none : ((e : Exp A) → Coded nodes models (i / 64 + 1) e → ⊥) → entry ≡ 0

-- The node is the atom of that number among the nodes, and unused where there is none.
pub record AtomAt {A : Type 0} (nodes : List (Node A)) (n : ℕ) (x : Node A) : Type 0 where
  pub found : (a : A) → Numbered (atoms_of nodes) 0 n a → x ≡ node.Atom a
  pub none : ((a : A) → Numbered (atoms_of nodes) 0 n a → ⊥) → x ≡ node.Unused

-- The atom `i % 64` of number `i / 64 + 1`.
abbrev pub NodeAt : {A : Type 0} → List (Node A) → List Model → ℕ → Node A → Type 0
NodeAt {A} nodes models i x = (e : Exp A) → Coded nodes models (i / 64 + 1) e → AtomAt (code e) (i % 64) x

-- Every place has its row.
abbrev pub Rows : {A : Type 0} → List (Node A) → List Model → List ℕ → Type 0
Rows nodes models rows = (i : ℕ) → i < length rows → RowAt nodes models i (slice_index rows i)

-- Every place has its atom.
abbrev pub Atoms : {A : Type 0} → List (Node A) → List Model → List (Node A) → Type 0
Atoms nodes models atoms = (i : ℕ) → i < length atoms → NodeAt nodes models i (slice_index_or atoms i node.Unused)

-- There are 64 places for each element.
abbrev pub HasRoom : {A : Type 0} → ℕ → List ℕ → List (Node A) → Type 0
HasRoom elements rows atoms = (64 * elements ≤ length rows) × (64 * elements ≤ length atoms)

-- There are as many places as before.
abbrev pub SamePlaces : {A : Type 0} → List ℕ → List (Node A) → List ℕ → List (Node A) → Type 0
SamePlaces rows atoms rows' atoms' = (length rows' ≡ length rows) × (length atoms' ≡ length atoms)

-- Every place is left zero.
abbrev pub Zeroed : {A : Type 0} → List ℕ → List (Node A) → List ℕ → List (Node A) → Type 0
Zeroed rows atoms rows' atoms' = (rows' ≡ replicate (length rows) 0) × (atoms' ≡ replicate (length atoms) node.Unused)

-- The places passed over to a table, so that none is left here.
abbrev pub PassedOn : {A : Type 0} → List ℕ → List (Node A) → Type 0
PassedOn rows atoms = (rows ≡ []) × (atoms ≡ [])

-- The rows of every number that has an expression, 64 places to a number.
abbrev pub Followed : {A : Type 0} → List (Node A) → List Model → List ℕ → Type 0
Followed {A} nodes models rows = (i : ℕ) (e : Exp A) → Coded nodes models (i / 64 + 1) e → slice_index rows i ≡ row e (i % 64)

-- The rows of every number that has none are zero.
abbrev pub Blank : {A : Type 0} → List (Node A) → List Model → List ℕ → Type 0
Blank {A} nodes models rows = (i : ℕ) → ((e : Exp A) → Coded nodes models (i / 64 + 1) e → ⊥) → slice_index rows i ≡ 0

-- The atoms of every number that has an expression, 64 places to a number.
abbrev pub Placed : {A : Type 0} → List (Node A) → List Model → List (Node A) → Type 0
Placed {A} nodes models atoms =
    (i : ℕ) (a : A) → ((e : Exp A) × Coded nodes models (i / 64 + 1) e × Numbered (atoms_of (code e)) 0 (i % 64) a) → slice_index_or atoms i node.Unused ≡ node.Atom a

-- Where the expression has no such atom, the place is unused.
abbrev pub Spare : {A : Type 0} → List (Node A) → List Model → List (Node A) → Type 0
Spare {A} nodes models atoms =
    (i : ℕ) (e : Exp A) → Coded nodes models (i / 64 + 1) e × ((a : A) → Numbered (atoms_of (code e)) 0 (i % 64) a → ⊥) → slice_index_or atoms i node.Unused ≡ node.Unused

-- The entry of atom p says what marked words say: q is in it where q can be next after p, and 0 where a
-- word may end there.
pub record FollowEntry {A X : Type 0} (stands : A → X → Type 0) (e : Exp A) (p entry : ℕ) : Type 0 where
  pub follows : (q : ℕ) → 0 < q → (Has entry q → Follows stands e p q) × (Follows stands e p q → Has entry q)
  pub ends : (Has entry 0 → EndsAfter stands e p) × (EndsAfter stands e p → Has entry 0)

-- A follow table: number n has its entries from 64 (n - 1) on; the places of numbers without an
-- expression are zero.
pub record FollowRows {A X : Type 0} (stands : A → X → Type 0) (nodes : List (Node A)) (models : List Model) (rows : List ℕ) : Type 0 where
  pub entries : (number p : ℕ) (e : Exp A) → Coded nodes models number e → p ≤ 63 → FollowEntry stands e p (slice_index rows (64 * (number - 1) + p))
  pub zeros : (i : ℕ) → ((e : Exp A) → Coded nodes models (i / 64 + 1) e → ⊥) → slice_index rows i ≡ 0
