-- What a walk over the numbers in a set gathers.
use Rattle.std.specs.Prelude.{◌≡◌, ℕ, ◌+◌, ◌-◌, ◌*◌, ◌<◌, ◌≤◌, ◌⊎◌, List, length, Some, None, Option, slice_index, slice_index_or}
use Rattle.bits.specs.Sets.{Has}
use Rattle.models.specs.declared.node.Model.{Model}
use Rattle.models.specs.declared.node.Node.{Node}
use Rattle.models.specs.declared.node.Node.TheVariants as node

-- The set has exactly what stands in the rows of the numbers in another.
abbrev pub Union : List ℕ → ℕ → ℕ → ℕ → Type 0
Union rows base set union =
    (n : ℕ)
    → (Has union n → (p : ℕ) × Has set p × Has (slice_index rows (base + p)) n)
    × ((p : ℕ) × Has set p × Has (slice_index rows (base + p)) n → Has union n)

-- The node is an atom that stands for the letter.
abbrev pub Reads : {A X : Type 0} → (A → X → Type 0) → Node A → X → Type 0
Reads {A} stands x letter = (a : A) × (x ≡ node.Atom a) × stands a letter

-- The set has exactly the numbers in another whose atom reads the letter.
abbrev pub Kept : {A X : Type 0} → (A → X → Type 0) → List (Node A) → ℕ → X → ℕ → ℕ → Type 0
Kept stands atoms base letter set kept =
    (n : ℕ)
    → (Has kept n → Has set n × Reads stands (slice_index_or atoms (base + n) node.Unused) letter)
    × (Has set n × Reads stands (slice_index_or atoms (base + n) node.Unused) letter → Has kept n)

-- Where a number's 64 places begin; numbers without a record have none.
abbrev pub Based : List Model → ℕ → Option ℕ → Type 0
Based models number None = (number < 1) ⊎ (length models < number)
Based models number (Some base) = (1 ≤ number) × (number ≤ length models) × (base ≡ 64 * (number - 1))
