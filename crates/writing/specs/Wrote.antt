-- What writing nodes into a table does.
use Rattle.std.specs.Prelude.{◌≡◌, ℕ, ◌+◌, ◌-◌, ◌^◌, ◌<◌, ◌≤◌, List, [], ◌∷◌, length}
use Rattle.models.specs.declared.node.Node.{Node}
use Rattle.models.specs.declared.node.Node.TheVariants as node
use Rattle.scan.specs.Lists.{puts}
use Rattle.writing.specs.declared.writer.Writer.{Writer}

-- How many of the nodes are atoms.
abbrev pub atoms_in : {A : Type 0} → List (Node A) → ℕ
atoms_in [] = 0
atoms_in (node.Atom a ∷ xs) = 1 + atoms_in xs
atoms_in (node.Unused ∷ xs) = atoms_in xs
atoms_in (node.Empty ∷ xs) = atoms_in xs
atoms_in (node.Seq ∷ xs) = atoms_in xs
atoms_in (node.Alt ∷ xs) = atoms_in xs
atoms_in (node.Star ∷ xs) = atoms_in xs
atoms_in (node.Plus ∷ xs) = atoms_in xs
atoms_in (node.Opt ∷ xs) = atoms_in xs

-- A count after so many more: exact while a word of 64 bits can hold it, and from then on the largest such number.
pub record Counts (before more after : ℕ) : Type 0 where
  pub exact : before + more < 2 ^ 64 → after ≡ before + more
  pub full : 2 ^ 64 ≤ before + more → after ≡ 2 ^ 64 - 1

-- These nodes were written from the next place on, and counted.
pub record Wrote {A T : Type 0} (before : Writer A T) (nodes : List (Node A)) (after : Writer A T) : Type 0 where
  pub written : after.nodes.now ≡ puts before.nodes.now before.used nodes
  pub short : length before.nodes.now < 2 ^ 64
  pub used : Counts before.used (length nodes) after.used
  pub atoms : Counts before.atoms (atoms_in nodes) after.atoms
