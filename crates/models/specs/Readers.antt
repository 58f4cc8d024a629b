-- Which atom of a node table has which number, and which of them read a letter.
use Rattle.std.specs.Prelude.{◌≡◌, ℕ, ◌+◌, ◌≤◌, ◌⊎◌, List, [], ◌∷◌, ◌++◌, Some, None, Option}
use Rattle.bits.specs.Sets.{Has}
use Rattle.models.specs.declared.node.Node.{Node}
use Rattle.models.specs.declared.node.Node.TheVariants as node

-- The atom that a node is, if it is one.
abbrev pub atom_in : {A : Type 0} → Node A → Option A
atom_in node.Unused = None
atom_in node.Empty = None
atom_in (node.Atom a) = Some a
atom_in node.Seq = None
atom_in node.Alt = None
atom_in node.Star = None
atom_in node.Plus = None
atom_in node.Opt = None

abbrev pub atom_of : {A : Type 0} → Node A → List A
atom_of node.Unused = []
atom_of node.Empty = []
atom_of (node.Atom a) = a ∷ []
atom_of node.Seq = []
atom_of node.Alt = []
atom_of node.Star = []
atom_of node.Plus = []
atom_of node.Opt = []

-- The atoms among the nodes, in order.
abbrev pub atoms_of : {A : Type 0} → List (Node A) → List A
atoms_of [] = []
atoms_of (x ∷ nodes) = atom_of x ++ atoms_of nodes

-- The atom number n is a, where the list is numbered on from `before`.
abbrev pub Numbered : {A : Type 0} → List A → ℕ → ℕ → A → Type 0
Numbered [] before n a = ⊥
Numbered (c ∷ cs) before n a = ((n ≡ before + 1) × (c ≡ a)) ⊎ Numbered cs (before + 1) n a

-- One of the first 63 atoms, number n, stands for the letter.
abbrev pub ReadBy : {A X : Type 0} → (A → X → Type 0) → List (Node A) → X → ℕ → Type 0
ReadBy {A} stands nodes x n = (n ≤ 63) × ((a : A) × Numbered (atoms_of nodes) 0 n a × stands a x)

-- The set holds exactly the numbers of the atoms that read the letter.
abbrev pub Readers : {A X : Type 0} → (A → X → Type 0) → List (Node A) → X → ℕ → Type 0
Readers stands nodes x set = (n : ℕ) → (Has set n → ReadBy stands nodes x n) × (ReadBy stands nodes x n → Has set n)
