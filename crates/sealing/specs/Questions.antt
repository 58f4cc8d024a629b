-- What is asked of content models before they are sealed.
use Rattle.std.specs.Prelude.{ℕ, ◌<◌, ◌≤◌, List, take, Some, None, Option}
use Rattle.engine.specs.Atoms.{StandsFor}
use Rattle.engine.specs.Trees.{Forest, Valid, no_values}
use Rattle.engine.specs.declared.alphabet.ContentAtom.{ContentAtom}
use Rattle.models.specs.Expressions.{Exp}
use Rattle.models.specs.Marks.{Ambiguous}
use Rattle.models.specs.Tables.{Coded, ModelWords}
use Rattle.models.specs.declared.node.Model.{Model}
use Rattle.models.specs.declared.node.Node.{Node}

-- A question is put to the numbers from 1 to the last one in turn, and the first no is answered; none
-- where the answer is yes throughout.
abbrev pub FirstNo : (ℕ → Type 0) → (ℕ → Type 0) → ℕ → Option ℕ → Type 0
FirstNo Yes No last None = (n : ℕ) → 1 ≤ n → n ≤ last → Yes n
FirstNo Yes No last (Some n) = (1 ≤ n) × (n ≤ last) × No n × ((m : ℕ) → 1 ≤ m → m < n → Yes m)

-- The records of elements: elements are numbered up to 63, and records past the 63rd stand for none.
abbrev pub elements : List Model → List Model
elements models = take 63 models

-- The element has a tree that is valid, values left aside.
abbrev pub HasTree : List (Node ContentAtom) → List Model → ℕ → Type 0
HasTree nodes models n = (children : Forest) × Valid (ModelWords StandsFor nodes models) no_values n children

-- The element has no such tree.
abbrev pub HasNoTree : List (Node ContentAtom) → List Model → ℕ → Type 0
HasNoTree nodes models n = HasTree nodes models n → ⊥

-- The model of the element is ambiguous.
abbrev pub IsAmbiguous : List (Node ContentAtom) → List Model → ℕ → Type 0
IsAmbiguous nodes models n = (e : Exp ContentAtom) × Coded nodes models n e × Ambiguous StandsFor e

-- The element has no ambiguous model.
abbrev pub Unambiguous : List (Node ContentAtom) → List Model → ℕ → Type 0
Unambiguous nodes models n = IsAmbiguous nodes models n → ⊥
