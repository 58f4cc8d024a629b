-- Tables of models: which expression a number has, and the languages that this gives.
use Rattle.std.specs.Prelude.{ℕ, ◌-◌, ◌≤◌, ◌⊎◌, List, length, take, drop, slice_index_or}
use Rattle.engine.specs.Languages.{Language, Empty, Same}
use Rattle.models.specs.Expressions.{Exp, Words}
use Rattle.models.specs.Folds.{Codes}
use Rattle.models.specs.Rests.{Rest}
use Rattle.bits.specs.Sets.{Has}
use Rattle.models.specs.declared.node.Model.{Model}
use Rattle.models.specs.declared.node.Node.{Node}

-- The record of a number. Numbers count from 1, so number n has the record at n - 1.
abbrev pub model_at : List Model → ℕ → Model
model_at models number = slice_index_or models (number - 1) (record { start = 0; end = 0 })

-- The nodes from the start of a record up to its end.
abbrev pub part : {A : Type 0} → List (Node A) → Model → List (Node A)
part nodes model = take (model.end - model.start) (drop model.start nodes)

-- The number has a record, which lies in the node table, and whose nodes code the expression. An
-- expression has at most 63 atoms and needs at most 64 working values.
pub record Coded {A : Type 0} (nodes : List (Node A)) (models : List Model) (number : ℕ) (e : Exp A) : Type 0 where
  pub from_one : 1 ≤ number
  pub listed : number ≤ length models
  pub within : (model_at models number).end ≤ length nodes
  pub codes : Codes 64 (part nodes (model_at models number)) e

-- A slice has the nodes of a number: it codes whatever expression the number has.
abbrev pub NodesOf : {A : Type 0} → List (Node A) → List Model → ℕ → List (Node A) → Type 0
NodesOf {A} nodes models number slice = (e : Exp A) → (Codes 64 slice e → Coded nodes models number e) × (Coded nodes models number e → Codes 64 slice e)

-- The language of a number: the words of the expression that its nodes code.
abbrev pub ModelWords : {A X : Type 0} → (A → X → Type 0) → List (Node A) → List Model → ℕ → Language X
ModelWords {A} stands nodes models number w = (e : Exp A) × Coded nodes models number e × Words stands e w

-- What is left of an expression in a state: all its words where 0 is in the state, and the words that
-- may follow the atoms in it.
abbrev pub Left : {A X : Type 0} → (A → X → Type 0) → Exp A → ℕ → Language X
Left stands e state w = (Has state 0 × Words stands e w) ⊎ Rest (λ n. stands) e 0 (Has state) w

-- What is left of a number's language in a state.
abbrev pub ModelRest : {A X : Type 0} → (A → X → Type 0) → List (Node A) → List Model → ℕ → ℕ → Language X
ModelRest {A} stands nodes models number state w = (e : Exp A) × Coded nodes models number e × Left stands e state w

-- The languages are those of the tables: a number whose nodes code an expression has the words of that
-- expression, and a number whose nodes code none has no word.
pub record Speaks {A X : Type 0} (stands : A → X → Type 0) (nodes : List (Node A)) (models : List Model) (language : ℕ → Language X) : Type 0 where
  pub coded : (number : ℕ) (e : Exp A) → Coded nodes models number e → Same (language number) (Words stands e)
  pub none : (number : ℕ) → ((e : Exp A) → Coded nodes models number e → ⊥) → Empty (language number)
