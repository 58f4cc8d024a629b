-- Several expressions in one node table, one after the other, with a record for each.
use Rattle.std.specs.Prelude.{ℕ, ◌+◌, List, [], ◌∷◌, ◌++◌, length}
use Rattle.models.specs.Expressions.{Exp}
use Rattle.models.specs.Folds.{code}
use Rattle.models.specs.declared.node.Model.{Model}
use Rattle.models.specs.declared.node.Node.{Node}

-- The nodes of all the expressions.
abbrev pub all_code : {A : Type 0} → List (Exp A) → List (Node A)
all_code [] = []
all_code (e ∷ es) = code e ++ all_code es

-- Where the nodes of each expression stand, when those before them take up so many places.
abbrev pub runs_from : {A : Type 0} → ℕ → List (Exp A) → List Model
runs_from used [] = []
runs_from used (e ∷ es) = record { start = used; end = used + length (code e) } ∷ runs_from (used + length (code e)) es
