-- Node tables as codes of expressions, and what a fold over one answers.
use Rattle.std.specs.Prelude.{◌≡◌, ℕ, ◌+◌, ◌≤◌, max, List, [], ◌∷◌, ◌++◌, Some, None, Option}
use Rattle.models.specs.Expressions.{Exp, empty, atom, seq, alt, star, plus, option, atoms}
use Rattle.models.specs.declared.node.Node.{Node}
use Rattle.models.specs.declared.node.Node.TheVariants as node

-- The nodes of an expression: members before their operation.
abbrev pub code : {A : Type 0} → Exp A → List (Node A)
code empty = node.Empty ∷ []
code (atom a) = node.Atom a ∷ []
code (seq e f) = code e ++ (code f ++ (node.Seq ∷ []))
code (alt e f) = code e ++ (code f ++ (node.Alt ∷ []))
code (star e) = code e ++ (node.Star ∷ [])
code (plus e) = code e ++ (node.Plus ∷ [])
code (option e) = code e ++ (node.Opt ∷ [])

-- How many working values a fold over the nodes of an expression needs.
abbrev pub depth : {A : Type 0} → Exp A → ℕ
depth empty = 1
depth (atom a) = 1
depth (seq e f) = max (depth e) (depth f + 1)
depth (alt e f) = max (depth e) (depth f + 1)
depth (star e) = depth e
depth (plus e) = depth e
depth (option e) = depth e

-- What an algebra makes of each form of expression; an atom comes with its number.
pub record Operations (A V : Type 0) : Type 0 where
  pub empty_word : V
  pub single : ℕ → A → V
  pub both : V → V → V
  pub either : V → V → V
  pub any : V → V
  pub some : V → V
  pub maybe : V → V

-- The value of an expression in an algebra, with `before` atoms before it.
abbrev pub value : {A V : Type 0} → Operations A V → ℕ → Exp A → V
value o before empty = o.empty_word
value o before (atom a) = o.single (before + 1) a
value o before (seq e f) = o.both (value o before e) (value o (before + atoms e) f)
value o before (alt e f) = o.either (value o before e) (value o (before + atoms e) f)
value o before (star e) = o.any (value o before e)
value o before (plus e) = o.some (value o before e)
value o before (option e) = o.maybe (value o before e)

-- The nodes are the code of the expression, which has at most 63 atoms and needs at most `room` working values.
pub record Codes {A : Type 0} (room : ℕ) (nodes : List (Node A)) (e : Exp A) : Type 0 where
  pub coded : nodes ≡ code e
  pub few : atoms e ≤ 63
  pub fits : depth e ≤ room

-- A fold answers the value of the expression that the nodes code, and none where they code none.
abbrev pub Folded : {A V : Type 0} → Operations A V → ℕ → List (Node A) → Option V → Type 0
Folded {A} o room nodes None = (e : Exp A) → Codes room nodes e → ⊥
Folded {A} o room nodes (Some v) = (e : Exp A) × Codes room nodes e × (v ≡ value o 0 e)
