-- The turns of a fold, one for each node, on a stack of values.
use Rattle.std.specs.Prelude.{◌≡◌, ℕ, ◌+◌, true, false, List, [], ◌∷◌, length, take, reverse, Some, None, Option, nat_lt}
use Rattle.models.specs.Folds.{Operations}
use Rattle.models.specs.declared.node.Node.{Node}
use Rattle.models.specs.declared.node.Node.TheVariants as node

-- The working values, top first, and how many atoms were met.
abbrev pub Stack : Type 0 → Type 0
Stack V = List V × ℕ

-- A value goes on top where there is room.
abbrev pub pushed : {V : Type 0} → ℕ → V → Stack V → Option (Stack V)
pushed room v s = elim (nat_lt (length s.0) room) [ true ↦ Some (v ∷ s.0, s.1) | false ↦ None ]

-- The two values on top are joined into one.
abbrev pub joined : {V : Type 0} → (V → V → V) → List V → ℕ → Option (Stack V)
joined f [] n = None
joined f (r ∷ []) n = None
joined f (r ∷ (l ∷ vs)) n = Some (f l r ∷ vs, n)

-- The value on top is changed.
abbrev pub changed : {V : Type 0} → (V → V) → List V → ℕ → Option (Stack V)
changed f [] n = None
changed f (v ∷ vs) n = Some (f v ∷ vs, n)

-- One turn; none where the nodes so far are the beginning of no code.
abbrev pub turned : {A V : Type 0} → Operations A V → ℕ → Node A → Stack V → Option (Stack V)
turned o room node.Unused s = None
turned o room node.Empty s = pushed room o.empty_word s
turned o room (node.Atom a) s = elim (nat_lt s.1 63) [ true ↦ pushed room (o.single (s.1 + 1) a) (s.0, s.1 + 1) | false ↦ None ]
turned o room node.Seq s = joined o.both s.0 s.1
turned o room node.Alt s = joined o.either s.0 s.1
turned o room node.Star s = changed o.any s.0 s.1
turned o room node.Plus s = changed o.some s.0 s.1
turned o room node.Opt s = changed o.maybe s.0 s.1

-- The values in the first `height` places of a slice, the last of them on top.
abbrev pub held : {V : Type 0} → List V → ℕ → List V
held places height = reverse (take height places)

-- What a turn on the places answers: none where there is no turn, else how many atoms were met; the
-- values are then those of the turn.
abbrev pub Turns : {V : Type 0} → Option (Stack V) → List V → Option ℕ → Type 0
Turns turn values None = turn ≡ None
Turns turn values (Some atoms) = turn ≡ Some (values, atoms)
