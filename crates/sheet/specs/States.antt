-- The state of a sheet in itself: the fresh one, and what a change makes of one.
use Rattle.std.specs.Prelude.{ℕ, ◌+◌, ◌-◌, ◌<◌, ◌≤◌, true, false, List, [], ◌∷◌, ◌++◌, ◌==◌, length, take}
use Rattle.frames.specs.declared.frame.Frame.{Frame}
use Rattle.sheet.specs.declared.state.State.{State}
use Rattle.sheet.specs.declared.state.Phase.{Phase}
use Rattle.sheet.specs.declared.state.Phase.TheVariants as phase
use Rattle.sheet.specs.declared.state.Change.{Change}
use Rattle.sheet.specs.declared.state.Change.TheVariants as change

abbrev pub fresh : State
fresh = record { phase = phase.Fresh; root = 0; count = 0; frames = record { items = [] } }

-- How many elements are open.
abbrev pub depth : State → ℕ
depth s = length s.frames.items

-- The frames around the innermost open element.
abbrev pub around : State → List Frame
around s = take (depth s - 1) s.frames.items

-- The change has room in the state.
abbrev pub Room : State → Change → Type 0
Room s (change.Root frame) = Unit {0}
Room s (change.Child parent child) = (0 < depth s) × (depth s < 64)
Room s (change.Text frame) = (0 < depth s) × (depth s ≤ 64)
Room s change.End = 0 < depth s

abbrev pub Fitting : State → Change → Type 0
Fitting s c = (s.count < 1000000) × Room s c

-- The phase after an end: the root has ended when nothing stays open.
abbrev pub phase_at : ℕ → Phase → Phase
phase_at depth p = elim (depth == 0) [ true ↦ phase.Ended | false ↦ p ]

-- The state after the change.
abbrev pub applied : State → Change → State
applied s (change.Root frame) = record { phase = phase.Open; root = s.root; count = s.count + 1; frames = record { items = frame ∷ [] } }
applied s (change.Child parent child) = record { phase = s.phase; root = s.root; count = s.count + 1; frames = record { items = around s ++ (parent ∷ child ∷ []) } }
applied s (change.Text frame) = record { phase = s.phase; root = s.root; count = s.count + 1; frames = record { items = around s ++ (frame ∷ []) } }
applied s change.End = record { phase = phase_at (depth s - 1) s.phase; root = s.root; count = s.count + 1; frames = record { items = around s } }
