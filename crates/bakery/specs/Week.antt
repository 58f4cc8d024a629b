-- One week as a document: two shifts, a correction and the lock.
use Rattle.std.specs.Prelude.{◌≡◌, ℕ, List, [], ◌∷◌}
use Rattle.engine.specs.Trees.{Forest, none, piece, child, Event, start, text, end, Valid, traversal}
use Rattle.bakery.specs.Contents.{Holds}
use Rattle.bakery.specs.Values.{Reads}

-- A shift or a correction has as its children one entry of hours, written with a first byte and further ones.
abbrev pub hours : ℕ → List ℕ → Forest
hours first further = child 5 (piece first further none) none

-- The week's sheet holds a shift of `8` hours, one of `7.50`, a correction of `0.25`, and the lock.
abbrev pub week : Forest
week =
    child 2 (hours 56 [])
    (child 2 (hours 55 (46 ∷ 53 ∷ 48 ∷ []))
    (child 3 (hours 48 (46 ∷ 50 ∷ 53 ∷ []))
    (child 4 none none)))

-- The week's events run from the start of the sheet to its end.
abbrev pub week_events : List Event
week_events =
    start 1
    ∷ start 2 ∷ start 5 ∷ text (56 ∷ []) ∷ end 5 ∷ end 2
    ∷ start 2 ∷ start 5 ∷ text (55 ∷ 46 ∷ 53 ∷ 48 ∷ []) ∷ end 5 ∷ end 2
    ∷ start 3 ∷ start 5 ∷ text (48 ∷ 46 ∷ 50 ∷ 53 ∷ []) ∷ end 5 ∷ end 3
    ∷ start 4 ∷ end 4
    ∷ end 1
    ∷ []

-- The week is a valid document of a sheet.
abbrev pub WeekValid : Type 0
WeekValid = Valid Holds Reads 1 week

-- A traversal of the week visits that list of events.
abbrev pub WeekTold : Type 0
WeekTold = traversal 1 week ≡ week_events
