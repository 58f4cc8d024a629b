-- The bakery's week as a history: a valid document, its traversal, and the calls that lead to its pass.
use Rattle.std.specs.Prelude.{◌≡◌, ℕ, List, [], ◌∷◌, ◌++◌}
use Rattle.engine.specs.Languages.{Language}
use Rattle.engine.specs.Trees.{Valid, Event, traversal}
use Rattle.calls.specs.Replies.{accepted, pass}
use Rattle.bakery.specs.Contents.{Holds}
use Rattle.bakery.specs.Week.{week, week_events}
use Rattle.sheet.specs.Histories.{Call, begin, send, finish, Turn}
use Rattle.sheet.specs.Theorem.{RightThroughout}

-- The events, each sent by a call.
abbrev pub sends : List Event → List Call
sends [] = []
sends (e ∷ es) = send e ∷ sends es

-- The calls, each of them accepted.
abbrev pub accepting : List Call → List Turn
accepting [] = []
accepting (c ∷ calls) = record { call = c; reply = accepted } ∷ accepting calls

-- The week is begun with, its events are all accepted, and finish gives the pass.
abbrev pub week_history : List Turn
week_history = accepting (begin 1 ∷ sends week_events) ++ (record { call = finish; reply = pass 1 19 } ∷ [])

-- The week is a valid document under these values, its traversal is the list of its events, and each
-- reply of its history is right.
pub record WeekPasses (V : ℕ → Language ℕ) : Type 0 where
  pub valid : Valid Holds V 1 week
  pub told : traversal 1 week ≡ week_events
  pub right : RightThroughout Holds V week_history
