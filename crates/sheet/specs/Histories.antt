-- Histories: the calls sent to one sheet with the answers they got, and what was accepted of them.
use Rattle.std.specs.Prelude.{ℕ, ◌+◌, Bool, true, false, List, [], ◌∷◌, ◌++◌, Some, None, Option}
use Rattle.engine.specs.Trees.{Event, start, text, end}
use Rattle.calls.specs.Replies.{Reply, accepted, refused, pass}

-- A call: begin with a root, an event, or finish.
pub data Call : Type 0 where
  begin : ℕ → Call
  send : Event → Call
  finish : Call

-- One call and the answer it got.
pub record Turn : Type 0 where
  pub call : Call
  pub reply : Reply

-- The calls so far with one more, which counts unless it was refused.
abbrev pub keep : List Call → Call → Reply → List Call
keep calls call accepted = calls ++ (call ∷ [])
keep calls call (refused n) = calls
keep calls call (pass r n) = calls ++ (call ∷ [])

-- The calls of a history that were not refused, behind those that were accepted before it.
abbrev pub kept_after : List Call → List Turn → List Call
kept_after calls [] = calls
kept_after calls (t ∷ ts) = kept_after (keep calls t.call t.reply) ts

-- The calls of a history that were not refused.
abbrev pub kept : List Turn → List Call
kept history = kept_after [] history

-- The number that was begun with, if any.
abbrev pub root : List Call → Option ℕ
root [] = None
root (begin n ∷ calls) = Some n
root (send e ∷ calls) = root calls
root (finish ∷ calls) = root calls

-- The events among the calls.
abbrev pub events : List Call → List Event
events [] = []
events (begin n ∷ calls) = events calls
events (send e ∷ calls) = e ∷ events calls
events (finish ∷ calls) = events calls

-- Whether finish is among the calls.
abbrev pub passed : List Call → Bool
passed [] = false
passed (begin n ∷ calls) = passed calls
passed (send e ∷ calls) = passed calls
passed (finish ∷ calls) = true

-- How many elements start, and how many end, in a list of events.
abbrev pub starts : List Event → ℕ
starts [] = 0
starts (start n ∷ es) = 1 + starts es
starts (text bs ∷ es) = starts es
starts (end n ∷ es) = starts es

abbrev pub ends : List Event → ℕ
ends [] = 0
ends (start n ∷ es) = ends es
ends (text bs ∷ es) = ends es
ends (end n ∷ es) = 1 + ends es
