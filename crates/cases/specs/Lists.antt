-- Three lists of calls with the right answers to them.
use Rattle.std.specs.Prelude.{List, [], ◌∷◌, ◌++◌, replicate, Ok, Err}
use Rattle.engine.specs.Trees.{Event, start, text, end, no_values}
use Rattle.bakery.specs.Contents.{Holds}
use Rattle.bakery.specs.Values.{Reads}
use Rattle.bakery.specs.Week.{week_events}
use Rattle.sheet.specs.Histories.{Call, begin, finish}
use Rattle.calls.specs.Replies.{Recorded}
use Rattle.calls.specs.declared.answer.Granted.TheVariants.{Accepted, Passed}
use Rattle.calls.specs.declared.answer.Refusal.TheVariants.{Offending, RootOpen}
use Rattle.cases.specs.Answers.{Answered}
use Rattle.cases.specs.Histories.{sends}

-- A sheet is begun with, these events are sent, and finish is asked for.
abbrev pub sheet_calls : List Event → List Call
sheet_calls es = begin 1 ∷ (sends es ++ (finish ∷ []))

-- A sheet of one shift, whose hours are written `7,5`, and the lock.
abbrev pub comma_events : List Event
comma_events =
    start 1
    ∷ start 2 ∷ start 5 ∷ text (55 ∷ 44 ∷ 53 ∷ []) ∷ end 5 ∷ end 2
    ∷ start 4 ∷ end 4
    ∷ end 1
    ∷ []

-- Where no text has to read as anything, that is a valid document.
abbrev pub comma_passes : List Recorded
comma_passes = replicate 10 (Ok Accepted) ++ (Ok (Passed 1 9) ∷ [])

-- Where hours are written with a point, the text is refused, the hours then cannot end, and nothing else
-- goes on inside them.
abbrev pub comma_offends : List Recorded
comma_offends = replicate 4 (Ok Accepted) ++ replicate 6 (Err Offending) ++ (Err RootOpen ∷ [])

-- One list of calls is answered with a pass over one pair of languages and with 36 over another.
pub record ToldApart : Type 0 where
  pub passes : Answered Holds no_values (sheet_calls comma_events) comma_passes
  pub offends : Answered Holds Reads (sheet_calls comma_events) comma_offends

-- The week of two shifts with its correction behind the lock.
abbrev pub late_events : List Event
late_events =
    start 1
    ∷ start 2 ∷ start 5 ∷ text (56 ∷ []) ∷ end 5 ∷ end 2
    ∷ start 2 ∷ start 5 ∷ text (55 ∷ 46 ∷ 53 ∷ 48 ∷ []) ∷ end 5 ∷ end 2
    ∷ start 4 ∷ end 4
    ∷ start 3
    ∷ end 1
    ∷ []

-- The correction is refused; the sheet ends without it and gets its pass.
abbrev pub late_answers : List Recorded
late_answers = replicate 14 (Ok Accepted) ++ (Err Offending ∷ Ok Accepted ∷ Ok (Passed 1 14) ∷ [])

-- The week with its correction before the lock is accepted throughout, and finish gives the pass.
abbrev pub mended_answers : List Recorded
mended_answers = replicate 20 (Ok Accepted) ++ (Ok (Passed 1 19) ∷ [])

-- A correction behind the lock is refused, and the mended week passes with it.
pub record Mended : Type 0 where
  pub late : Answered Holds Reads (sheet_calls late_events) late_answers
  pub mended : Answered Holds Reads (sheet_calls week_events) mended_answers
