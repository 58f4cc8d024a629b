-- Recorded runs: the history that a list of calls and a list of answers make, and the answers that were no refusals.
use Rattle.std.specs.Prelude.{◌≡◌, ℕ, min, List, [], ◌∷◌, length, take, drop, Ok, Err}
use Rattle.calls.specs.Replies.{Recorded, shown}
use Rattle.sheet.specs.Histories.{Turn}
use Rattle.sheet.specs.Said.{sent}
use Rattle.calls.specs.declared.call.Call.{Call}

-- Each call with its answer, as far as both lists go.
abbrev pub turns : List Call → List Recorded → List Turn
turns [] answers = []
turns (call ∷ calls) [] = []
turns (call ∷ calls) (answer ∷ answers) = record { call = sent call; reply = shown answer } ∷ turns calls answers

-- The answers that are no refusals.
abbrev pub grants : List Recorded → List Recorded
grants [] = []
grants (Ok granted ∷ answers) = Ok granted ∷ grants answers
grants (Err refusal ∷ answers) = grants answers

-- The first n of these answers stand in the second list of answers, where n is as many as there are or have
-- a place; the places behind them are as they were.
pub record Repeated (granted before again : List Recorded) (n : ℕ) : Type 0 where
  pub count : n ≡ min (length granted) (length before)
  pub repeats : take n again ≡ take n granted
  pub same : drop n again ≡ drop n before
