-- Answers to a list of calls: as a history, and as they stand in a slice.
use Rattle.std.specs.Prelude.{◌≡◌, ℕ, List, [], ◌∷◌, ◌++◌, length, take, drop}
use Rattle.engine.specs.Languages.{Language}
use Rattle.engine.specs.declared.alphabet.Letter.{Letter}
use Rattle.calls.specs.Replies.{Recorded, shown}
use Rattle.sheet.specs.Histories.{Call, Turn}
use Rattle.sheet.specs.Theorem.{RightThroughout}

-- Each call with its answer, as far as both lists go.
abbrev pub history : List Call → List Recorded → List Turn
history [] answers = []
history (c ∷ calls) [] = []
history (c ∷ calls) (a ∷ answers) = record { call = c; reply = shown a } ∷ history calls answers

-- There is an answer to each of the calls, and each is the right one.
pub record Answered (C : ℕ → Language Letter) (V : ℕ → Language ℕ) (calls : List Call) (answers : List Recorded) : Type 0 where
  pub all : length answers ≡ length calls
  pub right : RightThroughout C V (history calls answers)

-- The slice with the answers in its first places, as many as it has; its places past them are as before.
abbrev pub laid : List Recorded → List Recorded → List Recorded
laid answers slice = take (length slice) answers ++ drop (length answers) slice
