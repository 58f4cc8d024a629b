use Rattle.std.proofs.Common.{◌≡◌, List, [], take, None}
use Rattle.declarations.specs.Contents.{Placed}
use Rattle.drafts.specs.Asks.{Listed, Answers}
use Rattle.drafts.specs.Questions.{Asked, first_no}
use Rattle.drafts.proofs.ask.first_no.Given as goal

-- Every declaration so far gets a yes.
abbrev pub invariant-loop-index : goal.invariant-loop-index
invariant-loop-index g l =
    goal.F-IsAlwaysCallable g l.admits
    × ((found : List Placed) → Listed l.text l.entries found → (asked : Asked) → Answers l.text found asked (goal.F-post g l.admits) → first_no asked [] (take l.index found) ≡ None)
