use Rattle.std.proofs.Common.{◌≡◌, ◌+◌, List, [], take, None}
use Rattle.declarations.specs.Contents.{Placed}
use Rattle.drafts.specs.Asks.{Listed, fit_in}
use Rattle.drafts.specs.Questions.{first_no, declared_names, nodes_of}
use Rattle.drafts.proofs.ask.first_overfull.Given as goal

-- The nodes of the declarations so far fit, and so many places are left.
abbrev pub invariant-loop-entry : goal.invariant-loop-entry
invariant-loop-entry l =
    (found : List Placed) → Listed l.text l.entries found
    → (first_no (fit_in l.limit (declared_names found)) [] (take l.entry-index found) ≡ None)
    × (l.left + nodes_of (declared_names found) (take l.entry-index found) ≡ l.limit)
