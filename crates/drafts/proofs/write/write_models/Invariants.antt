use Rattle.std.proofs.Common.{◌≤◌, List, take}
use Rattle.declarations.specs.Contents.{Placed}
use Rattle.drafts.specs.Asks.{Listed}
use Rattle.drafts.specs.Questions.{declared_names, nodes_of}
use Rattle.drafts.proofs.Asked.{WrittenSoFar}
use Rattle.drafts.proofs.write.write_models.Given as goal

-- The models of the declarations so far are written.
abbrev pub invariant-loop-index : goal.invariant-loop-index
invariant-loop-index l =
    (found : List Placed) → Listed l.text l.entries found → nodes_of (declared_names found) found ≤ 2048
    → WrittenSoFar (declared_names found) (take l.index found) l.initial.nodes l.nodes l.initial.models l.models l.used
