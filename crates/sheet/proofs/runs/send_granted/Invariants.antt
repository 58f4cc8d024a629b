use Rattle.std.proofs.Common.{◌≡◌, length}
use Rattle.frames.specs.Meanings.{meaning}
use Rattle.sheet.specs.Runs.{turns}
use Rattle.sheet.specs.Theorem.{RightThroughout}
use Rattle.sheet.proofs.Replaying.{Resent, Walked}
use Rattle.sheet.proofs.runs.send_granted.Given as goal

abbrev pub invariant-loop-call : goal.invariant-loop-call
invariant-loop-call g l =
    let M = meaning g.C.Engine g.V.Engine l.engines in
    let n = length l.yielded in
    Walked l.calls l.answers l.call-iterator.a.rest.now l.call-iterator.b.rest.now n
    × (l.sheet.engines ≡ l.engines)
    × (RightThroughout M.contents M.values (turns l.calls l.answers) → Resent M l.calls l.answers l.initial.again l.again n l.sent l.sheet.state)
