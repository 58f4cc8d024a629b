use Rattle.std.proofs.Common.{◌≡◌, ℕ, ◌<◌, ◌≤◌, false}
use Rattle.bits.specs.Sets.{has}
use Rattle.engine.specs.Languages.{Decides}
use Rattle.frames.specs.Meanings.{meaning}
use Rattle.frames.specs.Next.{ChildGoesOn}
use Rattle.frames.proofs.engines.Engines.children.Given as goal

abbrev pub invariant-loop-number : goal.invariant-loop-number
invariant-loop-number g l =
    (has l.set 0 ≡ false)
    × ((n : ℕ) → 1 ≤ n → n < l.number → Decides (has l.set n) (ChildGoesOn (meaning g.C.Engine g.V.Engine l.self) l.frame n))
    × ((n : ℕ) → l.number ≤ n → has l.set n ≡ false)
