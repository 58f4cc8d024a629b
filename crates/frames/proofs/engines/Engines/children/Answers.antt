use Rattle.std.proofs.Common.{ℕ, ◌≤◌, sym, ◌∙◌, subst, arith, below_more}
use Rattle.bits.specs.Sets.{has}
use Rattle.engine.specs.Languages.{Decides}
use Rattle.frames.specs.Meanings.{meaning}
use Rattle.frames.specs.Next.{ChildGoesOn}
use Rattle.frames.proofs.engines.Engines.children.Goals as goal

pub loop-number-preserved : goal.loop-number-preserved
loop-number-preserved g c =
    let (text, below, above) = c.loop-number.invariant in
    let i = c.loop-number.number in
    let set = c.with_if-set.result in
    let others = c.with_if-set.ensures.others in
    let Next : ℕ → Type 0 = ChildGoesOn (meaning g.C.Engine g.V.Engine c.args.self.now) c.args.frame in (
      others 0 (λ e. omega arith) ∙ text,
      (λ n low high. below_more (λ k. 1 ≤ k → Decides (has set k) (Next k)) i
          (λ k under from. subst (λ b. Decides b (Next k)) (sym (others k (λ e. omega arith))) (below k from under))
          (λ from. subst (λ b. Decides b (Next i)) (sym (c.with_if-set.ensures.here (omega arith) (above i (omega arith)))) c.goes_on-next.ensures) n high low),
      λ n past. others n (λ e. omega arith) ∙ above n (omega arith),
    )
