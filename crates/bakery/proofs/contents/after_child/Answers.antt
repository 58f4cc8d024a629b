use Rattle.std.proofs.Common.{inl, inr, arith}
use Rattle.bakery.proofs.ContentMoves.{on_shift, on_correction, on_lock, refuses}
use Rattle.bakery.proofs.contents.after_child.Goals as goal

pub returns-in-1-eq2 : goal.returns-in-1-eq2
returns-in-1-eq2 c = on_shift c.args.state c.args.child (inl c.in-1-eq2.is-0) c.in-1-eq2.is-1

pub returns-in-1-eq2-2 : goal.returns-in-1-eq2-2
returns-in-1-eq2-2 c = on_shift c.args.state c.args.child (inr c.in-1-eq2.is-0) c.in-1-eq2.is-1

pub returns-in-2-eq3 : goal.returns-in-2-eq3
returns-in-2-eq3 c = on_correction c.args.state c.args.child (inl c.in-2-eq3.is-0) c.in-2-eq3.is-1

pub returns-in-2-eq3-2 : goal.returns-in-2-eq3-2
returns-in-2-eq3-2 c = on_correction c.args.state c.args.child (inr c.in-2-eq3.is-0) c.in-2-eq3.is-1

pub returns-in-2-eq4 : goal.returns-in-2-eq4
returns-in-2-eq4 c = on_lock c.args.state c.args.child (inl c.in-2-eq4.is-0) c.in-2-eq4.is-1

pub returns-in-2-eq4-2 : goal.returns-in-2-eq4-2
returns-in-2-eq4-2 c = on_lock c.args.state c.args.child (inr c.in-2-eq4.is-0) c.in-2-eq4.is-1

pub returns-in_default-2 : goal.returns-in_default-2
returns-in_default-2 c = refuses c.args.state c.args.child (λ p q. omega arith) (λ p q. omega arith) (λ p q. omega arith) (λ p q. omega arith) (λ p q. omega arith) (λ p q. omega arith) (λ p q. omega arith)

pub returns-in_default-3 : goal.returns-in_default-3
returns-in_default-3 c = refuses c.args.state c.args.child (λ p q. omega arith) (λ p q. omega arith) (λ p q. omega arith) (λ p q. omega arith) (λ p q. omega arith) (λ p q. omega arith) (λ p q. omega arith)
