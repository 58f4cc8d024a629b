use Rattle.std.proofs.Common.{inl, inr, arith}
use Rattle.bakery.proofs.ValueMoves.{on_digit, on_tenths, on_last, on_point, refuses}
use Rattle.bakery.proofs.values.HoursValuesEngine.step.Goals as goal

pub returns-in-1-48-to-57 : goal.returns-in-1-48-to-57
returns-in-1-48-to-57 c = on_digit c.args.state c.args.letter (inl c.in-1-48-to-57.is-0) (omega arith) (omega arith)

pub returns-in-1-48-to-57-2 : goal.returns-in-1-48-to-57-2
returns-in-1-48-to-57-2 c = on_digit c.args.state c.args.letter (inr c.in-1-48-to-57.is-0) (omega arith) (omega arith)

pub returns-in-2-eq46 : goal.returns-in-2-eq46
returns-in-2-eq46 c = on_point c.args.state c.args.letter c.in-2-eq46.is-0 c.in-2-eq46.is-1

pub returns-in-3-48-to-57 : goal.returns-in-3-48-to-57
returns-in-3-48-to-57 c = on_tenths c.args.state c.args.letter c.in-3-48-to-57.is-0 (omega arith) (omega arith)

pub returns-in-4-48-to-57 : goal.returns-in-4-48-to-57
returns-in-4-48-to-57 c = on_last c.args.state c.args.letter c.in-4-48-to-57.is-0 (omega arith) (omega arith)

pub returns-in_default-3 : goal.returns-in_default-3
returns-in_default-3 c = refuses c.args.state c.args.letter (λ p q. omega arith) (λ p. omega arith)

pub returns-in_default-4 : goal.returns-in_default-4
returns-in_default-4 c = refuses c.args.state c.args.letter (λ p q. omega arith) (λ p. omega arith)
