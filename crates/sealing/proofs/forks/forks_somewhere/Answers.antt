use Rattle.std.proofs.Common.{rules}
use Rattle.std.proofs.lemmas.Iterator.{YieldsList-from_range, cases_from_any}
use Rattle.std.specs.List.{range_with_len}
use borrow.Author.Tests.{tests}
use Rattle.sealing.specs.Forks.{ForksIn}
use Rattle.sealing.proofs.Firsts.{any_decides, in_range}
use Rattle.sealing.proofs.forks.forks_somewhere.Goals as goal

pub returns : goal.returns
returns c =
    let forks = ForksIn c.args.nodes.now c.args.letter in
    in_range forks c.any.result
    (any_decides forks 0 (range_with_len 0 64) c.any.result (cases_from_any _ _ _ forks (λ p. forks p → ⊥) c.any.ensures.ran (YieldsList-from_range 0 64 64 (cc) (cc)) (λ x q k. search (rules, tests)) (λ x q k. search (rules, tests))))
