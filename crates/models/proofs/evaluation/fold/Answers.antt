use Rattle.std.proofs.Common.{rules, replicate, refl, ap, ◌∙◌}
use Rattle.models.proofs.Stacks.{filled}
use Rattle.models.proofs.evaluation.fold.Goals as goal

pub returns-clause-written : goal.returns-clause-written
returns-clause-written g c =
    let v = (g.G.Algebra.operations c.args.algebra.now).empty_word in
    filled _ v _ (λ x q h. search rules) _ _ _ refl c.fill_with.ensures.ran.1 ∙ ap (λ n. replicate n v) (c.fill_with.ensures.len ∙ c.evaluate-answer.auto.work)
