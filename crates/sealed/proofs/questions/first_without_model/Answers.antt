use Rattle.std.proofs.Common.{◌+◌, rules, length, ap, ◌∙◌, take_all}
use Rattle.std.proofs.lemmas.Iterator.{first_from_Range}
use borrow.Author.Tests.{tests}
use Rattle.sealing.proofs.Firsts.{first_no}
use Rattle.sealed.specs.Checks.{HasModel, HasNoModel}
use Rattle.sealed.proofs.questions.first_without_model.Goals as goal

pub returns : goal.returns
returns c =
    let nodes = c.args.tables.nodes.now in
    let models = c.args.tables.models.now in
    first_no (HasModel nodes models) (HasNoModel nodes models) c.numbers_of.result.start c.numbers_of.result.end (length models) c.find.result
    c.numbers_of.ensures.start (c.numbers_of.ensures.end ∙ ap (λ ms. length ms + 1) (take_all 63 models c.requires)) (λ n h. h) (λ n h. h)
    (first_from_Range _ _ _ c.find.result (HasNoModel nodes models) (HasModel nodes models) c.find.ensures.ran (λ x q k. search (rules, tests)) (λ x q k. search (rules, tests)))
