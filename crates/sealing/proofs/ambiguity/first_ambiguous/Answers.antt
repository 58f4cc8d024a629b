use Rattle.std.proofs.Common.{rules, length, subst}
use Rattle.std.proofs.lemmas.Iterator.{first_from_Range}
use borrow.Author.Tests.{tests}
use Rattle.sealing.specs.Questions.{FirstNo, IsAmbiguous, Unambiguous, elements}
use Rattle.sealing.proofs.Firsts.{first_no}
use Rattle.sealing.proofs.ambiguity.first_ambiguous.Goals as goal

pub returns : goal.returns
returns c =
    let nodes = c.elements_of-elements.result.nodes.now in
    let models = c.elements_of-elements.result.models.now in
    let wanted = elements c.args.tables.models.now in
    subst (λ ns. FirstNo (Unambiguous ns wanted) (IsAmbiguous ns wanted) (length wanted) c.find.result) c.elements_of-elements.ensures.nodes
    (subst (λ ms. FirstNo (Unambiguous nodes ms) (IsAmbiguous nodes ms) (length wanted) c.find.result) c.elements_of-elements.ensures.models
    (first_no (Unambiguous nodes models) (IsAmbiguous nodes models) c.numbers_of.result.start c.numbers_of.result.end (length wanted) c.find.result c.numbers_of.ensures.start c.numbers_of.ensures.end (λ n h. h) (λ n h. h)
    (first_from_Range _ _ _ c.find.result (IsAmbiguous nodes models) (Unambiguous nodes models) c.find.ensures.ran (λ x q k. search (rules, tests)) (λ x q k. search (rules, tests)))))
