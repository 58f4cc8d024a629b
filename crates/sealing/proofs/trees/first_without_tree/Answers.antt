use Rattle.std.proofs.Common.{◌≡◌, rules, true, false, length, ap, subst, arith, length-take}
use Rattle.std.proofs.lemmas.Iterator.{first_from_Range}
use borrow.Author.Tests.{tests}
use Rattle.bits.specs.Sets.{has}
use Rattle.sealing.specs.Questions.{FirstNo, HasTree, HasNoTree, elements}
use Rattle.sealing.proofs.Firsts.{decided_yes, decided_no, first_no}
use Rattle.sealing.proofs.trees.first_without_tree.Goals as goal

pub completed-set-requires : goal.completed-set-requires
completed-set-requires c = omega (arith, ap length c.elements_of.ensures.models, length-take 63 c.args.tables.models.now)

pub returns : goal.returns
returns c =
    let set = c.completed-set.result in
    let nodes = c.elements_of.result.nodes.now in
    let models = c.elements_of.result.models.now in
    let wanted = elements c.args.tables.models.now in
    subst (λ ns. FirstNo (HasTree ns wanted) (HasNoTree ns wanted) (length wanted) c.find.result) c.elements_of.ensures.nodes
    (subst (λ ms. FirstNo (HasTree nodes ms) (HasNoTree nodes ms) (length wanted) c.find.result) c.elements_of.ensures.models
    (first_no (HasTree nodes models) (HasNoTree nodes models) c.numbers_of.result.start c.numbers_of.result.end (length wanted) c.find.result c.numbers_of.ensures.start c.numbers_of.ensures.end
    (λ n h. decided_no (has set n) (c.completed-set.ensures n) h) (λ n h. decided_yes (has set n) (c.completed-set.ensures n) h)
    (first_from_Range _ _ _ c.find.result (λ n. has set n ≡ false) (λ n. has set n ≡ true) c.find.ensures.ran (λ x q k. search (rules, tests)) (λ x q k. search (rules, tests)))))
