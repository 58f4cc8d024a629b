use Rattle.std.proofs.Common.{rules}
use Rattle.std.proofs.lemmas.Iterator.{YieldsList-from_slice, cases_from_any}
use Rattle.std.proofs.lemmas.Iterator.Consumers.{YieldsList-at, YieldsList-from_filter_map}
use Rattle.std.specs.List.{filter_map}
use borrow.Author.Tests.{tests}
use Rattle.engine.specs.declared.alphabet.ContentAtom.TheVariants.{Text}
use Rattle.models.specs.Readers.{atom_in}
use Rattle.sealing.specs.Forks.{ForksBy}
use Rattle.sealing.proofs.Firsts.{any_decides}
use Rattle.sealing.proofs.Forking.{ambiguous_told}
use Rattle.sealing.proofs.forks.ambiguous.Goals as goal

pub returns : goal.returns
returns c =
    let nodes = c.args.nodes.now in
    let forks = ForksBy nodes in
    ambiguous_told nodes c.any.result
    (any_decides forks Text (filter_map atom_in nodes) c.any.result
    (cases_from_any _ _ _ forks (λ a. forks a → ⊥) c.any.ensures.ran
    (YieldsList-from_filter_map _ atom_in (YieldsList-at c.filter_map.ensures.source (YieldsList-from_slice nodes (cc))) c.filter_map.ensures.closure (λ x r q k. search (rules, tests)))
    (λ x q k. search (rules, tests)) (λ x q k. search (rules, tests))))
