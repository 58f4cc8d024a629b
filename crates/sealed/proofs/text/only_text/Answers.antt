use Rattle.std.proofs.Common.{rules, subst}
use Rattle.std.proofs.lemmas.Iterator.{YieldsList-from_slice, cases_from_all}
use Rattle.std.proofs.lemmas.Iterator.Consumers.{YieldsList-at, YieldsList-from_filter_map}
use Rattle.std.specs.List.{filter_map}
use borrow.Author.Tests.{tests}
use Rattle.engine.specs.Languages.{Decides, Each}
use Rattle.engine.specs.declared.alphabet.ContentAtom.TheVariants.{Text}
use Rattle.models.specs.Readers.{atom_in}
use Rattle.models.proofs.Numbering.{atoms_found}
use Rattle.sealing.proofs.Firsts.{all_decides}
use Rattle.sealed.specs.Texts.{TextOnly}
use Rattle.sealed.proofs.text.only_text.Goals as goal

pub returns : goal.returns
returns c =
    let nodes = c.args.nodes.now in
    let has = TextOnly in
    subst (λ atoms. Decides c.all.result (Each has atoms)) (atoms_found nodes)
    (all_decides has Text (filter_map atom_in nodes) c.all.result
    (cases_from_all _ _ _ has (λ a. has a → ⊥) c.all.ensures.ran
    (YieldsList-from_filter_map _ atom_in (YieldsList-at c.filter_map.ensures.source (YieldsList-from_slice nodes (cc))) c.filter_map.ensures.closure (λ x r q k. search (rules, tests)))
    (λ x q k. search (rules, tests)) (λ x q k. search (rules, tests))))
