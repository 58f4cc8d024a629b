use Rattle.std.proofs.Common.{◌≡◌, rules, sym, ◌∙◌, subst, inr, arith}
use borrow.Author.Tests.{tests}
use Rattle.std.proofs.lemmas.Iterator.{YieldsList-from_slice}
use Rattle.std.proofs.lemmas.Iterator.Adapters.{option_map_id}
use Rattle.std.proofs.lemmas.Iterator.Consumers.{YieldsList-at, YieldsList-from_filter_map, nth_from_yields_List}
use Rattle.std.specs.List.{slice_get, filter_map}
use Rattle.std.specs.Option.{MatchOption}
use Rattle.models.specs.Readers.{atom_in}
use Rattle.models.specs.declared.node.Node.TheVariants.{Atom, Unused}
use Rattle.models.proofs.Options.{match_then}
use Rattle.positions.specs.Following.{AtomAt}
use Rattle.positions.proofs.Entries.{atom_at, atom_missing}
use Rattle.positions.proofs.rows.atom_of.Goals as goal

pub returns-in_default : goal.returns-in_default
returns-in_default g c = atom_missing c.args.nodes.now c.args.number (inr (omega (arith, c.in_default.ensures)))

pub returns : goal.returns
returns g c =
    let nodes = c.args.nodes.now in
    let before = c.in-Some.before in
    let met : c.nth.result ≡ slice_get (filter_map atom_in nodes) before =
    sym (option_map_id c.nth.result)
    ∙ nth_from_yields_List c.nth.result c.nth.new.self before c.nth.ensures.ran
    (YieldsList-from_filter_map _ atom_in (YieldsList-at c.filter_map.ensures.source (YieldsList-from_slice nodes (cc))) c.filter_map.ensures.closure (λ x r q k. search (rules, tests))) in
    let made : MatchOption c.nth.result (c.map_or.result ≡ Unused) (λ a. c.map_or.result ≡ Atom a) =
    match_then _ c.nth.result c.map_or.ensures (λ a h. search rules) in
    subst (λ n. AtomAt nodes n c.map_or.result) (omega (arith, c.in-Some.ensures)) (atom_at nodes before c.nth.result met c.map_or.result made)
