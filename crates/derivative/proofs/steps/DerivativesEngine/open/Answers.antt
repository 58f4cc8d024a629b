use Rattle.std.proofs.Common.{◌≡◌, rules, None, Some}
use Rattle.std.specs.Option.{MatchOption}
use Rattle.models.proofs.ModelTables.{in_each}
use Rattle.models.proofs.Options.{match_then}
use Rattle.derivative.proofs.Stepping.{opens_found}
use Rattle.derivative.proofs.steps.DerivativesEngine.open.Goals as goal

pub returns-clause-answer : goal.returns-clause-answer
returns-clause-answer g c =
    let tables = c.args.self.now.tables in
    let opened : MatchOption c.known.result (c.map.result ≡ None) (λ d. c.map.result ≡ Some 1) =
    match_then _ c.known.result c.map.ensures.cases (λ d h. search rules) in
    opens_found g.L.Alphabet.stands tables.nodes.now tables.models.now c.args.number c.nodes_of.result.now c.nodes_of.ensures (λ a. (g.L.Alphabet.sample a, g.met.L.Alphabet.sampled a)) 0 0 c.known.result c.known.ensures c.map.result opened

pub returns-clause-real : goal.returns-clause-real
returns-clause-real g c =
    λ w h. in_each (λ k. g.L.Alphabet.stands) g.L.Alphabet.real (λ k a x r. g.met.L.Alphabet.stands_for_real a x r) h.0 0 w h.2
