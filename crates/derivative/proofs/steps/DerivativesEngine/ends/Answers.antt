use Rattle.std.proofs.Common.{◌≡◌, rules, false}
use Rattle.std.specs.Option.{MatchOption}
use Rattle.models.proofs.Options.{match_then}
use Rattle.derivative.specs.Derivation.{ends_in}
use Rattle.derivative.proofs.Stepping.{ends_found}
use Rattle.derivative.proofs.steps.DerivativesEngine.ends.Goals as goal

pub returns : goal.returns
returns g c =
    let tables = c.args.self.now.tables in
    let ended : MatchOption c.known.result (c.is_some_and.result ≡ false) (λ d. c.is_some_and.result ≡ ends_in c.args.state d) =
    match_then _ c.known.result c.is_some_and.ensures (λ d h. search rules) in
    ends_found g.L.Alphabet.stands tables.nodes.now tables.models.now c.args.number c.nodes_of.result.now c.nodes_of.ensures c.args.state 0 c.known.result c.known.ensures c.is_some_and.result ended
