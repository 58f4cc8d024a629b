use Rattle.std.proofs.Common.{rules, ◌≡◌, false}
use Rattle.std.specs.Option.{MatchOption}
use Rattle.engine.specs.Languages.{Decides}
use Rattle.models.proofs.Options.{match_then}
use Rattle.derivative.specs.Derivation.{after_state}
use Rattle.sealing.specs.Forks.{Several}
use Rattle.sealing.proofs.Forking.{forks_found}
use Rattle.sealing.proofs.forks.forks.Goals as goal

pub returns : goal.returns
returns c =
    let b = c.is_some_and.result in
    let told : MatchOption c.known.result (b ≡ false) (λ d. Decides b (Several (after_state c.only-state.result d))) =
    match_then _ c.known.result c.is_some_and.ensures (λ d h. search rules) in
    forks_found c.args.nodes.now c.args.letter c.args.after c.requires c.readers.result c.readers.ensures c.only-state.result c.only-state.ensures c.known.result c.known.ensures b told
