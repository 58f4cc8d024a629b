use Rattle.std.proofs.Common.{◌≡◌, rules}
use lib.Bits.{bit_or}
use Rattle.std.specs.Option.{MatchOption}
use Rattle.bits.specs.Sets.{guarded}
use Rattle.models.proofs.Options.{match_then}
use Rattle.derivative.specs.Derivation.{after_state, ends_in}
use Rattle.positions.proofs.Entries.{row_found}
use Rattle.positions.proofs.rows.row_at.Goals as goal

pub returns : goal.returns
returns g c =
    let tables = c.args.tables in
    let from = c.only-from.result in
    let made : MatchOption c.known.result (c.map_or.result ≡ 0) (λ d. c.map_or.result ≡ bit_or (after_state from d) (guarded (ends_in from d) 1)) =
    match_then _ c.known.result c.map_or.ensures (λ d h. search rules) in
    row_found tables.nodes.now tables.models.now c.args.place c.nodes_of.result.now c.nodes_of.ensures from c.only-from.ensures c.known.result c.known.ensures c.map_or.result made
