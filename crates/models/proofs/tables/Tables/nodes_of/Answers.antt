use Rattle.std.proofs.Common.{◌≡◌, rules, None, sym, refl, ap, subst}
use Rattle.std.specs.Option.{MatchOption}
use Rattle.std.specs.Slice.{IsItemAt, IsGetRangeResult}
use Rattle.models.specs.Tables.{NodesOf}
use Rattle.models.proofs.ModelTables.{found_nodes}
use Rattle.models.proofs.Options.{match_then}
use Rattle.models.proofs.tables.Tables.nodes_of.Goals as goal

pub returns : goal.returns
returns g c =
    let nodes = c.args.self.now.nodes.now in
    let models = c.args.self.now.models.now in
    let record_at : MatchOption c.checked_sub.result (c.and_then.result ≡ None) (λ p. IsItemAt models p c.and_then.result) =
    match_then _ c.checked_sub.result c.and_then.ensures (λ p h. search rules) in
    let part_at : MatchOption c.and_then.result (c.and_then-2.result ≡ None) (λ m. IsGetRangeResult nodes m.now.start m.now.end c.and_then-2.result) =
    match_then _ c.and_then.result c.and_then-2.ensures (λ m h. search rules) in
    subst (NodesOf nodes models c.args.number) (sym (ap (λ slice. slice.now) c.unwrap_or.ensures))
    (found_nodes nodes models c.args.number _ refl c.checked_sub.result c.and_then.result c.and_then-2.result c.checked_sub.ensures record_at part_at)
