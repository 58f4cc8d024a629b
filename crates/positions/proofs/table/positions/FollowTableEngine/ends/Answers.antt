use Rattle.std.proofs.Common.{◌≡◌, ℕ, false, rules}
use mir.Facts.{Fits-lt-pow}
use Rattle.std.specs.Option.{MatchOption}
use Rattle.bits.specs.Sets.{has}
use Rattle.models.proofs.Options.{match_then}
use Rattle.positions.specs.Walks.{Union}
use Rattle.positions.proofs.Reading.{ends_found}
use Rattle.positions.proofs.table.positions.FollowTableEngine.ends.Goals as goal

pub returns : goal.returns
returns g c =
    let self = c.args.self.now in
    let b = c.is_some_and.result in
    let ended : MatchOption c.base_of-base.result (b ≡ false) (λ base. (u : ℕ) × Union self.rows.now base c.args.state u × (b ≡ has u 0)) =
    match_then _ c.base_of-base.result c.is_some_and.ensures (λ base h. search rules) in
    ends_found g.L.Alphabet.stands self.tables.nodes.now self.tables.models.now self.rows.now c.args.number self.followed self.blank c.args.state (Fits-lt-pow c.ranges.state)
    c.base_of-base.result c.base_of-base.ensures b ended
