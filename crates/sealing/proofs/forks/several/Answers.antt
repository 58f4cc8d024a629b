use Rattle.std.proofs.Common.{is_some, sym, subst}
use Rattle.engine.specs.Languages.{Decides}
use Rattle.sealing.specs.Forks.{Several}
use Rattle.sealing.proofs.Forking.{several_second}
use Rattle.sealing.proofs.forks.several.Goals as goal

pub returns : goal.returns
returns c =
    subst (λ b. Decides b (Several c.args.set)) (sym c.is_some.ensures)
    (subst (λ s. Decides (is_some c.nth.result) (Several s)) c.of.ensures (several_second c.of.result c.nth.result c.nth.new.self c.nth.ensures.ran))
