use Rattle.std.proofs.Common.{true, false, refl, rules}
use Rattle.std.proofs.lemmas.Iterator.{cases_from_all, YieldsList-from_range}
use Rattle.frames.specs.Agreements.{AgreesAt}
use Rattle.frames.specs.Meanings.{meaning}
use Rattle.frames.proofs.Agreeing.{agrees_by_each}
use Rattle.frames.proofs.engines.Engines.agrees.Goals as goal

pub returns : goal.returns
returns g c =
    let m = meaning g.C.Engine g.V.Engine c.args.self.now in
    agrees_by_each m c.all.result
    (cases_from_all _ _ _ (λ n. AgreesAt m n true) (λ n. AgreesAt m n false) c.all.ensures.ran (YieldsList-from_range 1 64 63 refl refl) (λ n q k. search rules) (λ n q k. search rules))
