use Rattle.std.proofs.Common.{refl}
use Rattle.engine.specs.Atoms.{StandsFor}
use Rattle.derivative.proofs.Stepping.{speaks}
use Rattle.sealed.proofs.sealed.Sealed.fill.Goals as goal

pub invariant_of-self : goal.invariant_of-self
invariant_of-self c = record { checked = ∣ c.in_ok-check.ensures ∣₁ }

pub returns : goal.returns
returns c = record {
  answer = c.in_ok-check.ensures;
  tables = (refl, refl);
  languages = speaks StandsFor c.args.tables.nodes.now c.args.tables.models.now;
  states = λ number state w. (λ h. h, λ h. h);
}
