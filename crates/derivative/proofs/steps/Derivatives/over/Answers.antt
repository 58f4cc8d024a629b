use Rattle.derivative.proofs.Stepping.{speaks}
use Rattle.derivative.proofs.steps.Derivatives.over.Goals as goal

pub returns : goal.returns
returns g c = record {
  languages = speaks g.L.Alphabet.stands c.args.tables.nodes.now c.args.tables.models.now;
  states = λ number state w. (λ h. h, λ h. h);
}
