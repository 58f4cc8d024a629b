use Rattle.derivative.proofs.Stepping.{step_found}
use Rattle.derivative.proofs.steps.DerivativesEngine.step.Goals as goal

pub returns : goal.returns
returns g c =
    let tables = c.args.self.now.tables in
    step_found g.L.Alphabet.stands tables.nodes.now tables.models.now c.args.number c.nodes_of-nodes.result.now c.nodes_of-nodes.ensures (λ a. (g.L.Alphabet.sample a, g.met.L.Alphabet.sampled a)) c.args.letter c.args.state c.readers.result c.readers.ensures c.in_ok-derived.derived c.in_ok-derived.ensures c.reached-next.result c.reached-next.ensures c.reached-next.type_inv c.then_some.result c.then_some.ensures
