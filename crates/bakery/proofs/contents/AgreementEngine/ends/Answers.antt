use Rattle.bakery.proofs.ContentLaws.{ends_told}
use Rattle.bakery.proofs.contents.AgreementEngine.ends.Goals as goal

pub returns-else-state-eq-TEXTS : goal.returns-else-state-eq-TEXTS
returns-else-state-eq-TEXTS c = ends_told c.args.state c.if-state-eq-TEXTS.false
