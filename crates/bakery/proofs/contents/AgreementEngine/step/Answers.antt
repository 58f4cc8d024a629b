use Rattle.std.proofs.Common.{◌∷◌, subst}
use Rattle.bakery.specs.Rests.{ContentLeft}
use Rattle.bakery.proofs.ContentLaws.{no_text}
use Rattle.bakery.proofs.contents.AgreementEngine.step.Goals as goal

pub returns-in-Text-2 : goal.returns-in-Text-2
returns-in-Text-2 c w h =
    no_text c.args.state w c.if-state-eq-TEXTS.false (subst (λ a. ContentLeft c.args.state (a ∷ w)) c.in-Text-2.is h)
