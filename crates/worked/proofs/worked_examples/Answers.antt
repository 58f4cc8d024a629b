use mathlib.Core.Path.{refl}
use Rattle.worked.proofs.Hours.{worked}
use Rattle.worked.proofs.worked_examples.Goals as goal

pub returns : goal.returns
returns c = record { answer = refl; law = worked }
