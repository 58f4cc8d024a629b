use Rattle.items.proofs.Examples as examples
use Rattle.items.proofs.Wholes.{items_are_read}
use Rattle.items.proofs.items_are_read.Goals as goal

pub returns : goal.returns
returns c = record { theorem = items_are_read; worked = examples.worked }
