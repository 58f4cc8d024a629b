use Rattle.std.proofs.Common.{arith}
use Rattle.bakery.proofs.ContentLaws.{all_real, open_sheet, two_or_three, open_entry, open_hours}
use Rattle.bakery.proofs.contents.AgreementEngine.open.Goals as goal

pub returns-in-1 : goal.returns-in-1
returns-in-1 c = record { answer = open_sheet c.args.number c.in-1.is; real = λ w h. all_real w }

pub returns-in-2 : goal.returns-in-2
returns-in-2 c = record { answer = open_entry c.args.number (two_or_three c.args.number (omega arith) (omega arith)); real = λ w h. all_real w }

pub returns-in-5 : goal.returns-in-5
returns-in-5 c = record { answer = open_hours c.args.number c.in-5.is; real = λ w h. all_real w }
