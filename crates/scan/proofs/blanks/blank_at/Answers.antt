use Rattle.std.proofs.Common.{rules}
use Rattle.scan.specs.Bytes.{is_blank}
use Rattle.scan.proofs.Fronts.{first_asked}
use Rattle.scan.proofs.blanks.blank_at.Goals as goal

pub returns : goal.returns
returns c = first_asked is_blank c.args.text.now c.args.at c.peek.result c.is_some_and.result c.peek.ensures (search rules)
