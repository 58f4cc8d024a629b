use Rattle.std.proofs.Common.{rules}
use Rattle.forms.proofs.Lining.{told}
use Rattle.forms.proofs.lines.form_at.Goals as goal

pub returns : goal.returns
returns c =
    told c.args.text.now c.args.at c.new-writer.result c.in_ok-placed.placed c.line.new.writer c.new-writer.ensures.used c.new-writer.ensures.atoms (search rules) c.in_ok-placed.ensures.read
