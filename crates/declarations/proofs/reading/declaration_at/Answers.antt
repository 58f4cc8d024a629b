use Rattle.std.proofs.Common.{rules}
use Rattle.declarations.specs.Answers.{numbered_names}
use Rattle.declarations.proofs.Heads.{told}
use Rattle.declarations.proofs.reading.declaration_at.Goals as goal

pub returns : goal.returns
returns c =
    let text = c.args.text.now in
    told text (numbered_names text c.args.entries.now) c.args.at c.new-model.result c.in_ok-read.read c.declaration.new.model c.new-model.ensures.used c.new-model.ensures.atoms c.new-model.ensures.told (search rules) c.in_ok-read.ensures.read
