use Rattle.std.proofs.Common.{sym, subst}
use Rattle.declarations.specs.Answers.{numbered_names}
use Rattle.declarations.specs.Inner.{WritesAt}
use Rattle.declarations.proofs.Heads.{content_missing, unclosed, closed}
use Rattle.declarations.proofs.Stages.{inside}
use Rattle.declarations.proofs.reading.declaration.Goals as goal

pub returns-in_err-body-clause-read : goal.returns-in_err-body-clause-read
returns-in_err-body-clause-read c =
    let text = c.args.source.text.now in
    let names = numbered_names text c.args.source.entries.now in
    subst (λ r. WritesAt text names c.args.at c.args.model.now r c.content.new.model) (sym c.from_residual-in_err-body.ensures)
    (content_missing text names c.args.at c.args.model.now c.in_ok-name.name c.in_ok-name.ensures c.in_err-body.ensures.read)

pub returns-then-not-byte_is-clause-read : goal.returns-then-not-byte_is-clause-read
returns-then-not-byte_is-clause-read c =
    let text = c.args.source.text.now in
    let names = numbered_names text c.args.source.entries.now in
    unclosed text names c.args.at c.args.model.now c.in_ok-name.name c.in_ok-name.ensures c.in_ok-body.body c.content.new.model c.in_ok-body.ensures.read c.skip_blanks-close.result c.skip_blanks-close.ensures.behind (sym c.if-not-byte_is.ensures)

pub returns-clause-read : goal.returns-clause-read
returns-clause-read c =
    let text = c.args.source.text.now in
    let names = numbered_names text c.args.source.entries.now in
    let shut = sym c.if-not-byte_is.ensures in
    closed text names c.args.at c.args.model.now c.in_ok-name.name c.in_ok-name.ensures c.in_ok-body.body c.content.new.model c.in_ok-body.ensures.read c.skip_blanks-close.result c.skip_blanks-close.ensures.behind shut (inside 62 text c.skip_blanks-close.result shut) c.skip_blanks-close.ensures.forward
