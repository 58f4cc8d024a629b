use Rattle.std.proofs.Common.{drop, sym, subst}
use Rattle.declarations.specs.Answers.{numbered_names}
use Rattle.declarations.specs.Inner.{ContentAt}
use Rattle.declarations.specs.Grammar.{deepest}
use Rattle.declarations.specs.Readers.{as_children, marked, read_group}
use Rattle.declarations.proofs.Leaves.{particle_got, particle_bad}
use Rattle.declarations.proofs.Wholes.{children_told, children_bad}
use Rattle.declarations.proofs.content.children.Goals as goal

pub returns-in_err-bracket-clause-read : goal.returns-in_err-bracket-clause-read
returns-in_err-bracket-clause-read c =
    let text = c.args.source.text.now in
    let names = numbered_names text c.args.source.entries.now in
    let t = drop c.args.at text in
    let none = children_bad t (particle_bad (read_group deepest t) c.in_err-bracket.ensures.read) in
    subst (λ r. ContentAt text names c.args.at (as_children (marked (read_group deepest t))) c.args.model.now r c.group.new.model) (sym c.from_residual.ensures) none

pub returns-clause-read : goal.returns-clause-read
returns-clause-read c =
    let text = c.args.source.text.now in
    let names = numbered_names text c.args.source.entries.now in
    let u = c.in_ok-bracket.ensures.read in
    children_told text names c.args.at c.args.model.now c.marked-end.result c.marked-end.new.model
    (particle_got text names c.args.at c.args.model.now (read_group deepest (drop c.args.at text)) u.0 u.1 c.marked-end.result c.marked-end.new.model u.2 (c.marked-end.ensures.read names c.args.at u.0 u.1 c.args.model.now u.3))
