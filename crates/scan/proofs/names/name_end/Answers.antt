use Rattle.std.proofs.Common.{sym, subst, ◌∙◌, rules}
use Rattle.scan.specs.Bytes.{is_initial}
use Rattle.scan.proofs.Fronts.{first_asked}
use Rattle.scan.proofs.Naming.{named_if, not_begun, Named}
use Rattle.scan.proofs.names.name_end.Goals as goal

pub returns-then-not-is_some_and-clause-answer : goal.returns-then-not-is_some_and-clause-answer
returns-then-not-is_some_and-clause-answer c =
    (not_begun c.args.text.now c.args.at (sym (first_asked is_initial c.args.text.now c.args.at _ c.is_some_and.result c.peek.ensures (search rules)) ∙ c.if-not-is_some_and.true)).answer

pub returns : goal.returns
returns c =
    let it : Named c.args.text.now c.args.at c.then_some.result =
    subst (Named c.args.text.now c.args.at) (sym c.then_some.ensures)
    (named_if c.args.text.now c.args.at c.name_run_end-end.result (sym (first_asked is_initial c.args.text.now c.args.at _ c.is_some_and.result c.peek.ensures (search rules)) ∙ c.if-not-is_some_and.false) c.name_run_end-end.ensures) in
    record { answer = it.answer; name = it.name }
