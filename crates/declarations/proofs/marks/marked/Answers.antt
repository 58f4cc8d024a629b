use Rattle.std.proofs.Common.{[], ◌∷◌, sym, subst, arith}
use Rattle.writing.specs.Wrote.{Wrote}
use Rattle.declarations.proofs.Parts.{mark_inside, mark_none, mark_some}
use Rattle.declarations.proofs.marks.marked.Goals as goal

pub returns-in_default-clause-read : goal.returns-in_default-clause-read
returns-in_default-clause-read c names start e rest before p =
    mark_none c.args.text.now names start e rest before c.args.at c.args.model.now p (sym c.in_default.ensures)

pub overflow_add-result : goal.overflow_add-result
overflow_add-result c =
    let inside = mark_inside c.args.text.now c.args.at c.in-Some.mark c.in-Some.ensures in
    omega arith

pub returns-clause-read : goal.returns-clause-read
returns-clause-read c names start e rest before p =
    let inside = mark_inside c.args.text.now c.args.at c.in-Some.mark c.in-Some.ensures in
    let wrote = subst (λ x. Wrote c.args.model.now (x ∷ []) c.put.new.self) c.from.ensures c.put.ensures.wrote in
    mark_some c.args.text.now names start e rest before c.args.at c.args.model.now p c.in-Some.mark (sym c.in-Some.ensures) inside _ (wrote, c.put.ensures.told)
