use Rattle.std.proofs.Common.{◌-◌, ◌<◌, ◌∷◌, [], drop, sym, ◌∙◌, subst, arith, lit<}
use Rattle.writing.specs.Wrote.{Wrote}
use Rattle.forms.specs.Inner.{joint_of, mark_of, read_more}
use Rattle.forms.specs.Readers.{read_expression, read_members, read_marked}
use Rattle.forms.specs.declared.openings.Opening.TheVariants.{Range, Members, Marked}
use Rattle.forms.proofs.Lists.{list_over, list_stuck, list_no_member, list_member, no_first, one_alone, no_second, two_members, no_inside, not_shut, mark_there, none_left, some_left, reads_opened, range_there}
use Rattle.forms.proofs.Parts.{expression_from, expression_none}
use Rattle.forms.proofs.nesting.+expression_marked_members_more_members.Goals as goal

one : 0 < 1
one = lit< tt

pub expression-returns-then-left-eq0-clause-read : goal.expression-returns-then-left-eq0-clause-read
expression-returns-then-left-eq0-clause-read t c = none_left c.args.left (drop c.args.at c.args.text.now) c.if-left-eq0.true

pub expression-returns-in_err-opened-clause-read : goal.expression-returns-in_err-opened-clause-read
expression-returns-in_err-opened-clause-read t c =
    let front = drop c.args.at c.args.text.now in
    expression_none c.args.text.now c.args.at c.args.writer.now (read_expression c.args.left front) c.from_residual.result c.args.writer.now c.from_residual.ensures
    (some_left c.args.left front c.if-left-eq0.false ∙ c.in_err-opened.ensures (read_expression (c.args.left - 1)))

pub expression-returns-in_err-range-in-Range-clause-read : goal.expression-returns-in_err-range-in-Range-clause-read
expression-returns-in_err-range-in-Range-clause-read t c =
    let text = c.args.text.now in
    let opened = c.in_ok-opened.opened in
    expression_none text c.args.at c.args.writer.now (read_expression c.args.left (drop c.args.at text)) c.from_residual-in_err-range-in-Range.result c.args.writer.now c.from_residual-in_err-range-in-Range.ensures
    (reads_opened text c.args.at c.args.left opened Range c.if-left-eq0.false c.in_ok-opened.ensures c.in-Range.is ∙ c.in_err-range-in-Range.ensures)

pub expression-returns-in_ok-range-in-Range-clause-read : goal.expression-returns-in_ok-range-in-Range-clause-read
expression-returns-in_ok-range-in-Range-clause-read t c =
    let text = c.args.text.now in
    let opened = c.in_ok-opened.opened in
    range_there text c.args.at opened.end (read_expression c.args.left (drop c.args.at text)) c.args.writer.now c.in_ok-range-in-Range.range c.put.new.self c.in_ok-opened.ensures.0
    (reads_opened text c.args.at c.args.left opened Range c.if-left-eq0.false c.in_ok-opened.ensures c.in-Range.is)
    c.in_ok-range-in-Range.ensures c.put.ensures.wrote

pub expression-returns-in-Members-clause-read : goal.expression-returns-in-Members-clause-read
expression-returns-in-Members-clause-read t c =
    let text = c.args.text.now in
    let opened = c.in_ok-opened.opened in
    let joint = c.in-Members.joint in
    expression_from text c.args.at opened.end c.args.writer.now (read_expression c.args.left (drop c.args.at text)) (read_members (read_expression (c.args.left - 1)) (joint_of joint) (drop opened.end text)) c.members.result c.members.new.writer (omega (arith, c.in_ok-opened.ensures.0))
    (reads_opened text c.args.at c.args.left opened (Members joint) c.if-left-eq0.false c.in_ok-opened.ensures c.in-Members.is)
    c.members.ensures.read

pub expression-returns-in-Marked-clause-read : goal.expression-returns-in-Marked-clause-read
expression-returns-in-Marked-clause-read t c =
    let text = c.args.text.now in
    let opened = c.in_ok-opened.opened in
    let mark = c.in-Marked.mark in
    expression_from text c.args.at opened.end c.args.writer.now (read_expression c.args.left (drop c.args.at text)) (read_marked (read_expression (c.args.left - 1)) (mark_of mark) (drop opened.end text)) c.marked.result c.marked.new.writer (omega (arith, c.in_ok-opened.ensures.0))
    (reads_opened text c.args.at c.args.left opened (Marked mark) c.if-left-eq0.false c.in_ok-opened.ensures c.in-Marked.is)
    c.marked.ensures.read

pub marked-returns-in_err-inside-clause-read : goal.marked-returns-in_err-inside-clause-read
marked-returns-in_err-inside-clause-read t c =
    let text = c.args.text.now in
    expression_none text c.args.at c.args.writer.now (read_marked (read_expression c.args.left) (mark_of c.args.mark) (drop c.args.at text)) c.from_residual.result c.expression.new.writer c.from_residual.ensures
    (no_inside text c.args.at c.args.left c.args.mark c.args.writer.now c.in_err-inside.ensures.read)

pub marked-returns-in_err-end-clause-read : goal.marked-returns-in_err-end-clause-read
marked-returns-in_err-end-clause-read t c =
    let text = c.args.text.now in
    expression_none text c.args.at c.args.writer.now (read_marked (read_expression c.args.left) (mark_of c.args.mark) (drop c.args.at text)) c.from_residual-in_err-end.result c.expression.new.writer c.from_residual-in_err-end.ensures
    (not_shut text c.args.at c.args.left c.args.mark c.args.writer.now c.in_ok-inside.inside c.expression.new.writer c.in_ok-inside.ensures.read (c.in_err-end.ensures.answer one))

pub marked-returns-clause-read : goal.marked-returns-clause-read
marked-returns-clause-read t c =
    let wrote = subst (λ x. Wrote c.expression.new.writer (x ∷ []) c.put.new.self) c.from.ensures c.put.ensures.wrote in
    mark_there c.args.text.now c.args.at c.args.left c.args.mark c.args.writer.now c.in_ok-inside.inside c.expression.new.writer c.in_ok-inside.ensures.read c.in_ok-end.end (c.in_ok-end.ensures.answer one) c.put.new.self wrote

pub members-returns-in_err-first-clause-read : goal.members-returns-in_err-first-clause-read
members-returns-in_err-first-clause-read t c =
    let text = c.args.text.now in
    expression_none text c.args.at c.args.writer.now (read_members (read_expression c.args.left) (joint_of c.args.joint) (drop c.args.at text)) c.from_residual.result c.expression.new.writer c.from_residual.ensures
    (no_first text c.args.at c.args.left c.args.joint c.args.writer.now c.in_err-first.ensures.read)

pub members-returns-in_err-space-clause-read : goal.members-returns-in_err-space-clause-read
members-returns-in_err-space-clause-read t c =
    let text = c.args.text.now in
    expression_none text c.args.at c.args.writer.now (read_members (read_expression c.args.left) (joint_of c.args.joint) (drop c.args.at text)) c.from_residual-in_err-space.result c.expression.new.writer c.from_residual-in_err-space.ensures
    (one_alone text c.args.at c.args.left c.args.joint c.args.writer.now c.in_ok-first.first c.expression.new.writer c.in_ok-first.ensures.read (c.in_err-space.ensures.answer one))

pub members-returns-in_err-second-clause-read : goal.members-returns-in_err-second-clause-read
members-returns-in_err-second-clause-read t c =
    let text = c.args.text.now in
    expression_none text c.args.at c.args.writer.now (read_members (read_expression c.args.left) (joint_of c.args.joint) (drop c.args.at text)) c.from_residual-in_err-second.result c.expression-2.new.writer c.from_residual-in_err-second.ensures
    (no_second text c.args.at c.args.left c.args.joint c.args.writer.now c.in_ok-first.first c.expression.new.writer c.in_ok-first.ensures.read c.in_ok-space.space (c.in_ok-space.ensures.answer one) c.in_err-second.ensures.read)

pub members-returns-clause-read : goal.members-returns-clause-read
members-returns-clause-read t c =
    let text = c.args.text.now in
    let wrote = subst (λ x. Wrote c.expression-2.new.writer (x ∷ []) c.put.new.self) c.from.ensures c.put.ensures.wrote in
    let two = two_members text c.args.at c.args.left c.args.joint c.args.writer.now c.in_ok-first.first c.expression.new.writer c.in_ok-first.ensures.read c.in_ok-space.space (c.in_ok-space.ensures.answer one) c.in_ok-second.second c.expression-2.new.writer c.put.new.self c.in_ok-second.ensures.read wrote in
    expression_from text c.args.at c.args.at c.args.writer.now (read_members (read_expression c.args.left) (joint_of c.args.joint) (drop c.args.at text)) (read_more c.args.left (joint_of c.args.joint) two.both two.rest) c.more_members.result c.more_members.new.writer (omega arith) two.reads
    (c.more_members.ensures.read c.args.at two.both two.rest c.args.writer.now two.is)

pub more_members-returns-in_err-here-clause-read : goal.more_members-returns-in_err-here-clause-read
more_members-returns-in_err-here-clause-read t c start e rest before p =
    let text = c.args.text.now in
    let whole = read_more c.args.left (joint_of c.args.joint) e rest in
    expression_none text start before whole c.from_residual.result c.expression.new.writer c.from_residual.ensures
    (list_no_member text start c.args.left c.args.joint whole before c.loop-joint.here c.loop-joint.writer (c.loop-joint.invariant.0 start e rest before p) (sym c.byte_is.ensures ∙ c.loop-joint-test.true) c.in_err-here.ensures.read)

pub more_members-loop-joint-preserved : goal.more_members-loop-joint-preserved
more_members-loop-joint-preserved t c =
    let text = c.args.text.now in
    let wrote = subst (λ x. Wrote c.expression.new.writer (x ∷ []) c.put.new.self) c.from.ensures c.put.ensures.wrote in (
      λ start e rest before p. list_member text start c.args.left c.args.joint (read_more c.args.left (joint_of c.args.joint) e rest) before c.loop-joint.here c.loop-joint.writer (c.loop-joint.invariant.0 start e rest before p) (sym c.byte_is.ensures ∙ c.loop-joint-test.true) c.in_ok-here.here c.expression.new.writer c.put.new.self c.in_ok-here.ensures.read wrote,
      c.put.ensures.same_table ∙ c.in_ok-here.ensures.same_table ∙ c.loop-joint.invariant.1,
    )

pub more_members-returns-then-byte_is-clause-read : goal.more_members-returns-then-byte_is-clause-read
more_members-returns-then-byte_is-clause-read t c start e rest before p =
    let whole = read_more c.args.left (joint_of c.args.joint) e rest in
    list_over c.args.text.now start c.args.left c.args.joint whole before c.loop-joint.here c.loop-joint.writer (c.loop-joint.invariant.0 start e rest before p) (sym c.if-byte_is.ensures)

pub more_members-returns-else-byte_is-clause-read : goal.more_members-returns-else-byte_is-clause-read
more_members-returns-else-byte_is-clause-read t c start e rest before p =
    let whole = read_more c.args.left (joint_of c.args.joint) e rest in
    list_stuck c.args.text.now start c.args.left c.args.joint whole before c.loop-joint.here c.loop-joint.writer (c.loop-joint.invariant.0 start e rest before p) (sym c.if-byte_is.ensures) (sym c.byte_is.ensures ∙ c.loop-joint-test.false)
