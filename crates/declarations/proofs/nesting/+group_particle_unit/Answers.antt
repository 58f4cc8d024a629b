use Rattle.std.proofs.Common.{◌-◌, [], ◌∷◌, drop, sym, ap, ◌∙◌, subst, arith}
use Rattle.models.specs.Expressions.{atom}
use Rattle.scan.specs.Lists.{number_of}
use Rattle.writing.specs.Wrote.{Wrote}
use Rattle.declarations.specs.Answers.{numbered_names}
use Rattle.declarations.specs.Inner.{ExpressionAt, read_unit}
use Rattle.declarations.specs.Readers.{read_cp, read_group}
use Rattle.declarations.proofs.Groups.{group_none, group_bad, group_first, group_over, group_stuck, group_no_member, group_member, group_zero}
use Rattle.declarations.proofs.Leaves.{unit_name, unit_other, expression_same, particle_got, particle_bad}
use Rattle.declarations.proofs.Parts.{part_name}
use Rattle.declarations.proofs.Stages.{comes, inside}
use Rattle.declarations.proofs.nesting.+group_particle_unit.Goals as goal
use Rattle.declarations.proofs.nesting.+group_particle_unit.Goals.{group-then-left-eq0-via-then-left-eq0, group-then-left-eq0-via-else-left-eq0+then-not-byte_is}

pub group-returns-then-left-eq0-clause-read : goal.group-returns-then-left-eq0-clause-read
group-returns-then-left-eq0-clause-read t c =
    elim c.then-left-eq0.branch [
      | group-then-left-eq0-via-then-left-eq0 w ↦ group_zero c.args.source.text.now c.args.at c.args.left w.if-left-eq0.true
      | group-then-left-eq0-via-else-left-eq0+then-not-byte_is w ↦
          group_none c.args.source.text.now [] c.args.at c.args.left c.args.model.now (sym w.byte_is.ensures ∙ w.if-not-byte_is.true)
    ]

pub group-overflow_add-at : goal.group-overflow_add-at
group-overflow_add-at t c =
    let h = inside 40 c.args.source.text.now c.args.at (sym c.if-not-byte_is.ensures) in
    omega arith

pub group-returns-in_err-end-clause-read : goal.group-returns-in_err-end-clause-read
group-returns-in_err-end-clause-read t c =
    let text = c.args.source.text.now in
    let names = numbered_names text c.args.source.entries.now in
    let signed = sym c.if-not-byte_is.ensures in
    let none = group_bad text names c.args.at c.args.left c.args.model.now c.skip_blanks-start.result (omega arith) signed (inside 40 text c.args.at signed) c.skip_blanks-start.ensures.behind c.in_err-end.ensures.read in
    subst (λ r. ExpressionAt text names c.args.at (read_group c.args.left (drop c.args.at text)) c.args.model.now r c.particle.new.model) (sym c.from_residual.ensures) none

pub group-loop-text-init : goal.group-loop-text-init
group-loop-text-init t c =
    let text = c.args.source.text.now in
    let names = numbered_names text c.args.source.entries.now in
    let signed = sym c.if-not-byte_is.ensures in (
      group_first text names c.args.at c.args.left c.args.model.now c.skip_blanks-start.result c.joint_at-joint.result c.in_ok-end.end c.particle.new.model (omega arith) signed (inside 40 text c.args.at signed) c.skip_blanks-start.ensures.behind c.skip_blanks-start.ensures.forward c.joint_at-joint.ensures c.in_ok-end.ensures.read,
      c.in_ok-end.ensures.same_table,
    )

pub group-overflow_add-result : goal.group-overflow_add-result
group-overflow_add-result t c =
    let h = inside 41 c.args.source.text.now c.skip_blanks-here.result (sym c.if-byte_is.ensures) in
    omega arith

pub group-returns-then-byte_is-clause-read : goal.group-returns-then-byte_is-clause-read
group-returns-then-byte_is-clause-read t c =
    let text = c.args.source.text.now in
    let names = numbered_names text c.args.source.entries.now in
    let here = c.skip_blanks-here.result in
    let closed = sym c.if-byte_is.ensures in
    group_over text names c.args.at (read_group (c.args.left - 1)) c.joint_at-joint.result (read_group c.args.left (drop c.args.at text)) c.args.model.now c.loop-text.end c.loop-text.model c.loop-text.invariant.0 here c.skip_blanks-here.ensures.behind c.skip_blanks-here.ensures.forward (inside 41 text here closed) closed

pub group-returns-then-not-byte_is-2-clause-read : goal.group-returns-then-not-byte_is-2-clause-read
group-returns-then-not-byte_is-2-clause-read t c =
    let text = c.args.source.text.now in
    let names = numbered_names text c.args.source.entries.now in
    let here = c.skip_blanks-here.result in
    let unsigned = ap (λ k. comes k (drop here text)) (sym c.sign.ensures) ∙ sym c.if-not-byte_is-2.ensures in
    group_stuck text names c.args.at (read_group (c.args.left - 1)) c.joint_at-joint.result (read_group c.args.left (drop c.args.at text)) c.args.model.now c.loop-text.end c.loop-text.model c.loop-text.invariant.0 here c.skip_blanks-here.ensures.behind (sym c.if-byte_is.ensures) unsigned

pub group-overflow_add-here : goal.group-overflow_add-here
group-overflow_add-here t c =
    let h = inside c.sign.result c.args.source.text.now c.skip_blanks-here.result (sym c.if-not-byte_is-2.ensures) in
    omega arith

pub group-returns-in_err-end-2-clause-read : goal.group-returns-in_err-end-2-clause-read
group-returns-in_err-end-2-clause-read t c =
    let text = c.args.source.text.now in
    let names = numbered_names text c.args.source.entries.now in
    let here = c.skip_blanks-here.result in
    let at_sign = sym c.if-not-byte_is-2.ensures in
    let signed = ap (λ k. comes k (drop here text)) (sym c.sign.ensures) ∙ at_sign in
    let none = group_no_member text names c.args.at (read_group (c.args.left - 1)) c.joint_at-joint.result (read_group c.args.left (drop c.args.at text)) c.args.model.now c.loop-text.end c.loop-text.model c.loop-text.invariant.0 here c.skip_blanks-here.ensures.behind c.skip_blanks-next.result (inside c.sign.result text here at_sign) (sym c.if-byte_is.ensures) signed c.skip_blanks-next.ensures.behind c.in_err-end-2.ensures.read in
    subst (λ r. ExpressionAt text names c.args.at (read_group c.args.left (drop c.args.at text)) c.args.model.now r c.particle-in-loop-text.new.model) (sym c.from_residual-in_err-end-2.ensures) none

pub group-loop-text-preserved : goal.group-loop-text-preserved
group-loop-text-preserved t c =
    let text = c.args.source.text.now in
    let names = numbered_names text c.args.source.entries.now in
    let here = c.skip_blanks-here.result in
    let at_sign = sym c.if-not-byte_is-2.ensures in
    let signed = ap (λ k. comes k (drop here text)) (sym c.sign.ensures) ∙ at_sign in
    let wrote = subst (λ x. Wrote c.particle-in-loop-text.new.model (x ∷ []) c.put.new.self) c.from.ensures c.put.ensures.wrote in (
      group_member text names c.args.at (read_group (c.args.left - 1)) c.joint_at-joint.result (read_group c.args.left (drop c.args.at text)) c.args.model.now c.loop-text.end c.loop-text.model c.loop-text.invariant.0 here c.skip_blanks-here.ensures.behind c.skip_blanks-next.result (inside c.sign.result text here at_sign) (sym c.if-byte_is.ensures) signed c.skip_blanks-next.ensures.behind c.in_ok-end-2.end c.particle-in-loop-text.new.model _ c.skip_blanks-here.ensures.forward c.skip_blanks-next.ensures.forward c.in_ok-end-2.ensures.read (wrote, c.put.ensures.told),
      c.put.ensures.same_table ∙ c.in_ok-end-2.ensures.same_table ∙ c.loop-text.invariant.1,
    )

pub particle-returns-in_err-end-clause-read : goal.particle-returns-in_err-end-clause-read
particle-returns-in_err-end-clause-read t c =
    let text = c.args.source.text.now in
    let names = numbered_names text c.args.source.entries.now in
    let none = particle_bad (read_unit c.args.left (drop c.args.at text)) c.in_err-end.ensures.read in
    subst (λ r. ExpressionAt text names c.args.at (read_cp (read_group c.args.left) (drop c.args.at text)) c.args.model.now r c.unit.new.model) (sym c.from_residual.ensures) none

pub particle-returns-clause-read : goal.particle-returns-clause-read
particle-returns-clause-read t c =
    let text = c.args.source.text.now in
    let names = numbered_names text c.args.source.entries.now in
    let u = c.in_ok-end.ensures.read in
    particle_got text names c.args.at c.args.model.now (read_unit c.args.left (drop c.args.at text)) u.0 u.1 c.marked.result c.marked.new.model u.2 (c.marked.ensures.read names c.args.at u.0 u.1 c.args.model.now u.3)

pub unit-returns-in-Some-clause-read : goal.unit-returns-in-Some-clause-read
unit-returns-in-Some-clause-read t c =
    let text = c.args.source.text.now in
    let names = numbered_names text c.args.source.entries.now in
    let n = c.in-Some.ensures in (
      atom n.0,
      n.1,
      unit_name c.args.left (drop c.args.at text) n.0 n.1 n.2,
      part_name text names c.args.at n.0 n.1 c.args.model.now c.in-Some.name.end c.put_name.new.model n.3 n.4 (c.put_name.ensures.wrote (number_of names n.0) n.5) (c.put_name.ensures.told (number_of names n.0) n.5),
    )

pub unit-returns-in-None-clause-read : goal.unit-returns-in-None-clause-read
unit-returns-in-None-clause-read t c =
    let text = c.args.source.text.now in
    let names = numbered_names text c.args.source.entries.now in
    expression_same text names c.args.at c.args.model.now (read_unit c.args.left (drop c.args.at text)) (read_group c.args.left (drop c.args.at text)) c.group.result c.group.new.model (unit_other c.args.left (drop c.args.at text) c.in-None.ensures) c.group.ensures.read
