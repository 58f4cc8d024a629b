use Rattle.std.proofs.Common.{◌≡◌, ◌+◌, ◌*◌, ◌/◌, ◌%◌, ◌<◌, Bool, true, false, get_or, sym, ap, ◌∙◌, subst, arith}
use lib.Bits.{bit_or, or_zero_r}
use Rattle.engine.specs.Languages.{Decides}
use Rattle.models.specs.declared.node.Node.TheVariants.{Unused}
use Rattle.positions.specs.Columns.{Sorted, Sorts}
use Rattle.positions.proofs.Sorting.{sorted_more}
use Rattle.positions.proofs.columns.column_at.Goals as goal
use Rattle.positions.proofs.columns.column_at.Goals.{then-sorts, else-sorts}

pub loop-number-preserved : goal.loop-number-preserved
loop-number-preserved g c =
    let stands = g.L.Alphabet.stands in
    let falls = g.L.Bucketed.falls in
    let atoms = c.args.atoms.now in
    let base = c.args.place / 64 * 64 in
    let bucket = c.args.place % 64 in
    let n = c.loop-number.number in
    let found = c.loop-number.found in
    let lt : n < 64 = omega arith in
    let decides : (t : Bool) → c.sorts.result ≡ t → Decides t (Sorts stands falls (get_or atoms (base + n) Unused) bucket) =
    λ t is. subst (λ x. Decides t (Sorts stands falls x bucket)) c.node_at.ensures (subst (λ b. Decides b (Sorts stands falls c.node_at.result bucket)) is c.sorts.ensures) in
    elim c.if-sorts.branch [
      | then-sorts w ↦
          subst (Sorted stands falls atoms base bucket (n + 1)) (sym (w.found-is ∙ ap (λ s. bit_or found s) w.only-found.ensures))
          (sorted_more stands falls atoms base bucket n found true lt (decides true w.if-sorts.true) c.loop-number.invariant)
      | else-sorts w ↦
          subst (Sorted stands falls atoms base bucket (n + 1)) (or_zero_r found ∙ sym w.found-is)
          (sorted_more stands falls atoms base bucket n found false lt (decides false w.if-sorts.false) c.loop-number.invariant)
    ]

pub returns : goal.returns
returns g c =
    subst (λ m. Sorted g.L.Alphabet.stands g.L.Bucketed.falls c.args.atoms.now (c.args.place / 64 * 64) (c.args.place % 64) m c.loop-number.found) (omega arith) c.loop-number.invariant
