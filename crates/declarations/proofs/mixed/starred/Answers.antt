use Rattle.std.proofs.Common.{[], ◌∷◌, drop, Some, sym, subst}
use Rattle.writing.specs.Wrote.{Wrote}
use Rattle.scan.specs.Readings.{got}
use Rattle.declarations.specs.Inner.{ContentAt}
use Rattle.declarations.specs.Readers.{starred}
use Rattle.declarations.proofs.Mixing.{star_there, star_missing, star_left_out}
use Rattle.declarations.proofs.Stages.{inside}
use Rattle.declarations.proofs.mixed.starred.Goals.{then-byte_is, else-byte_is+else-named}
use Rattle.declarations.proofs.mixed.starred.Goals as goal

pub returns-then-named-clause-read : goal.returns-then-named-clause-read
returns-then-named-clause-read c names start its rest before end p longer within some none differ =
    star_missing c.args.text.now names start its rest before end c.args.model.now p c.args.at longer within c.args.distinct differ (sym c.if-byte_is.ensures) (some c.if-named.true)

pub returns-clause-read : goal.returns-clause-read
returns-clause-read c names start its rest before end p longer within some none differ =
    let text = c.args.text.now in
    let wrote = subst (λ x. Wrote c.args.model.now (x ∷ []) c.put.new.self) c.from.ensures c.put.ensures.wrote in
    elim c.if-byte_is.branch [
      | then-byte_is w ↦
          subst (λ e. ContentAt text names start (starred (got its (drop c.args.at text))) before (Some (record { value = c.args.distinct; end = e })) c.put.new.self) (sym w.end-is)
          (star_there text names start its rest before end c.args.model.now p c.args.at longer within c.args.distinct differ (sym w.if-byte_is.ensures) (inside 42 text c.args.at (sym w.if-byte_is.ensures)) _ (wrote, c.put.ensures.told))
      | else-byte_is+else-named w ↦
          subst (λ e. ContentAt text names start (starred (got its (drop c.args.at text))) before (Some (record { value = c.args.distinct; end = e })) c.put.new.self) (sym w.end-is)
          (star_left_out text names start its rest before end c.args.model.now p c.args.at longer within c.args.distinct differ (sym w.if-byte_is.ensures) (none w.if-named.false) _ (wrote, c.put.ensures.told))
    ]
