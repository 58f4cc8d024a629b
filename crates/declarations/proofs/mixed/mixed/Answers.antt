use Rattle.std.proofs.Common.{◌+◌, ◌<◌, true, [], ◌∷◌, drop, sym, ◌∙◌, subst, arith}
use Rattle.scan.specs.Lists.{number_of}
use Rattle.scan.specs.Readings.{got, run}
use Rattle.writing.specs.Wrote.{Wrote}
use Rattle.declarations.specs.Answers.{numbered_names}
use Rattle.declarations.specs.Inner.{ContentAt}
use Rattle.declarations.specs.Readers.{mixed_name, shut, starred}
use Rattle.declarations.proofs.Mixing.{mixed_start, mixed_over, mixed_stuck, mixed_no_name, mixed_more}
use Rattle.declarations.proofs.Repeated.{seen_none, few_names}
use Rattle.declarations.proofs.Stages.{inside}
use Rattle.declarations.proofs.Wholes.{content_same}
use Rattle.declarations.proofs.mixed.mixed.Goals as goal

pub loop-model-init : goal.loop-model-init
loop-model-init c =
    let text = c.args.source.text.now in
    let names = numbered_names text c.args.source.entries.now in (
      λ start before within. mixed_start text names start c.args.word c.args.model.now _ (record { set = 0; distinct = true }) before within (c.put.ensures.wrote, c.put.ensures.told) (seen_none names),
      c.put.ensures.same_table,
    )

pub returns-then-byte_is-clause-read : goal.returns-then-byte_is-clause-read
returns-then-byte_is-clause-read c start before within =
    let text = c.args.source.text.now in
    let names = numbered_names text c.args.source.entries.now in
    let here = c.skip_blanks-here.result in
    let closed = sym c.if-byte_is.ensures in
    let there = inside 41 text here closed in
    let whole = starred (shut (run mixed_name [] (drop c.args.word text))) in
    let g = c.loop-model.invariant.0 start before within in
    let same = mixed_over text names start whole c.args.model.now c.loop-model.end c.loop-model.named c.loop-model.seen c.loop-model.model g here c.skip_blanks-here.ensures.behind closed there in
    let far : c.loop-model.end < here + 1 = omega (arith, c.skip_blanks-here.ensures.forward) in
    content_same text names start c.args.model.now whole (starred (got g.so_far (drop (here + 1) text))) c.starred.result c.starred.new.model same
    (c.starred.ensures.read names start g.so_far g.left c.args.model.now c.loop-model.end g.is far (omega arith) g.some g.none g.seen_is.differ)

pub returns-then-not-byte_is-clause-read : goal.returns-then-not-byte_is-clause-read
returns-then-not-byte_is-clause-read c start before within =
    let text = c.args.source.text.now in
    let names = numbered_names text c.args.source.entries.now in
    let g = c.loop-model.invariant.0 start before within in
    mixed_stuck text names start (starred (shut (run mixed_name [] (drop c.args.word text)))) c.args.model.now c.loop-model.end c.loop-model.named c.loop-model.seen c.loop-model.model g c.skip_blanks-here.result c.skip_blanks-here.ensures.behind (sym c.if-byte_is.ensures) (sym c.if-not-byte_is.ensures)

pub returns-in_err-name-clause-read : goal.returns-in_err-name-clause-read
returns-in_err-name-clause-read c start before within =
    let text = c.args.source.text.now in
    let names = numbered_names text c.args.source.entries.now in
    let here = c.skip_blanks-here.result in
    let signed = sym c.if-not-byte_is.ensures in
    let whole = starred (shut (run mixed_name [] (drop c.args.word text))) in
    let g = c.loop-model.invariant.0 start before within in
    let none = mixed_no_name text names start whole c.args.model.now c.loop-model.end c.loop-model.named c.loop-model.seen c.loop-model.model g here c.skip_blanks-here.ensures.behind c.skip_blanks-next.result (inside 124 text here signed) (sym c.if-byte_is.ensures) signed c.skip_blanks-next.ensures.behind c.in_err-name.ensures in
    subst (λ r. ContentAt text names start whole c.args.model.now r c.loop-model.model) (sym c.from_residual.ensures) none

pub loop-model-preserved : goal.loop-model-preserved
loop-model-preserved c =
    let text = c.args.source.text.now in
    let names = numbered_names text c.args.source.entries.now in
    let here = c.skip_blanks-here.result in
    let signed = sym c.if-not-byte_is.ensures in
    let whole = starred (shut (run mixed_name [] (drop c.args.word text))) in
    let found = c.in_ok-name.ensures in
    let joined = subst (λ x. Wrote c.put_name.new.model (x ∷ []) c.put-in-loop-model.new.self) c.from.ensures c.put-in-loop-model.ensures.wrote in (
      λ start before within.
          let g = c.loop-model.invariant.0 start before within in
          mixed_more text names start whole c.args.model.now c.loop-model.end c.loop-model.named c.loop-model.seen c.loop-model.model g here c.skip_blanks-here.ensures.behind c.skip_blanks-next.result (inside 124 text here signed) (sym c.if-byte_is.ensures) signed c.skip_blanks-next.ensures.behind c.in_ok-name.name c.skip_blanks-here.ensures.forward c.skip_blanks-next.ensures.forward found c.put_name.new.model _ (c.put_name.ensures.wrote (number_of names found.0) found.5) (c.put_name.ensures.told (number_of names found.0) found.5) (joined, c.put-in-loop-model.ensures.told) c.with-seen.result (c.with-seen.ensures names g.so_far found.0 (few_names text c.args.source.entries.now) found.5 g.seen_is),
      c.put-in-loop-model.ensures.same_table ∙ c.put_name.ensures.same_table ∙ c.loop-model.invariant.1,
    )
