use Rattle.std.proofs.Common.{◌≡◌, ◌+◌, ◌<◌, ◌≤◌, true, false, eqb, length, get_or, take, Some, sym, refl, ap, ◌∙◌, subst, arith, rules}
use Rattle.std.specs.Option.{option_eq}
use Rattle.scan.specs.Lists.{NumberIs, number_of, names_at, zero_entry}
use Rattle.scan.specs.declared.entry.Entry.{Entry}
use Rattle.declarations.specs.Answers.{numbered_names}
use Rattle.drafts.specs.Questions.{first_no}
use Rattle.drafts.proofs.Asked.{listed_at, not_none, told_at, entered_at}
use Rattle.drafts.proofs.Counting.{length_entries}
use Rattle.drafts.proofs.Looping.{loop_yes, loop_no, loop_all}
use Rattle.drafts.proofs.ask.first_no.Goals as goal

pub loop-index-init : goal.loop-index-init
unfolding first_no
loop-index-init g c = (c.requires, λ found list asked answers. refl)

pub returns-in_err-told : goal.returns-in_err-told
returns-in_err-told g c = λ found list asked answers.
    let text = c.args.text.now in
    let entries = c.args.entries.now in
    let k = c.loop-index.index in
    let inside : k < length entries = omega arith in
    absurd (not_none text found k (get_or entries k zero_entry) (numbered_names text entries) (listed_at text entries found k list inside) c.in_err-told.ensures)

pub returns-then-not-admits : goal.returns-then-not-admits
returns-then-not-admits g c = λ found list asked answers.
    let text = c.args.text.now in
    let entries = c.args.entries.now in
    let k = c.loop-index.index in
    let entry = get_or entries k zero_entry in
    let at = listed_at text entries found k list (omega arith) in
    let says = told_at text entries found k entry c.in_ok-told.told list at c.in_ok-told.ensures in
    let number = subst (λ n. NumberIs (number_of (names_at text (take 63 entries)) n) c.number_of-number.result) c.bytes.ensures c.number_of-number.ensures in
    let same : c.map.result ≡ c.number_of-number.result = search rules in
    let new = c.eq-is_new.ensures ∙ ap (λ o. option_eq eqb o (Some (k + 1))) same in
    let no-here = sym (answers.says k at.it at.there at.is (record { told = c.in_ok-told.told; is_new = c.eq-is_new.result }) (entered_at text entries found k entry c.number_of-number.result c.in_ok-told.told c.eq-is_new.result list at number says new) false c.if-not-admits.ensures) in
    ap (λ (e : Entry). Some e.place) at.entry_is ∙ sym (loop_no asked found k at.it at.there at.is no-here (c.loop-index.invariant.1 found list asked answers))

pub loop-index-preserved : goal.loop-index-preserved
loop-index-preserved g c = (
  c.loop-index.invariant.0,
  λ found list asked answers.
      let text = c.args.text.now in
      let entries = c.args.entries.now in
      let k = c.loop-index.index in
      let entry = get_or entries k zero_entry in
      let at = listed_at text entries found k list (omega arith) in
      let says = told_at text entries found k entry c.in_ok-told.told list at c.in_ok-told.ensures in
      let number = subst (λ n. NumberIs (number_of (names_at text (take 63 entries)) n) c.number_of-number.result) c.bytes.ensures c.number_of-number.ensures in
      let same : c.map.result ≡ c.number_of-number.result = search rules in
      let new = c.eq-is_new.ensures ∙ ap (λ o. option_eq eqb o (Some (k + 1))) same in
      let yes-here = sym (answers.says k at.it at.there at.is (record { told = c.in_ok-told.told; is_new = c.eq-is_new.result }) (entered_at text entries found k entry c.number_of-number.result c.in_ok-told.told c.eq-is_new.result list at number says new) true c.if-not-admits.ensures) in
      loop_yes asked found k at.it at.there at.is yes-here (c.loop-index.invariant.1 found list asked answers),
)

pub returns : goal.returns
returns g c = λ found list asked answers.
    let text = c.args.text.now in
    let k = c.loop-index.index in
    let whole : length found ≤ k = omega (arith, ap length list.entries_are, length_entries text found) in
    sym (loop_all asked found k whole (c.loop-index.invariant.1 found list asked answers))
