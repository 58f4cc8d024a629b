use Rattle.std.proofs.Common.{◌<◌, ◌≤◌, length, get_or, take, Some, sym, refl, ap, ◌∙◌, arith}
use Rattle.scan.specs.Lists.{zero_entry}
use Rattle.scan.specs.declared.entry.Entry.{Entry}
use Rattle.declarations.specs.Answers.{numbered_names}
use Rattle.drafts.specs.Asks.{fit_in}
use Rattle.drafts.specs.Questions.{first_no, declared_names}
use Rattle.drafts.proofs.Asked.{listed_at, not_none, told_at, fits_at, beyond_at, nodes_more}
use Rattle.drafts.proofs.Counting.{length_entries}
use Rattle.drafts.proofs.Looping.{loop_yes, loop_no, loop_all}
use Rattle.drafts.proofs.ask.first_overfull.Goals as goal

pub loop-entry-init : goal.loop-entry-init
unfolding first_no
loop-entry-init c = λ found list. (refl, omega arith)

pub returns-in_err-told : goal.returns-in_err-told
returns-in_err-told c = λ found list.
    let text = c.args.text.now in
    let entries = c.args.entries.now in
    let k = c.loop-entry.entry-index in
    let inside : k < length entries = omega arith in
    absurd (not_none text found k (get_or entries k zero_entry) (numbered_names text entries) (listed_at text entries found k list inside) c.in_err-told.ensures)

pub returns-then-told-left : goal.returns-then-told-left
returns-then-told-left c = λ found list.
    let text = c.args.text.now in
    let entries = c.args.entries.now in
    let k = c.loop-entry.entry-index in
    let entry = get_or entries k zero_entry in
    let names = declared_names found in
    let told = c.in_ok-told.told in
    let at = listed_at text entries found k list (omega arith) in
    let says = told_at text entries found k entry told list at c.in_ok-told.ensures in
    let so = c.loop-entry.invariant found list in
    let no-here = beyond_at c.args.limit c.loop-entry.left told.nodes names (take k found) at.it so.1 says.1.node_count c.if-told-left.true in
    ap (λ (e : Entry). Some e.place) at.entry_is ∙ sym (loop_no (fit_in c.args.limit names) found k at.it at.there at.is no-here so.0)

pub loop-entry-preserved : goal.loop-entry-preserved
loop-entry-preserved c = λ found list.
    let text = c.args.text.now in
    let entries = c.args.entries.now in
    let k = c.loop-entry.entry-index in
    let entry = get_or entries k zero_entry in
    let names = declared_names found in
    let told = c.in_ok-told.told in
    let at = listed_at text entries found k list (omega arith) in
    let says = told_at text entries found k entry told list at c.in_ok-told.ensures in
    let so = c.loop-entry.invariant found list in
    let fits : told.nodes ≤ c.loop-entry.left = c.if-told-left.false in
    let yes-here = fits_at c.args.limit c.loop-entry.left told.nodes names (take k found) at.it so.1 says.1.node_count fits in
    (loop_yes (fit_in c.args.limit names) found k at.it at.there at.is yes-here so.0, omega (arith, so.1, says.1.node_count, nodes_more names found k at.it at.there at.is, fits))

pub returns : goal.returns
returns c = λ found list.
    let text = c.args.text.now in
    let k = c.loop-entry.entry-index in
    let whole : length found ≤ k = omega (arith, ap length list.entries_are, length_entries text found) in
    sym (loop_all (fit_in c.args.limit (declared_names found)) found k whole (c.loop-entry.invariant found list).0)
