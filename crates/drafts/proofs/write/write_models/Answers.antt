use Rattle.std.proofs.Common.{◌≡◌, ◌+◌, ◌<◌, ◌≤◌, length, get_or, ap, ◌∙◌, subst, arith, take_all}
use Rattle.models.specs.Folds.{code}
use Rattle.scan.specs.Lists.{zero_entry}
use Rattle.declarations.specs.Answers.{numbered_names}
use Rattle.drafts.specs.Questions.{declared_names, model_of}
use Rattle.drafts.proofs.Asked.{WrittenSoFar, listed_at, not_none, told_at, nodes_more, nodes_front, written_none, written_more, model_there}
use Rattle.drafts.proofs.Counting.{length_entries}
use Rattle.drafts.proofs.write.write_models.Goals as goal

pub loop-index-init : goal.loop-index-init
loop-index-init c = λ found list few. written_none (declared_names found) c.args.nodes.now c.args.models.now

pub returns-in_default : goal.returns-in_default
returns-in_default c = λ found list few.
    let text = c.args.text.now in
    let entries = c.args.entries.now in
    let k = c.loop-index.index in
    let inside : k < length entries = omega arith in
    absurd (not_none text found k (get_or entries k zero_entry) (numbered_names text entries) (listed_at text entries found k list inside) c.in_default.ensures)

pub loop-index-preserved : goal.loop-index-preserved
loop-index-preserved c = λ found list few.
    let text = c.args.text.now in
    let entries = c.args.entries.now in
    let k = c.loop-index.index in
    let entry = get_or entries k zero_entry in
    let names = declared_names found in
    let used = c.loop-index.used in
    let told = c.in-Some.told in
    let at = listed_at text entries found k list (omega arith) in
    let says = told_at text entries found k entry told list at c.in-Some.ensures in
    let so = c.loop-index.invariant found list few in
    let more = nodes_more names found k at.it at.there at.is in
    let front = nodes_front names (k + 1) found in
    let end_is : c.saturating_add-end.result ≡ used + length (code (model_of names at.it)) = omega (arith, few, more, front, so.used_is, says.1.node_count, c.saturating_add-end.ensures) in
    let wrote = c.write_model.ensures ∙ model_there text entries found k entry c.loop-index.nodes used list at in
    written_more names found k at.it c.args.nodes.now c.loop-index.nodes c.write_model.new.nodes c.args.models.now c.loop-index.models c.put.new.table used c.saturating_add-end.result at.there at.is so wrote end_is c.put.ensures

pub returns : goal.returns
returns c = λ found list few.
    let text = c.args.text.now in
    let k = c.loop-index.index in
    let whole : length found ≤ k = omega (arith, ap length list.entries_are, length_entries text found) in
    let so = subst (λ ps. WrittenSoFar (declared_names found) ps c.args.nodes.now c.loop-index.nodes c.args.models.now c.loop-index.models c.loop-index.used) (take_all k found whole) (c.loop-index.invariant found list few) in
    record { nodes_are = so.nodes_are; models_are = so.models_are }
