use Rattle.std.proofs.Common.{refl}
use Rattle.scan.specs.Readings.{turns}
use Rattle.declarations.specs.Readers.{item}
use Rattle.drafts.specs.Drafted.{found_in}
use Rattle.drafts.specs.Questions.{ask_all, first_no, judge_items, or_ask}
use Rattle.drafts.proofs.draft.Draft.empty.Goals as goal

pub invariant_of-result : goal.invariant_of-result
unfolding turns item found_in ask_all first_no judge_items or_ask
invariant_of-result c = record { asked = refl; counted = refl; coded = refl; placed = refl; named = refl }
