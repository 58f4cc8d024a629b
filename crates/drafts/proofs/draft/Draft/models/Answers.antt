use Rattle.std.proofs.Common.{length, sym, ◌∙◌}
use Rattle.drafts.specs.Drafted.{declarations, text_models}
use Rattle.drafts.specs.Layouts.{runs_from}
use Rattle.drafts.specs.Questions.{declared_names}
use Rattle.drafts.specs.Tables.{zero_model}
use Rattle.drafts.proofs.Coding.{length_runs}
use Rattle.drafts.proofs.Counting.{length_models}
use Rattle.drafts.proofs.Filling.{filled_front, filled_room}
use Rattle.drafts.proofs.draft.Draft.models.Goals as goal

pub slice_bounds-result-end : goal.slice_bounds-result-end
slice_bounds-result-end c =
    let text = c.args.self.now.text.now in
    let es = text_models text in
    filled_room zero_model (length c.args.self.now.models.now) (runs_from 0 es) c.args.self.now.models.now c.args.self.now.count c.args.self.now.placed (c.args.self.now.counted ∙ sym (length_models (declared_names (declarations text)) (declarations text)) ∙ sym (length_runs 0 es))

pub returns : goal.returns
returns c =
    let text = c.args.self.now.text.now in
    let es = text_models text in
    filled_front zero_model (length c.args.self.now.models.now) (runs_from 0 es) c.args.self.now.models.now c.args.self.now.count c.args.self.now.placed (c.args.self.now.counted ∙ sym (length_models (declared_names (declarations text)) (declarations text)) ∙ sym (length_runs 0 es))
