use Rattle.std.proofs.Common.{length, sym, ◌∙◌}
use Rattle.scan.specs.Lists.{zero_entry}
use Rattle.drafts.specs.Drafted.{declarations}
use Rattle.drafts.specs.Tables.{entries_of}
use Rattle.drafts.proofs.Counting.{length_entries}
use Rattle.drafts.proofs.Filling.{filled_front, filled_room}
use Rattle.drafts.proofs.draft.Draft.entries.Goals as goal

pub slice_bounds-result-end : goal.slice_bounds-result-end
slice_bounds-result-end c =
    let text = c.args.self.now.text.now in
    filled_room zero_entry (length c.args.self.now.entries.now) (entries_of text (declarations text)) c.args.self.now.entries.now c.args.self.now.count c.args.self.now.named (c.args.self.now.counted ∙ sym (length_entries text (declarations text)))

pub returns : goal.returns
returns c =
    let text = c.args.self.now.text.now in
    filled_front zero_entry (length c.args.self.now.entries.now) (entries_of text (declarations text)) c.args.self.now.entries.now c.args.self.now.count c.args.self.now.named (c.args.self.now.counted ∙ sym (length_entries text (declarations text)))
