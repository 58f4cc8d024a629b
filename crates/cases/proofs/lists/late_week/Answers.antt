use Rattle.std.proofs.Common.{[], ◌∷◌}
use Rattle.sheet.specs.Histories.{begin, finish}
use Rattle.sheet.specs.Said.{sent}
use Rattle.cases.specs.Lists.{sheet_calls, late_events, late_answers}
use Rattle.cases.proofs.Stories as stories
use Rattle.cases.proofs.lists.late_week.Goals as goal

pub returns : goal.returns
returns c = c.play_known.ensures (sheet_calls late_events) late_answers
    (λ i. begin 1 ∷ sent (c.start.ensures i) ∷ sent (c.start-2.ensures i) ∷ sent (c.start-3.ensures i) ∷ sent (c.text.ensures i) ∷ sent (c.end.ensures i) ∷ sent (c.end-2.ensures i) ∷ sent (c.start-4.ensures i) ∷ sent (c.start-5.ensures i) ∷ sent (c.text-2.ensures i) ∷ sent (c.end-3.ensures i) ∷ sent (c.end-4.ensures i) ∷ sent (c.start-6.ensures i) ∷ sent (c.end-5.ensures i) ∷ sent (c.start-7.ensures i) ∷ sent (c.end-6.ensures i) ∷ finish ∷ [])
    (stories.mended).late
