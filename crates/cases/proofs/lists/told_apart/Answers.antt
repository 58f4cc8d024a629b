use Rattle.std.proofs.Common.{[], ◌∷◌}
use Rattle.sheet.specs.Histories.{begin, finish}
use Rattle.sheet.specs.Said.{sent}
use Rattle.cases.specs.Lists.{sheet_calls, comma_events, comma_passes, comma_offends}
use Rattle.cases.proofs.Stories as stories
use Rattle.cases.proofs.lists.told_apart.Goals as goal

pub returns : goal.returns
returns c = record {
  valued = c.play_known.ensures (sheet_calls comma_events) comma_offends
      (λ i. begin 1 ∷ sent (c.start.ensures i) ∷ sent (c.start-2.ensures i) ∷ sent (c.start-3.ensures i) ∷ sent (c.text.ensures i) ∷ sent (c.end.ensures i) ∷ sent (c.end-2.ensures i) ∷ sent (c.start-4.ensures i) ∷ sent (c.end-3.ensures i) ∷ sent (c.end-4.ensures i) ∷ finish ∷ [])
      (stories.told_apart).offends;
  free = c.play_known-2.ensures (sheet_calls comma_events) comma_passes
      (λ i. begin 1 ∷ sent (c.start.ensures i) ∷ sent (c.start-2.ensures i) ∷ sent (c.start-3.ensures i) ∷ sent (c.text.ensures i) ∷ sent (c.end.ensures i) ∷ sent (c.end-2.ensures i) ∷ sent (c.start-4.ensures i) ∷ sent (c.end-3.ensures i) ∷ sent (c.end-4.ensures i) ∷ finish ∷ [])
      (stories.told_apart).passes;
  law = stories.told_apart;
}
