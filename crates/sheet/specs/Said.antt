-- What the code's events and calls say.
use Rattle.std.specs.Prelude.{◌≡◌, ℕ, ◌⊎◌}
use Rattle.engine.specs.Languages.{Language}
use Rattle.engine.specs.Trees as trees
use Rattle.engine.specs.declared.alphabet.Letter.{Letter}
use Rattle.sheet.specs.Histories as histories
use Rattle.sheet.specs.Questions.{Known}
use Rattle.calls.specs.declared.answer.Refusal.{Refusal}
use Rattle.calls.specs.declared.answer.Refusal.TheVariants.{NotKnown, Offending}
use Rattle.calls.specs.declared.call.Event.{Event}
use Rattle.calls.specs.declared.call.Event.TheVariants.{Start, Text, End}
use Rattle.calls.specs.declared.call.Call.{Call}
use Rattle.calls.specs.declared.call.Call.TheVariants.{Begin, Send, Finish}

abbrev pub said : Event → trees.Event
said (Start n) = trees.start n
said (Text bytes) = trees.text bytes.now
said (End n) = trees.end n

abbrev pub sent : Call → histories.Call
sent (Begin n) = histories.begin n
sent (Send e) = histories.send (said e)
sent Finish = histories.finish

-- The refusal of an event that has no place here: for want of a byte or a declaration, or else as offending.
abbrev pub Unwelcome : (ℕ → Language Letter) → trees.Event → Refusal → Type 0
Unwelcome C e r = ((Known C e → ⊥) × (r ≡ NotKnown)) ⊎ (Known C e × (r ≡ Offending))
