-- What holds of every history of a sheet.
use Rattle.std.specs.Prelude.{◌≡◌, ℕ, true, false, ◌⊎◌, List, [], ◌∷◌, ◌++◌, length, Some}
use Rattle.engine.specs.Languages.{Language}
use Rattle.engine.specs.Trees.{Forest, Valid, Event, traversal}
use Rattle.engine.specs.declared.alphabet.Letter.{Letter}
use Rattle.calls.specs.Replies.{Reply, refused, pass, IsRefused}
use Rattle.sheet.specs.Histories.{Call, send, finish, Turn, keep, kept, root, events, passed}
use Rattle.sheet.specs.Questions.{questions, AllHold, Right, BeginsDocument, IsDocument}

-- Every reply of the history is the right one, when these calls were accepted before it.
abbrev pub RightAfter : (ℕ → Language Letter) → (ℕ → Language ℕ) → List Call → List Turn → Type 0
RightAfter C V calls [] = Unit {0}
RightAfter C V calls (t ∷ ts) = Right C V calls t.call t.reply × RightAfter C V (keep calls t.call t.reply) ts

-- Every reply of the history of a fresh sheet is the right one.
abbrev pub RightThroughout : (ℕ → Language Letter) → (ℕ → Language ℕ) → List Turn → Type 0
RightThroughout C V history = RightAfter C V [] history

-- The history without its refused calls.
abbrev pub struck : List Turn → List Turn
struck [] = []
struck (t ∷ ts) = elim (IsRefused t.reply) [ true ↦ struck ts | false ↦ t ∷ struck ts ]

abbrev pub calls_of : List Turn → List Call
calls_of [] = []
calls_of (t ∷ ts) = t.call ∷ calls_of ts

-- Refused as offending: with 35 or with 36.
abbrev pub Offends : Reply → Type 0
Offends reply = (reply ≡ refused 35) ⊎ (reply ≡ refused 36)

-- The turn stands in the history, with these turns before it.
abbrev pub StandsIn : List Turn → List Turn → Turn → Type 0
StandsIn history before t = (later : List Turn) × (before ++ (t ∷ later) ≡ history)

module _ (C : ℕ → Language Letter) (V : ℕ → Language ℕ) (history : List Turn) where
  -- A call is answered with a pass exactly when it is finish, its root was begun with, no pass was
  -- given before, its count is that of the accepted events, and these are the traversal of a valid document.
  abbrev pub Passes : Type 0
  Passes = (before : List Turn) (t : Turn) → StandsIn history before t → (r n : ℕ) →
      (t.reply ≡ pass r n →
      (t.call ≡ finish) × (root (kept before) ≡ Some r) × (passed (kept before) ≡ false)
      × (n ≡ length (events (kept before))) × IsDocument C V r (events (kept before)))
      × ((t.call ≡ finish) × (root (kept before) ≡ Some r) × (passed (kept before) ≡ false)
      × (n ≡ length (events (kept before))) × IsDocument C V r (events (kept before))
      → t.reply ≡ pass r n)

  -- Between the accepted begin and the pass, an event is refused as offending exactly when no valid
  -- document's traversal begins with the accepted events and it.
  abbrev pub Offences : Type 0
  Offences = (before : List Turn) (t : Turn) → StandsIn history before t → (e : Event) (r : ℕ) →
      t.call ≡ send e → root (kept before) ≡ Some r → passed (kept before) ≡ false →
      (Offends t.reply → BeginsDocument C V r (events (kept before) ++ (e ∷ [])) → ⊥)
      × ((BeginsDocument C V r (events (kept before) ++ (e ∷ [])) → ⊥) → Offends t.reply)

  -- A call is accepted exactly when every question about it gets a yes, and the first no gives its number.
  abbrev pub Accepts : Type 0
  Accepts = (before : List Turn) (t : Turn) → StandsIn history before t →
      (IsRefused t.reply ≡ false → AllHold (questions C V (kept before) t.call))
      × (AllHold (questions C V (kept before) t.call) → IsRefused t.reply ≡ false)
      × Right C V (kept before) t.call t.reply

  -- Whatever replies a sheet gives to the calls of this history without the refused ones, if they are
  -- right they are those that these calls got here; and these are right.
  abbrev pub Repeats : Type 0
  Repeats = RightThroughout C V (struck history)
      × ((other : List Turn) → calls_of other ≡ calls_of (struck history) → RightThroughout C V other → other ≡ struck history)

-- Two valid documents with one traversal are the same document.
abbrev pub OneDocument : (ℕ → Language Letter) → (ℕ → Language ℕ) → Type 0
OneDocument C V = (r s : ℕ) (f g : Forest) → Valid C V r f → Valid C V s g → traversal r f ≡ traversal s g → (r ≡ s) × (f ≡ g)

-- The whole theorem about a history.
pub record Judged (C : ℕ → Language Letter) (V : ℕ → Language ℕ) (history : List Turn) : Type 0 where
  pub right : RightThroughout C V history
  pub passes : Passes C V history
  pub one_document : OneDocument C V
  pub offences : Offences C V history
  pub accepts : Accepts C V history
  pub repeats : Repeats C V history
