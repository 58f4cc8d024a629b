-- The questions that are put to each call, in their order, over what was accepted before it.
use Rattle.std.specs.Prelude.{◌≡◌, ℕ, ◌+◌, ◌<◌, ◌≤◌, false, ◌⊎◌, List, [], ◌∷◌, ◌++◌, length, Some, None, Option}
use Rattle.engine.specs.Languages.{Language, Inhabited}
use Rattle.engine.specs.Trees.{Forest, Valid, Declared, Plain, Event, start, text, end, traversal}
use Rattle.engine.specs.declared.alphabet.Letter.{Letter}
use Rattle.calls.specs.Replies.{Reply, accepted, refused, pass}
use Rattle.sheet.specs.Histories.{Call, begin, send, finish, root, events, passed, starts, ends}

-- A question with the number of its refusal.
pub record Question : Type 1 where
  pub number : ℕ
  pub holds : Type 0

-- The first question that gets a no gives its number; with a yes to all of them the reply is the granted one.
abbrev pub FirstNo : List Question → Reply → Reply → Type 0
FirstNo [] granted reply = reply ≡ granted
FirstNo (q ∷ qs) granted reply = ((q.holds → ⊥) × (reply ≡ refused q.number)) ⊎ (q.holds × FirstNo qs granted reply)

-- Every question gets a yes.
abbrev pub AllHold : List Question → Type 0
AllHold [] = Unit {0}
AllHold (q ∷ qs) = q.holds × AllHold qs

-- The list begins the traversal of a valid document with this root.
abbrev pub BeginsDocument : (ℕ → Language Letter) → (ℕ → Language ℕ) → ℕ → List Event → Type 0
BeginsDocument C V r es = (children : Forest) × (rest : List Event) × Valid C V r children × (traversal r children ≡ es ++ rest)

-- The list is the traversal of a valid document with this root.
abbrev pub IsDocument : (ℕ → Language Letter) → (ℕ → Language ℕ) → ℕ → List Event → Type 0
IsDocument C V r es = (children : Forest) × Valid C V r children × (traversal r children ≡ es)

abbrev pub HasByte : List ℕ → Type 0
HasByte [] = ⊥
HasByte (b ∷ bs) = Unit {0}

-- The text has a byte, or the number is declared.
abbrev pub Known : (ℕ → Language Letter) → Event → Type 0
Known C (start n) = Declared C n
Known C (text bs) = HasByte bs
Known C (end n) = Declared C n

-- A root was begun with and no pass was given.
abbrev pub Underway : List Call → Type 0
Underway calls = ((r : ℕ) × (root calls ≡ Some r)) × (passed calls ≡ false)

-- The accepted events and this one begin a document with the root begun.
abbrev pub Admitted : (ℕ → Language Letter) → (ℕ → Language ℕ) → List Call → Event → Type 0
Admitted C V calls e = (r : ℕ) × (root calls ≡ Some r) × BeginsDocument C V r (events calls ++ (e ∷ []))

-- Fewer than 64 elements are open: that is asked of a start only.
abbrev pub depth_questions : List Call → Event → List Question → List Question
depth_questions calls (start n) qs = record { number = 37; holds = starts (events calls) < ends (events calls) + 64 } ∷ qs
depth_questions calls (text bs) qs = qs
depth_questions calls (end n) qs = qs

-- Values are for elements of plain text only.
abbrev pub ValuesPlain : (ℕ → Language Letter) → (ℕ → Language ℕ) → Type 0
ValuesPlain C V = (n : ℕ) → 1 ≤ n → n ≤ 63 → Inhabited (V n) → Plain C n

abbrev pub questions : (ℕ → Language Letter) → (ℕ → Language ℕ) → List Call → Call → List Question
questions C V calls (begin n) =
    record { number = 31; holds = root calls ≡ None }
    ∷ (record { number = 32; holds = Declared C n }
    ∷ (record { number = 33; holds = ValuesPlain C V } ∷ []))
questions C V calls (send e) =
    record { number = 34; holds = Underway calls }
    ∷ (record { number = 35; holds = Known C e }
    ∷ (record { number = 36; holds = Admitted C V calls e }
    ∷ depth_questions calls e (record { number = 38; holds = length (events calls) < 1000000 } ∷ [])))
questions C V calls finish =
    record { number = 34; holds = Underway calls }
    ∷ (record { number = 39; holds = (0 < starts (events calls)) × (starts (events calls) ≡ ends (events calls)) } ∷ [])

abbrev pub number_or_0 : Option ℕ → ℕ
number_or_0 None = 0
number_or_0 (Some n) = n

-- What is answered where every question gets a yes: finish gives the pass with the root begun and the number of accepted events.
abbrev pub granted : List Call → Call → Reply
granted calls (begin n) = accepted
granted calls (send e) = accepted
granted calls finish = pass (number_or_0 (root calls)) (length (events calls))

-- The reply is the right one to this call after those that were accepted.
abbrev pub Right : (ℕ → Language Letter) → (ℕ → Language ℕ) → List Call → Call → Reply → Type 0
Right C V calls call reply = FirstNo (questions C V calls call) (granted calls call) reply
