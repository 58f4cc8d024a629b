-- What one more call, and one more turn, changes of the root, the events, the pass and the calls kept.
use Rattle.std.proofs.Common.{◌≡◌, ℕ, true, false, List, [], ◌∷◌, ◌++◌, Some, None, refl, ap, ◌∙◌, append-nil}
use Rattle.engine.specs.Languages.{Language}
use Rattle.engine.specs.Trees.{Event}
use Rattle.engine.specs.declared.alphabet.Letter.{Letter}
use Rattle.sheet.specs.Histories.{Call, begin, send, finish, Turn, keep, kept_after, root, events, passed}
use Rattle.sheet.specs.Questions.{Right}
use Rattle.sheet.specs.Theorem.{RightAfter}

-- Later calls that do not begin leave the root.
pub root_behind : (calls later : List Call) → root later ≡ None → root (calls ++ later) ≡ root calls
root_behind [] later none = none
root_behind (begin n ∷ calls) later none = refl
root_behind (send e ∷ calls) later none = root_behind calls later none
root_behind (finish ∷ calls) later none = root_behind calls later none

-- Where no call began, the later calls give the root.
pub root_fresh : (calls later : List Call) → root calls ≡ None → root (calls ++ later) ≡ root later
root_fresh [] later none = refl
root_fresh (begin n ∷ calls) later none = cc
root_fresh (send e ∷ calls) later none = root_fresh calls later none
root_fresh (finish ∷ calls) later none = root_fresh calls later none

pub events_append : (calls later : List Call) → events (calls ++ later) ≡ events calls ++ events later
events_append [] later = refl
events_append (begin n ∷ calls) later = events_append calls later
events_append (send e ∷ calls) later = ap (λ es. e ∷ es) (events_append calls later)
events_append (finish ∷ calls) later = events_append calls later

-- Later calls with no event leave the events.
pub events_behind : (calls later : List Call) → events later ≡ [] → events (calls ++ later) ≡ events calls
events_behind calls later none = events_append calls later ∙ (ap (λ es. events calls ++ es) none ∙ append-nil (events calls))

-- Later calls with no finish leave the pass.
pub passed_behind : (calls later : List Call) → passed later ≡ false → passed (calls ++ later) ≡ passed calls
passed_behind [] later none = none
passed_behind (begin n ∷ calls) later none = passed_behind calls later none
passed_behind (send e ∷ calls) later none = passed_behind calls later none
passed_behind (finish ∷ calls) later none = refl

pub root_more : (calls : List Call) (e : Event) → root (calls ++ (send e ∷ [])) ≡ root calls
root_more calls e = root_behind calls (send e ∷ []) refl

pub events_more : (calls : List Call) (e : Event) → events (calls ++ (send e ∷ [])) ≡ events calls ++ (e ∷ [])
events_more calls e = events_append calls (send e ∷ [])

pub passed_more : (calls : List Call) (e : Event) → passed (calls ++ (send e ∷ [])) ≡ passed calls
passed_more calls e = passed_behind calls (send e ∷ []) refl

pub root_finish : (calls : List Call) → root (calls ++ (finish ∷ [])) ≡ root calls
root_finish calls = root_behind calls (finish ∷ []) refl

pub events_finish : (calls : List Call) → events (calls ++ (finish ∷ [])) ≡ events calls
events_finish calls = events_behind calls (finish ∷ []) refl

pub passed_finish : (calls : List Call) → passed (calls ++ (finish ∷ [])) ≡ true
passed_finish [] = refl
passed_finish (begin n ∷ calls) = passed_finish calls
passed_finish (send e ∷ calls) = passed_finish calls
passed_finish (finish ∷ calls) = refl

pub root_begin : (calls : List Call) (n : ℕ) → root calls ≡ None → root (calls ++ (begin n ∷ [])) ≡ Some n
root_begin calls n none = root_fresh calls (begin n ∷ []) none

pub events_begin : (calls : List Call) (n : ℕ) → events (calls ++ (begin n ∷ [])) ≡ events calls
events_begin calls n = events_behind calls (begin n ∷ []) refl

pub passed_begin : (calls : List Call) (n : ℕ) → passed (calls ++ (begin n ∷ [])) ≡ passed calls
passed_begin calls n = passed_behind calls (begin n ∷ []) refl

pub kept_after_append : (calls : List Call) (before later : List Turn) → kept_after calls (before ++ later) ≡ kept_after (kept_after calls before) later
kept_after_append calls [] later = refl
kept_after_append calls (t ∷ before) later = kept_after_append (keep calls t.call t.reply) before later

pub kept_after_push : (calls : List Call) (before : List Turn) (t : Turn) → kept_after calls (before ++ (t ∷ [])) ≡ keep (kept_after calls before) t.call t.reply
kept_after_push calls before t = kept_after_append calls before (t ∷ [])

module _ (C : ℕ → Language Letter) (V : ℕ → Language ℕ) where
  -- A history is right when its beginning is, and its end is after what the beginning kept.
  pub right_append : (calls : List Call) (before later : List Turn) → RightAfter C V calls before → RightAfter C V (kept_after calls before) later → RightAfter C V calls (before ++ later)
  right_append calls [] later h k = k
  right_append calls (t ∷ before) later (h, hs) k = (h, right_append (keep calls t.call t.reply) before later hs k)

  pub right_split : (calls : List Call) (before later : List Turn) → RightAfter C V calls (before ++ later) → RightAfter C V calls before × RightAfter C V (kept_after calls before) later
  right_split calls [] later h = (tt, h)
  right_split calls (t ∷ before) later (h, hs) =
      let (front, back) = right_split (keep calls t.call t.reply) before later hs in ((h, front), back)

  pub right_push : (calls : List Call) (before : List Turn) (t : Turn) → RightAfter C V calls before → Right C V (kept_after calls before) t.call t.reply → RightAfter C V calls (before ++ (t ∷ []))
  right_push calls before t h k = right_append calls before (t ∷ []) h (k, tt)

  pub right_at : (calls : List Call) (before : List Turn) (t : Turn) (later : List Turn) → RightAfter C V calls (before ++ (t ∷ later)) → Right C V (kept_after calls before) t.call t.reply
  right_at calls before t later h = (right_split calls before (t ∷ later) h).1.0
