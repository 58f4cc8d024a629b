-- What a sheet tells about the events that it would admit next.
use Rattle.std.specs.Prelude.{◌≡◌, ℕ, ◌≤◌, Bool, List, Ok, Err, Result}
use Rattle.bits.specs.Sets.{has}
use Rattle.engine.specs.Languages.{Language, Decides}
use Rattle.engine.specs.Trees.{Event, start, text, end}
use Rattle.engine.specs.declared.alphabet.Letter.{Letter}
use Rattle.calls.specs.Replies.{number}
use Rattle.frames.specs.Meanings.{Meaning}
use Rattle.sheet.specs.Histories.{Call}
use Rattle.sheet.specs.Questions.{Known, Admitted, Underway}
use Rattle.calls.specs.declared.answer.Refusal.{Refusal}
use Rattle.sheet.specs.Stands.{Stands}
use Rattle.sheet.specs.declared.expected.Expected.{Expected}
use Rattle.sheet.specs.declared.state.State.{State}

module _ (C : ℕ → Language Letter) (V : ℕ → Language ℕ) (calls : List Call) where
  -- The event is neither unknown nor offending.
  abbrev pub Welcome : Event → Type 0
  Welcome e = Known C e × Admitted C V calls e

  -- The set has 0 where some text is welcome and n where the start of n is; some end is welcome, which can
  -- only be that of the innermost element, where the test says so.
  pub record ExpectedNext (set : ℕ) (end-next : Bool) : Type 0 where
    pub texts : Decides (has set 0) ((w : List ℕ) × Welcome (text w))
    pub starts : (n : ℕ) → 1 ≤ n → n ≤ 63 → Decides (has set n) (Welcome (start n))
    pub ends : Decides end-next ((n : ℕ) × Welcome (end n))

  -- The answer: 34 where the sheet is not underway, and otherwise the set and the test.
  abbrev pub Expects : Result Expected Refusal → Type 0
  Expects (Err r) = (number r ≡ 34) × (Underway calls → ⊥)
  Expects (Ok told) = Underway calls × ExpectedNext told.set told.end

module _ (M : Meaning) where
  -- What the open elements let come next, whatever calls they stand for.
  abbrev pub ExpectsInside : State → Expected → Type 0
  ExpectsInside s told = (calls : List Call) → Stands M s calls → ExpectedNext M.contents M.values calls told.set told.end

  -- What the state lets come next, whatever calls it stands for.
  abbrev pub Tells : State → Result Expected Refusal → Type 0
  Tells s told = (calls : List Call) → Stands M s calls → Expects M.contents M.values calls told
