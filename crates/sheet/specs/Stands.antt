-- What the state of a sheet stands for: the calls that were accepted so far.
use Rattle.std.specs.Prelude.{◌≡◌, ℕ, ◌≤◌, true, false, List, [], ◌∷◌, ◌++◌, length, Some, None, Ok, Err, Option, Result}
use Rattle.engine.specs.Languages.{Language, Empty, Inhabited, Same, residue}
use Rattle.engine.specs.Trees.{letters, joined, Declared, Event}
use Rattle.engine.specs.declared.alphabet.Letter.{Letter}
use Rattle.engine.specs.declared.alphabet.Letter.TheVariants.{Element}
use Rattle.calls.specs.Replies.{Reply, accepted, refused, number}
use Rattle.frames.specs.Agreements.{Agreed}
use Rattle.sheet.specs.Histories.{Call, send, keep, root, events, passed}
use Rattle.sheet.specs.Levels.{Level, opened, Outermost, Alive}
use Rattle.sheet.specs.Questions.{IsDocument, Right}
use Rattle.sheet.specs.States.{applied, depth, Fitting}
use Rattle.calls.specs.declared.answer.Refusal.{Refusal}
use Rattle.frames.specs.declared.frame.Frame.{Frame}
use Rattle.frames.specs.Meanings.{Meaning}
use Rattle.sheet.specs.declared.state.State.{State}
use Rattle.sheet.specs.declared.state.Change.{Change}
use Rattle.sheet.specs.declared.state.Phase.{Phase}
use Rattle.sheet.specs.declared.state.Phase.TheVariants as phase

-- A value state after the text w: none where there is no value language, and otherwise a state whose
-- rest is what may follow that text.
abbrev pub ReadsValue : Language ℕ → (ℕ → Language ℕ) → List ℕ → Option ℕ → Type 0
ReadsValue L rest w None = Empty L
ReadsValue L rest w (Some s) = Inhabited L × Same (rest s) (residue L w)

module _ (M : Meaning) where
  -- The frame stands for the open element: its states have as rests what may follow the children read,
  -- which are the complete ones and then the pending letters.
  pub record Reads (frame : Frame) (l : Level) (pending : List Letter) : Type 0 where
    pub number : frame.number ≡ l.number
    pub content : Same (M.content_rests l.number frame.content) (residue (M.contents l.number) (letters l.done ++ pending))
    pub value : ReadsValue (M.values l.number) (M.value_rests l.number) (joined l.done) frame.value

  -- The frames stand for these open elements: the last frame for the innermost one, which comes first.
  abbrev pub Held : List Frame → List Letter → List Level → Type 0
  Held frames pending [] = frames ≡ []
  Held frames pending (l ∷ ls) =
      (front : List Frame) × (frame : Frame) × (frames ≡ front ++ (frame ∷ [])) × Reads frame l pending
      × Held front (Element l.number ∷ []) ls

  -- The root begun with and the number of accepted events.
  pub record Tallied (s : State) (calls : List Call) : Type 0 where
    pub begun : root calls ≡ Some s.root
    pub count : s.count ≡ length (events calls)

  -- The open elements of the state are those that the accepted events have opened, at most 64, and there is a
  -- way on.
  pub record Within (s : State) (calls : List Call) : Type 0 where
    pub levels : List Level
    pub outermost : Outermost s.root levels
    pub led : events calls ≡ opened levels
    pub alive : Alive M.contents M.values [] levels
    pub held : Held s.frames.items [] levels
    pub fits : depth s ≤ 64

  abbrev pub StandsAt : Phase → State → List Call → Type 0
  StandsAt phase.Fresh s calls = (calls ≡ []) × (s.count ≡ 0)
  StandsAt phase.Begun s calls = Tallied s calls × (passed calls ≡ false) × Agreed M.contents M.values × Declared M.contents s.root × (events calls ≡ [])
  StandsAt phase.Open s calls = Tallied s calls × (passed calls ≡ false) × Agreed M.contents M.values × Within s calls
  StandsAt phase.Ended s calls = Tallied s calls × (passed calls ≡ false) × IsDocument M.contents M.values s.root (events calls)
  StandsAt phase.Passed s calls = Tallied s calls × (passed calls ≡ true) × IsDocument M.contents M.values s.root (events calls)

  -- The state stands for these accepted calls.
  abbrev pub Stands : State → List Call → Type 0
  Stands s calls = StandsAt s.phase s calls

  -- What a call does to the state: the reply is right for whatever the sheet stood for, the sheet then stands for
  -- that and the call if it was accepted, and a refused call leaves it as it was.
  pub record Moved (s t : State) (call : Call) (reply : Reply) : Type 0 where
    pub right : (calls : List Call) → Stands s calls → Right M.contents M.values calls call reply
    pub after : (calls : List Call) → Stands s calls → Stands t (keep calls call reply)
    pub same : (n : ℕ) → reply ≡ refused n → t ≡ s

  -- What asking for an event answers: the right refusal, or a change after which the sheet stands for
  -- one event more.
  abbrev pub Asked : State → Event → Result Change Refusal → Type 0
  Asked s e (Err r) = (calls : List Call) → Stands s calls → Right M.contents M.values calls (send e) (refused (number r))
  Asked s e (Ok change) = Fitting s change
      × ((calls : List Call) → Stands s calls → Right M.contents M.values calls (send e) accepted × Stands (applied s change) (calls ++ (send e ∷ [])))
