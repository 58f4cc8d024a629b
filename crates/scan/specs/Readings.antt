-- What is read at the front of a text, and what is read turn by turn.
use Rattle.std.specs.Prelude.{◌≡◌, ℕ, zero, suc, ◌<◌, ◌≤◌, true, false, List, [], ◌∷◌, length, drop, Some, None, Option, ◌==◌}

-- A reading at the front of a text: nothing of the form stands there, or a value was read and a rest is left.
pub data Front (A : Type 0) : Type 0 where
  bad : Front A
  got : A → List ℕ → Front A

-- The word at the front of a text; its value is nothing.
unfoldable pub word : List ℕ → List ℕ → Front (Unit {0})
word [] t = got tt t
word (c ∷ cs) [] = bad
word (c ∷ cs) (b ∷ t) = elim (c == b) [ true ↦ word cs t | false ↦ bad ]

-- A reading function and a relation between text, value and rest say the same.
pub record Agree {A : Type 0} (read : List ℕ → Front A) (Reads : List ℕ → A → List ℕ → Type 0) : Type 0 where
  pub sound : (t : List ℕ) (v : A) (rest : List ℕ) → read t ≡ got v rest → Reads t v rest
  pub complete : (t : List ℕ) (v : A) (rest : List ℕ) → Reads t v rest → read t ≡ got v rest

-- At most one value and one rest are read from a text.
abbrev pub AtMostOne : {A : Type 0} → (List ℕ → A → List ℕ → Type 0) → Type 0
AtMostOne {A} Reads =
    (t : List ℕ) (v w : A) (r s : List ℕ) → Reads t v r → Reads t w s → (v ≡ w) × (r ≡ s)

-- One turn of a repeated reading, from a state at the front of a text: it is over, it is stuck, or there is a next
-- state with the text behind what was read.
pub data Turn (S : Type 0) : Type 0 where
  over : Turn S
  stuck : Turn S
  next : S → List ℕ → Turn S

-- How a repeated reading ends: finished or stuck, with the state and the text there.
pub data Run (S : Type 0) : Type 0 where
  finished : S → List ℕ → Run S
  stopped : S → List ℕ → Run S

-- At most so many turns.
unfoldable pub turns : {S : Type 0} → ℕ → (S → List ℕ → Turn S) → S → List ℕ → Run S
turns zero turn s t = stopped s t
turns (suc n) turn s t =
    elim (turn s t) [ over ↦ finished s t | stuck ↦ stopped s t | next s' t' ↦ turns n turn s' t' ]

-- All turns: a turn that goes on reads at least one byte, so there are no more of them than bytes.
abbrev pub run : {S : Type 0} → (S → List ℕ → Turn S) → S → List ℕ → Run S
run turn s t = turns (suc (length t)) turn s t

-- A turn that goes on leaves a shorter text.
abbrev pub Shrinks : {S : Type 0} → (S → List ℕ → Turn S) → Type 0
Shrinks {S} turn = (s s' : S) (t t' : List ℕ) → turn s t ≡ next s' t' → length t' < length t

-- Any number of steps, one after the other.
pub data Repeats {S : Type 0} (Step : S → List ℕ → S → List ℕ → Type 0) : S → List ℕ → S → List ℕ → Type 0 where
  none : {s s' : S} {t t' : List ℕ} → s ≡ s' → t ≡ t' → Repeats Step s t s' t'
  more : {s s'' : S} {t t'' : List ℕ} (s' : S) (t' : List ℕ) → Step s t s' t' → Repeats Step s' t' s'' t'' → Repeats Step s t s'' t''

-- A place of the text, not before `at`, and behind it the rest.
pub record Stands (text : List ℕ) (at : ℕ) (rest : List ℕ) (end : ℕ) : Type 0 where
  pub forward : at ≤ end
  pub inside : end ≤ length text
  pub behind : drop end text ≡ rest

-- What is answered about the front of the text at a place: none where nothing of the form stands there, or the
-- place where what was read ends.
abbrev pub EndOf : {A : Type 0} → List ℕ → ℕ → Front A → Option ℕ → Type 0
EndOf text at bad None = Unit {0}
EndOf text at bad (Some end) = ⊥
EndOf text at (got v rest) None = ⊥
EndOf text at (got v rest) (Some end) = Stands text at rest end
