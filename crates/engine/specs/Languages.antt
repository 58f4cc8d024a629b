-- Languages over any kind of letter, and what an answer of an engine says about them.
use Rattle.std.specs.Prelude.{◌≡◌, ℕ, Bool, true, false, List, [], ◌∷◌, ◌++◌, Some, None, Option}

-- A language says which words lie in it.
abbrev pub Language : Type 0 → Type 1
Language A = List A → Type 0

-- No word lies in the language.
abbrev pub Empty : {A : Type 0} → Language A → Type 0
Empty {A} L = (w : List A) → L w → ⊥

-- Some word lies in the language.
abbrev pub Inhabited : {A : Type 0} → Language A → Type 0
Inhabited {A} L = (w : List A) × L w

-- The two languages have the same words.
abbrev pub Same : {A : Type 0} → Language A → Language A → Type 0
Same {A} L M = (w : List A) → (L w → M w) × (M w → L w)

-- The derivative of a language by a word: what follows that word in the words that begin with it.
abbrev pub residue : {A : Type 0} → Language A → List A → Language A
residue L u w = L (u ++ w)

-- The answer is yes exactly when the statement holds.
abbrev pub Decides : Bool → Type 0 → Type 0
Decides true P = P
Decides false P = P → ⊥

-- What an engine answers when a language is asked for: none where it has no word; where it has one, a
-- state that stands for it, which means that the state's rest has the same words.
abbrev pub Answers : {A : Type 0} → Language A → (ℕ → Language A) → Option ℕ → Type 0
Answers L rest None = Empty L
Answers L rest (Some state) = Inhabited L × Same (rest state) L

-- What is answered when a state is advanced by a word: the state itself for the empty word, and
-- otherwise what an engine answers for the derivative of its rest by the word.
abbrev pub Advanced : {A : Type 0} → (ℕ → Language A) → ℕ → List A → Option ℕ → Type 0
Advanced rest state [] answer = answer ≡ Some state
Advanced rest state (a ∷ w) answer = Answers (residue (rest state) (a ∷ w)) rest answer

-- Each letter of the word has the property.
abbrev pub Each : {A : Type 0} → (A → Type 0) → List A → Type 0
Each P [] = Unit {0}
Each P (a ∷ w) = P a × Each P w
