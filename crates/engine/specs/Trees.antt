-- Documents: trees, when they are valid, and the events that a traversal of one visits.
use Rattle.std.specs.Prelude.{ℕ, ◌<◌, ◌≤◌, List, [], ◌∷◌, ◌++◌}
use Rattle.engine.specs.Languages.{Language, Inhabited, Each}
use Rattle.engine.specs.declared.alphabet.Letter.{Letter}
use Rattle.engine.specs.declared.alphabet.Letter.TheVariants.{Text, Element}

-- The children of an element, in order: none; a text piece, which has a first byte and perhaps more,
-- and the children after it; or a child element with its own children, and the children after it.
pub data Forest : Type 0 where
  none : Forest
  piece : ℕ → List ℕ → Forest → Forest
  child : ℕ → Forest → Forest → Forest

-- The children as letters.
abbrev pub letters : Forest → List Letter
letters none = []
letters (piece b bs after) = Text ∷ letters after
letters (child n below after) = Element n ∷ letters after

-- The element's own text pieces, joined.
abbrev pub joined : Forest → List ℕ
joined none = []
joined (piece b bs after) = (b ∷ bs) ++ joined after
joined (child n below after) = joined after

abbrev pub IsByte : ℕ → Type 0
IsByte b = b < 256

-- An element of number n fits its children: their letters are a word of its content language, and its
-- own text lies in its value language if that has a word.
pub record Fits (C : ℕ → Language Letter) (V : ℕ → Language ℕ) (n : ℕ) (children : Forest) : Type 0 where
  pub content : C n (letters children)
  pub value : Inhabited (V n) → V n (joined children)

-- Text pieces are made of bytes, and all child elements are valid.
abbrev pub AllValid : (ℕ → Language Letter) → (ℕ → Language ℕ) → Forest → Type 0
AllValid C V none = Unit {0}
AllValid C V (piece b bs after) = Each IsByte (b ∷ bs) × AllValid C V after
AllValid C V (child n below after) = (Fits C V n below × AllValid C V below) × AllValid C V after

-- The tree of number n with these children is valid.
abbrev pub Valid : (ℕ → Language Letter) → (ℕ → Language ℕ) → ℕ → Forest → Type 0
Valid C V n children = Fits C V n children × AllValid C V children

-- No number has a value language.
abbrev pub no_values : ℕ → Language ℕ
no_values n w = ⊥

-- The events of a document: an element starts, a text piece, an element ends.
pub data Event : Type 0 where
  start : ℕ → Event
  text : List ℕ → Event
  end : ℕ → Event

-- The events of the children in turn.
abbrev pub visits : Forest → List Event
visits none = []
visits (piece b bs after) = text (b ∷ bs) ∷ visits after
visits (child n below after) = start n ∷ (visits below ++ (end n ∷ visits after))

-- The events of a tree: it starts, its children in turn, it ends.
abbrev pub traversal : ℕ → Forest → List Event
traversal n children = start n ∷ (visits children ++ (end n ∷ []))

-- Declared numbers are those whose elements may hold something, be it nothing at all: their content has a word.
abbrev pub Declared : (ℕ → Language Letter) → ℕ → Type 0
Declared C n = Inhabited (C n)

abbrev pub IsText : Letter → Type 0
IsText Text = Unit {0}
IsText (Element n) = ⊥

-- A number is plain when its content language is all words of text alone.
abbrev pub Plain : (ℕ → Language Letter) → ℕ → Type 0
Plain C n = (w : List Letter) → (C n w → Each IsText w) × (Each IsText w → C n w)

-- Text, or a declared element.
abbrev pub IsKnown : (ℕ → Language Letter) → Letter → Type 0
IsKnown C Text = Unit {0}
IsKnown C (Element n) = Declared C n

-- The law of contents: no number is declared but those from 1 to 63; a child that some word names is
-- declared in turn; and every declared element can be completed, as long as values are left aside.
pub record Contents (C : ℕ → Language Letter) : Type 0 where
  pub numbers : (n : ℕ) → Declared C n → (1 ≤ n) × (n ≤ 63)
  pub words : (n : ℕ) (w : List Letter) → C n w → Each (IsKnown C) w
  pub trees : (n : ℕ) → Declared C n → (children : Forest) × Valid C no_values n children
