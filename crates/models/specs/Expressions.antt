-- Expressions over any kind of atom, and the one definition of their languages.
use Rattle.std.specs.Prelude.{◌≡◌, ℕ, ◌+◌, ◌⊎◌, List, [], ◌∷◌, ◌++◌}
use Rattle.engine.specs.Languages.{Language}

-- Regular expressions: the empty word and single atoms, joined by sequence, alternative, star, plus and option.
pub data Exp (A : Type 0) : Type 0 where
  empty : Exp A
  atom : A → Exp A
  seq alt : Exp A → Exp A → Exp A
  star plus option : Exp A → Exp A

-- How many atoms an expression has. They are numbered from 1, left to right.
abbrev pub atoms : {A : Type 0} → Exp A → ℕ
atoms empty = 0
atoms (atom a) = 1
atoms (seq e f) = atoms e + atoms f
atoms (alt e f) = atoms e + atoms f
atoms (star e) = atoms e
atoms (plus e) = atoms e
atoms (option e) = atoms e

-- A word of the first language and then a word of the second.
abbrev pub Then : {X : Type 0} → Language X → Language X → Language X
Then {X} L M w = (u : List X) × (v : List X) × (w ≡ u ++ v) × L u × M v

-- Any number of words of the language, one after the other.
pub data Many {X : Type 0} (L : Language X) : List X → Type 0 where
  done : {w : List X} → w ≡ [] → Many L w
  more : {w : List X} (u v : List X) → w ≡ u ++ v → L u → Many L v → Many L w

-- The language of an expression, by what its atoms read: `reads n a x` says that the atom a, being
-- number n, reads the letter x. Before the expression stand `before` atoms.
abbrev pub In : {A X : Type 0} → (ℕ → A → X → Type 0) → Exp A → ℕ → Language X
In reads empty before w = w ≡ []
In {X = X} reads (atom a) before w = (x : X) × reads (before + 1) a x × (w ≡ x ∷ [])
In reads (seq e f) before w = Then (In reads e before) (In reads f (before + atoms e)) w
In reads (alt e f) before w = In reads e before w ⊎ In reads f (before + atoms e) w
In reads (star e) before w = Many (In reads e before) w
In reads (plus e) before w = Then (In reads e before) (Many (In reads e before)) w
In reads (option e) before w = (w ≡ []) ⊎ In reads e before w

-- The words of an expression, by the letters that an atom stands for.
abbrev pub Words : {A X : Type 0} → (A → X → Type 0) → Exp A → Language X
Words stands e = In (λ n. stands) e 0
