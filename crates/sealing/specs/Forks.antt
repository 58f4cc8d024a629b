-- Where two atoms may read one letter: ambiguity, place by place.
use Rattle.std.specs.Prelude.{◌≡◌, ℕ, ◌≤◌, true, ◌≢◌, ◌⊎◌, List, ◌∷◌}
use Rattle.bits.specs.Sets.{has}
use Rattle.engine.specs.Atoms.{StandsFor, content_sample}
use Rattle.engine.specs.Languages.{Language}
use Rattle.engine.specs.declared.alphabet.ContentAtom.{ContentAtom}
use Rattle.engine.specs.declared.alphabet.Letter.{Letter}
use Rattle.models.specs.Expressions.{Exp}
use Rattle.models.specs.Folds.{Codes}
use Rattle.models.specs.Marks.{Mark, MarkedWords, ReadsMarked, Ambiguous}
use Rattle.models.specs.Rests.{Rest}
use Rattle.models.specs.declared.node.Node.{Node}

-- The marked words that may follow when atom p was read last; 0 means the beginning.
abbrev pub After : {A X : Type 0} → (A → X → Type 0) → Exp A → ℕ → Language (Mark X)
After stands e p w = ((p ≡ 0) × MarkedWords stands e w) ⊎ Rest (ReadsMarked stands) e 0 (λ n. n ≡ p) w

-- After atom p the letter may be read by either of two atoms.
pub record Forks {A X : Type 0} (stands : A → X → Type 0) (e : Exp A) (letter : X) (p : ℕ) : Type 0 where
  pub one : ℕ
  pub other : ℕ
  pub differ : one ≢ other
  pub after_one : List (Mark X)
  pub after_other : List (Mark X)
  pub first_way : After stands e p ((letter, one) ∷ after_one)
  pub second_way : After stands e p ((letter, other) ∷ after_other)

-- The nodes code an expression that forks by the letter after atom p.
abbrev pub ForksIn : List (Node ContentAtom) → Letter → ℕ → Type 0
ForksIn nodes letter p = (e : Exp ContentAtom) × Codes 64 nodes e × Forks StandsFor e letter p

-- After some atom, or at the beginning, either of two atoms may read the sample of this atom.
abbrev pub ForksBy : List (Node ContentAtom) → ContentAtom → Type 0
ForksBy nodes a = (p : ℕ) × (p ≤ 63) × ForksIn nodes (content_sample a) p

-- The nodes code an ambiguous expression.
abbrev pub AmbiguousIn : List (Node ContentAtom) → Type 0
AmbiguousIn nodes = (e : Exp ContentAtom) × Codes 64 nodes e × Ambiguous StandsFor e

-- The set has two members.
abbrev pub Several : ℕ → Type 0
Several set = (p : ℕ) × (q : ℕ) × (p ≢ q) × (has set p ≡ true) × (has set q ≡ true)
