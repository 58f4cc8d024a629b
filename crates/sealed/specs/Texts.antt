-- When the language of an expression is all words of text alone.
use Rattle.std.specs.Prelude.{◌≡◌, ℕ, ◌≤◌, ◌⊎◌, List, [], ◌∷◌, Some, None, Option}
use Rattle.engine.specs.Atoms.{StandsFor}
use Rattle.engine.specs.Languages.{Each}
use Rattle.engine.specs.Trees.{IsText}
use Rattle.engine.specs.declared.alphabet.ContentAtom.{ContentAtom}
use Rattle.engine.specs.declared.alphabet.ContentAtom.TheVariants as atom
use Rattle.engine.specs.declared.alphabet.Letter.{Letter}
use Rattle.engine.specs.declared.alphabet.Letter.TheVariants as letter
use Rattle.models.specs.Expressions.{Exp, Words}
use Rattle.models.specs.Folds.{Codes}
use Rattle.models.specs.Marks.{Ambiguous}
use Rattle.bits.specs.Sets.{singleton}
use Rattle.models.specs.Tables.{Left}
use Rattle.models.specs.declared.node.Node.{Node}

-- The atom stands for text and for nothing else.
abbrev pub TextOnly : ContentAtom → Type 0
TextOnly atom.Text = Unit {0}
TextOnly (atom.Element n) = ⊥
TextOnly (atom.All last) = last ≡ 0

-- The nodes code an expression that has every word of text alone.
abbrev pub AllTexts : List (Node ContentAtom) → Type 0
AllTexts nodes = (e : Exp ContentAtom) × Codes 64 nodes e × ((w : List Letter) → Each IsText w → Words StandsFor e w)

-- The words that may follow when atom p was read last; 0 means the beginning.
abbrev pub Following : Exp ContentAtom → ℕ → List Letter → Type 0
Following e p w = Left StandsFor e (singleton p) w

-- A word may end after atom p, and goes on with text by atom q; by q alone where nothing is ambiguous.
pub record TextStep (e : Exp ContentAtom) (p q : ℕ) : Type 0 where
  pub ends : Following e p []
  pub goes : (w : List Letter) → Following e q w → Following e p (letter.Text ∷ w)
  pub alone : (Ambiguous StandsFor e → ⊥) → (w : List Letter) → Following e p (letter.Text ∷ w) → Following e q w
  pub small : q ≤ 63

-- A step by text after atom p, or none where no word may end there or none goes on with text.
abbrev pub TextAfter : List (Node ContentAtom) → ℕ → Option ℕ → Type 0
TextAfter nodes p None = (e : Exp ContentAtom) → Codes 64 nodes e → (Following e p [] → ⊥) ⊎ ((w : List Letter) → Following e p (letter.Text ∷ w) → ⊥)
TextAfter nodes p (Some q) = (e : Exp ContentAtom) × Codes 64 nodes e × TextStep e p q
