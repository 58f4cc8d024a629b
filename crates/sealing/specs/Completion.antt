-- Which elements can be completed when those of a set can, worked out from the nodes.
use Rattle.std.specs.Prelude.{◌≡◌, ℕ, ◌≤◌, Bool, true, false, ◌&&◌, ◌||◌, List, Some, None, Option}
use Rattle.bits.specs.Sets.{has}
use Rattle.engine.specs.Atoms.{StandsFor}
use Rattle.engine.specs.Languages.{Each}
use Rattle.engine.specs.declared.alphabet.ContentAtom.{ContentAtom}
use Rattle.engine.specs.declared.alphabet.ContentAtom.TheVariants as atom
use Rattle.engine.specs.declared.alphabet.Letter.{Letter}
use Rattle.engine.specs.declared.alphabet.Letter.TheVariants as letter
use Rattle.models.specs.Folds.{Operations}
use Rattle.models.specs.Tables.{ModelWords}
use Rattle.models.specs.declared.node.Model.{Model}
use Rattle.models.specs.declared.node.Node.{Node}

-- Text, or an element of the set.
abbrev pub Within : ℕ → Letter → Type 0
Within set letter.Text = Unit {0}
Within set (letter.Element n) = has set n ≡ true

-- An atom stands for text or for an element of the set.
abbrev pub single_completes : ℕ → ContentAtom → Bool
single_completes set atom.Text = true
single_completes set (atom.Element n) = has set n
single_completes set (atom.All last) = true

-- The algebra that tells whether an expression has a word of text and elements of the set.
abbrev pub completion : ℕ → Operations ContentAtom Bool
completion set = record {
  empty_word = true;
  single = λ n a. single_completes set a;
  both = λ l r. l && r;
  either = λ l r. l || r;
  any = λ i. true;
  some = λ i. i;
  maybe = λ i. true;
}

-- The number's model has a word of text and elements of the set.
abbrev pub Completes : List (Node ContentAtom) → List Model → ℕ → ℕ → Type 0
Completes nodes models set n = (w : List Letter) × ModelWords StandsFor nodes models n w × Each (Within set) w

-- A number that the set still lacks; none where no number from 1 to 63 is lacking.
abbrev pub Lacking : List (Node ContentAtom) → List Model → ℕ → Option ℕ → Type 0
Lacking nodes models set None = (n : ℕ) → 1 ≤ n → n ≤ 63 → Completes nodes models set n → has set n ≡ true
Lacking nodes models set (Some n) = (n ≤ 63) × (has set n ≡ false) × Completes nodes models set n
