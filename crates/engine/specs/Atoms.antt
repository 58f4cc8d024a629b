-- Which letters an atom stands for, for both kinds of letter.
use Rattle.std.specs.Prelude.{◌≡◌, ℕ, ◌≤◌}
use Rattle.engine.specs.declared.alphabet.Letter.{Letter}
use Rattle.engine.specs.declared.alphabet.Letter.TheVariants as letter
use Rattle.engine.specs.declared.alphabet.ContentAtom.{ContentAtom}
use Rattle.engine.specs.declared.alphabet.ContentAtom.TheVariants as atom
use Rattle.engine.specs.declared.range.ByteRange.{ByteRange}

-- Text stands for text, an element for itself, and `All n` for text and the elements from 1 to n.
abbrev pub StandsFor : ContentAtom → Letter → Type 0
StandsFor atom.Text letter.Text = Unit {0}
StandsFor atom.Text (letter.Element n) = ⊥
StandsFor (atom.Element m) letter.Text = ⊥
StandsFor (atom.Element m) (letter.Element n) = m ≡ n
StandsFor (atom.All last) letter.Text = Unit {0}
StandsFor (atom.All last) (letter.Element n) = (1 ≤ n) × (n ≤ last)

-- A range stands for the bytes from its low to its high one.
abbrev pub InRange : ByteRange → ℕ → Type 0
InRange range b = (range.low ≤ b) × (b ≤ range.high)

-- A letter that the atom stands for.
abbrev pub content_sample : ContentAtom → Letter
content_sample atom.Text = letter.Text
content_sample (atom.Element n) = letter.Element n
content_sample (atom.All last) = letter.Text

abbrev pub byte_sample : ByteRange → ℕ
byte_sample range = range.low
