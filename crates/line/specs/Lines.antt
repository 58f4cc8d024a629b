-- The bytes of a line, told by its value.
use Rattle.std.specs.Prelude.{◌≡◌, ℕ, ◌-◌, ◌<◌, ◌≤◌, List, [], ◌∷◌, ◌++◌, length, replicate, Some, None, Option, codes}
use Rattle.line.specs.Pieces.{Piece, verbatim, decimal, Spells}
use Rattle.line.specs.declared.lines.Layer.{Layer}
use Rattle.line.specs.declared.lines.Layer.TheVariants.{Reader, Names, Sheet}
use Rattle.line.specs.declared.lines.AgreementLayer.{AgreementLayer}
use Rattle.line.specs.declared.lines.AgreementLayer.TheVariants.{Declarations, Forms}
use Rattle.line.specs.declared.lines.Line.{Line}
use Rattle.line.specs.declared.lines.Line.TheVariants.{Pass, Refused, RefusedAgreement}

-- A layer is written as one word.
abbrev pub layer_word : Layer → List ℕ
layer_word Reader = codes "reader"
layer_word Names = codes "names"
layer_word Sheet = codes "sheet"

abbrev pub agreement_layer_word : AgreementLayer → List ℕ
agreement_layer_word Declarations = codes "declarations"
agreement_layer_word Forms = codes "forms"

-- The label of a name ends in a blank where there is a name.
abbrev pub name_label : List ℕ → List ℕ
name_label [] = codes "] [name"
name_label (b ∷ bs) = codes "] [name "

-- Every line ends in two brackets and byte 10.
abbrev pub line_end : Piece
line_end = verbatim (codes "]]" ++ (10 ∷ []))

-- The pieces of each line.
abbrev pub pieces : Line → List Piece
pieces (Pass events bytes) =
    verbatim (codes "[pass [events ") ∷ decimal events
    ∷ verbatim (codes "] [bytes ") ∷ decimal bytes
    ∷ line_end ∷ []
pieces (Refused refusal layer events byte name) =
    verbatim (codes "[refused ") ∷ decimal refusal
    ∷ verbatim (codes " [layer ") ∷ verbatim (layer_word layer)
    ∷ verbatim (codes "] [events ") ∷ decimal events
    ∷ verbatim (codes "] [byte ") ∷ decimal byte
    ∷ verbatim (name_label name.now) ∷ verbatim name.now
    ∷ line_end ∷ []
pieces (RefusedAgreement refusal layer byte) =
    verbatim (codes "[refused ") ∷ decimal refusal
    ∷ verbatim (codes " [layer ") ∷ verbatim (agreement_layer_word layer)
    ∷ verbatim (codes "] [byte ") ∷ decimal byte
    ∷ line_end ∷ []

-- The bytes of the line.
abbrev pub Shows : Line → List ℕ → Type 0
Shows line bs = Spells (pieces line) bs

-- Every line has exactly one list of bytes.
abbrev pub OneText : Type 0
OneText = (line : Line) → (bs : List ℕ) × Shows line bs × ((others : List ℕ) → Shows line others → others ≡ bs)

-- What the buffer holds after the bytes were written from its beginning on: where they fit, they and then zeros, and
-- the answer is how many they are; where they do not, zeros, and there is no answer.
pub record Written (bs buffer after : List ℕ) (answer : Option ℕ) : Type 0 where
  pub fits : length bs ≤ length buffer → (answer ≡ Some (length bs)) × (after ≡ bs ++ replicate (length buffer - length bs) 0)
  pub short : length buffer < length bs → (answer ≡ None) × (after ≡ replicate (length buffer) 0)

-- The line is written.
pub record WrittenLine (line : Line) (buffer after : List ℕ) (answer : Option ℕ) : Type 0 where
  pub text : List ℕ
  pub shows : Shows line text
  pub written : Written text buffer after answer
