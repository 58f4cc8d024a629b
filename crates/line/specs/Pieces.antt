-- A text that is made of pieces.
use Rattle.std.specs.Prelude.{ℕ, List, [], ◌∷◌, ◌++◌}
use Rattle.line.specs.Decimals.{Decimal}
use Rattle.line.specs.declared.put.Piece.{Piece as Given}
use Rattle.line.specs.declared.put.Piece.TheVariants.{Verbatim, Decimal as InDecimal}

-- A piece is bytes as they stand, or a number.
pub data Piece : Type 0 where
  verbatim : List ℕ → Piece
  decimal : ℕ → Piece

-- A piece of a text, as the code has it.
abbrev pub said : Given → Piece
said (Verbatim bytes) = verbatim bytes.now
said (InDecimal number) = decimal number

-- The text has the pieces one after another, each number by its text in base ten.
pub data Spells : List Piece → List ℕ → Type 0 where
  nothing : Spells [] []
  as_they_stand : {ps : List Piece} {rest : List ℕ} (bs : List ℕ) → Spells ps rest → Spells (verbatim bs ∷ ps) (bs ++ rest)
  in_base_ten : {n : ℕ} {ds : List ℕ} {ps : List Piece} {rest : List ℕ} → Decimal n ds → Spells ps rest → Spells (decimal n ∷ ps) (ds ++ rest)
