-- Bytes that are put into a lent buffer at a place.
use Rattle.std.specs.Prelude.{◌≡◌, ℕ, ◌+◌, ◌<◌, ◌≤◌, List, ◌++◌, length, take, drop, Some, None, Option}
use Rattle.line.specs.Decimals.{Decimal}
use Rattle.line.specs.Pieces.{Piece, Spells}

-- Where the buffer is long enough, the bytes stand at the place, every other byte is what it was, and the answer
-- is the place behind them. There is no answer exactly where it is too short.
pub data Put (bs buffer : List ℕ) (at : ℕ) : List ℕ → Option ℕ → Type 0 where
  stands : at + length bs ≤ length buffer → Put bs buffer at (take at buffer ++ (bs ++ drop (at + length bs) buffer)) (Some (at + length bs))
  short : {after : List ℕ} → length buffer < at + length bs → Put bs buffer at after None

-- Without an answer the buffer is what it was.
abbrev pub Kept : List ℕ → List ℕ → Option ℕ → Type 0
Kept buffer after (Some next) = Unit {0}
Kept buffer after None = after ≡ buffer

-- The text of the number is put.
pub record PutNumber (n : ℕ) (buffer : List ℕ) (at : ℕ) (after : List ℕ) (answer : Option ℕ) : Type 0 where
  pub text : List ℕ
  pub decimal : Decimal n text
  pub put : Put text buffer at after answer

-- The text of the pieces is put.
pub record PutPieces (ps : List Piece) (buffer : List ℕ) (at : ℕ) (after : List ℕ) (answer : Option ℕ) : Type 0 where
  pub text : List ℕ
  pub spells : Spells ps text
  pub put : Put text buffer at after answer
