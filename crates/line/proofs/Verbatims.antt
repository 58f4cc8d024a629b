-- Bytes that are put as they stand, by their value.
use Rattle.std.proofs.Common.{◌≡◌, ℕ, List, [], ◌∷◌, Option, subst}
use Rattle.line.specs.Pieces.{verbatim, decimal}
use Rattle.line.specs.Placed.{Put, PutPieces}
use Rattle.line.proofs.Pieces.{bytes_put}

pub bytes_put_as : {bs cs buffer : List ℕ} {at : ℕ} {after : List ℕ} {answer : Option ℕ} → bs ≡ cs → Put bs buffer at after answer → PutPieces (verbatim cs ∷ []) buffer at after answer
bytes_put_as {bs} {cs} {buffer} {at} {after} {answer} same put = bytes_put (subst (λ l. Put l buffer at after answer) same put)

-- A word by its value.
pub worded : {label blank v w : List ℕ} {n : ℕ} {buffer : List ℕ} {at : ℕ} {after : List ℕ} {answer : Option ℕ} → v ≡ w → PutPieces (verbatim label ∷ decimal n ∷ verbatim blank ∷ verbatim v ∷ []) buffer at after answer → PutPieces (verbatim label ∷ decimal n ∷ verbatim blank ∷ verbatim w ∷ []) buffer at after answer
worded {label} {blank} {v} {w} {n} {buffer} {at} {after} {answer} same put =
    subst (λ l. PutPieces (verbatim label ∷ decimal n ∷ verbatim blank ∷ verbatim l ∷ []) buffer at after answer) same put
