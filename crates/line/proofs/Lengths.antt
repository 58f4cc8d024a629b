-- No line with a short name is longer than the longest.
use Rattle.std.proofs.Common.{Option, IsSome, refl, sym, subst, ℕ, ◌+◌, ◌^◌, ◌<◌, ◌≤◌, List, [], ◌∷◌, length, arith, length-append}
use Rattle.line.specs.Decimals.{value_after}
use Rattle.line.specs.Lines.{layer_word, agreement_layer_word, name_label, line_end, pieces, WrittenLine}
use Rattle.line.specs.Pieces.{Piece, verbatim, decimal, Spells, nothing, as_they_stand, in_base_ten}
use Rattle.line.specs.Longest.{Typed, NameWithin, NoneLonger}
use Rattle.line.specs.declared.lines.Layer.{Layer}
use Rattle.line.specs.declared.lines.Layer.TheVariants.{Reader, Names, Sheet}
use Rattle.line.specs.declared.lines.AgreementLayer.{AgreementLayer}
use Rattle.line.specs.declared.lines.AgreementLayer.TheVariants.{Declarations, Forms}
use Rattle.line.specs.declared.lines.Line.{Line}
use Rattle.line.specs.declared.lines.Line.TheVariants.{Pass, Refused, RefusedAgreement}
use Rattle.line.proofs.Reading.{nines, within_nines}

-- The pieces have no text longer than this.
abbrev Bounded : List Piece → ℕ → Type 0
Bounded ps most = (text : List ℕ) → Spells ps text → length text ≤ most

no_pieces : Bounded [] 0
no_pieces text nothing = omega arith

bytes_bound : {bs : List ℕ} {ps : List Piece} (k m : ℕ) → length bs ≤ k → Bounded ps m → Bounded (verbatim bs ∷ ps) (k + m)
bytes_bound {bs} k m few more text (as_they_stand {rest = rest} cs spells) = simp length-append (omega (arith, more rest spells))

number_bound : {n : ℕ} {ps : List Piece} (k m : ℕ) → 0 < k → n ≤ value_after 0 (nines k) → Bounded ps m → Bounded (decimal n ∷ ps) (k + m)
number_bound {n} k m some small more text (in_base_ten {ds = ds} {rest = rest} whole spells) =
    simp length-append (omega (arith, within_nines n k ds some small whole, more rest spells))

byte_number : {n : ℕ} {ps : List Piece} (m : ℕ) → n < 2 ^ 8 → Bounded ps m → Bounded (decimal n ∷ ps) (3 + m)
byte_number m small = number_bound 3 m (omega arith) (omega arith)

count_number : {n : ℕ} {ps : List Piece} (m : ℕ) → n < 2 ^ 32 → Bounded ps m → Bounded (decimal n ∷ ps) (10 + m)
count_number m small = number_bound 10 m (omega arith) (omega arith)

place_number : {n : ℕ} {ps : List Piece} (m : ℕ) → n < 2 ^ 64 → Bounded ps m → Bounded (decimal n ∷ ps) (20 + m)
place_number m small = number_bound 20 m (omega arith) (omega arith)

layer_length : (layer : Layer) → length (layer_word layer) ≤ 6
layer_length Reader = omega arith
layer_length Names = omega arith
layer_length Sheet = omega arith

agreement_layer_length : (layer : AgreementLayer) → length (agreement_layer_word layer) ≤ 12
agreement_layer_length Declarations = omega arith
agreement_layer_length Forms = omega arith

label_length : (name : List ℕ) → length (name_label name) ≤ 8
label_length [] = omega arith
label_length (b ∷ bs) = omega arith

the_end : Bounded (line_end ∷ []) 3
the_end = bytes_bound 3 0 (omega arith) no_pieces

under_label : (name : List ℕ) → length name ≤ 32 → Bounded (verbatim (name_label name) ∷ verbatim name ∷ line_end ∷ []) 43
under_label name short = bytes_bound 8 35 (label_length name) (bytes_bound 32 3 short the_end)

pass_bound : (events bytes : ℕ) → events < 2 ^ 32 → bytes < 2 ^ 64 → Bounded (pieces (Pass events bytes)) 56
pass_bound events bytes few small =
    bytes_bound 14 42 (omega arith) (count_number 32 few (bytes_bound 9 23 (omega arith) (place_number 3 small the_end)))

agreement_bound : (refusal : ℕ) (layer : AgreementLayer) (byte : ℕ) → refusal < 2 ^ 8 → byte < 2 ^ 64 → Bounded (pieces (RefusedAgreement refusal layer byte)) 63
agreement_bound refusal layer byte numbered small =
    bytes_bound 9 54 (omega arith)
    (byte_number 51 numbered
    (bytes_bound 8 43 (omega arith)
    (bytes_bound 12 31 (agreement_layer_length layer)
    (bytes_bound 8 23 (omega arith)
    (place_number 3 small the_end)))))

pub none_longer : NoneLonger 32 117
none_longer (Pass events bytes) typed named text shows = omega (arith, pass_bound events bytes typed.0 typed.1 text shows)
none_longer (Refused refusal layer events byte name) typed named text shows =
    bytes_bound 9 108 (omega arith)
    (byte_number 105 typed.0
    (bytes_bound 8 97 (omega arith)
    (bytes_bound 6 91 (layer_length layer)
    (bytes_bound 10 81 (omega arith)
    (count_number 71 typed.1
    (bytes_bound 8 63 (omega arith)
    (place_number 43 typed.2 (under_label name.now named))))))))
    text shows
none_longer (RefusedAgreement refusal layer byte) typed named text shows =
    omega (arith, agreement_bound refusal layer byte typed.0 typed.1 text shows)

-- A line with a short name is written where the buffer has the longest line's length.
pub enough_room : (line : Line) (buffer after : List ℕ) (answer : Option ℕ) → WrittenLine line buffer after answer → Typed line → NameWithin 32 line → 117 ≤ length buffer → IsSome answer
enough_room line buffer after answer done typed named long =
    let short = none_longer line typed named done.text done.shows in
    let told = done.written.fits (omega (arith, short, long)) in
    subst IsSome (sym told.0) refl
