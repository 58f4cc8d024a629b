-- Pieces that are put one behind another.
use Rattle.std.proofs.Common.{◌≡◌, ℕ, ◌+◌, ◌<◌, ◌≤◌, List, [], ◌∷◌, ◌++◌, length, get_or, map, take, drop, Some, None, Option, sym, refl, ap, ◌∙◌, subst, add-zero, append_assoc, append-nil, arith, length-append, length-drop, length-take}
use Rattle.std.proofs.lemmas.List.{take_at, drop_at, drop-drop, drop_more, drop_all, take-append-drop}
use Rattle.line.specs.declared.put.Piece.{Piece as Given}
use Rattle.line.specs.Pieces.{Piece, said, verbatim, decimal, Spells, nothing, as_they_stand, in_base_ten}
use Rattle.line.specs.Placed.{Put, stands, short, PutNumber, PutPieces}
use Rattle.line.proofs.Reading.{at_most_one}
use Rattle.line.proofs.Spelling.{spelled}

pub some_text : (ps : List Piece) → (bs : List ℕ) × Spells ps bs
some_text [] = ([], nothing)
some_text (verbatim bs ∷ ps) = (bs ++ (some_text ps).0, as_they_stand bs (some_text ps).1)
some_text (decimal n ∷ ps) = ((spelled n).0 ++ (some_text ps).0, in_base_ten (spelled n).1 (some_text ps).1)

pub same_text : (ps : List Piece) (bs cs : List ℕ) → Spells ps bs → Spells ps cs → bs ≡ cs
same_text [] bs cs nothing nothing = refl
same_text (verbatim xs ∷ ps) bs cs (as_they_stand ys p) (as_they_stand zs q) = ap (λ l. xs ++ l) (same_text ps _ _ p q)
same_text (decimal n ∷ ps) bs cs (in_base_ten {ds = ds} {rest = rest} d p) (in_base_ten {ds = es} {rest = others} e q) =
    ap (λ l. l ++ rest) (at_most_one n ds es d e) ∙ ap (λ l. es ++ l) (same_text ps rest others p q)

spells_both : (ps qs : List Piece) (bs cs : List ℕ) → Spells ps bs → Spells qs cs → Spells (ps ++ qs) (bs ++ cs)
spells_both [] qs bs cs nothing q = q
spells_both (verbatim xs ∷ ps) qs bs cs (as_they_stand {rest = rest} ys p) q =
    subst (Spells (verbatim xs ∷ (ps ++ qs))) (sym (append_assoc xs rest cs)) (as_they_stand xs (spells_both ps qs rest cs p q))
spells_both (decimal n ∷ ps) qs bs cs (in_base_ten {ds = ds} {rest = rest} d p) q =
    subst (Spells (decimal n ∷ (ps ++ qs))) (sym (append_assoc ds rest cs)) (in_base_ten d (spells_both ps qs rest cs p q))

pub stood : {bs buffer after : List ℕ} {at next : ℕ} → Put bs buffer at after (Some next) → (next ≡ at + length bs) × (next ≤ length buffer) × (after ≡ take at buffer ++ (bs ++ drop next buffer))
stood (stands room) = (refl, room, refl)

pub fell_short : {bs buffer after : List ℕ} {at : ℕ} → Put bs buffer at after None → length buffer < at + length bs
fell_short (short less) = less

pub standing : (bs buffer after : List ℕ) (at next : ℕ) → next ≡ at + length bs → next ≤ length buffer → after ≡ take at buffer ++ (bs ++ drop next buffer) → Put bs buffer at after (Some next)
standing bs buffer after at next far room whole =
    let P : ℕ → Type 0 = λ n. n ≤ length buffer → after ≡ take at buffer ++ (bs ++ drop n buffer) → Put bs buffer at after (Some n) in
    subst P (sym far) (λ fits is. subst (λ l. Put bs buffer at l (Some (at + length bs))) (sym is) (stands fits)) room whole

module _ (bs buffer between : List ℕ) (at middle : ℕ) (first : Put bs buffer at between (Some middle)) where
  front_length : length (take at buffer ++ bs) ≡ middle
  front_length = simp (length-append, length-take) (omega (arith, (stood first).0, (stood first).1))

  front : between ≡ (take at buffer ++ bs) ++ drop middle buffer
  front = (stood first).2 ∙ sym (append_assoc (take at buffer) bs (drop middle buffer))

  same_room : length between ≡ length buffer
  same_room = ap length front ∙ simp (length-append (take at buffer ++ bs)) (rw front_length (simp length-drop (omega (arith, (stood first).1))))

  put_both : (cs after : List ℕ) (answer : Option ℕ) → Put cs between middle after answer → Put (bs ++ cs) buffer at after answer
  put_both cs after (Some next) put =
      let second = stood put in
      let far : next ≡ at + length (bs ++ cs) = simp length-append (omega (arith, (stood first).0, second.0)) in
      let before : take middle between ≡ take at buffer ++ bs = ap (take middle) front ∙ take_at (take at buffer ++ bs) (drop middle buffer) middle front_length in
      let back : drop middle between ≡ drop middle buffer = ap (drop middle) front ∙ drop_at (take at buffer ++ bs) (drop middle buffer) middle front_length in
      let behind : drop next between ≡ drop next buffer =
      ap (λ n. drop n between) second.0 ∙ sym (drop-drop (length cs) middle between) ∙ ap (drop (length cs)) back
      ∙ drop-drop (length cs) middle buffer ∙ ap (λ n. drop n buffer) (sym second.0) in
      let whole : take middle between ++ (cs ++ drop next between) ≡ take at buffer ++ ((bs ++ cs) ++ drop next buffer) =
      rw (before, behind, append_assoc (take at buffer) bs (cs ++ drop next buffer), append_assoc bs cs (drop next buffer)) in
      standing (bs ++ cs) buffer after at next far (omega (arith, second.1, same_room)) (second.2 ∙ whole)
  put_both cs after None put =
      let less = fell_short put in
      short (simp length-append (omega (arith, (stood first).0, same_room, less)))

-- Behind bytes that were put the buffer has room as before.
pub still_inside : {ps : List Piece} {buffer after : List ℕ} {at next : ℕ} → PutPieces ps buffer at after (Some next) → next ≤ length after
still_inside {ps} {buffer} {after} {at} {next} put = omega (arith, (stood put.put).1, same_room put.text buffer after at next put.put)

pub bytes_put : {bs buffer : List ℕ} {at : ℕ} {after : List ℕ} {answer : Option ℕ} → Put bs buffer at after answer → PutPieces (verbatim bs ∷ []) buffer at after answer
bytes_put {bs} {buffer} {at} {after} {answer} put = record {
  text = bs ++ [];
  spells = as_they_stand bs nothing;
  put = subst (λ l. Put l buffer at after answer) (sym (append-nil bs)) put;
}

pub number_put : {n : ℕ} {buffer : List ℕ} {at : ℕ} {after : List ℕ} {answer : Option ℕ} → PutNumber n buffer at after answer → PutPieces (decimal n ∷ []) buffer at after answer
number_put {n} {buffer} {at} {after} {answer} number = record {
  text = number.text ++ [];
  spells = in_base_ten number.decimal nothing;
  put = subst (λ l. Put l buffer at after answer) (sym (append-nil number.text)) number.put;
}

-- Pieces are put, and then more of them behind.
pub and_then : {ps qs : List Piece} {buffer between after : List ℕ} {at middle : ℕ} {answer : Option ℕ} → PutPieces ps buffer at between (Some middle) → PutPieces qs between middle after answer → PutPieces (ps ++ qs) buffer at after answer
and_then {ps} {qs} {buffer} {between} {after} {at} {middle} {answer} first second = record {
  text = first.text ++ second.text;
  spells = spells_both ps qs first.text second.text first.spells second.spells;
  put = put_both first.text buffer between at middle first.put second.text after answer second.put;
}

-- Where the first pieces have no room, more of them have none.
pub no_room : {ps : List Piece} (qs : List Piece) {buffer between after : List ℕ} {at : ℕ} {answer : Option ℕ} → answer ≡ None → PutPieces ps buffer at between None → PutPieces (ps ++ qs) buffer at after answer
no_room {ps} qs {buffer} {between} {after} {at} {answer} none first =
    let rest = some_text qs in
    let both = first.text ++ rest.0 in
    let less = fell_short first.put in
    let long : length buffer < at + length both = simp length-append (omega (arith, less)) in
    record {
      text = both;
      spells = spells_both ps qs first.text rest.0 first.spells rest.1;
      put = subst (Put both buffer at after) (sym none) (short long);
    }

-- The pieces from one on: it, and those behind it.
module _ (ps : List Given) (i : ℕ) (d : Given) (within : i < length ps) where
  front_piece : map said (drop i ps) ≡ said (get_or ps i d) ∷ map said (drop (i + 1) ps)
  front_piece = ap (map said) (drop_more ps i d within)

  pub piece_then : {buffer between after : List ℕ} {at next : ℕ} {answer : Option ℕ} → PutPieces (said (get_or ps i d) ∷ []) buffer at between (Some next) → PutPieces (map said (drop (i + 1) ps)) between next after answer → PutPieces (map said (drop i ps)) buffer at after answer
  piece_then {buffer} {between} {after} {at} {next} {answer} first second =
      subst (λ qs. PutPieces qs buffer at after answer) (sym front_piece) (and_then first second)

  pub piece_short : {buffer between : List ℕ} {at : ℕ} {answer : Option ℕ} → answer ≡ None → PutPieces (said (get_or ps i d) ∷ []) buffer at between None → PutPieces (map said (drop i ps)) buffer at between answer
  piece_short {buffer} {between} {at} {answer} none first =
      subst (λ qs. PutPieces qs buffer at between answer) (sym front_piece) (no_room (map said (drop (i + 1) ps)) none first)

pub no_piece : (ps : List Given) (i : ℕ) (buffer : List ℕ) (at : ℕ) → length ps ≤ i → at ≤ length buffer → PutPieces (map said (drop i ps)) buffer at buffer (Some at)
no_piece ps i buffer at over inside =
    let none : map said (drop i ps) ≡ [] = ap (map said) (drop_all i ps over) in
    let whole : buffer ≡ take at buffer ++ ([] ++ drop at buffer) = sym (take-append-drop at buffer) in
    subst (λ qs. PutPieces qs buffer at buffer (Some at)) (sym none) (record {
      text = [];
      spells = nothing;
      put = standing [] buffer buffer at at (sym (add-zero at)) inside whole;
    })
