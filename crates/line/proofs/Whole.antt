-- A whole line in a buffer that was zero before.
use Rattle.std.proofs.Common.{◌≡◌, ℕ, ◌-◌, ◌≤◌, true, false, is_some, Option, List, ◌++◌, length, drop, replicate, Some, None, sym, refl, ap, ◌∙◌, subst, arith}
use lib.ListN.{length-replicate}
use Rattle.std.proofs.lemmas.List.{drop-replicate}
use Rattle.std.proofs.lemmas.Bool.{both_ways}
use Rattle.line.specs.Lines.{WrittenLine, OneText, pieces}
use Rattle.line.specs.Pieces.{Piece}
use Rattle.line.specs.Placed.{PutPieces}
use Rattle.line.specs.Reached.{reached}
use Rattle.line.specs.declared.put.Writer.{Writer}
use Rattle.line.specs.declared.lines.Line.{Line}
use Rattle.line.proofs.Pieces.{stood, fell_short, some_text, same_text}

abbrev zeros : ℕ → List ℕ
zeros n = replicate n 0

zeros_length : (n : ℕ) → length (zeros n) ≡ n
zeros_length n = length-replicate n _

module _ (line : Line) (buffer clean after : List ℕ) (zero_first : clean ≡ zeros (length buffer)) where
  room : length clean ≡ length buffer
  room = ap length zero_first ∙ zeros_length (length buffer)

  whole_line : (answer : ℕ) → PutPieces (pieces line) clean 0 after (Some answer) → WrittenLine line buffer after (Some answer)
  whole_line answer put =
      let bs = put.text in
      let told = stood put.put in
      let full : answer ≡ length bs = omega (arith, told.0) in
      let rest : drop answer clean ≡ zeros (length buffer - length bs) =
      ap (drop answer) zero_first ∙ drop-replicate answer (length buffer) _ ∙ ap (λ n. zeros (length buffer - n)) full in
      record {
        text = bs;
        shows = put.spells;
        written = record {
          fits = λ fits. (ap Some full, told.2 ∙ ap (λ l. bs ++ l) rest);
          short = λ less. absurd (omega (arith, told.1, room, full, less));
        };
      }

  no_line : (between : List ℕ) → after ≡ zeros (length between) → length between ≡ length clean → PutPieces (pieces line) clean 0 between None → WrittenLine line buffer after None
  no_line between zero-again long put =
      let less = fell_short put.put in
      record {
        text = put.text;
        shows = put.spells;
        written = record {
          fits = λ fits. absurd (omega (arith, less, room, fits));
          short = λ _. (refl, zero-again ∙ ap zeros (long ∙ room));
        };
      }

  -- The same, by whether a writer that began at 0 has reached a place.
  pub answered : (writer : Writer) (r : Option (Unit {0})) → true ≡ is_some r → PutPieces (pieces line) clean 0 writer.out.now (reached writer r) → writer.out.now ≡ after → WrittenLine line buffer after (Some writer.at)
  answered writer (Some done) some put same = whole_line writer.at (subst (λ l. PutPieces (pieces line) clean 0 l (Some writer.at)) same put)
  answered writer None some put same = absurd (both_ways _ refl (sym some))

  pub unanswered : (writer : Writer) (r : Option (Unit {0})) (between : List ℕ) → false ≡ is_some r → PutPieces (pieces line) clean 0 writer.out.now (reached writer r) → writer.out.now ≡ between → length between ≡ length clean → after ≡ zeros (length between) → WrittenLine line buffer after None
  unanswered writer (Some done) between none put same long zero-again = absurd (both_ways _ (sym none) refl)
  unanswered writer None between none put same long zero-again = no_line between zero-again long (subst (λ l. PutPieces (pieces line) clean 0 l None) same put)

-- What a writer put that began at the front of a buffer.
pub put_from : {ps : List Piece} {buffer clean after : List ℕ} {at : ℕ} {r : Option ℕ} → buffer ≡ clean → at ≡ 0 → (at ≤ length buffer → PutPieces ps buffer at after r) → PutPieces ps clean 0 after r
put_from {ps} {buffer} {clean} {after} {at} {r} same front put =
    subst (λ b. PutPieces ps b 0 after r) same (subst (λ k. PutPieces ps buffer k after r) front (put (omega arith)))

pub one_text : OneText
one_text line =
    let some = some_text (pieces line) in
    (some.0, some.1, λ others shows. same_text (pieces line) others some.0 shows some.1)
