use Rattle.std.proofs.Common.{[], ◌∷◌, codes, sym, subst}
use Rattle.line.specs.Lines.{pieces, name_label, line_end}
use Rattle.line.specs.Pieces.{verbatim, decimal}
use Rattle.line.specs.Placed.{PutPieces}
use Rattle.line.specs.Reached.{reached}
use Rattle.line.proofs.lines.Line.put.Goals as goal

pub returns-in-Pass-clause-written : goal.returns-in-Pass-clause-written
returns-in-Pass-clause-written c inside =
    let before = c.args.writer.now in
    let after = c.put_pieces.new.self in
    subst (λ line. PutPieces (pieces line) before.out.now before.at after.out.now (reached after c.put_pieces.result)) (sym c.in-Pass.is) (c.put_pieces.ensures.written inside)

pub returns-in-Refused-clause-written : goal.returns-in-Refused-clause-written
returns-in-Refused-clause-written c inside =
    let before = c.args.writer.now in
    let after = c.put_pieces-in-Refused.new.self in
    let answer = reached after c.put_pieces-in-Refused.result in
    let refusal = c.in-Refused.refusal in
    let events = c.in-Refused.events in
    let byte = c.in-Refused.byte in
    let name = c.in-Refused.name.now in
    subst (λ line. PutPieces (pieces line) before.out.now before.at after.out.now answer) (sym c.in-Refused.is)
    (subst (λ word. PutPieces (verbatim (codes "[refused ") ∷ decimal refusal ∷ verbatim (codes " [layer ") ∷ verbatim word ∷ verbatim (codes "] [events ") ∷ decimal events ∷ verbatim (codes "] [byte ") ∷ decimal byte ∷ verbatim (name_label name) ∷ verbatim name ∷ line_end ∷ []) before.out.now before.at after.out.now answer) c.word.ensures
    (subst (λ label. PutPieces (verbatim (codes "[refused ") ∷ decimal refusal ∷ verbatim (codes " [layer ") ∷ verbatim c.word.result.now ∷ verbatim (codes "] [events ") ∷ decimal events ∷ verbatim (codes "] [byte ") ∷ decimal byte ∷ verbatim label ∷ verbatim name ∷ line_end ∷ []) before.out.now before.at after.out.now answer) c.label_of.ensures
    (c.put_pieces-in-Refused.ensures.written inside)))
