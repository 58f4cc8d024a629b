use Rattle.std.proofs.Common.{[], ◌∷◌, sym, subst}
use Rattle.line.specs.Pieces.{said}
use Rattle.line.specs.Placed.{PutPieces}
use Rattle.line.specs.Reached.{reached}
use Rattle.line.proofs.Pieces.{bytes_put, number_put}
use Rattle.line.proofs.put.Writer.put.Goals as goal

pub returns-in-Verbatim-clause-written : goal.returns-in-Verbatim-clause-written
returns-in-Verbatim-clause-written c =
    let before = c.args.self.now in
    let after = c.put_bytes.new.self in
    subst (λ piece. PutPieces (said piece ∷ []) before.out.now before.at after.out.now (reached after c.put_bytes.result)) (sym c.in-Verbatim.is) (bytes_put c.put_bytes.ensures.written)

pub returns-in-Decimal-clause-written : goal.returns-in-Decimal-clause-written
returns-in-Decimal-clause-written c =
    let before = c.args.self.now in
    let after = c.put_number.new.self in
    subst (λ piece. PutPieces (said piece ∷ []) before.out.now before.at after.out.now (reached after c.put_number.result)) (sym c.in-Decimal.is) (number_put c.put_number.ensures.written)
