use Rattle.std.proofs.Common.{ap, ◌∙◌}
use Rattle.line.specs.Reached.{reached}
use Rattle.line.proofs.Pieces.{still_inside, piece_then, piece_short, no_piece}
use Rattle.line.proofs.put.Writer.put_pieces.Goals as goal

pub loop-piece-preserved : goal.loop-piece-preserved
loop-piece-preserved c = (
  c.put.ensures.same_buffer ∙ c.loop-piece.invariant.0,
  λ inside. still_inside c.in_ok-put.ensures.written,
  λ after answer put. c.loop-piece.invariant.2 after answer (piece_then c.args.pieces.now c.loop-piece.piece-index _ c.loop-piece-test.true c.in_ok-put.ensures.written put),
)

pub returns-in_err-put : goal.returns-in_err-put
returns-in_err-put c = record {
  same_buffer = c.put.ensures.same_buffer ∙ c.loop-piece.invariant.0;
  written = λ inside. c.loop-piece.invariant.2 _ _ (piece_short c.args.pieces.now c.loop-piece.piece-index _ c.loop-piece-test.true (ap (reached c.put.new.self) c.from_residual.ensures) c.in_err-put.ensures.written);
}

pub returns : goal.returns
returns c = record {
  same_buffer = c.loop-piece.invariant.0;
  written = λ inside. c.loop-piece.invariant.2 _ _ (no_piece c.args.pieces.now c.loop-piece.piece-index c.loop-piece.self.out.now c.loop-piece.self.at c.loop-piece-test.false (c.loop-piece.invariant.1 inside));
}
