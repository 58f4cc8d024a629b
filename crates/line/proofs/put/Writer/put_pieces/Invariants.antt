use Rattle.std.proofs.Common.{◌≡◌, ℕ, ◌≤◌, List, length, drop, map, Option}
use Rattle.line.specs.Pieces.{said}
use Rattle.line.specs.Placed.{PutPieces}
use Rattle.line.proofs.put.Writer.put_pieces.Given as goal

-- What puts the pieces that are left puts all of them.
abbrev pub invariant-loop-piece : goal.invariant-loop-piece
invariant-loop-piece l =
    (l.self.out.ghost_name ≡ l.initial.self.out.ghost_name)
    × (l.initial.self.at ≤ length l.initial.self.out.now → l.self.at ≤ length l.self.out.now)
    × ((after : List ℕ) (answer : Option ℕ) → PutPieces (map said (drop l.piece-index l.pieces)) l.self.out.now l.self.at after answer → PutPieces (map said l.pieces) l.initial.self.out.now l.initial.self.at after answer)
