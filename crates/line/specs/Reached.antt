-- The place that a writer reached.
use Rattle.std.specs.Prelude.{ℕ, Some, None, Option}
use Rattle.line.specs.declared.put.Writer.{Writer}

-- The place behind what was put, or none where that had no room.
abbrev pub reached : Writer → Option (Unit {0}) → Option ℕ
reached writer (Some done) = Some writer.at
reached writer None = None
