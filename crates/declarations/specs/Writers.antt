-- Where the nodes of a model are written.
use Rattle.std.specs.Prelude.{Bool}
use Rattle.engine.specs.declared.alphabet.ContentAtom.{ContentAtom}
use Rattle.writing.specs.declared.writer.Writer.{Writer}

-- A writer that tells whether each name that was written has a number.
abbrev pub ModelWriter : Type 0
ModelWriter = Writer ContentAtom Bool
