-- The questions about declarations and forms, by their numbers.
use Rattle.std.specs.Prelude.{ℕ}
use Rattle.drafts.specs.declared.refusal.Question.{Question}
use Rattle.drafts.specs.declared.refusal.Question.TheVariants.{Length, Form, Record, Atoms, NewName, Declared, Once, Nodes, Unambiguous, Tree, Plain}

abbrev pub number : Question → ℕ
number Length = 11
number Form = 12
number Record = 13
number Atoms = 14
number NewName = 15
number Declared = 16
number Once = 17
number Nodes = 18
number Unambiguous = 19
number Tree = 20
number Plain = 21
