-- The refusal to make a follow table, by the number of the question that got a no.
use Rattle.std.specs.Prelude.{ℕ}
use Rattle.positions.specs.declared.table.filling.TooFewPlaces.{TooFewPlaces}

-- Question 22: are there 64 places for each element?
abbrev pub number : TooFewPlaces → ℕ
number refusal = 22
