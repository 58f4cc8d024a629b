-- The refusals to seal tables, by the number of the question that got a no.
use Rattle.std.specs.Prelude.{ℕ, Option, Some, None}
use Rattle.sealed.specs.declared.questions.Unsealed.{Unsealed}
use Rattle.sealed.specs.declared.questions.Unsealed.TheVariants.{TooMany, NoModel, Ambiguous, NoTree}

-- Question 13: are there at most 63 elements? 19: is no model ambiguous? 20: has every element a valid
-- tree? Whether an element has a model of declared names is no question of its own: whoever writes tables
-- from declarations writes a model for each element. It is asked of tables that come from elsewhere.
abbrev pub number : Unsealed → Option ℕ
number TooMany = Some 13
number (NoModel n) = None
number (Ambiguous n) = Some 19
number (NoTree n) = Some 20
