-- Every answer of a sheet, shown case by case: accepted, refused by a number, or a pass with its two numbers.
use Rattle.std.specs.Prelude.{ℕ, Bool, true, false, Ok, Err, Result}
use Rattle.calls.specs.declared.answer.Granted.{Granted}
use Rattle.calls.specs.declared.answer.Granted.TheVariants.{Accepted, Passed}
use Rattle.calls.specs.declared.answer.Refusal.{Refusal}
use Rattle.calls.specs.declared.answer.Refusal.TheVariants.{NotFresh, RootUndeclared, ValueNotPlain, NotUnderway, NotKnown, Offending, TooDeep, TooMany, RootOpen}

pub data Reply : Type 0 where
  accepted : Reply
  refused : ℕ → Reply
  pass : ℕ → ℕ → Reply

-- The number of each refusal.
abbrev pub number : Refusal → ℕ
number NotFresh = 31
number RootUndeclared = 32
number ValueNotPlain = 33
number NotUnderway = 34
number NotKnown = 35
number Offending = 36
number TooDeep = 37
number TooMany = 38
number RootOpen = 39

-- A recorded answer.
abbrev pub Recorded : Type 0
Recorded = Result Granted Refusal

-- What a recorded answer says.
abbrev pub shown : Recorded → Reply
shown (Ok Accepted) = accepted
shown (Ok (Passed root events)) = pass root events
shown (Err r) = refused (number r)

-- Whether the reply is a refusal.
abbrev pub IsRefused : Reply → Bool
IsRefused accepted = false
IsRefused (refused n) = true
IsRefused (pass r n) = false
