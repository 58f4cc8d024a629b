-- What follows from what is said of an option's value.
use Rattle.std.proofs.Common.{Some, None, Option}
use Rattle.std.specs.Option.{MatchOption}

pub match_then : {X : Type 0} (N : Type 0) (o : Option X) {P Q : X → Type 0} → MatchOption o N P → ((x : X) → P x → Q x) → MatchOption o N Q
match_then N None h then = h
match_then N (Some x) h then = then x h
