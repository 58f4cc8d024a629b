-- What the answers of a sheet say, as replies.
use Rattle.std.specs.Prelude.{Ok, Err, Result}
use Rattle.calls.specs.Replies.{Reply, accepted, refused, pass, number}
use Rattle.calls.specs.declared.answer.Refusal.{Refusal}
use Rattle.sheet.specs.declared.pass.Pass.{Pass}

-- What the answer to a begin, a start, a text or an end says.
abbrev pub outcome : {X : Type 0} → Result X Refusal → Reply
outcome (Ok u) = accepted
outcome (Err r) = refused (number r)

-- What the answer to a finish says.
abbrev pub verdict : Result Pass Refusal → Reply
verdict (Ok p) = pass p.root p.events
verdict (Err r) = refused (number r)
