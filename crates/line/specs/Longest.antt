-- How long a line can be.
use Rattle.std.specs.Prelude.{ℕ, ◌^◌, ◌<◌, ◌≤◌, List, length}
use Rattle.line.specs.Lines.{Shows}
use Rattle.line.specs.declared.lines.Line.{Line}
use Rattle.line.specs.declared.lines.Line.TheVariants.{Pass, Refused, RefusedAgreement}

-- The numbers of the line are numbers of their types.
abbrev pub Typed : Line → Type 0
Typed (Pass events bytes) = (events < 2 ^ 32) × (bytes < 2 ^ 64)
Typed (Refused refusal layer events byte name) = (refusal < 2 ^ 8) × (events < 2 ^ 32) × (byte < 2 ^ 64)
Typed (RefusedAgreement refusal layer byte) = (refusal < 2 ^ 8) × (byte < 2 ^ 64)

-- The line's name, if it has one, has no more bytes than this.
abbrev pub NameWithin : ℕ → Line → Type 0
NameWithin most (Pass events bytes) = Unit {0}
NameWithin most (Refused refusal layer events byte name) = length name.now ≤ most
NameWithin most (RefusedAgreement refusal layer byte) = Unit {0}

-- No line whose name is that short is longer than this.
abbrev pub NoneLonger : ℕ → ℕ → Type 0
NoneLonger most_of_name most = (line : Line) → Typed line → NameWithin most_of_name line → (bs : List ℕ) → Shows line bs → length bs ≤ most
