-- What the nesting element may hold.
use Rattle.std.specs.Prelude.{◌≡◌, ℕ}
use Rattle.engine.specs.Languages.{Language, Each}
use Rattle.engine.specs.declared.alphabet.Letter.{Letter}
use Rattle.engine.specs.declared.alphabet.Letter.TheVariants.{Text, Element}

-- Text, or element 1.
abbrev pub Nested : Letter → Type 0
Nested Text = Unit {0}
Nested (Element n) = n ≡ 1

-- Element 1 holds any word of text and itself; no other number is declared.
abbrev pub Nests : ℕ → Language Letter
Nests n w = (n ≡ 1) × Each Nested w

-- State 0 leaves all of that, and any other state nothing.
abbrev pub NestLeft : ℕ → ℕ → Language Letter
NestLeft n s w = (s ≡ 0) × Nests n w
