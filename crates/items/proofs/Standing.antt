-- Whether a word stands there.
use Rattle.std.proofs.Common.{◌≡◌, ℕ, true, false, List, Some, None, refl}
use Rattle.scan.specs.Readings.{Front, bad, got, EndOf}
use Rattle.items.specs.Readers.{there}

pub there_some : {A : Type 0} (text : List ℕ) (at e : ℕ) (f : Front A) → EndOf text at f (Some e) → true ≡ there f
there_some text at e bad h = absurd h
there_some text at e (got v rest) h = refl

pub there_none : {A : Type 0} (text : List ℕ) (at : ℕ) (f : Front A) → EndOf text at f None → false ≡ there f
there_none text at bad h = refl
there_none text at (got v rest) h = absurd h
