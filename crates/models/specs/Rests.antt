-- What may still follow when one of a set of atoms was read last.
use Rattle.std.specs.Prelude.{◌≡◌, ℕ, ◌+◌, ◌⊎◌, []}
use Rattle.engine.specs.Languages.{Language}
use Rattle.models.specs.Expressions.{Exp, empty, atom, seq, alt, star, plus, option, atoms, Then, Many, In}

-- The words that may follow when one of the atoms in the set was read last.
abbrev pub Rest : {A X : Type 0} → (ℕ → A → X → Type 0) → Exp A → ℕ → (ℕ → Type 0) → Language X
Rest reads empty before set w = ⊥
Rest reads (atom a) before set w = set (before + 1) × (w ≡ [])
Rest reads (seq e f) before set w =
    Then (Rest reads e before set) (In reads f (before + atoms e)) w ⊎ Rest reads f (before + atoms e) set w
Rest reads (alt e f) before set w = Rest reads e before set w ⊎ Rest reads f (before + atoms e) set w
Rest reads (star e) before set w = Then (Rest reads e before set) (Many (In reads e before)) w
Rest reads (plus e) before set w = Then (Rest reads e before set) (Many (In reads e before)) w
Rest reads (option e) before set w = Rest reads e before set w
