-- Equal words have equal first letters and equal rests.
use Rattle.std.proofs.Common.{◌≡◌, ℕ, List, ◌∷◌, arith}
use Rattle.engine.specs.declared.alphabet.Letter.{Letter}
use Rattle.engine.specs.declared.alphabet.Letter.TheVariants.{Text, Element}

pub head : {A : Type 0} {a b : A} {u w : List A} → ◌≡◌ {A = List A} (a ∷ u) (b ∷ w) → a ≡ b
head e = cc

pub tail : {A : Type 0} {a b : A} {u w : List A} → ◌≡◌ {A = List A} (a ∷ u) (b ∷ w) → u ≡ w
tail e = cc

pub longer : {A : Type 0} {a b : A} {u w : List A} → a ≡ b → u ≡ w → ◌≡◌ {A = List A} (a ∷ u) (b ∷ w)
longer p q = cc

pub child_is : {m n : ℕ} {u w : List Letter} → ◌≡◌ {A = List Letter} (Element m ∷ u) (Element n ∷ w) → m ≡ n
child_is e = cc

pub no_child : {n : ℕ} {u w : List Letter} → ◌≡◌ {A = List Letter} (Text ∷ u) (Element n ∷ w) → ⊥
no_child e = let z : ◌≡◌ {A = ℕ} 0 1 = cc in omega arith
