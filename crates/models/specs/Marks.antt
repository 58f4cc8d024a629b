-- Marked words: which atom read each letter; what may follow an atom; when an expression is ambiguous.
use Rattle.std.specs.Prelude.{◌≡◌, ℕ, ◌≢◌, ◌⊎◌, List, [], ◌∷◌, ◌++◌}
use Rattle.engine.specs.Languages.{Language}
use Rattle.models.specs.Expressions.{Exp, In}

-- A letter, and which atom read it.
abbrev pub Mark : Type 0 → Type 0
Mark X = X × ℕ

-- An atom reads a marked letter that bears its number and whose letter it stands for.
abbrev pub ReadsMarked : {A X : Type 0} → (A → X → Type 0) → ℕ → A → Mark X → Type 0
ReadsMarked stands n a m = stands a m.0 × (m.1 ≡ n)

-- The marked words of an expression.
abbrev pub MarkedWords : {A X : Type 0} → (A → X → Type 0) → Exp A → Language (Mark X)
MarkedWords stands e = In (ReadsMarked stands) e 0

-- The marked word was read up to atom p: its last letter bears p; 0 means the beginning.
abbrev pub UpTo : {X : Type 0} → ℕ → List (Mark X) → Type 0
UpTo {X} p u = ((p ≡ 0) × (u ≡ [])) ⊎ ((u' : List (Mark X)) × (x : X) × (u ≡ u' ++ ((x, p) ∷ [])))

-- Some marked word has atom q straight after atom p.
abbrev pub Follows : {A X : Type 0} → (A → X → Type 0) → Exp A → ℕ → ℕ → Type 0
Follows {X = X} stands e p q =
    (u : List (Mark X)) × (x : X) × (v : List (Mark X)) × UpTo p u × MarkedWords stands e (u ++ ((x, q) ∷ v))

-- A marked word may end after atom p.
abbrev pub EndsAfter : {A X : Type 0} → (A → X → Type 0) → Exp A → ℕ → Type 0
EndsAfter {X = X} stands e p = (u : List (Mark X)) × UpTo p u × MarkedWords stands e u

-- Ambiguity: after the same marked beginning, one letter is read by either of two atoms, and each way
-- goes on to a marked word.
pub record Ambiguous {A X : Type 0} (stands : A → X → Type 0) (e : Exp A) : Type 0 where
  pub shared : List (Mark X)
  pub letter : X
  pub one : ℕ
  pub other : ℕ
  pub differ : one ≢ other
  pub after_one : List (Mark X)
  pub after_other : List (Mark X)
  pub first_word : MarkedWords stands e (shared ++ ((letter, one) ∷ after_one))
  pub second_word : MarkedWords stands e (shared ++ ((letter, other) ∷ after_other))
