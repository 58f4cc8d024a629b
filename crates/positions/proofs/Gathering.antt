-- A walk that takes each number out of a set gathers what every number of the set gives.
use Rattle.std.proofs.Common.{◌≡◌, ℕ, true, ◌⊎◌, None, Some, sym, refl, ◌∙◌, subst, inl, inr, eq-eqb, eqb-true}
use native.Mathlib.Decide.{ℕ_discrete}
use borrow.Author.Tests.{both_ways}
use Rattle.bits.specs.Sets.{Has, has, TakesLowest}
use Rattle.bits.proofs.Bits.{has_none}
use Rattle.models.proofs.Derivation.{Iff}

-- Taking out the lowest number leaves the others.
taken : (left left' p : ℕ) → TakesLowest left (Some p) left' → Has left p × ((n : ℕ) → Has left' n → Has left n × (n ≡ p → ⊥)) × ((n : ℕ) → Has left n → (n ≡ p → ⊥) → Has left' n)
taken left left' p t = (
  eqb-true _ 1 t.1,
  λ n h.
      let there : has left' n ≡ true = eq-eqb _ 1 h in
      let other : n ≡ p → ⊥ = λ e. both_ways (has left' p) t.3 (subst (λ m. has left' m ≡ true) e there) in
      (eqb-true _ 1 (sym (t.4 n other) ∙ there), other),
  λ n h ne. eqb-true _ 1 (t.4 n ne ∙ eq-eqb _ 1 h),
)

-- What the numbers that were taken out so far gave.
abbrev pub Gathered : (ℕ → ℕ → Type 0) → ℕ → ℕ → ℕ → Type 0
Gathered gives set left got =
    ((n : ℕ) → Has left n → Has set n) × ((n : ℕ) → Iff (Has got n) ((p : ℕ) × (Has set p × (Has left p → ⊥)) × gives p n))

module _ (gives : ℕ → ℕ → Type 0) (set : ℕ) where
  pub gathered_more : (left left' p got got' : ℕ) → TakesLowest left (Some p) left' → Gathered gives set left got → ((n : ℕ) → Iff (Has got' n) (Has got n ⊎ gives p n)) → Gathered gives set left' got'
  gathered_more left left' p got got' t so_far step =
      let (here, out, kept) = taken left left' p t in (
        λ n h. so_far.0 n (out n h).0,
        λ n. (
          λ h. elim ((step n).0 h) [
            | inl k ↦ let (q, known, g) = (so_far.1 n).0 k in (q, (known.0, λ m. known.1 (out q m).0), g)
            | inr g ↦ (p, (so_far.0 p here, λ m. (out p m).1 refl), g)
          ],
          λ h. let (q, known, g) = h in elim (ℕ_discrete q p) [
            | yes e ↦ (step n).1 (inr (subst (λ r. gives r n) e g))
            | no ne ↦ (step n).1 (inl ((so_far.1 n).1 (q, (known.0, λ m. known.1 (kept q m ne)), g)))
          ],
        ),
      )

  pub gathered_all : (left left' got : ℕ) → TakesLowest left None left' → Gathered gives set left got → (n : ℕ) → Iff (Has got n) ((p : ℕ) × Has set p × gives p n)
  gathered_all left left' got t so_far n = (
    λ h. let (q, known, g) = (so_far.1 n).0 h in (q, known.0, g),
    λ h. (so_far.1 n).1 (h.0, (h.1, λ m. has_none h.0 (subst (λ s. Has s h.0) t.0 m)), h.2),
  )
