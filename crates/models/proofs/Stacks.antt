-- The first places of a slice as a stack: what a write to the slice does to it.
use Rattle.std.proofs.Common.{◌≡◌, ℕ, true, false, ltb, List, [], ◌∷◌, length, replicate, Some, None, refl, ap₂, subst}
use Rattle.std.specs.List.{FoldsTo}
use Rattle.models.specs.Turns.{Stack, pushed}

pub pushed_true : {V : Type 0} (room : ℕ) (v : V) (s : Stack V) → ltb (length s.0) room ≡ true → pushed room v s ≡ Some (v ∷ s.0, s.1)
pushed_true room v s t = rw (t, pushed)

pub pushed_false : {V : Type 0} (room : ℕ) (v : V) (s : Stack V) → ltb (length s.0) room ≡ false → pushed room v s ≡ None
pushed_false room v s t = rw (t, pushed)

-- A list whose items are what one closure answers each time is that answer again and again.
pub filled : {P V : Type 0} (R : P → V → P → Type 0) (v : V) (f : P) → ((x : V) (q : P) → R f x q → (x ≡ v) × (q ≡ f)) → (xs : List V) (p q : P) → p ≡ f → FoldsTo R p xs q → xs ≡ replicate (length xs) v
filled R v f same [] p q is h = refl
filled R v f same (x ∷ xs) p q is (j, one, more) =
    let made = same x j (subst (λ k. R k x j) is one) in
    ap₂ ◌∷◌ made.0 (filled R v f same xs j q made.1 more)
