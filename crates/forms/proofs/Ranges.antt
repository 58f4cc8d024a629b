-- A range of bytes is told by its two ends.
use Rattle.std.proofs.Common.{◌≡◌, ℕ, ◌<◌, ◌≤◌, ap₂, subst₂}
use native.Mathlib.Bridge.{le_prop}
use Rattle.engine.specs.declared.range.ByteRange.{ByteRange}

-- Two ranges with the same ends are the same: that the ends are in order is no part of the data.
pub same_range : (a b : ByteRange) → a.low ≡ b.low → a.high ≡ b.high → a ≡ b
same_range a b low high = subst₂ Ends low high again b.ordered
  where
    Ends : ℕ → ℕ → Type 0
    Ends l h = (o : (l ≤ h) × (h < 256)) → ◌≡◌ {A = ByteRange} a (record { low = l; high = h; ordered = o })

    again : Ends a.low a.high
    again o =
        ap₂ (λ p q. record { low = a.low; high = a.high; ordered = (p, q) }) (le_prop a.ordered.0 o.0) (le_prop a.ordered.1 o.1)
