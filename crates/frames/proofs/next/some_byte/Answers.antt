use Rattle.std.proofs.Common.{ℕ, ◌<◌, [], ◌∷◌, Bool, true, false, length, MatchBool, refl, arith, rules}
use Rattle.std.specs.List.{range_with_len, HoldsAt, AllWithin}
use Rattle.std.proofs.lemmas.Iterator.{cases_from_any, YieldsList-from_range}
use Rattle.engine.specs.Languages.{Language, Decides, Inhabited, residue}
use Rattle.frames.specs.Next.{SomeByte}
use Rattle.frames.proofs.Ranges.{each_in_range, one_in_range}
use Rattle.frames.proofs.next.some_byte.Goals as goal

module _ (left : Language ℕ) where
  abbrev Goes : ℕ → Type 0
  Goes b = Inhabited (residue left (b ∷ []))

  decides_some : (r : Bool) → MatchBool r ((k : ℕ) × (k < length (range_with_len 0 256)) × HoldsAt Goes (range_with_len 0 256) k)
      (AllWithin (λ b. Goes b → ⊥) (range_with_len 0 256) 0 (length (range_with_len 0 256))) → Decides r (SomeByte left)
  decides_some true one = let (b, low, high, goes) = one_in_range Goes 0 256 one in (b, high, goes)
  decides_some false all = λ (b, high, goes). each_in_range (λ b. Goes b → ⊥) 0 256 all b (omega arith) high goes

pub returns : goal.returns
returns g c =
    let left = g.V.Engine.rest c.args.value.now c.args.number c.args.state in
    decides_some left c.any.result
    (cases_from_any _ _ _ (λ b. Inhabited (residue left (b ∷ []))) (λ b. Inhabited (residue left (b ∷ [])) → ⊥) c.any.ensures.ran (YieldsList-from_range 0 256 256 refl refl) (λ b q k. search rules) (λ b q k. search rules))
