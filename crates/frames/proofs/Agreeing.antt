-- What was found of each number makes what is agreed.
use Rattle.std.proofs.Common.{ℕ, ◌<◌, ◌≤◌, Bool, true, false, length, MatchBool, arith}
use Rattle.std.specs.List.{range_with_len, HoldsAt, AllWithin}
use Rattle.frames.specs.Agreements.{Agreed, Agrees, AgreesAt}
use Rattle.frames.specs.Meanings.{Meaning}
use Rattle.frames.proofs.Ranges.{each_in_range, one_in_range}

module _ (m : Meaning) where
  -- What was found of every number from 1 to 63 is what is agreed.
  pub agreed_all : ((n : ℕ) → 1 ≤ n → n < 64 → AgreesAt m n true) → Agreed m.contents m.values
  agreed_all h = record {
    law = (h 1 (omega arith) (omega arith)).0;
    values = λ n low high. (h n low (omega arith)).1;
    bytes = λ n low high. (h n low (omega arith)).2;
  }

  pub agrees_by_each : (r : Bool) → MatchBool r (AllWithin (λ n. AgreesAt m n true) (range_with_len 1 63) 0 (length (range_with_len 1 63)))
      ((k : ℕ) × (k < length (range_with_len 1 63)) × HoldsAt (λ n. AgreesAt m n false) (range_with_len 1 63) k) → Agrees m r
  agrees_by_each true all = agreed_all (each_in_range (λ n. AgreesAt m n true) 1 63 all)
  agrees_by_each false one =
      let (n, low, high, (valued, unplain)) = one_in_range (λ n. AgreesAt m n false) 1 63 one in
      (n, low, omega arith, valued, unplain)
