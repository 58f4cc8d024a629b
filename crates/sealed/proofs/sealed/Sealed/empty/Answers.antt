use Rattle.sealed.proofs.Checking.{none_sealable}
use Rattle.sealed.proofs.sealed.Sealed.empty.Goals as goal

pub invariant_of-result : goal.invariant_of-result
invariant_of-result c = record { checked = ∣ none_sealable ∣₁ }
