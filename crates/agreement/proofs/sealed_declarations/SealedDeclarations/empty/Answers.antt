use Rattle.std.proofs.Common.{◌≡◌, ◌-◌, List, length, replicate, sym, refl, subst}
use Rattle.engine.specs.declared.alphabet.ContentAtom.{ContentAtom}
use Rattle.models.specs.declared.node.Node.{Node}
use Rattle.models.specs.declared.node.Node.TheVariants.{Unused}
use Rattle.scan.specs.Readings.{turns}
use Rattle.declarations.specs.Readers.{item}
use Rattle.drafts.specs.Drafted.{found_in}
use Rattle.agreement.proofs.sealed_declarations.SealedDeclarations.empty.Goals as goal

pub invariant_of-result : goal.invariant_of-result
unfolding turns item found_in
invariant_of-result c =
    let P : List (Node ContentAtom) → Type 0 = λ ns. ns ≡ replicate (length ns - 0) Unused in
    record { named = refl; coded = ∣ subst P (sym c.empty.ensures.tables.0) refl ∣₁; placed = ∣ c.empty.ensures.tables.1 ∣₁ }
