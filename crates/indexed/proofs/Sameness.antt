-- What a truncated equation of tables still says: tables are sets, so that the equation itself comes out.
use Rattle.std.proofs.Common.{◌≡◌, List, subst}
use mathlib.Core.Logic.{∥∥₁_elim}
use base.Stored.{coded_list, Coded-set}
use Rattle.engine.specs.declared.alphabet.ContentAtom.{ContentAtom}
use Rattle.engine.specs.contracts.alphabet.ContentAtom.{the_row as atom_row}
use Rattle.models.specs.contracts.node.Model.{the_row as model_row}
use Rattle.models.specs.contracts.node.Node.{the_row as Node-row}
use Rattle.models.specs.declared.node.Model.{Model}
use Rattle.models.specs.declared.node.Node.{Node}

same_nodes : (a b : List (Node ContentAtom)) → ∥ a ≡ b ∥₁ → a ≡ b
same_nodes a b h = ∥∥₁_elim h (Coded-set (coded_list (Node-row atom_row).coded) a b) (λ e. e)

same_models : (a b : List Model) → ∥ a ≡ b ∥₁ → a ≡ b
same_models a b h = ∥∥₁_elim h (Coded-set (coded_list model_row.coded) a b) (λ e. e)

-- So what holds of some tables holds of the same tables.
pub of_the_same : (P : List (Node ContentAtom) → List Model → Type 0) (a b : List (Node ContentAtom)) → ∥ a ≡ b ∥₁ → (m n : List Model) → ∥ m ≡ n ∥₁ → P a m → P b n
of_the_same P a b is m n are h = subst (P b) (same_models m n are) (subst (λ c. P c m) (same_nodes a b is) h)
