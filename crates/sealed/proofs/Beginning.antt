-- A walk that has met nothing yet; and what the nodes of a number say of its model.
use Rattle.std.proofs.Common.{ℕ, Bool, true, false, List, length, refl, sym, subst, inl, inr, arith}
use borrow.Author.Tests.{both_ways}
use Rattle.bits.specs.Sets.{has}
use Rattle.bits.proofs.Bits.{single_has}
use Rattle.bits.proofs.Sets as sets
use Rattle.engine.specs.Languages.{Each, Decides}
use Rattle.engine.specs.declared.alphabet.ContentAtom.{ContentAtom}
use Rattle.models.specs.Expressions.{Exp}
use Rattle.models.specs.Folds.{Codes}
use Rattle.models.specs.Readers.{atoms_of}
use Rattle.models.specs.Tables.{NodesOf}
use Rattle.models.specs.declared.node.Model.{Model}
use Rattle.models.specs.declared.node.Node.{Node}
use Rattle.sealed.specs.Checks.{Names, HasModel}
use Rattle.sealed.proofs.Walking.{Walked}

pub walked_none : (nodes : List (Node ContentAtom)) → Walked nodes 0 0
walked_none nodes = record {
  walk = λ e c. record {
    onward = λ p h. absurd (both_ways (has 0 p) (sets.empty p) h);
    beginning = inr refl;
    led = λ never. (0, λ w h. inl (single_has 0 (omega arith), h));
  };
  some = λ p h. absurd (both_ways (has 0 p) (sets.empty p) h);
  low = omega arith;
}

module _ (nodes : List (Node ContentAtom)) (models : List Model) (n : ℕ) (slice : List (Node ContentAtom)) (is : NodesOf nodes models n slice) where
  pub model_told : (e : Exp ContentAtom) → Codes 64 slice e → (b : Bool) → Decides b (Each (Names (length models)) (atoms_of slice)) → Decides b (HasModel nodes models n)
  model_told e c true h = (e, (is e).0 c, subst (λ ns. Each (Names (length models)) (atoms_of ns)) c.coded h)
  model_told e c false h =
      λ (f, d, k). h (subst (λ ns. Each (Names (length models)) (atoms_of ns)) (sym ((is f).1 d).coded) k)
