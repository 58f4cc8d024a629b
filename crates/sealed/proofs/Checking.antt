-- What is found of models is what the definitions say.
use Rattle.std.proofs.Common.{ℕ, ◌≤◌, List, [], length, Option, subst, arith, take_all}
use Rattle.engine.specs.declared.alphabet.ContentAtom.{ContentAtom}
use Rattle.models.specs.declared.node.Model.{Model}
use Rattle.models.specs.declared.node.Node.{Node}
use Rattle.sealing.specs.Questions.{FirstNo, HasTree, HasNoTree, IsAmbiguous, Unambiguous, elements}
use Rattle.sealed.specs.Checks.{Sealable}

-- With at most 63 records, all of them are of elements.
module _ (nodes : List (Node ContentAtom)) (models : List Model) (few : length models ≤ 63) (answer : Option ℕ) where
  pub ambiguity_here : FirstNo (Unambiguous nodes (elements models)) (IsAmbiguous nodes (elements models)) (length (elements models)) answer → FirstNo (Unambiguous nodes models) (IsAmbiguous nodes models) (length models) answer
  ambiguity_here = subst (λ ms. FirstNo (Unambiguous nodes ms) (IsAmbiguous nodes ms) (length ms) answer) (take_all 63 models few)

  pub trees_here : FirstNo (HasTree nodes (elements models)) (HasNoTree nodes (elements models)) (length (elements models)) answer → FirstNo (HasTree nodes models) (HasNoTree nodes models) (length models) answer
  trees_here = subst (λ ms. FirstNo (HasTree nodes ms) (HasNoTree nodes ms) (length ms) answer) (take_all 63 models few)

-- Tables without elements may be sealed.
pub none_sealable : Sealable [] []
none_sealable = record {
  few = omega arith;
  modelled = λ n low high. absurd (omega arith);
  unambiguous = λ n low high. absurd (omega arith);
  trees = λ n low high. absurd (omega arith);
}
