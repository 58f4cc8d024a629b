-- What was asked of tables before they are sealed.
use Rattle.std.specs.Prelude.{ℕ, ◌<◌, ◌≤◌, List, length, Some, None, Ok, Err, Result}
use Rattle.engine.specs.Languages.{Each}
use Rattle.engine.specs.declared.alphabet.ContentAtom.{ContentAtom}
use Rattle.engine.specs.declared.alphabet.ContentAtom.TheVariants as atom
use Rattle.models.specs.Expressions.{Exp}
use Rattle.models.specs.Folds.{code}
use Rattle.models.specs.Readers.{atoms_of}
use Rattle.models.specs.Tables.{Coded}
use Rattle.models.specs.declared.node.Model.{Model}
use Rattle.models.specs.declared.node.Node.{Node}
use Rattle.sealed.specs.declared.questions.Unsealed.{Unsealed}
use Rattle.sealed.specs.declared.questions.Unsealed.TheVariants as refused
use Rattle.sealing.specs.Questions.{FirstNo, HasTree, HasNoTree, IsAmbiguous, Unambiguous}

-- The atom names text, one of the elements up to the last one, or text and elements up to that one.
abbrev pub Names : ℕ → ContentAtom → Type 0
Names last atom.Text = Unit {0}
Names last (atom.Element n) = (1 ≤ n) × (n ≤ last)
Names last (atom.All n) = n ≤ last

-- The element has a model, whose atoms name elements that have a record.
abbrev pub HasModel : List (Node ContentAtom) → List Model → ℕ → Type 0
HasModel nodes models n = (e : Exp ContentAtom) × Coded nodes models n e × Each (Names (length models)) (atoms_of (code e))

-- The element has no such model.
abbrev pub HasNoModel : List (Node ContentAtom) → List Model → ℕ → Type 0
HasNoModel nodes models n = HasModel nodes models n → ⊥

-- Tables that may be sealed: there are at most 63 elements; each has a model, no model is ambiguous, and
-- each element has a valid tree, values left aside.
pub record Sealable (nodes : List (Node ContentAtom)) (models : List Model) : Type 0 where
  pub few : length models ≤ 63
  pub modelled : (n : ℕ) → 1 ≤ n → n ≤ length models → HasModel nodes models n
  pub unambiguous : (n : ℕ) → 1 ≤ n → n ≤ length models → Unambiguous nodes models n
  pub trees : (n : ℕ) → 1 ≤ n → n ≤ length models → HasTree nodes models n

-- What a check of the tables answers: they may be sealed, or the first question whose answer is no, in the
-- order of the questions, with the first element that it is no for.
abbrev pub Judged : List (Node ContentAtom) → List Model → Result (Unit {0}) Unsealed → Type 0
Judged nodes models (Ok done) = Sealable nodes models
Judged nodes models (Err refused.TooMany) = 63 < length models
Judged nodes models (Err (refused.NoModel n)) =
    (length models ≤ 63) × FirstNo (HasModel nodes models) (HasNoModel nodes models) (length models) (Some n)
Judged nodes models (Err (refused.Ambiguous n)) =
    (length models ≤ 63) × FirstNo (HasModel nodes models) (HasNoModel nodes models) (length models) None
    × FirstNo (Unambiguous nodes models) (IsAmbiguous nodes models) (length models) (Some n)
Judged nodes models (Err (refused.NoTree n)) =
    (length models ≤ 63) × FirstNo (HasModel nodes models) (HasNoModel nodes models) (length models) None
    × FirstNo (Unambiguous nodes models) (IsAmbiguous nodes models) (length models) None
    × FirstNo (HasTree nodes models) (HasNoTree nodes models) (length models) (Some n)
