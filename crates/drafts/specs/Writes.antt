-- What is written into the tables for the declarations of a text.
use Rattle.std.specs.Prelude.{◌≡◌, ℕ, ◌≤◌, List}
use Rattle.engine.specs.declared.alphabet.ContentAtom.{ContentAtom}
use Rattle.models.specs.declared.node.Model.{Model}
use Rattle.models.specs.declared.node.Node.{Node}
use Rattle.scan.specs.Lists.{puts}
use Rattle.scan.specs.declared.entry.Entry.{Entry}
use Rattle.declarations.specs.Contents.{Placed}
use Rattle.drafts.specs.Asks.{Listed}
use Rattle.drafts.specs.Layouts.{all_code, runs_from}
use Rattle.drafts.specs.Questions.{declared_names, nodes_of}
use Rattle.drafts.specs.Tables.{models_in}

-- The nodes of the models of these declarations, and their records, are written over the tables.
pub record ModelsWritten (found : List Placed) (nodes nodes-after : List (Node ContentAtom)) (models models-after : List Model) : Type 0 where
  pub nodes_are : nodes-after ≡ puts nodes 0 (all_code (models_in (declared_names found) found))
  pub models_are : models-after ≡ puts models 0 (runs_from 0 (models_in (declared_names found) found))

abbrev pub WritesModels : List ℕ → List Entry → List (Node ContentAtom) → List (Node ContentAtom) → List Model → List Model → Type 0
WritesModels text entries nodes nodes-after models models-after =
    (found : List Placed) → Listed text entries found → nodes_of (declared_names found) found ≤ 2048 → ModelsWritten found nodes nodes-after models models-after
