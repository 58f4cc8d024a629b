-- What the calls that read value forms answer.
use Rattle.std.specs.Prelude.{◌≡◌, ℕ, ◌+◌, ◌<◌, ◌≤◌, List, length, drop, Some, None, Option}
use Rattle.engine.specs.declared.range.ByteRange.{ByteRange}
use Rattle.models.specs.Expressions.{atoms}
use Rattle.models.specs.Folds.{code}
use Rattle.models.specs.declared.node.Node.{Node}
use Rattle.scan.specs.Lists.{puts}
use Rattle.scan.specs.Spans.{bytes_at}
use Rattle.scan.specs.Readings.{Front, bad, got, Stands}
use Rattle.forms.specs.Grammar.{Form}
use Rattle.forms.specs.Readers.{read_line}
use Rattle.forms.specs.declared.lines.Lined.{Lined}

-- A table of nodes.
abbrev pub Nodes : Type 0
Nodes = List (Node ByteRange)

-- The line of a form stands in the text from a place up to the end that is told, with this rest behind it. Told are the
-- place of its name, which begins behind the bracket, and the numbers of atoms and nodes of its expression.
pub record LinedIs (text : List ℕ) (at : ℕ) (form : Form) (rest : List ℕ) (told : Lined) : Type 0 where
  pub stands : Stands text at rest told.end
  pub longer : at < told.end
  pub name : bytes_at text told.name ≡ form.name
  pub name_starts : told.name.start ≡ at + 1
  pub name_forward : told.name.start ≤ told.name.end
  pub name_before : told.name.end ≤ told.end
  pub atom_count : told.atoms ≡ atoms form.shape
  pub node_count : told.nodes ≡ length (code form.shape)
  pub small : at + told.nodes ≤ told.end

-- What is answered about a form: none exactly where no line of a form stands at the place.
abbrev pub FormAt : List ℕ → ℕ → Option Lined → Type 0
FormAt text at None = read_line (drop at text) ≡ bad
FormAt text at (Some told) =
    (form : Form) × (rest : List ℕ) × (read_line (drop at text) ≡ got form rest) × LinedIs text at form rest told

-- The table with the nodes of a form's expression written over it from a place on; where no form was read it is as it
-- was.
unfoldable pub with_form : Front Form → Nodes → ℕ → Nodes
with_form bad table used = table
with_form (got form rest) table used = puts table used (code form.shape)
