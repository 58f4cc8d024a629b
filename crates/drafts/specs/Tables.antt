-- What the tables hold after a text of declarations was read.
use Rattle.std.specs.Prelude.{ℕ, ◌+◌, ◌-◌, List, [], ◌∷◌, ◌++◌, length, replicate}
use Rattle.engine.specs.declared.alphabet.ContentAtom.{ContentAtom}
use Rattle.models.specs.Expressions.{Exp}
use Rattle.models.specs.declared.node.Model.{Model}
use Rattle.scan.specs.Names.{Name}
use Rattle.scan.specs.declared.entry.Entry.{Entry}
use Rattle.declarations.specs.Answers.{name_start}
use Rattle.declarations.specs.Contents.{Placed}
use Rattle.drafts.specs.Questions.{model_of}

-- The record of a declaration: its place, and where its name stands.
abbrev pub entry_of : List ℕ → Placed → Entry
entry_of text p = record {
  place = p.place;
  name = record { start = name_start text p.place; end = name_start text p.place + length p.declaration.name };
}

abbrev pub entries_of : List ℕ → List Placed → List Entry
entries_of text [] = []
entries_of text (p ∷ ps) = entry_of text p ∷ entries_of text ps

-- The models of the declarations, in order, where these names are declared.
abbrev pub models_in : List Name → List Placed → List (Exp ContentAtom)
models_in names [] = []
models_in names (p ∷ ps) = model_of names p ∷ models_in names ps

-- The zero of a table of records.
abbrev pub zero_model : Model
zero_model = record { start = 0; end = 0 }

-- A table of so many places that holds this list, and zeros behind it.
abbrev pub filled : {A : Type 0} → A → ℕ → List A → List A
filled zero places xs = xs ++ replicate (places - length xs) zero
