-- What a draft holds: the tables of the declarations that its text reads as.
use Rattle.std.specs.Prelude.{ℕ, Bool, true, false, List, []}
use Rattle.engine.specs.declared.alphabet.ContentAtom.{ContentAtom}
use Rattle.models.specs.Expressions.{Exp}
use Rattle.scan.specs.Readings.{Run, finished, stopped}
use Rattle.declarations.specs.Contents.{Placed}
use Rattle.declarations.specs.Grammar.{State}
use Rattle.declarations.specs.Readers.{read_items}
use Rattle.drafts.specs.Questions.{Room, Verdict, refused, accepted, declared_names, judge}
use Rattle.drafts.specs.Tables.{models_in}

-- The declarations that a text reads as; none where it reads as none.
unfoldable pub found_in : Run State → List Placed
found_in (finished s t) = s.found
found_in (stopped s t) = []

abbrev pub declarations : List ℕ → List Placed
declarations text = found_in (read_items text)

-- The models of these declarations, in order.
abbrev pub text_models : List ℕ → List (Exp ContentAtom)
text_models text = models_in (declared_names (declarations text)) (declarations text)

-- The most that tables are used for: 2,048 nodes and 63 records.
abbrev pub most : Room
most = record { nodes = 2048; records = 63 }

abbrev pub is_accepted : Verdict → Bool
is_accepted (refused number place) = false
is_accepted (accepted found) = true

-- Every question about the text gets a yes, in tables that are as large as can be.
abbrev pub all_yes : List ℕ → Bool
all_yes text = is_accepted (judge most text)
