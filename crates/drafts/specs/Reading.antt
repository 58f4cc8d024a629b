-- What reading a text of declarations answers and writes.
use Rattle.std.specs.Prelude.{◌≡◌, ℕ, min, List, [], ◌∷◌, length, replicate, Some, None, Ok, Err, Option, Result}
use Rattle.engine.specs.declared.alphabet.ContentAtom.{ContentAtom}
use Rattle.models.specs.declared.node.Model.{Model}
use Rattle.models.specs.declared.node.Node.{Node}
use Rattle.models.specs.declared.node.Node.TheVariants.{Unused}
use Rattle.scan.specs.Lists.{puts, zero_entry}
use Rattle.scan.specs.Names.{Name}
use Rattle.scan.specs.declared.entry.Entry.{Entry}
use Rattle.declarations.specs.Contents.{Placed}
use Rattle.drafts.specs.Asks.{Listed}
use Rattle.drafts.specs.Drafted.{text_models, declarations}
use Rattle.drafts.specs.Layouts.{all_code, runs_from}
use Rattle.drafts.specs.Questions.{Room, Verdict, refused, accepted, Asked, judge, ask_all, declared_names, few_atoms, new_name, names_declared, names_once, nodes_fit}
use Rattle.drafts.specs.Refusals.{number}
use Rattle.drafts.specs.Tables.{entries_of, filled, zero_model}
use Rattle.drafts.specs.declared.refusal.Question.{Question}
use Rattle.drafts.specs.declared.refusal.Refusal.{Refusal}

-- A refusal where there is a place, which got a no.
abbrev pub refuse_at : Question → Option ℕ → Result (Unit {0}) Refusal
refuse_at question None = Ok tt
refuse_at question (Some place) = Err (record { question = question; place = place })

-- The answer tells the verdict: the question's number and the place, or that every answer is yes.
abbrev pub Tells : Verdict → Result (Unit {0}) Refusal → Type 0
Tells (refused n place) (Ok done) = ⊥
Tells (refused n place) (Err r) = (number r.question ≡ n) × (r.place ≡ place)
Tells (accepted found) (Ok done) = Unit {0}
Tells (accepted found) (Err r) = ⊥

-- The questions that are asked once every declaration has its record.
abbrev pub later_questions : Room → List Name → List (ℕ × Asked)
later_questions room names = (14, few_atoms room names) ∷ ((15, new_name room names) ∷ ((16, names_declared room names) ∷ ((17, names_once room names) ∷ ((18, nodes_fit room names) ∷ []))))

-- What asking the declarations at some entries answers, in a node table of so many places.
abbrev pub AskedOfAll : List ℕ → List Entry → ℕ → Result (Unit {0}) Refusal → Type 0
AskedOfAll text entries nodes r =
    (found : List Placed) (records : ℕ) → Listed text entries found → Tells (ask_all (later_questions (record { nodes = nodes; records = records }) (declared_names found)) found) r

-- What asking a text answers, and the entries that it leaves: written over the table where every answer is yes.
abbrev pub AskedText : Room → List ℕ → List Entry → List Entry → Result ℕ Refusal → Type 0
AskedText room text before after (Err r) = judge room text ≡ refused (number r.question) r.place
AskedText room text before after (Ok count) =
    (judge room text ≡ accepted (declarations text)) × (count ≡ length (declarations text))
    × (after ≡ puts before 0 (entries_of text (declarations text))) × Listed text (entries_of text (declarations text)) (declarations text)

-- The tables are zero throughout.
pub record AllZero (nodes : List (Node ContentAtom)) (models : List Model) (entries : List Entry) : Type 0 where
  pub nodes_zero : nodes ≡ replicate (length nodes) Unused
  pub models_zero : models ≡ replicate (length models) zero_model
  pub entries_zero : entries ≡ replicate (length entries) zero_entry

-- The tables hold what the text reads as, and zeros behind it.
pub record AllFilled (text : List ℕ) (nodes : List (Node ContentAtom)) (models : List Model) (entries : List Entry) : Type 0 where
  pub nodes_are : nodes ≡ filled Unused (length nodes) (all_code (text_models text))
  pub models_are : models ≡ filled zero_model (length models) (runs_from 0 (text_models text))
  pub entries_are : entries ≡ filled zero_entry (length entries) (entries_of text (declarations text))

-- The room of three tables: each declaration takes a place in two of them.
abbrev pub room_of : List (Node ContentAtom) → List Model → List Entry → Room
room_of nodes models entries = record { nodes = length nodes; records = min (length models) (length entries) }

-- Reading into tables: the answer tells the verdict; after a no all are zero, after a yes they are filled.
abbrev pub ReadInto : List ℕ → List (Node ContentAtom) → List Model → List Entry → List (Node ContentAtom) → List Model → List Entry → Result ℕ Refusal → Type 0
ReadInto text nodes models entries nodes' models' entries' (Err r) =
    (judge (room_of nodes models entries) text ≡ refused (number r.question) r.place) × AllZero nodes' models' entries'
ReadInto text nodes models entries nodes' models' entries' (Ok count) =
    (judge (room_of nodes models entries) text ≡ accepted (declarations text)) × (count ≡ length (declarations text)) × AllFilled text nodes' models' entries'
