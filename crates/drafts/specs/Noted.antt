-- What the first pass over a text of declarations notes.
use Rattle.std.specs.Prelude.{◌≡◌, ℕ, ◌≤◌, List, [], ◌∷◌, length, drop, Ok, Err, Result, nat_lt}
use Rattle.scan.specs.Lists.{puts}
use Rattle.scan.specs.Readings.{got, finished, stopped, run}
use Rattle.scan.specs.declared.entry.Entry.{Entry}
use Rattle.declarations.specs.Contents.{Placed}
use Rattle.declarations.specs.Grammar.{State}
use Rattle.declarations.specs.Readers.{item, read_declaration, read_items}
use Rattle.drafts.specs.Questions.{Asked, first_no}
use Rattle.drafts.specs.Tables.{entries_of}
use Rattle.drafts.specs.declared.noted.Noted.{Noted}

-- It is one of the first declarations, as many as there is room for.
abbrev pub within : ℕ → Asked
within room before p = nat_lt (length before) room

-- Each declaration is read again at its place.
abbrev pub AllRead : List ℕ → List Placed → Type 0
AllRead text [] = Unit {0}
AllRead text (p ∷ ps) = ((rest : List ℕ) × (read_declaration (drop p.place text) ≡ got p.declaration rest)) × AllRead text ps

-- What is noted of these declarations: how many there are, the place of the first without room, if there is one, and
-- their entries, written over the table.
pub record Noting (text : List ℕ) (room : ℕ) (before : List Entry) (found : List Placed) (noted : Noted) (after : List Entry) : Type 0 where
  pub counted : noted.count ≡ length found
  pub first_beyond : noted.beyond ≡ first_no (within room) [] found
  pub written : after ≡ puts before 0 (entries_of text found)
  pub read_again : AllRead text found

-- The pass answers the place where the text is not of the form, or what it noted of the declarations of the text.
abbrev pub Notes : List ℕ → ℕ → List Entry → List Entry → Result Noted ℕ → Type 0
Notes text room before after (Err place) = (s : State) × (t : List ℕ) × (read_items text ≡ stopped s t) × (place ≡ s.place)
Notes text room before after (Ok noted) =
    (s : State) × (t : List ℕ) × (read_items text ≡ finished s t) × Noting text room before s.found noted after

-- How far the pass has come: up to this place the text reads as these declarations, which are noted.
pub record NotedAt (text : List ℕ) (room : ℕ) (before : List Entry) (at : ℕ) (noted : Noted) (after : List Entry) : Type 0 where
  pub found : List Placed
  pub read_on : read_items text ≡ run item (record { place = at; found = found }) (drop at text)
  pub inside : at ≤ length text
  pub small : length found ≤ at
  pub noting : Noting text room before found noted after
