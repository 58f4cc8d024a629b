-- What the grammar and the reading that is worked out have to do with each other.
use Rattle.std.specs.Prelude.{◌≡◌, ℕ, List, []}
use Rattle.scan.specs.Readings.{Agree, AtMostOne, finished, stopped}
use Rattle.items.specs.Grammar.{ReadsItem, Reads, UnreadAt, State}
use Rattle.items.specs.Readers.{read_item, read_items}
use Rattle.items.specs.Values.{Placed}

-- An item is read exactly as the grammar says, and at most one stands at the front of a text. A whole text reads as
-- these items exactly when the worked-out reading ends with them; it is unread at a place exactly when that stops
-- there; and it has at most one reading.
pub record ItemsAreRead : Type 0 where
  pub item : Agree read_item ReadsItem
  pub one_item : AtMostOne ReadsItem
  pub reads : (text : List ℕ) (found : List Placed) → Reads text found → (end : State) × (read_items text ≡ finished end []) × (end.found ≡ found)
  pub is_read : (text : List ℕ) (end : State) (rest : List ℕ) → read_items text ≡ finished end rest → (rest ≡ []) × Reads text end.found
  pub unread : (text : List ℕ) (place : ℕ) → UnreadAt text place → (end : State) × (rest : List ℕ) × (read_items text ≡ stopped end rest) × (end.place ≡ place)
  pub is_unread : (text : List ℕ) (end : State) (rest : List ℕ) → read_items text ≡ stopped end rest → UnreadAt text end.place
  pub one_reading : (text : List ℕ) (found others : List Placed) → Reads text found → Reads text others → found ≡ others
