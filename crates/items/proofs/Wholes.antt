-- Whole texts: the grammar and the reading that is worked out say the same.
use Rattle.std.proofs.Common.{◌≡◌, ℕ, List, [], sym, refl, ap, ◌∙◌, subst}
use Rattle.scan.specs.Readings.{Run, finished, stopped, Repeats}
use Rattle.scan.proofs.Repeating.{finished_by, stopped_by, led}
use Rattle.items.specs.Grammar.{State, OneItem, beginning, Reads, UnreadAt}
use Rattle.items.specs.Readers.{item_turn, read_items}
use Rattle.items.specs.Theorems.{ItemsAreRead}
use Rattle.items.specs.Values.{Placed}
use Rattle.items.proofs.Agreeing.{item_agrees, one_item, item_steps, turn_over, turn_ended, stuck_no_item, no_item_stuck}

finished_state : {s s' : State} {t t' : List ℕ} → ◌≡◌ {A = Run State} (finished s t) (finished s' t') → s ≡ s'
finished_state e = cc

reads : (text : List ℕ) (found : List Placed) → Reads text found → (end : State) × (read_items text ≡ finished end []) × (end.found ≡ found)
reads text found (end, items, is) = (end, finished_by item_turn OneItem item_steps beginning end text [] items (turn_ended end), is)

is_read : (text : List ℕ) (end : State) (rest : List ℕ) → read_items text ≡ finished end rest → (rest ≡ []) × Reads text end.found
is_read text end rest h =
    let l = led item_turn OneItem item_steps beginning text (finished end rest) h in
    let none = turn_over end rest l.1 in
    (none, (end, subst (Repeats OneItem beginning text end) none l.0, refl))

unread : (text : List ℕ) (place : ℕ) → UnreadAt text place → (end : State) × (rest : List ℕ) × (read_items text ≡ stopped end rest) × (end.place ≡ place)
unread text place (end, rest, items, at, some, never) =
    (end, rest, stopped_by item_turn OneItem item_steps beginning end text rest items (no_item_stuck end rest (some, never)), at)

is_unread : (text : List ℕ) (end : State) (rest : List ℕ) → read_items text ≡ stopped end rest → UnreadAt text end.place
is_unread text end rest h =
    let l = led item_turn OneItem item_steps beginning text (stopped end rest) h in
    let none = stuck_no_item end rest l.1 in
    (end, rest, l.0, refl, none.0, none.1)

one_reading : (text : List ℕ) (found others : List Placed) → Reads text found → Reads text others → found ≡ others
one_reading text found others h k =
    let (end, r, is) = reads text found h in
    let (end', r', is') = reads text others k in
    sym is ∙ (ap (λ (s : State). s.found) (finished_state (sym r ∙ r')) ∙ is')

-- Items and whole texts are read as the grammar says.
pub items_are_read : ItemsAreRead
items_are_read = record {
  item = item_agrees;
  one_item = one_item;
  reads = reads;
  is_read = is_read;
  unread = unread;
  is_unread = is_unread;
  one_reading = one_reading;
}
