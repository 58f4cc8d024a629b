-- Whole texts: the grammar and the reading that is worked out say the same.
use Rattle.std.proofs.Common.{◌≡◌, ℕ, ◌+◌, ◌⊎◌, List, [], length, sym, refl, ap, ◌∙◌, subst, inl, inr, arith}
use Rattle.scan.specs.Readings.{Run, finished, stopped, Repeats, none, more}
use Rattle.scan.proofs.Repeating.{finished_by, stopped_by, led}
use Rattle.declarations.specs.Contents.{Placed}
use Rattle.declarations.specs.Grammar.{State, Item, beginning, Reads, UnreadAt}
use Rattle.declarations.specs.Readers.{item, read_items}
use Rattle.declarations.specs.Theorems.{GrammarIsRead}
use Rattle.declarations.proofs.ItemGrammar.{item_steps, item_place, item_over, item_ended, stuck_no_item, no_item_stuck}

finished_state : {s s' : State} {t t' : List ℕ} → ◌≡◌ {A = Run State} (finished s t) (finished s' t') → s ≡ s'
finished_state e = cc

reads : (text : List ℕ) (found : List Placed) → Reads text found → (end : State) × (read_items text ≡ finished end []) × (end.found ≡ found)
reads text found (end, items, is) = (end, finished_by item Item item_steps beginning end text [] items (item_ended end), is)

is_read : (text : List ℕ) (end : State) (rest : List ℕ) → read_items text ≡ finished end rest → (rest ≡ []) × Reads text end.found
is_read text end rest h =
    let l = led item Item item_steps beginning text (finished end rest) h in
    let nothing_left = item_over end rest l.1 in
    (nothing_left, (end, subst (Repeats Item beginning text end) nothing_left l.0, refl))

unread : (text : List ℕ) (place : ℕ) → UnreadAt text place → (end : State) × (rest : List ℕ) × (read_items text ≡ stopped end rest) × (end.place ≡ place)
unread text place (end, rest, items, at, some, never) =
    (end, rest, stopped_by item Item item_steps beginning end text rest items (no_item_stuck end rest (some, never)), at)

is_unread : (text : List ℕ) (end : State) (rest : List ℕ) → read_items text ≡ stopped end rest → UnreadAt text end.place
is_unread text end rest h =
    let l = led item Item item_steps beginning text (stopped end rest) h in
    let no_item = stuck_no_item end rest l.1 in
    (end, rest, l.0, refl, no_item.0, no_item.1)

one_reading : (text : List ℕ) (found others : List Placed) → Reads text found → Reads text others → found ≡ others
one_reading text found others h k =
    let (end, r, is) = reads text found h in
    let (end', r', is') = reads text others k in
    sym is ∙ (ap (λ (s : State). s.found) (finished_state (sym r ∙ r')) ∙ is')

-- Texts are read as the grammar says.
pub grammar_is_read : GrammarIsRead
grammar_is_read =
    record { reads = reads; is_read = is_read; unread = unread; is_unread = is_unread; one_reading = one_reading }

finished_stopped : {s s' : State} {t t' : List ℕ} → ◌≡◌ {A = Run State} (finished s t) (stopped s' t') → ⊥
finished_stopped e = let z : ◌≡◌ {A = ℕ} 0 1 = cc in omega arith

stopped_state : {s s' : State} {t t' : List ℕ} → ◌≡◌ {A = Run State} (stopped s t) (stopped s' t') → s ≡ s'
stopped_state e = cc

-- Every text has a reading or a place where it is unread, not both, and at most one such place.
pub read_or_unread : (text : List ℕ) → ((found : List Placed) × Reads text found) ⊎ ((place : ℕ) × UnreadAt text place)
read_or_unread text = go (read_items text) refl
  where
    go : (r : Run State) → read_items text ≡ r → ((found : List Placed) × Reads text found) ⊎ ((place : ℕ) × UnreadAt text place)
    go (finished end rest) h = inl (end.found, (is_read text end rest h).1)
    go (stopped end rest) h = inr (end.place, is_unread text end rest h)

pub not_both : (text : List ℕ) (found : List Placed) (place : ℕ) → Reads text found → UnreadAt text place → ⊥
not_both text found place h k =
    let (end, r, is) = reads text found h in
    let (end', rest, r', at) = unread text place k in
    finished_stopped (sym r ∙ r')

pub one_place : (text : List ℕ) (place other : ℕ) → UnreadAt text place → UnreadAt text other → place ≡ other
one_place text place other h k =
    let (end, rest, r, at) = unread text place h in
    let (end', rest', r', at') = unread text other k in
    sym at ∙ (ap (λ (s : State). s.place) (stopped_state (sym r ∙ r')) ∙ at')

-- A place counts the bytes before it: with those left it makes the whole text.
pub place_counts : (s s' : State) (t t' : List ℕ) → Repeats Item s t s' t' → s'.place + length t' ≡ s.place + length t
place_counts s s' t t' (none e d) = omega (arith, ap (λ (x : State). x.place) e, ap length d)
place_counts s s' t t' (more s'' t'' step rest) =
    omega (arith, item_place s s'' t t'' step, place_counts s'' s' t'' t' rest)
