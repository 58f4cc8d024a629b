-- The grammar of a document's items, worked out: functions that read at the front of a text.
use Rattle.std.specs.Prelude.{◌≡◌, ℕ, ◌<◌, ◌≤◌, Bool, true, false, not, ◌&&◌, List, [], ◌∷◌, length, drop, Option, MatchOption, codes, nat_eq}
use Rattle.scan.specs.Bytes.{is_text_byte, first_is, skip}
use Rattle.scan.specs.Comments.{held, read_comment}
use Rattle.scan.specs.Names.{Name, read_name}
use Rattle.scan.specs.Readings.{Front, bad, got, word, Turn, over, stuck, next, Run, run}
use Rattle.items.specs.Grammar.{is_markup, State, moved, beginning}
use Rattle.items.specs.Values.{Value, start_tag, empty_tag, end_tag, comment, reference, chars}

-- A value that a word closes.
unfoldable pub closed_with : Value → Front (Unit {0}) → Front Value
closed_with v bad = bad
closed_with v (got u rest) = got v rest

-- The first of two readings, or the second where the first reads nothing.
unfoldable pub first_of : Front Value → Front Value → Front Value
first_of bad other = other
first_of (got v rest) other = got v rest

-- An end tag from behind its name on, and the whole.
unfoldable pub end_named : Front Name → Front Value
end_named bad = bad
end_named (got name t) = closed_with (end_tag name) (word (codes ">") (skip t))

unfoldable pub end_opened : Front (Unit {0}) → Front Value
end_opened bad = bad
end_opened (got u t) = end_named (read_name t)

-- A start tag, or that of an empty element, from behind its name on, and the whole.
unfoldable pub start_named : Front Name → Front Value
start_named bad = bad
start_named (got name t) =
    first_of (closed_with (start_tag name) (word (codes ">") (skip t))) (closed_with (empty_tag name) (word (codes "/>") (skip t)))

unfoldable pub start_opened : Front (Unit {0}) → Front Value
start_opened bad = bad
start_opened (got u t) = start_named (read_name t)

unfoldable pub commented : Front (List ℕ) → Front Value
commented bad = bad
commented (got inside rest) = got comment rest

-- What begins with `<`.
abbrev pub read_markup : List ℕ → Front Value
read_markup t =
    first_of (commented (read_comment t)) (first_of (end_opened (word (codes "</") t)) (start_opened (word (codes "<") t)))

-- A reference, and the byte that it stands for.
abbrev pub read_reference : List ℕ → Front Value
read_reference t =
    first_of (closed_with (reference 60) (word (codes "&lt;") t))
    (first_of (closed_with (reference 62) (word (codes "&gt;") t))
    (first_of (closed_with (reference 38) (word (codes "&amp;") t))
    (first_of (closed_with (reference 34) (word (codes "&quot;") t)) (closed_with (reference 39) (word (codes "&apos;") t)))))

-- Whether something was read.
abbrev pub there : {A : Type 0} → Front A → Bool
there bad = false
there (got v rest) = true

-- Whether the first byte may stand in text, and `]]>` does not begin with it.
abbrev pub allowed : List ℕ → Bool
allowed t = first_is is_text_byte t && not (there (word (codes "]]>") t))

-- Whether a run may hold the first byte: it begins no markup, and may stand.
abbrev pub in_run : List ℕ → Bool
in_run t = first_is (λ b. not (is_markup b)) t && allowed t

-- The first place from this one on where a run does not go on, or none where it goes on up to the end of the text.
abbrev pub RunStops : List ℕ → ℕ → Option ℕ → Type 0
RunStops text at stop =
    MatchOption stop ((k : ℕ) → at ≤ k → k < length text → in_run (drop k text) ≡ true)
    (λ i. (at ≤ i) × (i < length text) × (in_run (drop i text) ≡ false) × ((k : ℕ) → at ≤ k → k < i → in_run (drop k text) ≡ true))

-- The bytes up to the next markup or the end, if each of them may stand in text and `]]>` begins at none.
unfoldable pub chars_from : List ℕ → Front (List ℕ)
chars_from [] = got [] []
chars_from (b ∷ t) =
    elim (is_markup b) [
      | true ↦ got [] (b ∷ t)
      | false ↦ elim (is_text_byte b && not (there (word (codes "]]>") (b ∷ t)))) [ true ↦ held b (chars_from t) | false ↦ bad ]
    ]

unfoldable pub as_chars : Front (List ℕ) → Front Value
as_chars bad = bad
as_chars (got [] rest) = bad
as_chars (got (b ∷ bytes) rest) = got (chars (b ∷ bytes)) rest

-- One item: its first byte tells what it has to be.
abbrev pub read_item : List ℕ → Front Value
read_item t =
    elim (first_is (nat_eq 60) t) [ true ↦ read_markup t | false ↦ elim (first_is (nat_eq 38) t) [ true ↦ read_reference t | false ↦ as_chars (chars_from t) ] ]

-- One turn of the items of a text.
unfoldable pub item_next : State → List ℕ → Front Value → Turn State
item_next s text bad = stuck
item_next s text (got v rest) = next (moved s text rest v) rest

unfoldable pub item_turn : State → List ℕ → Turn State
item_turn s [] = over
item_turn s (b ∷ t) = item_next s (b ∷ t) (read_item (b ∷ t))

-- The whole text, item by item.
abbrev pub read_items : List ℕ → Run State
read_items text = run item_turn beginning text
