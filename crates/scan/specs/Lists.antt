-- Lists of names: when two are the same, and which number a name has.
use Rattle.std.specs.Prelude.{◌≡◌, ℕ, ◌+◌, ◌<◌, Bool, true, false, not, ◌&&◌, List, [], ◌∷◌, Some, None, Option, ◌==◌, slice_set}
use Rattle.scan.specs.Names.{Name}
use Rattle.scan.specs.Spans.{bytes_at}
use Rattle.scan.specs.declared.span.Span.{Span}
use Rattle.scan.specs.declared.entry.Entry.{Entry}

-- Whether two names are the same: byte for byte.
unfoldable pub same : Name → Name → Bool
same [] [] = true
same [] (c ∷ n) = false
same (b ∷ m) [] = false
same (b ∷ m) (c ∷ n) = b == c && same m n

-- The number of a name: names count from 1 in the order of the list; 0 is no name's number.
unfoldable pub number_of : List Name → Name → ℕ
number_of [] name = 0
number_of (n ∷ ns) name =
    elim (same n name) [ true ↦ 1 | false ↦ elim (number_of ns name == 0) [ true ↦ 0 | false ↦ number_of ns name + 1 ] ]

-- A number of a name, as a function answers it: none for 0.
abbrev pub NumberIs : ℕ → Option ℕ → Type 0
NumberIs number None = number ≡ 0
NumberIs number (Some it) = (number ≡ it) × (0 < it)

-- Whether a name is in the list.
abbrev pub listed : List Name → Name → Bool
listed names name = not (number_of names name == 0)

-- Whether every name of the second list is in the first.
abbrev pub all_listed : List Name → List Name → Bool
all_listed names [] = true
all_listed names (n ∷ ns) = listed names n && all_listed names ns

-- Whether no name stands twice in the list.
abbrev pub distinct : List Name → Bool
distinct [] = true
distinct (n ∷ ns) = not (listed ns n) && distinct ns

-- The zeros of spans and of entries.
abbrev pub zero_span : Span
zero_span = record { start = 0; end = 0 }

abbrev pub zero_entry : Entry
zero_entry = record { place = 0; name = zero_span }

-- The name of an entry: the bytes of the text from its start up to its end.
abbrev pub name_at : List ℕ → Entry → Name
name_at text entry = bytes_at text entry.name

-- The names of a table of entries.
abbrev pub names_at : List ℕ → List Entry → List Name
names_at text [] = []
names_at text (entry ∷ entries) = name_at text entry ∷ names_at text entries

-- A list written over another one from a place on; what has no place is left out.
unfoldable pub puts : {A : Type 0} → List A → ℕ → List A → List A
puts t at [] = t
puts t at (x ∷ xs) = puts (slice_set t at x) (at + 1) xs
