-- The grammar of a document's items: each relation says what is read at the front of a text and what is left. The names
-- are those of the productions of XML 1.0; a tag has no attributes here.
use Rattle.std.specs.Prelude.{◌≡◌, ℕ, ◌+◌, ◌-◌, Bool, true, not, ◌&&◌, ◌||◌, ◌≢◌, ◌⊎◌, List, [], ◌∷◌, ◌++◌, length, codes, ◌==◌}
use Rattle.scan.specs.Bytes.{is_text_byte, first_is, skip}
use Rattle.scan.specs.Comments.{ReadsComment}
use Rattle.scan.specs.Names.{Name, ReadsName}
use Rattle.scan.specs.Readings.{Repeats}
use Rattle.items.specs.Values.{Value, start_tag, empty_tag, end_tag, comment, reference, chars, Placed}

-- A tag: its opening, its name, blanks if there are any, and its closing.
pub record Tag (opening closing text : List ℕ) (name : Name) (rest : List ℕ) : Type 0 where
  pub after_opening : List ℕ
  pub after_name : List ℕ
  pub opened : text ≡ opening ++ after_opening
  pub named : ReadsName after_opening name after_name
  pub shut : skip after_name ≡ closing ++ rest

-- STag ::= '<' Name S? '>'
abbrev pub STag : List ℕ → Name → List ℕ → Type 0
STag = Tag (codes "<") (codes ">")

-- EmptyElemTag ::= '<' Name S? '/>'
abbrev pub EmptyElemTag : List ℕ → Name → List ℕ → Type 0
EmptyElemTag = Tag (codes "<") (codes "/>")

-- ETag ::= '</' Name S? '>'
abbrev pub ETag : List ℕ → Name → List ℕ → Type 0
ETag = Tag (codes "</") (codes ">")

-- EntityRef ::= '&' Name ';', for the five names that need no declaration.
abbrev pub EntityRef : List ℕ → ℕ → List ℕ → Type 0
EntityRef text b rest =
    ((text ≡ codes "&lt;" ++ rest) × (b ≡ 60))
    ⊎ (((text ≡ codes "&gt;" ++ rest) × (b ≡ 62))
    ⊎ (((text ≡ codes "&amp;" ++ rest) × (b ≡ 38))
    ⊎ (((text ≡ codes "&quot;" ++ rest) × (b ≡ 34))
    ⊎ ((text ≡ codes "&apos;" ++ rest) × (b ≡ 39)))))

-- `<` and `&` begin markup.
abbrev pub is_markup : ℕ → Bool
is_markup b = 60 == b || 38 == b

-- Every byte may stand in text, and none begins markup.
abbrev pub all_chars : List ℕ → Bool
all_chars [] = true
all_chars (b ∷ t) = (is_text_byte b && not (is_markup b)) && all_chars t

-- CharData ::= [^<&]* - ([^<&]* ']]>' [^<&]*): a run of text goes up to the next markup or the end of the text, has at
-- least one byte, and nowhere holds `]]>`.
pub record CharData (text bytes rest : List ℕ) : Type 0 where
  pub whole : text ≡ bytes ++ rest
  pub some : bytes ≢ []
  pub plain : all_chars bytes ≡ true
  pub unclosed : (before after : List ℕ) → bytes ≢ before ++ (codes "]]>" ++ after)
  pub longest : (rest ≡ []) ⊎ (first_is is_markup rest ≡ true)

-- One item of a document.
abbrev pub ReadsItem : List ℕ → Value → List ℕ → Type 0
ReadsItem text (start_tag name) rest = STag text name rest
ReadsItem text (empty_tag name) rest = EmptyElemTag text name rest
ReadsItem text (end_tag name) rest = ETag text name rest
ReadsItem text comment rest = (inside : List ℕ) × ReadsComment text inside rest
ReadsItem text (reference b) rest = EntityRef text b rest
ReadsItem text (chars bytes) rest = CharData text bytes rest

-- The place in a text, and the items so far.
pub record State : Type 0 where
  pub place : ℕ
  pub found : List Placed

abbrev pub moved : State → List ℕ → List ℕ → Value → State
moved s text rest v =
    record { place = s.place + (length text - length rest); found = s.found ++ (record { place = s.place; value = v } ∷ []) }

-- One item more.
abbrev pub OneItem : State → List ℕ → State → List ℕ → Type 0
OneItem s text after rest = (v : Value) × ReadsItem text v rest × (after ≡ moved s text rest v)

abbrev pub beginning : State
beginning = record { place = 0; found = [] }

-- The whole text is this list of items, in order.
abbrev pub Reads : List ℕ → List Placed → Type 0
Reads text found = (end : State) × Repeats OneItem beginning text end [] × (end.found ≡ found)

-- Up to this place the text is a list of items, and there no item stands.
abbrev pub UnreadAt : List ℕ → ℕ → Type 0
UnreadAt text place =
    (end : State) × (rest : List ℕ) × Repeats OneItem beginning text end rest × (end.place ≡ place) × (rest ≢ [])
    × ((after : State) (further : List ℕ) → OneItem end rest after further → ⊥)
