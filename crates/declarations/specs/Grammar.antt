-- The grammar of declarations: each relation says what is read at the front of a text and what is left. The names are
-- those of the productions of XML 1.0.
use Rattle.std.specs.Prelude.{◌≡◌, ℕ, zero, suc, ◌+◌, ◌-◌, true, false, ◌||◌, ◌≢◌, ◌⊎◌, List, [], ◌∷◌, ◌++◌, length, codes, ◌==◌, nat_eq}
use Rattle.models.specs.Expressions.{Exp, atom, seq, alt, star, plus, option}
use Rattle.scan.specs.Bytes.{is_blank, first_is, skip}
use Rattle.scan.specs.Comments.{ReadsComment}
use Rattle.scan.specs.Names.{Name, ReadsName}
use Rattle.scan.specs.Readings.{Repeats}
use Rattle.declarations.specs.Contents.{Content, nothing, anything, mixed, children, Declaration, Placed}

-- S: at least one blank, and all of those that follow. `skip` alone is S?.
abbrev pub S : List ℕ → List ℕ → Type 0
S text rest = (first_is is_blank text ≡ true) × (skip text ≡ rest)

-- None of `?`, `*`, `+` comes next.
abbrev pub Unmarked : List ℕ → Type 0
Unmarked text = first_is (λ b. (b == 63) || (b == 42 || b == 43)) text ≡ false

-- ('?' | '*' | '+')? behind an expression.
abbrev pub Mark : Exp Name → List ℕ → Exp Name → List ℕ → Type 0
Mark e text marked rest =
    ((text ≡ 63 ∷ rest) × (marked ≡ option e))
    ⊎ (((text ≡ 42 ∷ rest) × (marked ≡ star e))
    ⊎ (((text ≡ 43 ∷ rest) × (marked ≡ plus e))
    ⊎ (Unmarked text × (text ≡ rest) × (marked ≡ e))))

-- How two members of a group are joined.
pub data Joint : Type 0 where
  by_comma by_bar : Joint

abbrev pub sign : Joint → ℕ
sign by_comma = 44
sign by_bar = 124

abbrev pub join : Joint → Exp Name → Exp Name → Exp Name
join by_comma e f = seq e f
join by_bar e f = alt e f

-- What a particle may be besides a name: a group in brackets, which is described by the relation `Group`.
module _ (Group : List ℕ → Exp Name → List ℕ → Type 0) where
  -- Name | choice | seq
  abbrev pub UnitOf : List ℕ → Exp Name → List ℕ → Type 0
  UnitOf text e rest = ((name : Name) × ReadsName text name rest × (e ≡ atom name)) ⊎ Group text e rest

  -- cp ::= (Name | choice | seq) ('?' | '*' | '+')?
  abbrev pub Cp : List ℕ → Exp Name → List ℕ → Type 0
  Cp text e rest = (inner : Exp Name) × (mid : List ℕ) × UnitOf text inner mid × Mark inner mid e rest

  -- One more member of a group: S? and a comma or bar, S? and a particle. It is joined to those before it.
  abbrev pub Member : Joint → Exp Name → List ℕ → Exp Name → List ℕ → Type 0
  Member joint so_far text joined rest =
      (mid : List ℕ) × (e : Exp Name) × (skip text ≡ sign joint ∷ mid) × Cp (skip mid) e rest × (joined ≡ join joint so_far e)

  -- choice ::= '(' S? cp ( S? '|' S? cp )+ S? ')'
  abbrev pub Choice : List ℕ → Exp Name → List ℕ → Type 0
  Choice text e rest =
      (inside : List ℕ) × (first : Exp Name) × (after_first : List ℕ) × (second : Exp Name) × (after_second : List ℕ) × (end : List ℕ)
      × (text ≡ 40 ∷ inside) × Cp (skip inside) first after_first
      × Member by_bar first after_first second after_second
      × Repeats (Member by_bar) second after_second e end × (skip end ≡ 41 ∷ rest)

  -- seq ::= '(' S? cp ( S? ',' S? cp )* S? ')'
  abbrev pub Seq : List ℕ → Exp Name → List ℕ → Type 0
  Seq text e rest =
      (inside : List ℕ) × (first : Exp Name) × (after_first : List ℕ) × (end : List ℕ)
      × (text ≡ 40 ∷ inside) × Cp (skip inside) first after_first
      × Repeats (Member by_comma) first after_first e end × (skip end ≡ 41 ∷ rest)

-- choice | seq, with at most so many brackets open at once.
abbrev pub Group : ℕ → List ℕ → Exp Name → List ℕ → Type 0
Group zero text e rest = ⊥
Group (suc left) text e rest = Choice (Group left) text e rest ⊎ Seq (Group left) text e rest

-- Brackets nest at most 16 deep.
abbrev pub deepest : ℕ
deepest = 16

-- children ::= (choice | seq) ('?' | '*' | '+')?
abbrev pub Children : List ℕ → Exp Name → List ℕ → Type 0
Children text e rest = (inner : Exp Name) × (mid : List ℕ) × Group deepest text inner mid × Mark inner mid e rest

-- S? '|' S? Name
abbrev pub MixedName : List Name → List ℕ → List Name → List ℕ → Type 0
MixedName so_far text names rest =
    (mid : List ℕ) × (name : Name) × (skip text ≡ 124 ∷ mid) × ReadsName (skip mid) name rest × (names ≡ so_far ++ (name ∷ []))

-- Mixed ::= '(' S? '#PCDATA' (S? '|' S? Name)* S? ')*' | '(' S? '#PCDATA' S? ')'
abbrev pub Mixed : List ℕ → List Name → List ℕ → Type 0
Mixed text names rest =
    (inside : List ℕ) × (after_word : List ℕ) × (end : List ℕ) × (behind : List ℕ)
    × (text ≡ 40 ∷ inside) × (skip inside ≡ codes "#PCDATA" ++ after_word)
    × Repeats MixedName [] after_word names end × (skip end ≡ 41 ∷ behind)
    × ((behind ≡ 42 ∷ rest) ⊎ ((names ≡ []) × (first_is (λ b. nat_eq b 42) behind ≡ false) × (behind ≡ rest)))

-- contentspec ::= 'EMPTY' | 'ANY' | Mixed | children
abbrev pub ContentSpec : List ℕ → Content → List ℕ → Type 0
ContentSpec text nothing rest = text ≡ codes "EMPTY" ++ rest
ContentSpec text anything rest = text ≡ codes "ANY" ++ rest
ContentSpec text (mixed names) rest = Mixed text names rest
ContentSpec text (children e) rest = Children text e rest

-- elementdecl ::= '<!ELEMENT' S Name S contentspec S? '>'
pub record ElementDecl (text : List ℕ) (d : Declaration) (rest : List ℕ) : Type 0 where
  pub after_word : List ℕ
  pub before_name : List ℕ
  pub after_name : List ℕ
  pub before_content : List ℕ
  pub after_content : List ℕ
  pub opening : text ≡ codes "<!ELEMENT" ++ after_word
  pub blank : S after_word before_name
  pub name : ReadsName before_name d.name after_name
  pub second_blank : S after_name before_content
  pub content : ContentSpec before_content d.content after_content
  pub closing : skip after_content ≡ 62 ∷ rest

-- One item of a text, at a place, and the declarations so far: a run of blanks, a comment, or a declaration.
pub record State : Type 0 where
  pub place : ℕ
  pub found : List Placed

abbrev pub moved : State → List ℕ → List ℕ → List Placed → State
moved s text rest more = record { place = s.place + (length text - length rest); found = s.found ++ more }

abbrev pub Item : State → List ℕ → State → List ℕ → Type 0
Item s text after rest =
    (S text rest × (after ≡ moved s text rest []))
    ⊎ (((inside : List ℕ) × ReadsComment text inside rest × (after ≡ moved s text rest []))
    ⊎ ((d : Declaration) × ElementDecl text d rest × (after ≡ moved s text rest (record { place = s.place; declaration = d } ∷ []))))

abbrev pub beginning : State
beginning = record { place = 0; found = [] }

-- The whole text is a list of items, with these declarations among them, in order.
abbrev pub Reads : List ℕ → List Placed → Type 0
Reads text found = (end : State) × Repeats Item beginning text end [] × (end.found ≡ found)

-- Up to this place the text is a list of items, and there no item stands.
abbrev pub UnreadAt : List ℕ → ℕ → Type 0
UnreadAt text place =
    (end : State) × (rest : List ℕ) × Repeats Item beginning text end rest × (end.place ≡ place) × (rest ≢ [])
    × ((after : State) (further : List ℕ) → Item end rest after further → ⊥)
