-- The grammar of declarations, worked out: functions that read at the front of a text.
use Rattle.std.specs.Prelude.{ℕ, zero, suc, true, false, List, [], ◌∷◌, ◌++◌, codes, ◌==◌, nat_eq}
use Rattle.models.specs.Expressions.{Exp, atom, star, plus, option}
use Rattle.scan.specs.Bytes.{is_blank, is_initial, first_is, skip}
use Rattle.scan.specs.Comments.{read_comment}
use Rattle.scan.specs.Names.{Name, read_name}
use Rattle.scan.specs.Readings.{Front, bad, got, word, Turn, over, stuck, next, Run, finished, stopped, run}
use Rattle.declarations.specs.Contents.{Content, nothing, anything, mixed, children, Declaration}
use Rattle.declarations.specs.Grammar.{Joint, by_comma, by_bar, sign, join, deepest, State, moved, beginning}

-- An expression with the mark behind it, if there is one, and the text behind that.
unfoldable pub with_mark : Exp Name → List ℕ → Front (Exp Name)
with_mark e [] = got e []
with_mark e (b ∷ t) =
    elim (b == 63) [
      | true ↦ got (option e) t
      | false ↦ elim (b == 42) [ true ↦ got (star e) t | false ↦ elim (b == 43) [ true ↦ got (plus e) t | false ↦ got e (b ∷ t) ] ]
    ]

unfoldable pub marked : Front (Exp Name) → Front (Exp Name)
marked bad = bad
marked (got e t) = with_mark e t

unfoldable pub named : Front Name → Front (Exp Name)
named bad = bad
named (got name t) = got (atom name) t

-- A particle, where groups are read by the function given.
abbrev pub read_cp : (List ℕ → Front (Exp Name)) → List ℕ → Front (Exp Name)
read_cp group t = marked (elim (first_is is_initial t) [ true ↦ named (read_name t) | false ↦ group t ])

unfoldable pub joined_by : Joint → Exp Name → Front (Exp Name) → Turn (Exp Name)
joined_by joint so_far bad = stuck
joined_by joint so_far (got e t) = next (join joint so_far e) t

-- One turn of a group's members: a closing bracket ends them, the sign brings one more, and all else is not of the form.
unfoldable pub member_at : (List ℕ → Front (Exp Name)) → Joint → Exp Name → List ℕ → Turn (Exp Name)
member_at group joint so_far [] = stuck
member_at group joint so_far (b ∷ t) =
    elim (b == 41) [ true ↦ over | false ↦ elim (b == sign joint) [ true ↦ joined_by joint so_far (read_cp group (skip t)) | false ↦ stuck ] ]

abbrev pub member : (List ℕ → Front (Exp Name)) → Joint → Exp Name → List ℕ → Turn (Exp Name)
member group joint so_far t = member_at group joint so_far (skip t)

-- What stands behind the first byte.
abbrev pub behind : List ℕ → List ℕ
behind [] = []
behind (b ∷ t) = t

-- The end of a group: the blanks before the closing bracket, and the bracket.
unfoldable pub shut : {A : Type 0} → Run A → Front A
shut (finished e t) = got e (behind (skip t))
shut (stopped e t) = bad

-- How the members of a group are joined is told by the sign behind the first one; one member alone counts as a sequence.
abbrev pub joint_at : List ℕ → Joint
joint_at t = elim (first_is (λ b. nat_eq b 124) (skip t)) [ true ↦ by_bar | false ↦ by_comma ]

unfoldable pub members_of : (List ℕ → Front (Exp Name)) → Front (Exp Name) → Front (Exp Name)
members_of group bad = bad
members_of group (got first t) = shut (run (member group (joint_at t)) first t)

unfoldable pub in_brackets : (List ℕ → Front (Exp Name)) → List ℕ → Front (Exp Name)
in_brackets group [] = bad
in_brackets group (b ∷ t) = elim (b == 40) [ true ↦ members_of group (read_cp group (skip t)) | false ↦ bad ]

-- A group, with at most so many brackets open at once.
unfoldable pub read_group : ℕ → List ℕ → Front (Exp Name)
read_group zero t = bad
read_group (suc left) t = in_brackets (read_group left) t

unfoldable pub as_children : Front (Exp Name) → Front Content
as_children bad = bad
as_children (got e t) = got (children e) t

-- One turn of the names of a mixed model.
unfoldable pub with_name : List Name → Front Name → Turn (List Name)
with_name so_far bad = stuck
with_name so_far (got name t) = next (so_far ++ (name ∷ [])) t

unfoldable pub mixed_name_at : List Name → List ℕ → Turn (List Name)
mixed_name_at so_far [] = stuck
mixed_name_at so_far (b ∷ t) =
    elim (b == 41) [ true ↦ over | false ↦ elim (b == 124) [ true ↦ with_name so_far (read_name (skip t)) | false ↦ stuck ] ]

abbrev pub mixed_name : List Name → List ℕ → Turn (List Name)
mixed_name so_far t = mixed_name_at so_far (skip t)

-- The star behind the bracket of a mixed model; it may be left out where there are no names.
unfoldable pub starless : List Name → List ℕ → Front Content
starless [] t = got (mixed []) t
starless (name ∷ names) t = bad

unfoldable pub starred : Front (List Name) → Front Content
starred bad = bad
starred (got names []) = starless names []
starred (got names (b ∷ t)) = elim (b == 42) [ true ↦ got (mixed names) t | false ↦ starless names (b ∷ t) ]

-- A mixed model from behind its first word on, if that is there; else a group of names.
unfoldable pub mixed_or : Front Content → Front (Unit {0}) → Front Content
mixed_or other bad = other
mixed_or other (got v t) = starred (shut (run mixed_name [] t))

unfoldable pub bracketed : List ℕ → List ℕ → Front Content
bracketed text [] = bad
bracketed text (b ∷ t) =
    elim (b == 40) [ true ↦ mixed_or (as_children (marked (read_group deepest text))) (word (codes "#PCDATA") (skip t)) | false ↦ bad ]

unfoldable pub or_else : Content → Front Content → Front (Unit {0}) → Front Content
or_else c other bad = other
or_else c other (got v t) = got c t

abbrev pub read_content : List ℕ → Front Content
read_content t =
    or_else nothing (or_else anything (bracketed t t) (word (codes "ANY") t)) (word (codes "EMPTY") t)

-- The blanks before the closing `>`, and that.
unfoldable pub closed_by : Declaration → List ℕ → Front Declaration
closed_by d [] = bad
closed_by d (b ∷ t) = elim (b == 62) [ true ↦ got d t | false ↦ bad ]

unfoldable pub with_content : Name → Front Content → Front Declaration
with_content name bad = bad
with_content name (got content t) = closed_by (record { name = name; content = content }) (skip t)

unfoldable pub behind_name : Front Name → Front Declaration
behind_name bad = bad
behind_name (got name t) = elim (first_is is_blank t) [ true ↦ with_content name (read_content (skip t)) | false ↦ bad ]

unfoldable pub behind_word : Front (Unit {0}) → Front Declaration
behind_word bad = bad
behind_word (got v t) = elim (first_is is_blank t) [ true ↦ behind_name (read_name (skip t)) | false ↦ bad ]

abbrev pub read_declaration : List ℕ → Front Declaration
read_declaration t = behind_word (word (codes "<!ELEMENT") t)

-- One turn of the items of a text.
unfoldable pub declared_at : State → List ℕ → Front Declaration → Turn State
declared_at s text bad = stuck
declared_at s text (got d rest) = next (moved s text rest (record { place = s.place; declaration = d } ∷ [])) rest

unfoldable pub commented_or : State → List ℕ → Front (List ℕ) → Turn State
commented_or s text bad = declared_at s text (read_declaration text)
commented_or s text (got inside rest) = next (moved s text rest []) rest

unfoldable pub item : State → List ℕ → Turn State
item s [] = over
item s (b ∷ t) =
    elim (is_blank b) [ true ↦ next (moved s (b ∷ t) (skip (b ∷ t)) []) (skip (b ∷ t)) | false ↦ commented_or s (b ∷ t) (read_comment (b ∷ t)) ]

-- The whole text, item by item.
abbrev pub read_items : List ℕ → Run State
read_items text = run item beginning text
