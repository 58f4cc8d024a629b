-- Contents: the reading that is worked out says what the relation says.
use Rattle.std.proofs.Common.{◌≡◌, ℕ, ◌≤◌, eqb, ◌⊎◌, List, [], ◌∷◌, ◌++◌, length, codes, sym, refl, ap, ◌∙◌, subst, inl, inr, arith}
use Rattle.std.proofs.lemmas.List.{length-append}
use Rattle.std.proofs.lemmas.Bool.{eqb-true}
use Rattle.models.specs.Expressions.{Exp}
use Rattle.scan.specs.Bytes.{skip}
use Rattle.scan.specs.Names.{Name}
use Rattle.scan.specs.Readings.{Front, bad, got, word, Agree}
use Rattle.scan.proofs.Agreements.{bad_got, got_value, got_rest, chosen, word_sound, word_there, word_agrees}
use Rattle.declarations.specs.Contents.{Content, nothing, anything, mixed, children}
use Rattle.declarations.specs.Grammar.{Group, deepest, Children, ContentSpec}
use Rattle.declarations.specs.Readers.{marked, read_group, as_children, mixed_or, bracketed, or_else, read_content}
use Rattle.declarations.proofs.GroupGrammar.{groups, group_no_hash}
use Rattle.declarations.proofs.MarkGrammar.{marked_from, marked_by, mark_le}
use Rattle.declarations.proofs.MixedGrammar.{mixed_sound, mixed_complete, mixed_le}

or_else_from : (c : Content) (other : Front Content) (x : Front (Unit {0})) (v : Content) (rest : List ℕ) → or_else c other x ≡ got v rest → ((v ≡ c) × (x ≡ got tt rest)) ⊎ (other ≡ got v rest)
unfolding or_else
or_else_from c other bad v rest h = inr h
or_else_from c other (got u t) v rest h = inl (sym (got_value h), ap (got tt) (got_rest h))

children_from : (x : Front (Exp Name)) (v : Content) (rest : List ℕ) → as_children x ≡ got v rest → (e : Exp Name) × (x ≡ got e rest) × (v ≡ children e)
unfolding as_children
children_from bad v rest h = absurd (bad_got h)
children_from (got e t) v rest h = (e, ap (got e) (got_rest h), sym (got_value h))

-- A group with its mark.
children_sound : (t : List ℕ) (v : Content) (rest : List ℕ) → as_children (marked (read_group deepest t)) ≡ got v rest → ContentSpec t v rest
children_sound t v rest h =
    let (e, r, is) = children_from (marked (read_group deepest t)) v rest h in
    let (inner, mid, k, mark) = marked_from (read_group deepest t) e rest r in
    subst (λ y. ContentSpec t y rest) (sym is) (inner, mid, (groups deepest).agree.sound t inner mid k, mark)

children_complete : (t : List ℕ) (e : Exp Name) (rest : List ℕ) → Children t e rest → as_children (marked (read_group deepest t)) ≡ got (children e) rest
unfolding as_children
children_complete t e rest (inner, mid, group, mark) =
    ap as_children (marked_by (read_group deepest t) inner mid e rest ((groups deepest).agree.complete t inner mid group) mark)

mixed_or_sound : (inside : List ℕ) (x : Front (Unit {0})) (v : Content) (rest : List ℕ) → word (codes "#PCDATA") (skip inside) ≡ x → mixed_or (as_children (marked (read_group deepest (40 ∷ inside)))) x ≡ got v rest → ContentSpec (40 ∷ inside) v rest
unfolding mixed_or
mixed_or_sound inside bad v rest is h = children_sound (40 ∷ inside) v rest h
mixed_or_sound inside (got u after_word) v rest is h =
    let (names, same, read) = mixed_sound inside after_word v rest is h in
    subst (λ y. ContentSpec (40 ∷ inside) y rest) (sym same) read

bracketed_from : (text t : List ℕ) (v : Content) (rest : List ℕ) → bracketed text t ≡ got v rest → (inside : List ℕ) × (t ≡ 40 ∷ inside) × (mixed_or (as_children (marked (read_group deepest text))) (word (codes "#PCDATA") (skip inside)) ≡ got v rest)
unfolding bracketed
bracketed_from text [] v rest h = absurd (bad_got h)
bracketed_from text (b ∷ t) v rest h =
    chosen (eqb b 40) h
    (λ is k. (t, ap (λ c. c ∷ t) (eqb-true b 40 is), k))
    (λ is k. absurd (bad_got k))

bracketed_sound : (t : List ℕ) (v : Content) (rest : List ℕ) → bracketed t t ≡ got v rest → ContentSpec t v rest
bracketed_sound t v rest h =
    let (inside, is, k) = bracketed_from t t v rest h in
    subst (λ y. ContentSpec y v rest) (sym is) (mixed_or_sound inside (word (codes "#PCDATA") (skip inside)) v rest refl (subst (λ y. mixed_or (as_children (marked (read_group deepest y))) (word (codes "#PCDATA") (skip inside)) ≡ got v rest) is k))

content_sound : (t : List ℕ) (v : Content) (rest : List ℕ) → read_content t ≡ got v rest → ContentSpec t v rest
content_sound t v rest h =
    elim (or_else_from nothing (or_else anything (bracketed t t) (word (codes "ANY") t)) (word (codes "EMPTY") t) v rest h) [
      | inl (is, r) ↦ subst (λ y. ContentSpec t y rest) (sym is) (word_sound (codes "EMPTY") t tt rest r)
      | inr k ↦ elim (or_else_from anything (bracketed t t) (word (codes "ANY") t) v rest k) [
        | inl (is, r) ↦ subst (λ y. ContentSpec t y rest) (sym is) (word_sound (codes "ANY") t tt rest r)
        | inr l ↦ bracketed_sound t v rest l
      ]
    ]

-- At a bracket neither of the two words stands.
at_bracket : (inside : List ℕ) → read_content (40 ∷ inside) ≡ mixed_or (as_children (marked (read_group deepest (40 ∷ inside)))) (word (codes "#PCDATA") (skip inside))
unfolding or_else word bracketed
at_bracket inside = refl

empty_there : (rest : List ℕ) → read_content (codes "EMPTY" ++ rest) ≡ got nothing rest
unfolding or_else
empty_there rest =
    ap (or_else nothing (or_else anything (bracketed (codes "EMPTY" ++ rest) (codes "EMPTY" ++ rest)) (word (codes "ANY") (codes "EMPTY" ++ rest)))) (word_there (codes "EMPTY") rest)

any_there : (rest : List ℕ) → read_content (codes "ANY" ++ rest) ≡ got anything rest
unfolding or_else word
any_there rest =
    ap (or_else anything (bracketed (codes "ANY" ++ rest) (codes "ANY" ++ rest))) (word_there (codes "ANY") rest)

no_word : (inside : List ℕ) (e : Exp Name) (rest : List ℕ) → Group deepest (40 ∷ inside) e rest → word (codes "#PCDATA") (skip inside) ≡ bad
no_word inside e rest group = go (word (codes "#PCDATA") (skip inside)) refl
  where
    go : (x : Front (Unit {0})) → word (codes "#PCDATA") (skip inside) ≡ x → x ≡ bad
    go bad is = refl
    go (got u t) is =
        absurd (group_no_hash deepest (40 ∷ inside) e rest inside _ group refl (word_sound (codes "#PCDATA") (skip inside) u t is))

children_there : (inside : List ℕ) (e : Exp Name) (rest : List ℕ) → Children (40 ∷ inside) e rest → read_content (40 ∷ inside) ≡ got (children e) rest
unfolding mixed_or
children_there inside e rest h =
    at_bracket inside
    ∙ (ap (mixed_or (as_children (marked (read_group deepest (40 ∷ inside))))) (no_word inside h.0 h.1 h.2)
    ∙ children_complete (40 ∷ inside) e rest h)

content_complete : (t : List ℕ) (v : Content) (rest : List ℕ) → ContentSpec t v rest → read_content t ≡ got v rest
unfolding mixed_or
content_complete t nothing rest h = ap read_content h ∙ empty_there rest
content_complete t anything rest h = ap read_content h ∙ any_there rest
content_complete t (mixed names) rest (inside, after_word, end, behind, opening, first, repeats, closing, star) =
    ap read_content opening
    ∙ (at_bracket inside
    ∙ (ap (mixed_or (as_children (marked (read_group deepest (40 ∷ inside))))) ((word_agrees (codes "#PCDATA")).complete (skip inside) tt after_word first)
    ∙ mixed_complete after_word end behind names rest repeats closing star))
content_complete t (children e) rest h =
    let (inside, is) = (groups deepest).opening t h.0 h.1 h.2 in
    ap read_content is ∙ children_there inside e rest (subst (λ y. Children y e rest) is h)

pub content_agrees : Agree read_content ContentSpec
content_agrees = record { sound = content_sound; complete = content_complete }

pub content_le : (t : List ℕ) (v : Content) (rest : List ℕ) → ContentSpec t v rest → length rest ≤ length t
content_le t nothing rest h = omega (arith, ap length h, length-append (codes "EMPTY") rest)
content_le t anything rest h = omega (arith, ap length h, length-append (codes "ANY") rest)
content_le t (mixed names) rest h = mixed_le t names rest h
content_le t (children e) rest (inner, mid, group, mark) =
    omega (arith, (groups deepest).shortens t inner mid ((groups deepest).agree.complete t inner mid group), mark_le inner mid e rest mark)
