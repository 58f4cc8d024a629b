-- Tags, comments and references: the readings that are worked out say what the grammar says.
use Rattle.std.proofs.Common.{◌≡◌, ℕ, ◌<◌, Bool, true, false, eqb, ◌⊎◌, List, [], ◌∷◌, length, codes, sym, refl, ap, ◌∙◌, subst, inl, inr, arith}
use Rattle.std.proofs.lemmas.List.{length-append}
use Rattle.std.proofs.lemmas.Bool.{eqb-true, both_ways}
use Rattle.scan.specs.Bytes.{is_initial, first_is, skip}
use Rattle.scan.specs.Comments.{ReadsComment, behind_opening, read_comment}
use Rattle.scan.specs.Names.{Name, read_name}
use Rattle.scan.specs.Readings.{Front, bad, got, word}
use Rattle.scan.proofs.Agreements.{bad_got, got_value, got_rest, chosen_false, skip_le, word_sound, word_agrees, name_agrees, name_initial, name_shortens, comment_agrees, comment_shortens}
use Rattle.items.specs.Grammar.{Tag, STag, EmptyElemTag, ETag, EntityRef, ReadsItem}
use Rattle.items.specs.Readers.{closed_with, first_of, end_named, end_opened, start_named, start_opened, commented, read_markup, read_reference}
use Rattle.items.specs.Values.{Value, start_tag, empty_tag, end_tag, comment, reference}

closed_from : (v : Value) (f : Front (Unit {0})) (w : Value) (rest : List ℕ) → closed_with v f ≡ got w rest → (f ≡ got tt rest) × (v ≡ w)
unfolding closed_with
closed_from v bad w rest h = absurd (bad_got h)
closed_from v (got u t) w rest h = (ap (got tt) (got_rest h), got_value h)

first_from : (f g : Front Value) (w : Value) (rest : List ℕ) → first_of f g ≡ got w rest → (f ≡ got w rest) ⊎ (g ≡ got w rest)
unfolding first_of
first_from bad g w rest h = inr h
first_from (got v t) g w rest h = inl h

-- A name begins with none of the bytes that tell other markup apart.
word_clash : (c : ℕ) (cs t : List ℕ) → first_is is_initial t ≡ true → is_initial c ≡ false → word (c ∷ cs) t ≡ bad
unfolding word
word_clash c cs [] h k = refl
word_clash c cs (b ∷ t) h k = by (eqb c b) refl
  where
    by : (x : Bool) → eqb c b ≡ x → word (c ∷ cs) (b ∷ t) ≡ bad
    by true e = absurd (both_ways (is_initial c) k (ap is_initial (eqb-true c b e) ∙ h))
    by false e = chosen_false (eqb c b) _ _ e

-- End tags.
end_opened_from : (x : Front (Unit {0})) (w : Value) (rest : List ℕ) → end_opened x ≡ got w rest → (after : List ℕ) × (x ≡ got tt after) × (end_named (read_name after) ≡ got w rest)
unfolding end_opened
end_opened_from bad w rest h = absurd (bad_got h)
end_opened_from (got u t) w rest h = (t, refl, h)

end_named_from : (x : Front Name) (w : Value) (rest : List ℕ) → end_named x ≡ got w rest → (name : Name) × (after : List ℕ) × (x ≡ got name after) × (word (codes ">") (skip after) ≡ got tt rest) × (end_tag name ≡ w)
unfolding end_named
end_named_from bad w rest h = absurd (bad_got h)
end_named_from (got name t) w rest h =
    let (closing, is) = closed_from (end_tag name) (word (codes ">") (skip t)) w rest h in (name, t, refl, closing, is)

end_sound : (t : List ℕ) (w : Value) (rest : List ℕ) → end_opened (word (codes "</") t) ≡ got w rest → ReadsItem t w rest
end_sound t w rest h =
    let (after, opening, h₁) = end_opened_from (word (codes "</") t) w rest h in
    let (name, after_name, named, closing, is) = end_named_from (read_name after) w rest h₁ in
    let tag : ETag t name rest = record {
      after_opening = after;
      after_name = after_name;
      opened = word_sound (codes "</") t tt after opening;
      named = name_agrees.sound after name after_name named;
      shut = word_sound (codes ">") (skip after_name) tt rest closing;
    } in
    subst (λ v. ReadsItem t v rest) is tag

end_there : (after : List ℕ) → read_markup (60 ∷ (47 ∷ after)) ≡ first_of (end_named (read_name after)) (start_opened (got tt (47 ∷ after)))
unfolding word behind_opening first_of commented end_opened start_opened
end_there after = refl

pub end_complete : (t : List ℕ) (name : Name) (rest : List ℕ) → ETag t name rest → read_markup t ≡ got (end_tag name) rest
unfolding first_of end_named closed_with
end_complete t name rest h =
    ap read_markup h.opened
    ∙ end_there h.after_opening
    ∙ ap (λ x. first_of (end_named x) (start_opened (got tt (47 ∷ h.after_opening)))) (name_agrees.complete h.after_opening name h.after_name h.named)
    ∙ ap (λ x. first_of (closed_with (end_tag name) x) (start_opened (got tt (47 ∷ h.after_opening)))) ((word_agrees (codes ">")).complete (skip h.after_name) tt rest h.shut)

-- Start tags, and those of empty elements.
start_opened_from : (x : Front (Unit {0})) (w : Value) (rest : List ℕ) → start_opened x ≡ got w rest → (after : List ℕ) × (x ≡ got tt after) × (start_named (read_name after) ≡ got w rest)
unfolding start_opened
start_opened_from bad w rest h = absurd (bad_got h)
start_opened_from (got u t) w rest h = (t, refl, h)

start_named_from : (x : Front Name) (w : Value) (rest : List ℕ) → start_named x ≡ got w rest → (name : Name) × (after : List ℕ) × (x ≡ got name after) × (((word (codes ">") (skip after) ≡ got tt rest) × (start_tag name ≡ w)) ⊎ ((word (codes "/>") (skip after) ≡ got tt rest) × (empty_tag name ≡ w)))
unfolding start_named
start_named_from bad w rest h = absurd (bad_got h)
start_named_from (got name t) w rest h = (
  name,
  t,
  refl,
  (elim (first_from (closed_with (start_tag name) (word (codes ">") (skip t))) (closed_with (empty_tag name) (word (codes "/>") (skip t))) w rest h) [
    | inl k ↦ inl (closed_from (start_tag name) (word (codes ">") (skip t)) w rest k)
    | inr k ↦ inr (closed_from (empty_tag name) (word (codes "/>") (skip t)) w rest k)
  ]),
)

tag_from : (opening closing t : List ℕ) (name : Name) (rest after after_name : List ℕ) → word opening t ≡ got tt after → read_name after ≡ got name after_name → word closing (skip after_name) ≡ got tt rest → Tag opening closing t name rest
tag_from opening closing t name rest after after_name o n c = record {
  after_opening = after;
  after_name = after_name;
  opened = word_sound opening t tt after o;
  named = name_agrees.sound after name after_name n;
  shut = word_sound closing (skip after_name) tt rest c;
}

start_sound : (t : List ℕ) (w : Value) (rest : List ℕ) → start_opened (word (codes "<") t) ≡ got w rest → ReadsItem t w rest
start_sound t w rest h =
    let (after, opening, h₁) = start_opened_from (word (codes "<") t) w rest h in
    let (name, after_name, named, ways) = start_named_from (read_name after) w rest h₁ in
    elim ways [
      | inl k ↦ subst (λ v. ReadsItem t v rest) k.1 (tag_from (codes "<") (codes ">") t name rest after after_name opening named k.0)
      | inr k ↦ subst (λ v. ReadsItem t v rest) k.1 (tag_from (codes "<") (codes "/>") t name rest after after_name opening named k.0)
    ]

start_there : (after : List ℕ) → first_is is_initial after ≡ true → read_markup (60 ∷ after) ≡ start_named (read_name after)
unfolding word behind_opening first_of commented end_opened start_opened
start_there after h =
    ap (λ x. first_of (commented (behind_opening x)) (first_of (end_opened (word (47 ∷ []) after)) (start_named (read_name after)))) (word_clash 33 (45 ∷ (45 ∷ [])) after h refl)
    ∙ ap (λ x. first_of (end_opened x) (start_named (read_name after))) (word_clash 47 [] after h refl)

begun : (closing t : List ℕ) (name : Name) (rest : List ℕ) (h : Tag (codes "<") closing t name rest) → read_markup t ≡ start_named (got name h.after_name)
begun closing t name rest h =
    ap read_markup h.opened
    ∙ start_there h.after_opening (name_initial h.after_opening name h.after_name h.named)
    ∙ ap start_named (name_agrees.complete h.after_opening name h.after_name h.named)

pub start_complete : (t : List ℕ) (name : Name) (rest : List ℕ) → STag t name rest → read_markup t ≡ got (start_tag name) rest
unfolding first_of start_named closed_with word
start_complete t name rest h =
    begun (codes ">") t name rest h
    ∙ ap (λ y. first_of (closed_with (start_tag name) (word (codes ">") y)) (closed_with (empty_tag name) (word (codes "/>") y))) h.shut

pub empty_complete : (t : List ℕ) (name : Name) (rest : List ℕ) → EmptyElemTag t name rest → read_markup t ≡ got (empty_tag name) rest
unfolding first_of start_named closed_with word
empty_complete t name rest h =
    begun (codes "/>") t name rest h
    ∙ ap (λ y. first_of (closed_with (start_tag name) (word (codes ">") y)) (closed_with (empty_tag name) (word (codes "/>") y))) h.shut

-- Comments.
comment_sound : (t : List ℕ) (x : Front (List ℕ)) (w : Value) (rest : List ℕ) → read_comment t ≡ x → commented x ≡ got w rest → ReadsItem t w rest
unfolding commented
comment_sound t bad w rest is h = absurd (bad_got h)
comment_sound t (got inside r) w rest is h =
    subst (λ v. ReadsItem t v rest) (got_value h) (inside, comment_agrees.sound t inside rest (is ∙ ap (got inside) (got_rest h)))

pub comment_complete : (t inside rest : List ℕ) → ReadsComment t inside rest → read_markup t ≡ got comment rest
unfolding first_of commented
comment_complete t inside rest h =
    ap (λ x. first_of (commented x) (first_of (end_opened (word (codes "</") t)) (start_opened (word (codes "<") t)))) (comment_agrees.complete t inside rest h)

pub markup_sound : (t : List ℕ) (w : Value) (rest : List ℕ) → read_markup t ≡ got w rest → ReadsItem t w rest
markup_sound t w rest h =
    elim (first_from (commented (read_comment t)) (first_of (end_opened (word (codes "</") t)) (start_opened (word (codes "<") t))) w rest h) [
      | inl k ↦ comment_sound t (read_comment t) w rest refl k
      | inr k ↦ elim (first_from (end_opened (word (codes "</") t)) (start_opened (word (codes "<") t)) w rest k) [ inl l ↦ end_sound t w rest l | inr l ↦ start_sound t w rest l ]
    ]

-- References.
pub reference_sound : (t : List ℕ) (w : Value) (rest : List ℕ) → read_reference t ≡ got w rest → ReadsItem t w rest
reference_sound t w rest h =
    elim (first_from _ _ w rest h) [
      | inl k ↦ let (e, is) = closed_from (reference 60) _ w rest k in subst (λ v. ReadsItem t v rest) is (inl (word_sound (codes "&lt;") t tt rest e, refl))
      | inr h₁ ↦ elim (first_from _ _ w rest h₁) [
        | inl k ↦ let (e, is) = closed_from (reference 62) _ w rest k in subst (λ v. ReadsItem t v rest) is (inr (inl (word_sound (codes "&gt;") t tt rest e, refl)))
        | inr h₂ ↦ elim (first_from _ _ w rest h₂) [
          | inl k ↦ let (e, is) = closed_from (reference 38) _ w rest k in subst (λ v. ReadsItem t v rest) is (inr (inr (inl (word_sound (codes "&amp;") t tt rest e, refl))))
          | inr h₃ ↦ elim (first_from _ _ w rest h₃) [
            | inl k ↦ let (e, is) = closed_from (reference 34) _ w rest k in subst (λ v. ReadsItem t v rest) is (inr (inr (inr (inl (word_sound (codes "&quot;") t tt rest e, refl)))))
            | inr k ↦ let (e, is) = closed_from (reference 39) _ w rest k in subst (λ v. ReadsItem t v rest) is (inr (inr (inr (inr (word_sound (codes "&apos;") t tt rest e, refl)))))
          ]
        ]
      ]
    ]

pub reference_complete : (t : List ℕ) (b : ℕ) (rest : List ℕ) → EntityRef t b rest → read_reference t ≡ got (reference b) rest
unfolding word first_of closed_with
reference_complete t b rest (inl (e, is)) = ap read_reference e ∙ ap (λ x. got (reference x) rest) (sym is)
reference_complete t b rest (inr (inl (e, is))) = ap read_reference e ∙ ap (λ x. got (reference x) rest) (sym is)
reference_complete t b rest (inr (inr (inl (e, is)))) = ap read_reference e ∙ ap (λ x. got (reference x) rest) (sym is)
reference_complete t b rest (inr (inr (inr (inl (e, is))))) = ap read_reference e ∙ ap (λ x. got (reference x) rest) (sym is)
reference_complete t b rest (inr (inr (inr (inr (e, is))))) = ap read_reference e ∙ ap (λ x. got (reference x) rest) (sym is)

-- Each leaves a shorter text.
pub tag_shortens : (opening closing t : List ℕ) (name : Name) (rest : List ℕ) → Tag opening closing t name rest → length rest < length t
tag_shortens opening closing t name rest h =
    omega (arith, ap length h.opened, length-append opening h.after_opening, name_shortens h.after_opening name h.after_name (name_agrees.complete h.after_opening name h.after_name h.named), skip_le h.after_name, ap length h.shut, length-append closing rest)

pub comment_shorter : (t inside rest : List ℕ) → ReadsComment t inside rest → length rest < length t
comment_shorter t inside rest h = comment_shortens t inside rest (comment_agrees.complete t inside rest h)

pub reference_shortens : (t : List ℕ) (b : ℕ) (rest : List ℕ) → EntityRef t b rest → length rest < length t
reference_shortens t b rest (inl (e, is)) = omega (arith, ap length e)
reference_shortens t b rest (inr (inl (e, is))) = omega (arith, ap length e)
reference_shortens t b rest (inr (inr (inl (e, is)))) = omega (arith, ap length e)
reference_shortens t b rest (inr (inr (inr (inl (e, is))))) = omega (arith, ap length e)
reference_shortens t b rest (inr (inr (inr (inr (e, is))))) = omega (arith, ap length e)
