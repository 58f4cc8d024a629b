-- Declarations: the reading that is worked out says what the relation says.
use Rattle.std.proofs.Common.{◌≡◌, ℕ, ◌<◌, true, eqb, List, [], ◌∷◌, length, codes, refl, ap, ◌∙◌, subst, arith}
use Rattle.std.proofs.lemmas.List.{length-append}
use Rattle.std.proofs.lemmas.Bool.{eqb-true}
use Rattle.scan.specs.Bytes.{is_blank, first_is, skip}
use Rattle.scan.specs.Names.{Name, read_name}
use Rattle.scan.specs.Readings.{Front, bad, got, word, Agree}
use Rattle.scan.proofs.Agreements.{bad_got, got_value, got_rest, chosen, chosen_true, skip_le, word_sound, word_agrees, name_agrees, name_shortens}
use Rattle.declarations.specs.Contents.{Content, Declaration}
use Rattle.declarations.specs.Grammar.{ElementDecl}
use Rattle.declarations.specs.Readers.{read_content, closed_by, with_content, behind_name, behind_word, read_declaration}
use Rattle.declarations.proofs.ContentGrammar.{content_agrees, content_le}

closed_from : (d : Declaration) (t : List ℕ) (v : Declaration) (rest : List ℕ) → closed_by d t ≡ got v rest → (t ≡ 62 ∷ rest) × (d ≡ v)
unfolding closed_by
closed_from d [] v rest h = absurd (bad_got h)
closed_from d (b ∷ t) v rest h =
    chosen (eqb b 62) h
    (λ is k. ((let s = eqb-true b 62 is in let r = got_rest k in cc), got_value k))
    (λ is k. absurd (bad_got k))

content_from : (name : Name) (x : Front Content) (v : Declaration) (rest : List ℕ) → with_content name x ≡ got v rest → (content : Content) × (after : List ℕ) × (x ≡ got content after) × (skip after ≡ 62 ∷ rest) × (record { name = name; content = content } ≡ v)
unfolding with_content
content_from name bad v rest h = absurd (bad_got h)
content_from name (got content after) v rest h =
    let (closing, is) = closed_from (record { name = name; content = content }) (skip after) v rest h in
    (content, after, refl, closing, is)

name_from : (x : Front Name) (v : Declaration) (rest : List ℕ) → behind_name x ≡ got v rest → (name : Name) × (after : List ℕ) × (x ≡ got name after) × (first_is is_blank after ≡ true) × (with_content name (read_content (skip after)) ≡ got v rest)
unfolding behind_name
name_from bad v rest h = absurd (bad_got h)
name_from (got name after) v rest h =
    chosen (first_is is_blank after) h
    (λ blank k. (name, after, refl, blank, k))
    (λ blank k. absurd (bad_got k))

word_from : (x : Front (Unit {0})) (v : Declaration) (rest : List ℕ) → behind_word x ≡ got v rest → (after : List ℕ) × (x ≡ got tt after) × (first_is is_blank after ≡ true) × (behind_name (read_name (skip after)) ≡ got v rest)
unfolding behind_word
word_from bad v rest h = absurd (bad_got h)
word_from (got u after) v rest h =
    chosen (first_is is_blank after) h
    (λ blank k. (after, refl, blank, k))
    (λ blank k. absurd (bad_got k))

declaration_sound : (t : List ℕ) (v : Declaration) (rest : List ℕ) → read_declaration t ≡ got v rest → ElementDecl t v rest
declaration_sound t v rest h =
    let (after_word, opening, blank, h₁) = word_from (word (codes "<!ELEMENT") t) v rest h in
    let (name, after_name, named, blank', h₂) = name_from (read_name (skip after_word)) v rest h₁ in
    let (content, after, read, closing, is) = content_from name (read_content (skip after_name)) v rest h₂ in
    subst (λ y. ElementDecl t y rest) is (
    record {
      after_word = after_word;
      before_name = skip after_word;
      after_name = after_name;
      before_content = skip after_name;
      after_content = after;
      opening = word_sound (codes "<!ELEMENT") t tt after_word opening;
      blank = (blank, refl);
      name = name_agrees.sound (skip after_word) name after_name named;
      second_blank = (blank', refl);
      content = content_agrees.sound (skip after_name) content after read;
      closing = closing;
    }
    )

declaration_complete : (t : List ℕ) (v : Declaration) (rest : List ℕ) → ElementDecl t v rest → read_declaration t ≡ got v rest
unfolding behind_word behind_name with_content closed_by
declaration_complete t v rest h =
    ap behind_word ((word_agrees (codes "<!ELEMENT")).complete t tt h.after_word h.opening)
    ∙ (chosen_true (first_is is_blank h.after_word) _ _ h.blank.0
    ∙ (ap behind_name (ap read_name h.blank.1 ∙ name_agrees.complete h.before_name v.name h.after_name h.name)
    ∙ (chosen_true (first_is is_blank h.after_name) _ _ h.second_blank.0
    ∙ (ap (with_content v.name) (ap read_content h.second_blank.1 ∙ content_agrees.complete h.before_content v.content h.after_content h.content)
    ∙ ap (closed_by v) h.closing))))

pub declaration_agrees : Agree read_declaration ElementDecl
declaration_agrees = record { sound = declaration_sound; complete = declaration_complete }

pub declaration_shortens : (t : List ℕ) (v : Declaration) (rest : List ℕ) → ElementDecl t v rest → length rest < length t
declaration_shortens t v rest h =
    omega (arith, ap length h.opening, length-append (codes "<!ELEMENT") h.after_word, skip_le h.after_word, ap length h.blank.1, name_shortens h.before_name v.name h.after_name (name_agrees.complete h.before_name v.name h.after_name h.name), skip_le h.after_name, ap length h.second_blank.1, content_le h.before_content v.content h.after_content h.content, skip_le h.after_content, ap length h.closing)
