-- Mixed models: the reading that is worked out says what the relation says.
use Rattle.std.proofs.Common.{◌≡◌, ℕ, ◌≤◌, false, eqb, ◌⊎◌, List, [], ◌∷◌, ◌++◌, length, codes, sym, refl, ap, ◌∙◌, inl, inr, arith}
use Rattle.std.proofs.lemmas.List.{length-append}
use Rattle.std.proofs.lemmas.Bool.{eqb-true}
use Rattle.scan.specs.Bytes.{first_is, skip}
use Rattle.scan.specs.Names.{Name, read_name}
use Rattle.scan.specs.Readings.{Front, bad, got, word, over, next, run, Repeats}
use Rattle.scan.proofs.Agreements.{bad_got, got_value, got_rest, chosen, chosen_false, skip_le, name_agrees, name_shortens, word_sound}
use Rattle.scan.proofs.Repeating.{Steps, over_next, stuck_next, stuck_over, repeats_le}
use Rattle.declarations.specs.Contents.{Content, mixed}
use Rattle.declarations.specs.Grammar.{MixedName, Mixed}
use Rattle.declarations.specs.Readers.{with_name, mixed_name_at, mixed_name, shut, starless, starred}
use Rattle.declarations.proofs.Shutting.{shut_sound, shut_complete}

named_from : (s s' : List Name) (x : Front Name) (t : List ℕ) → with_name s x ≡ next s' t → (name : Name) × (x ≡ got name t) × (s' ≡ s ++ (name ∷ []))
unfolding with_name
named_from s s' bad t h = absurd (stuck_next h)
named_from s s' (got name r) t h =
    (name, (let k : r ≡ t = cc in ap (got name) k), let k : s ++ (name ∷ []) ≡ s' = cc in sym k)

name_next : (s s' : List Name) (x t : List ℕ) → mixed_name_at s x ≡ next s' t → (mid : List ℕ) × (name : Name) × (x ≡ 124 ∷ mid) × (read_name (skip mid) ≡ got name t) × (s' ≡ s ++ (name ∷ []))
unfolding mixed_name_at
name_next s s' [] t h = absurd (stuck_next h)
name_next s s' (b ∷ x) t h =
    chosen (eqb b 41) h
    (λ test k. absurd (over_next k))
    (λ test k. chosen (eqb b 124) k
    (λ is l. let (name, r, j) = named_from s s' (read_name (skip x)) t l in (x, name, ap (λ c. c ∷ x) (eqb-true b 124 is), r, j))
    (λ is l. absurd (stuck_next l)))

named_over : (s : List Name) (x : Front Name) → with_name s x ≡ over → ⊥
unfolding with_name
named_over s bad h = stuck_over h
named_over s (got name r) h = over_next (sym h)

name_over : (s : List Name) (x : List ℕ) → mixed_name_at s x ≡ over → (rest : List ℕ) × (x ≡ 41 ∷ rest)
unfolding mixed_name_at
name_over s [] h = absurd (stuck_over h)
name_over s (b ∷ x) h =
    chosen (eqb b 41) h
    (λ test k. (x, ap (λ c. c ∷ x) (eqb-true b 41 test)))
    (λ test k. absurd (chosen (eqb b 124) k (λ is l. named_over s (read_name (skip x)) l) (λ is l. stuck_over l)))

name_ended : (s : List Name) (t rest : List ℕ) → skip t ≡ 41 ∷ rest → mixed_name s t ≡ over
unfolding mixed_name_at
name_ended s t rest e = ap (mixed_name_at s) e

-- A turn of the names of a mixed model is one more name.
pub name_steps : Steps mixed_name MixedName
unfolding mixed_name_at with_name
name_steps =
    record {
      sound = λ s s' t t' h. (
          let (mid, name, is, r, j) = name_next s s' (skip t) t' h in
          (mid, name, is, name_agrees.sound (skip mid) name t' r, j)
          );
      complete = λ s s' t t' m. (
          let (mid, name, is, r, j) = m in
          ap (mixed_name_at s) is
          ∙ (ap (with_name s) (name_agrees.complete (skip mid) name t' r) ∙ ap (λ y. next y t') (sym j))
          );
      shrinks = λ s s' t t' h. (
          let (mid, name, is, r, j) = name_next s s' (skip t) t' h in
          omega (arith, name_shortens (skip mid) name t' r, skip_le mid, skip_le t, ap length is)
          );
    }

-- The star behind the bracket, or none where there are no names.
abbrev Starred : List Name → List ℕ → List ℕ → Type 0
Starred names behind rest =
    (behind ≡ 42 ∷ rest) ⊎ ((names ≡ []) × (first_is (λ b. eqb b 42) behind ≡ false) × (behind ≡ rest))

starless_from : (names : List Name) (t : List ℕ) (c : Content) (rest : List ℕ) → starless names t ≡ got c rest → (names ≡ []) × (c ≡ mixed names) × (t ≡ rest)
unfolding starless
starless_from [] t c rest h = (refl, sym (got_value h), got_rest h)
starless_from (name ∷ names) t c rest h = absurd (bad_got h)

starred_from : (x : Front (List Name)) (c : Content) (rest : List ℕ) → starred x ≡ got c rest → (names : List Name) × (behind : List ℕ) × (x ≡ got names behind) × (c ≡ mixed names) × Starred names behind rest
unfolding starred
starred_from bad c rest h = absurd (bad_got h)
starred_from (got names []) c rest h =
    let (empty, is, e) = starless_from names [] c rest h in (names, [], refl, is, inr (empty, refl, e))
starred_from (got names (b ∷ t)) c rest h =
    chosen (eqb b 42) h
    (λ test k. (names, b ∷ t, refl, sym (got_value k), inl (let s = eqb-true b 42 test in let r = got_rest k in cc)))
    (λ test k. let (empty, is, e) = starless_from names (b ∷ t) c rest k in (names, b ∷ t, refl, is, inr (empty, test, e)))

bare : (t : List ℕ) → first_is (λ b. eqb b 42) t ≡ false → starred (got [] t) ≡ got (mixed []) t
unfolding starred starless
bare [] h = refl
bare (b ∷ t) h = chosen_false (eqb b 42) _ _ h

starred_by : (names : List Name) (behind rest : List ℕ) → Starred names behind rest → starred (got names behind) ≡ got (mixed names) rest
unfolding starred
starred_by names behind rest (inl e) = ap (λ y. starred (got names y)) e
starred_by names behind rest (inr (empty, test, e)) =
    ap (λ y. starred (got y behind)) empty
    ∙ (bare behind test ∙ (ap (got (mixed [])) e ∙ ap (λ y. got (mixed y) rest) (sym empty)))

-- From behind the first word on.
pub mixed_sound : (inside after_word : List ℕ) (c : Content) (rest : List ℕ) → word (codes "#PCDATA") (skip inside) ≡ got tt after_word → starred (shut (run mixed_name [] after_word)) ≡ got c rest → (names : List Name) × (c ≡ mixed names) × Mixed (40 ∷ inside) names rest
mixed_sound inside after_word c rest opening h =
    let (names, behind, r, is, star) = starred_from (shut (run mixed_name [] after_word)) c rest h in
    let (end, repeats, closing) = shut_sound mixed_name MixedName name_steps (λ s t. name_over s (skip t)) name_ended [] names after_word behind r in
    (names, is, (inside, after_word, end, behind, refl, word_sound (codes "#PCDATA") (skip inside) tt after_word opening, repeats, closing, star))

pub mixed_complete : (after_word end behind : List ℕ) (names : List Name) (rest : List ℕ) → Repeats MixedName [] after_word names end → skip end ≡ 41 ∷ behind → Starred names behind rest → starred (shut (run mixed_name [] after_word)) ≡ got (mixed names) rest
mixed_complete after_word end behind names rest repeats closing star =
    ap starred (shut_complete mixed_name MixedName name_steps (λ s t. name_over s (skip t)) name_ended [] names after_word end behind repeats closing)
    ∙ starred_by names behind rest star

pub mixed_le : (t : List ℕ) (names : List Name) (rest : List ℕ) → Mixed t names rest → length rest ≤ length t
mixed_le t names rest (inside, after_word, end, behind, opening, first, repeats, closing, inl e) =
    omega (arith, ap length opening, skip_le inside, ap length first, length-append (codes "#PCDATA") after_word, repeats_le mixed_name MixedName name_steps [] names after_word end repeats, skip_le end, ap length closing, ap length e)
mixed_le t names rest (inside, after_word, end, behind, opening, first, repeats, closing, inr (empty, test, e)) =
    omega (arith, ap length opening, skip_le inside, ap length first, length-append (codes "#PCDATA") after_word, repeats_le mixed_name MixedName name_steps [] names after_word end repeats, skip_le end, ap length closing, ap length e)
