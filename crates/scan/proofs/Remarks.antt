-- The end of a comment.
use Rattle.std.proofs.Common.{◌≡◌, ℕ, zero, suc, ◌+◌, ◌-◌, ◌<◌, ◌≤◌, Bool, true, false, not, ◌&&◌, eqb, List, [], ◌∷◌, length, get_or, drop, Some, None, codes, Option, sym, refl, ap, ◌∙◌, subst, inl, inr, arith}
use Rattle.std.proofs.lemmas.List.{drop_more, drop_all}
use Rattle.std.proofs.lemmas.Bool.{cases_lt, both_ways, eqb-true}
use Rattle.std.proofs.lemmas.Bool.Decides.{nat_tests}
use Rattle.scan.specs.Bytes.{first_is, is_text_byte}
use Rattle.scan.specs.Comments.{comment_rest, held, closed, behind_opening, two_dashes, goes_on, StopsAt}
use Rattle.scan.specs.Readings.{Front, bad, got, word, EndOf}
use Rattle.scan.proofs.Wording.{word_bad}

-- A place further back does, and so do a value made from another and the text's rest alone.
pub end_back : {A : Type 0} (text : List ℕ) (at here : ℕ) (f : Front A) (r : Option ℕ) → at ≤ here → EndOf text here f r → EndOf text at f r
end_back text at here bad None le e = tt
end_back text at here bad (Some end) le e = e
end_back text at here (got v rest) None le e = e
end_back text at here (got v rest) (Some end) le e =
    let forward : here ≤ end = e.forward in
    record { forward = omega arith; inside = e.inside; behind = e.behind }

end_held : (text : List ℕ) (at b : ℕ) (f : Front (List ℕ)) (r : Option ℕ) → EndOf text at f r → EndOf text at (held b f) r
unfolding held
end_held text at b bad None e = tt
end_held text at b bad (Some end) e = e
end_held text at b (got v rest) None e = e
end_held text at b (got v rest) (Some end) e = e

end_closed : (text : List ℕ) (at : ℕ) (f : Front (Unit {0})) (r : Option ℕ) → EndOf text at f r → EndOf text at (closed f) r
unfolding closed
end_closed text at bad None e = tt
end_closed text at bad (Some end) e = e
end_closed text at (got v rest) None e = e
end_closed text at (got v rest) (Some end) e = e

rest_dashes : (b : ℕ) (t : List ℕ) → (eqb b 45 && first_is (eqb 45) t) ≡ true → comment_rest (b ∷ t) ≡ closed (word (codes "-->") (b ∷ t))
unfolding comment_rest
rest_dashes b t e = rw (e, comment_rest)

rest_plain : (b : ℕ) (t : List ℕ) → (eqb b 45 && first_is (eqb 45) t) ≡ false → is_text_byte b ≡ true → comment_rest (b ∷ t) ≡ held b (comment_rest t)
unfolding comment_rest
rest_plain b t e f = rw (e, f, comment_rest)

rest_bad : (b : ℕ) (t : List ℕ) → (eqb b 45 && first_is (eqb 45) t) ≡ false → is_text_byte b ≡ false → comment_rest (b ∷ t) ≡ bad
unfolding comment_rest
rest_bad b t e f = rw (e, f, comment_rest)

eqb_turned : (a b : ℕ) → eqb a b ≡ eqb b a
eqb_turned a b = grind (arith, nat_tests)

-- What a comment holds goes on where a byte of text stands, and no two dashes.
both : (x y : Bool) → (x && not y) ≡ true → (x ≡ true) × (y ≡ false)
both true false e = (refl, refl)
both true true e = absurd (both_ways _ refl e)
both false y e = absurd (both_ways _ refl e)

not_both : (x y : Bool) → (x && not y) ≡ false → y ≡ false → x ≡ false
not_both true true e f = absurd (both_ways _ f refl)
not_both true false e f = absurd (both_ways _ e refl)
not_both false y e f = refl

-- A dash is a byte of text.
no_dash : (b : ℕ) → is_text_byte b ≡ false → eqb 45 b ≡ false
no_dash b e = by (eqb 45 b) refl
  where
    by : (v : Bool) → eqb 45 b ≡ v → v ≡ false
    by true h = let same : 45 ≡ b = eqb-true 45 b h in absurd (both_ways (is_text_byte b) e (ap is_text_byte (sym same)))
    by false h = refl

dashes_turned : (b : ℕ) (t : List ℕ) (v : Bool) → two_dashes (b ∷ t) ≡ v → (eqb b 45 && first_is (eqb 45) t) ≡ v
dashes_turned b t v e = ap (λ x. x && first_is (eqb 45) t) (eqb_turned b 45) ∙ e

and-true : (x : Bool) → (x && true) ≡ x
and-true true = refl
and-true false = refl

-- Where a dash stands, what a comment holds goes on if no second one follows, and elsewhere if a byte of text stands
-- there.
pub goes_on_dash : (t : List ℕ) → first_is (eqb 45) t ≡ true → goes_on t ≡ not (two_dashes t)
goes_on_dash [] e = absurd (both_ways _ refl e)
goes_on_dash (b ∷ t) e =
    ap (λ x. x && not (two_dashes (b ∷ t))) (ap is_text_byte (sym (eqb-true 45 b e)))

pub goes_on_plain : (t : List ℕ) → first_is (eqb 45) t ≡ false → goes_on t ≡ first_is is_text_byte t
goes_on_plain t e =
    ap (λ d. first_is is_text_byte t && not (d && first_is (eqb 45) (drop 1 t))) e ∙ and-true (first_is is_text_byte t)

plain_front : (b : ℕ) (t : List ℕ) → goes_on (b ∷ t) ≡ true → comment_rest (b ∷ t) ≡ held b (comment_rest t)
plain_front b t e =
    let h = both (is_text_byte b) (two_dashes (b ∷ t)) e in
    rest_plain b t (dashes_turned b t false h.1) h.0

-- Where it does not, the closing has to stand.
stop_front : (text : List ℕ) (at b : ℕ) (t : List ℕ) (r : Option ℕ) → goes_on (b ∷ t) ≡ false → EndOf text at (word (codes "-->") (b ∷ t)) r → EndOf text at (comment_rest (b ∷ t)) r
stop_front text at b t r e h = by (two_dashes (b ∷ t)) refl
  where
    by : (v : Bool) → two_dashes (b ∷ t) ≡ v → EndOf text at (comment_rest (b ∷ t)) r
    by true d = subst (λ f. EndOf text at f r) (sym (rest_dashes b t (dashes_turned b t true d))) (end_closed text at (word (codes "-->") (b ∷ t)) r h)
    by false d =
        let p : is_text_byte b ≡ false = not_both (is_text_byte b) (two_dashes (b ∷ t)) e d in
        let q : word (codes "-->") (b ∷ t) ≡ bad = word_bad 45 (codes "->") (b ∷ t) (no_dash b p) in
        subst (λ f. EndOf text at f r) (sym (rest_bad b t (dashes_turned b t false d) p)) (subst (λ f. EndOf text at f r) q h)

pub end_plain : (text : List ℕ) (i : ℕ) (r : Option ℕ) → i < length text → goes_on (drop i text) ≡ true → EndOf text (i + 1) (comment_rest (drop (i + 1) text)) r → EndOf text i (comment_rest (drop i text)) r
end_plain text i r lt e h =
    let front : drop i text ≡ get_or text i 0 ∷ drop (i + 1) text = drop_more text i 0 lt in
    let same : comment_rest (drop i text) ≡ held (get_or text i 0) (comment_rest (drop (i + 1) text)) = ap comment_rest front ∙ plain_front (get_or text i 0) (drop (i + 1) text) (ap goes_on (sym front) ∙ e) in
    subst (λ f. EndOf text i f r) (sym same)
    (end_held text i (get_or text i 0) (comment_rest (drop (i + 1) text)) r (end_back text i (i + 1) (comment_rest (drop (i + 1) text)) r (omega arith) h))

pub end_stop : (text : List ℕ) (i : ℕ) (r : Option ℕ) → i < length text → goes_on (drop i text) ≡ false → EndOf text i (word (codes "-->") (drop i text)) r → EndOf text i (comment_rest (drop i text)) r
end_stop text i r lt e h =
    let front : drop i text ≡ get_or text i 0 ∷ drop (i + 1) text = drop_more text i 0 lt in
    subst (λ t. EndOf text i (comment_rest t) r) (sym front)
    (stop_front text i (get_or text i 0) (drop (i + 1) text) r (ap goes_on (sym front) ∙ e) (subst (λ t. EndOf text i (word (codes "-->") t) r) front h))

-- A comment goes on from place to place.
end_along : (n : ℕ) (text : List ℕ) (at i : ℕ) (r : Option ℕ) → at + n ≡ i → i ≤ length text → ((k : ℕ) → at ≤ k → k < i → goes_on (drop k text) ≡ true) → EndOf text i (comment_rest (drop i text)) r → EndOf text at (comment_rest (drop at text)) r
end_along zero text at i r e le on h = let same : i ≡ at = omega arith in subst (λ k. EndOf text k (comment_rest (drop k text)) r) same h
end_along (suc n) text at i r e le on h =
    end_plain text at r (omega arith) (on at (omega arith) (omega arith)) (end_along n text (at + 1) i r (omega arith) le (λ k low high. on k (omega arith) high) h)

pub end_nothing : (text : List ℕ) (i : ℕ) → length text ≤ i → EndOf text i (comment_rest (drop i text)) None
unfolding comment_rest
end_nothing text i le = subst (λ f. EndOf text i f None) (sym (ap comment_rest (drop_all i text le))) tt

-- The answer, by where what the comment holds does not go on.
pub end_nowhere : (text : List ℕ) (at : ℕ) → StopsAt text at None → EndOf text at (comment_rest (drop at text)) None
end_nowhere text at on =
    elim (cases_lt at (length text)) [
      | inl lt ↦ end_along (length text - at) text at (length text) None (omega arith) (omega arith) on (end_nothing text (length text) (omega arith))
      | inr le ↦ end_nothing text at le
    ]

pub end_closing : (text : List ℕ) (at stop : ℕ) (r : Option ℕ) → StopsAt text at (Some stop) → EndOf text stop (word (codes "-->") (drop stop text)) r → EndOf text at (comment_rest (drop at text)) r
end_closing text at stop r h e =
    end_along (stop - at) text at stop r (let from : at ≤ stop = h.0 in omega arith) (let inside : stop < length text = h.1 in omega arith) h.3 (end_stop text stop r h.1 h.2 e)

-- A comment begins with its opening.
pub opened : (text : List ℕ) (at inside : ℕ) (f : Front (Unit {0})) (r : Option ℕ) → EndOf text at f (Some inside) → EndOf text inside (comment_rest (drop inside text)) r → EndOf text at (behind_opening f) r
unfolding behind_opening
opened text at inside bad r e h = absurd e
opened text at inside (got v rest) r e h =
    subst (λ t. EndOf text at (comment_rest t) r) e.behind (end_back text at inside (comment_rest (drop inside text)) r e.forward h)

pub unopened : (text : List ℕ) (at : ℕ) (f : Front (Unit {0})) → EndOf text at f None → EndOf text at (behind_opening f) None
unfolding behind_opening
unopened text at bad e = tt
unopened text at (got v rest) e = absurd e
