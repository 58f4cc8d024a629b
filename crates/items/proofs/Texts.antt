-- Runs of text: the reading that is worked out says what the grammar says.
use Rattle.std.proofs.Common.{◌≡◌, ℕ, ◌<◌, Bool, true, false, not, ◌&&◌, ◌≢◌, ◌⊎◌, List, [], ◌∷◌, ◌++◌, length, codes, sym, refl, ap, ◌∙◌, subst, inl, inr, arith}
use Rattle.std.proofs.lemmas.List.{length-append}
use Rattle.std.proofs.lemmas.Bool.{both_ways, not-true, not_from_false, and_parts, and_from}
use Rattle.scan.specs.Bytes.{is_text_byte, first_is}
use Rattle.scan.specs.Comments.{held}
use Rattle.scan.specs.Readings.{Front, bad, got, word}
use Rattle.scan.proofs.Agreements.{bad_got, got_value, got_rest, chosen, chosen_true, word_sound, word_there}
use Rattle.items.specs.Grammar.{is_markup, all_chars, CharData}
use Rattle.items.specs.Readers.{chars_from, as_chars, allowed, there}
use Rattle.items.specs.Values.{Value, chars}
use Rattle.items.proofs.Running.{chars_more}

-- `]]>` stands nowhere in the bytes; the rest ends a run.
abbrev pub Unclosed : List ℕ → Type 0
Unclosed bytes = (before after : List ℕ) → bytes ≡ before ++ (codes "]]>" ++ after) → ⊥

abbrev pub Ends : List ℕ → Type 0
Ends rest = (rest ≡ []) ⊎ (first_is is_markup rest ≡ true)

nil_cons : {b : ℕ} {t : List ℕ} → ◌≡◌ {A = List ℕ} [] (b ∷ t) → ⊥
nil_cons e = let z : ◌≡◌ {A = ℕ} 0 1 = cc in omega arith

head_is : {a b : ℕ} {t u : List ℕ} → ◌≡◌ {A = List ℕ} (a ∷ t) (b ∷ u) → a ≡ b
head_is e = cc

tail_is : {a b : ℕ} {t u : List ℕ} → ◌≡◌ {A = List ℕ} (a ∷ t) (b ∷ u) → t ≡ u
tail_is e = cc

held_from : (b : ℕ) (f : Front (List ℕ)) (bytes rest : List ℕ) → held b f ≡ got bytes rest → (more : List ℕ) × (f ≡ got more rest) × (b ∷ more ≡ bytes)
unfolding held
held_from b bad bytes rest h = absurd (bad_got h)
held_from b (got more r) bytes rest h = (more, ap (got more) (got_rest h), got_value h)

there_got : (f : Front (Unit {0})) (rest : List ℕ) → f ≡ got tt rest → there f ≡ true
there_got f rest e = ap there e

there_from : (f : Front (Unit {0})) → there f ≡ true → (rest : List ℕ) × (f ≡ got tt rest)
there_from bad e = absurd (both_ways false refl e)
there_from (got u rest) e = (rest, refl)

-- What is read, without that it is not empty.
record Chars (t bytes rest : List ℕ) : Type 0 where
  whole : t ≡ bytes ++ rest
  plain : all_chars bytes ≡ true
  unclosed : Unclosed bytes
  longest : Ends rest

nothing_closed : Unclosed []
nothing_closed [] after e = nil_cons e
nothing_closed (x ∷ before) after e = nil_cons e

-- One more byte before bytes that are not closed.
one_unclosed : (b : ℕ) (bytes rest : List ℕ) → there (word (codes "]]>") (b ∷ (bytes ++ rest))) ≡ false → Unclosed bytes → Unclosed (b ∷ bytes)
one_unclosed b bytes rest none un [] after e =
    both_ways _ none (there_got _ (after ++ rest) (ap (λ l. word (codes "]]>") (l ++ rest)) e ∙ word_there (codes "]]>") (after ++ rest)))
one_unclosed b bytes rest none un (x ∷ before) after e = un before after (tail_is e)

chars_sound : (t bytes rest : List ℕ) → chars_from t ≡ got bytes rest → Chars t bytes rest
unfolding chars_from
chars_sound [] bytes rest h =
    subst (λ l. Chars [] l rest) (got_value h) (subst (Chars [] []) (got_rest h) (record { whole = refl; plain = refl; unclosed = nothing_closed; longest = inl refl }))
chars_sound (b ∷ t) bytes rest h =
    chosen (is_markup b) h
    (λ m k. subst (λ l. Chars (b ∷ t) l rest) (got_value k) (subst (Chars (b ∷ t) []) (got_rest k) (record { whole = refl; plain = refl; unclosed = nothing_closed; longest = inr m })))
    (λ m k. chosen (allowed (b ∷ t)) k
    (λ ok l. more m ok (held_from b (chars_from t) bytes rest l) (λ bs e. chars_sound t bs rest e))
    (λ ok l. absurd (bad_got l)))
  where
    more : is_markup b ≡ false → allowed (b ∷ t) ≡ true → (bs : List ℕ) × (chars_from t ≡ got bs rest) × (b ∷ bs ≡ bytes) → ((bs : List ℕ) → chars_from t ≡ got bs rest → Chars t bs rest) → Chars (b ∷ t) bytes rest
    more m ok (bs, e, is) rec =
        let c = rec bs e in
        let parts = and_parts (is_text_byte b) (not (there (word (codes "]]>") (b ∷ t)))) ok in
        let none : there (word (codes "]]>") (b ∷ (bs ++ rest))) ≡ false = ap (λ l. there (word (codes "]]>") (b ∷ l))) (sym c.whole) ∙ not-true _ parts.1 in
        subst (λ l. Chars (b ∷ t) l rest) is (record {
          whole = ap (λ l. b ∷ l) c.whole;
          plain = and_from _ _ (and_from _ _ parts.0 (not_from_false _ m)) c.plain;
          unclosed = one_unclosed b bs rest none c.unclosed;
          longest = c.longest;
        })

-- The closing cannot begin in the bytes and end behind them, since what ends a run is none of its bytes.
ends_not : (c : ℕ) (cs rest : List ℕ) → Ends rest → is_markup c ≡ false → rest ≡ c ∷ cs → ⊥
ends_not c cs rest (inl e) m is = nil_cons (sym e ∙ is)
ends_not c cs rest (inr e) m is = both_ways (is_markup c) m (ap (first_is is_markup) (sym is) ∙ e)

closed_inside : (b : ℕ) (bytes rest r : List ℕ) → Ends rest → b ∷ (bytes ++ rest) ≡ codes "]]>" ++ r → Unclosed (b ∷ bytes) → ⊥
closed_inside b [] rest r ends e un = ends_not 93 (62 ∷ r) rest ends refl (tail_is e)
closed_inside b (x ∷ []) rest r ends e un = ends_not 62 r rest ends refl (tail_is (tail_is e))
closed_inside b (x ∷ (y ∷ bytes)) rest r ends e un =
    let p : b ≡ 93 = head_is e in
    let q : x ≡ 93 = head_is (tail_is e) in
    let s : y ≡ 62 = head_is (tail_is (tail_is e)) in
    un [] bytes cc

chars_complete : (bytes rest : List ℕ) → all_chars bytes ≡ true → Unclosed bytes → Ends rest → chars_from (bytes ++ rest) ≡ got bytes rest
unfolding chars_from held
chars_complete [] [] plain un ends = refl
chars_complete [] (b ∷ rest) plain un (inl e) = absurd (nil_cons (sym e))
chars_complete [] (b ∷ rest) plain un (inr e) = chosen_true (is_markup b) _ _ e
chars_complete (b ∷ bytes) rest plain un ends =
    let parts = and_parts (is_text_byte b && not (is_markup b)) (all_chars bytes) plain in
    let two = and_parts (is_text_byte b) (not (is_markup b)) parts.0 in
    chars_more b (bytes ++ rest) two.1 (and_from _ _ two.0 (not_from_false _ (none (there (word (codes "]]>") (b ∷ (bytes ++ rest)))) refl)))
    ∙ ap (held b) (chars_complete bytes rest parts.1 (λ before after e. un (b ∷ before) after (ap (λ l. b ∷ l) e)) ends)
  where
    none : (x : Bool) → there (word (codes "]]>") (b ∷ (bytes ++ rest))) ≡ x → there (word (codes "]]>") (b ∷ (bytes ++ rest))) ≡ false
    none true e =
        let (r, is) = there_from _ e in
        absurd (closed_inside b bytes rest r ends (word_sound (codes "]]>") (b ∷ (bytes ++ rest)) tt r is) un)
    none false e = e

-- A run is not empty.
chars_from_as : (f : Front (List ℕ)) (w : Value) (rest : List ℕ) → as_chars f ≡ got w rest → (b : ℕ) × (bytes : List ℕ) × (f ≡ got (b ∷ bytes) rest) × (chars (b ∷ bytes) ≡ w)
unfolding as_chars
chars_from_as bad w rest h = absurd (bad_got h)
chars_from_as (got [] r) w rest h = absurd (bad_got h)
chars_from_as (got (b ∷ bytes) r) w rest h = (b, bytes, ap (got (b ∷ bytes)) (got_rest h), got_value h)

pub text_sound : (t : List ℕ) (w : Value) (rest : List ℕ) → as_chars (chars_from t) ≡ got w rest → (bytes : List ℕ) × CharData t bytes rest × (chars bytes ≡ w)
text_sound t w rest h =
    let (b, bytes, e, is) = chars_from_as (chars_from t) w rest h in
    let c = chars_sound t (b ∷ bytes) rest e in
    (b ∷ bytes, record { whole = c.whole; some = λ n. nil_cons (sym n); plain = c.plain; unclosed = c.unclosed; longest = c.longest }, is)

as_some : (bytes rest : List ℕ) → bytes ≢ [] → as_chars (got bytes rest) ≡ got (chars bytes) rest
unfolding as_chars
as_some [] rest n = absurd (n refl)
as_some (b ∷ bytes) rest n = refl

pub text_complete : (t bytes rest : List ℕ) → CharData t bytes rest → as_chars (chars_from t) ≡ got (chars bytes) rest
text_complete t bytes rest h =
    ap as_chars (ap chars_from h.whole ∙ chars_complete bytes rest h.plain h.unclosed h.longest) ∙ as_some bytes rest h.some

-- A run begins with no markup.
pub text_unmarked : (t bytes rest : List ℕ) → CharData t bytes rest → first_is is_markup t ≡ false
text_unmarked t bytes rest h = ap (first_is is_markup) h.whole ∙ front bytes h.some h.plain
  where
    front : (l : List ℕ) → l ≢ [] → all_chars l ≡ true → first_is is_markup (l ++ rest) ≡ false
    front [] n p = absurd (n refl)
    front (b ∷ l) n p = not-true _ (and_parts (is_text_byte b) (not (is_markup b)) (and_parts (is_text_byte b && not (is_markup b)) (all_chars l) p).0).1

pub text_shortens : (t bytes rest : List ℕ) → CharData t bytes rest → length rest < length t
text_shortens t bytes rest h =
    let some : 0 < length bytes = size bytes h.some in
    omega (arith, ap length h.whole, length-append bytes rest)
  where
    size : (l : List ℕ) → l ≢ [] → 0 < length l
    size [] n = absurd (n refl)
    size (b ∷ l) n = omega arith
