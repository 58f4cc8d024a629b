-- Texts and words, one byte at a time, and what a place tells of the one behind it.
use Rattle.std.proofs.Common.{◌≡◌, ℕ, ◌+◌, ◌-◌, ◌<◌, ◌≤◌, min, Bool, true, false, cond, eqb, ◌⊎◌, List, [], ◌∷◌, ◌++◌, length, get_or, take, drop, set, None, sym, refl, ap, ◌∙◌, subst, ap₂, inl, inr, arith, length-drop, length-append, take_all}
use lib.Seq.{take-nil}
use Rattle.std.specs.Bool.{then_some}
use Rattle.std.specs.List.{prefix_len}
use Rattle.std.proofs.lemmas.List.{drop_more, drop_all}
use Rattle.std.proofs.lemmas.List.Sums.{prefix_len-drop_no, prefix_len-drop_all}
use Rattle.std.proofs.lemmas.Bool.{cases_lt, lt-leb, cond-true, cond-false}
use Rattle.scan.specs.Bytes.{is_blank, is_initial, is_name_byte, first_is, skip}
use Rattle.scan.specs.Lists.{puts}
use Rattle.scan.specs.Readings.{bad, got, word}
use Rattle.scan.proofs.Agreements.{skip_bare, skip_none, word_sound, Shortens}
use Rattle.scan.proofs.Fronts.{first_inside, first_past, first_there}
use Rattle.scan.proofs.Naming.{Named, named_if}
use Rattle.scan.proofs.Wording.{word_bad}
use Rattle.scan.proofs.Writing.{puts_append, puts_one}

-- Blanks: none is left behind those that were skipped, and one is skipped at a time.
pub skip_twice : (t : List ℕ) → skip (skip t) ≡ skip t
skip_twice t = skip_none (skip t) (skip_bare t)

skip_cons : (b : ℕ) (t : List ℕ) → is_blank b ≡ true → skip (b ∷ t) ≡ skip t
unfolding skip
skip_cons b t e = rw (e, skip)

pub skip_blank : (t : List ℕ) (i : ℕ) → first_is is_blank (drop i t) ≡ true → skip (drop i t) ≡ skip (drop (i + 1) t)
skip_blank t i holds =
    let lt : i < length t = first_there is_blank t i holds in
    ap skip (drop_more t i 0 lt) ∙ skip_cons (get_or t i 0) (drop (i + 1) t) (sym (first_inside is_blank t i 0 lt) ∙ holds)

-- A word takes its bytes.
pub word_length : (w t : List ℕ) (v : Unit {0}) (rest : List ℕ) → word w t ≡ got v rest → length t ≡ length w + length rest
word_length w t v rest e = ap length (word_sound w t v rest e) ∙ length-append w rest

pub word_shortens : (c : ℕ) (cs : List ℕ) → Shortens (word (c ∷ cs))
word_shortens c cs t v rest e = omega (arith, word_length (c ∷ cs) t v rest e)

-- At the front of the word's rest and of the text's: the bytes agree, or they do not, or the word is over.
word_step : (c : ℕ) (cs t : List ℕ) (b : ℕ) → eqb c b ≡ true → word (c ∷ cs) (b ∷ t) ≡ word cs t
unfolding word
word_step c cs t b e = rw (e, word)

pub word_more : (w t : List ℕ) (i here : ℕ) → i < length w → first_is (eqb (get_or w i 0)) (drop here t) ≡ true → word (drop i w) (drop here t) ≡ word (drop (i + 1) w) (drop (here + 1) t)
word_more w t i here lt holds =
    let there : here < length t = first_there (eqb (get_or w i 0)) t here holds in
    ap₂ word (drop_more w i 0 lt) (drop_more t here 0 there)
    ∙ word_step (get_or w i 0) (drop (i + 1) w) (drop (here + 1) t) (get_or t here 0) (sym (first_inside (eqb (get_or w i 0)) t here 0 there) ∙ holds)

pub word_stop : (w t : List ℕ) (i here : ℕ) → i < length w → first_is (eqb (get_or w i 0)) (drop here t) ≡ false → word (drop i w) (drop here t) ≡ bad
word_stop w t i here lt fails = ap (λ v. word v (drop here t)) (drop_more w i 0 lt) ∙ word_bad (get_or w i 0) (drop (i + 1) w) (drop here t) fails

pub word_over : (w t : List ℕ) (i : ℕ) → length w ≤ i → word (drop i w) t ≡ got tt t
unfolding word
word_over w t i le = ap (λ v. word v t) (drop_all i w le)

-- No byte leads where the front fails the test.
pub leading_none : (test : ℕ → Bool) (t : List ℕ) (i : ℕ) → first_is test (drop i t) ≡ false → prefix_len test (drop i t) ≡ 0
leading_none test t i fails =
    elim (cases_lt i (length t)) [
      | inl lt ↦ prefix_len-drop_no test t i 0 lt (sym (first_inside test t i 0 lt) ∙ fails)
      | inr le ↦ prefix_len-drop_all test t i le
    ]

-- A width of 1 or 0 tells whether the front passes.
pub width_none : (b : Bool) (w : ℕ) → w ≡ cond b 1 0 → w ≡ 0 → b ≡ false
width_none true w e z = absurd (omega arith)
width_none false w e z = refl

pub width_some : (b : Bool) (w : ℕ) → w ≡ cond b 1 0 → (w ≡ 0 → ⊥) → (b ≡ true) × (w ≡ 1)
width_some true w e z = (refl, e)
width_some false w e z = absurd (z e)

-- The width is 1 where the byte passes, else 0.
pub width_past : (test : ℕ → Bool) (t : List ℕ) (i : ℕ) → length t ≤ i → ◌≡◌ {A = ℕ} 0 (cond (first_is test (drop i t)) 1 0)
width_past test t i le = sym (cond-false _ 1 0 (first_past test t i le))

pub width_one : (test : ℕ → Bool) (t : List ℕ) (i : ℕ) → i < length t → test (get_or t i 0) ≡ true → ◌≡◌ {A = ℕ} 1 (cond (first_is test (drop i t)) 1 0)
width_one test t i lt holds = sym (cond-true _ 1 0 (first_inside test t i 0 lt ∙ holds))

pub width_zero : (test : ℕ → Bool) (t : List ℕ) (i : ℕ) → i < length t → test (get_or t i 0) ≡ false → ◌≡◌ {A = ℕ} 0 (cond (first_is test (drop i t)) 1 0)
width_zero test t i lt fails = sym (cond-false _ 1 0 (first_inside test t i 0 lt ∙ fails))

-- A name that is too long is none.
pub too_long : (text : List ℕ) (at end : ℕ) → first_is is_initial (drop at text) ≡ true → end ≡ at + prefix_len is_name_byte (drop at text) → 32 < end - at → Named text at None
too_long text at end holds is long = subst (λ b. Named text at (then_some b end)) (lt-leb (end - at) 32 long) (named_if text at end holds is)

-- Of a span's places those count that the text has.
take_same : (n m : ℕ) (l : List ℕ) → (n ≡ m) ⊎ ((length l ≤ n) × (length l ≤ m)) → take n l ≡ take m l
take_same n m l (inl e) = ap (λ k. take k l) e
take_same n m l (inr (p, q)) = take_all n l p ∙ sym (take_all m l q)

take_zero : (n : ℕ) (l : List ℕ) → n ≡ 0 → take n l ≡ []
take_zero n l e = ap (λ k. take k l) e

pub clamped : (text : List ℕ) (start end s e : ℕ) → e ≡ min end (length text) → s ≡ min start e → take (e - s) (drop s text) ≡ take (end - start) (drop start text)
clamped text start end s e is-e is-s =
    elim (cases_lt start e) [
      | inl lt ↦ let same_start : s ≡ start = omega arith in
          ap (λ k. take (e - k) (drop k text)) same_start
          ∙ take_same (e - start) (end - start) (drop start text) (elim (cases_lt (length text) end) [
            | inl past ↦ inr ((let h : length (drop start text) ≡ length text - start = length-drop start text in omega arith), (let h : length (drop start text) ≡ length text - start = length-drop start text in omega arith))
            | inr within ↦ inl (omega arith)
          ])
      | inr le ↦ take_zero (e - s) (drop s text) (omega arith)
          ∙ sym (elim (cases_lt start end) [
            | inl lt ↦ ap (take (end - start)) (drop_all start text (omega arith)) ∙ take-nil (end - start)
            | inr ge ↦ take_zero (end - start) (drop start text) (omega arith)
          ])
    ]

-- One more behind a list that was written.
pub puts_push : {A : Type 0} (t : List A) (at : ℕ) (xs : List A) (x : A) → puts t at (xs ++ (x ∷ [])) ≡ set (puts t at xs) (at + length xs) x
puts_push t at xs x = puts_append t at xs (x ∷ []) ∙ puts_one (puts t at xs) (at + length xs) x
