-- The end of a word.
use Rattle.std.proofs.Common.{◌≡◌, ℕ, ◌+◌, ◌-◌, ◌<◌, ◌≤◌, Bool, true, false, eqb, List, [], ◌∷◌, length, drop, Some, None, Option, is_some, IsTrue, IfSome, sym, refl, ap, ◌∙◌, subst, arith, length-drop, drop-drop}
use Rattle.std.specs.List.{starts_with}
use Rattle.std.proofs.lemmas.Bool.{both_ways}
use Rattle.std.proofs.lemmas.Bool.Decides.{Decides-eqb}
use Rattle.std.proofs.lemmas.Slice.Eq.{starts_is}
use Rattle.scan.specs.Bytes.{first_is}
use Rattle.scan.specs.Readings.{Front, bad, got, word, EndOf}
use Rattle.scan.proofs.Agreements.{word_sound, word_there}

-- The word is read exactly where the text starts with it.
pub word_starts : (w t : List ℕ) → true ≡ starts_with eqb t w → word w t ≡ got tt (drop (length w) t)
word_starts w t e =
    let whole = (starts_is Decides-eqb t w true e).0 refl in
    ap (word w) whole ∙ word_there w (drop (length w) t)

pub word_stops : (w t : List ℕ) → false ≡ starts_with eqb t w → word w t ≡ bad
word_stops w t e = by (word w t) refl
  where
    by : (f : Front (Unit {0})) → word w t ≡ f → f ≡ bad
    by bad h = refl
    by (got v rest) h = absurd (both_ways _ refl ((starts_is Decides-eqb t w false e).1 rest (word_sound w t v rest h)))

-- What stands at a place, and where it ends.
pub word_at : (text : List ℕ) (at : ℕ) (w : List ℕ) → 0 < length w → length w ≤ length (drop at text) → true ≡ starts_with eqb (drop at text) w → EndOf text at (word w (drop at text)) (Some (at + length w))
word_at text at w some short e =
    let left : length (drop at text) ≡ length text - at = length-drop at text in
    let moved : drop (at + length w) text ≡ drop (length w) (drop at text) = sym (drop-drop (length w) at text) in
    subst (λ f. EndOf text at f (Some (at + length w))) (sym (word_starts w (drop at text) e))
    (record { forward = omega arith; inside = omega arith; behind = moved })

pub no_word_at : (text : List ℕ) (at : ℕ) (w : List ℕ) → false ≡ starts_with eqb (drop at text) w → EndOf text at (word w (drop at text)) None
no_word_at text at w e = subst (λ f. EndOf text at f None) (sym (word_stops w (drop at text) e)) tt

-- The answer about a word, by whether the text starts with it there.
pub word_answered : (text : List ℕ) (at : ℕ) (w : List ℕ) (b : Bool) (r : Option ℕ) → b ≡ starts_with eqb (drop at text) w → (IsTrue b → length w ≤ length (drop at text)) → is_some r ≡ b → IfSome r (λ end. end ≡ at + length w) → 0 < length w → EndOf text at (word w (drop at text)) r
word_answered text at w true (Some end) e short some is long =
    subst (λ i. EndOf text at (word w (drop at text)) (Some i)) (sym is) (word_at text at w long (short refl) e)
word_answered text at w false (Some end) e short some is long = absurd (both_ways _ some refl)
word_answered text at w true None e short some is long = absurd (both_ways _ refl some)
word_answered text at w false None e short some is long = no_word_at text at w e

-- A word does not stand where its first byte does not.
pub word_bad : (c : ℕ) (cs t : List ℕ) → first_is (eqb c) t ≡ false → word (c ∷ cs) t ≡ bad
unfolding word
word_bad c cs [] e = refl
word_bad c cs (b ∷ t) e = rw (e, word)
