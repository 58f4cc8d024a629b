-- Ranges, from behind their opening word on.
use Rattle.std.proofs.Common.{◌≡◌, ℕ, ◌<◌, Bool, true, false, leb, List, ◌∷◌, length, codes, sym, refl, ap, ◌∙◌, subst, arith}
use Rattle.std.proofs.lemmas.Bool.{le-leb, lt-ltb, both_ways}
use Rattle.engine.specs.declared.range.ByteRange.{ByteRange}
use Rattle.models.specs.Expressions.{Exp, atom}
use Rattle.scan.specs.Readings.{got, word, Agree}
use Rattle.scan.proofs.Agreements.{bad_got, got_value, got_rest, staged, word_sound}
use Rattle.forms.specs.Numbers.{ReadsByte, is_small, read_byte}
use Rattle.forms.specs.Readers.{range_by, range_from, shut_range, with_high, behind_low, with_low, read_range}
use Rattle.forms.proofs.NumberGrammar.{byte_agrees, byte_shortens}
use Rattle.forms.proofs.Ranges.{same_range}

-- A range from behind its opening word on.
abbrev pub Ends : List ℕ → Exp ByteRange → List ℕ → Type 0
Ends t e rest =
    (range : ByteRange) × (after_low : List ℕ) × (before_high : List ℕ) × (after_high : List ℕ)
    × ReadsByte t range.low after_low × (after_low ≡ 32 ∷ before_high) × ReadsByte before_high range.high after_high
    × (after_high ≡ 93 ∷ rest) × (e ≡ atom range)

ranged_from : (low high : ℕ) (ordered small : Bool) (o : leb low high ≡ ordered) (s : is_small high ≡ small) (t : List ℕ) (e : Exp ByteRange) (rest : List ℕ) → range_by low high ordered small o s t ≡ got e rest → (range : ByteRange) × (range.low ≡ low) × (range.high ≡ high) × (t ≡ rest) × (e ≡ atom range)
unfolding range_by
ranged_from low high true true o s t e rest h = (_, refl, refl, got_rest h, sym (got_value h))
ranged_from low high true false o s t e rest h = absurd (bad_got h)
ranged_from low high false small o s t e rest h = absurd (bad_got h)

ranged_by : (range : ByteRange) (ordered small : Bool) (o : leb range.low range.high ≡ ordered) (s : is_small range.high ≡ small) (t : List ℕ) → range_by range.low range.high ordered small o s t ≡ got (atom range) t
unfolding range_by
ranged_by range true true o s t = ap (λ y. got (atom y) t) (same_range _ range refl refl)
ranged_by range true false o s t = absurd (both_ways false refl (sym s ∙ lt-ltb range.high 256 range.ordered.1))
ranged_by range false small o s t =
    absurd (both_ways false refl (sym o ∙ le-leb range.low range.high range.ordered.0))

-- The parts of a range, put together.
range_ends : (low high : ℕ) (t after_low before_high after_high end : List ℕ) (e : Exp ByteRange) (rest : List ℕ) → ReadsByte t low after_low → after_low ≡ 32 ∷ before_high → ReadsByte before_high high after_high → after_high ≡ 93 ∷ end → range_from low high end ≡ got e rest → Ends t e rest
range_ends low high t after_low before_high after_high end e rest read_low space read-high closed h =
    let (range, is-low, is-high, same, is) = ranged_from low high (leb low high) (is_small high) refl refl end e rest h in (
      range,
      after_low,
      before_high,
      after_high,
      subst (λ n. ReadsByte t n after_low) (sym is-low) read_low,
      space,
      subst (λ n. ReadsByte before_high n after_high) (sym is-high) read-high,
      closed ∙ ap (λ y. 93 ∷ y) same,
      is,
    )

range_sound : (t : List ℕ) (e : Exp ByteRange) (rest : List ℕ) → read_range t ≡ got e rest → Ends t e rest
unfolding with_low behind_low with_high shut_range
range_sound t e rest h =
    let (low, after_low, read_low, h₁) = staged with_low refl (read_byte t) e rest h in
    let (v, before_high, space, h₂) = staged (behind_low low) refl (word (codes " ") after_low) e rest h₁ in
    let (high, after_high, read-high, h₃) = staged (with_high low) refl (read_byte before_high) e rest h₂ in
    let (u, end, closed, h₄) = staged (shut_range low high) refl (word (codes "]") after_high) e rest h₃ in
    range_ends low high t after_low before_high after_high end e rest (byte_agrees.sound t low after_low read_low) (word_sound (codes " ") after_low v before_high space) (byte_agrees.sound before_high high after_high read-high) (word_sound (codes "]") after_high u end closed) h₄

range_complete : (t : List ℕ) (e : Exp ByteRange) (rest : List ℕ) → Ends t e rest → read_range t ≡ got e rest
unfolding word with_low behind_low with_high shut_range
range_complete t e rest (range, after_low, before_high, after_high, low, space, high, closed, is) =
    ap with_low (byte_agrees.complete t range.low after_low low)
    ∙ (ap (λ y. behind_low range.low (word (codes " ") y)) space
    ∙ (ap (with_high range.low) (byte_agrees.complete before_high range.high after_high high)
    ∙ (ap (λ y. shut_range range.low range.high (word (codes "]") y)) closed
    ∙ (ranged_by range (leb range.low range.high) (is_small range.high) refl refl rest ∙ ap (λ y. got y rest) (sym is)))))

pub range_agrees : Agree read_range Ends
range_agrees = record { sound = range_sound; complete = range_complete }

pub range_shortens : (t : List ℕ) (e : Exp ByteRange) (rest : List ℕ) → Ends t e rest → length rest < length t
range_shortens t e rest (range, after_low, before_high, after_high, low, space, high, closed, is) =
    omega (arith, byte_shortens t range.low after_low low, ap length space, byte_shortens before_high range.high after_high high, ap length closed)
