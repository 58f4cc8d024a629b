-- The range between two bytes.
use Rattle.std.proofs.Common.{◌≡◌, ℕ, suc, ◌<◌, ◌≤◌, Bool, true, false, leb, List, drop, Some, None, codes, Option, sym, refl, ap, ◌∙◌, subst, arith}
use mathlib.Core.HLevel.{×_prop, is_prop→PathP}
use native.Mathlib.Bridge.{le_prop}
use Rattle.std.proofs.lemmas.Bool.{leb-true, leb-false, ltb-false}
use Rattle.engine.specs.declared.range.ByteRange.{ByteRange}
use Rattle.models.specs.Expressions.{atom}
use Rattle.scan.specs.Readings.{bad, got, word, EndOf}
use Rattle.scan.proofs.Ends.{worded, end_bad}
use Rattle.forms.specs.Inner.{NumeralAt, RangeAt}
use Rattle.forms.specs.Numbers.{is_small, small_enough, read_byte}
use Rattle.forms.specs.Readers.{range_by, range_from, shut_range, with_high, behind_low, with_low, read_range}
use Rattle.scan.specs.declared.read.Read.{Read}

-- Two ranges with the same ends are the same: that the ends are in order is told in one way only.
pub range_same : (a b : ByteRange) → a.low ≡ b.low → a.high ≡ b.high → a ≡ b
range_same a b p q = λ i. record {
  low = p i;
  high = q i;
  ordered = is_prop→PathP (λ j. (p j ≤ q j) × (q j < 256)) (λ j. ×_prop (le_prop {n = p j} {m = q j}) (le_prop {n = suc (q j)} {m = 256})) a.ordered b.ordered i;
}

by_disorder : (low high : ℕ) (o s : Bool) (p : leb low high ≡ o) (q : is_small high ≡ s) (t : List ℕ) → (low ≤ high → ⊥) → range_by low high o s p q t ≡ bad
unfolding range_by
by_disorder low high true true p q t wrong = absurd (wrong (leb-true low high p))
by_disorder low high true false p q t wrong = refl
by_disorder low high false s p q t wrong = refl

by_order : (low high : ℕ) (o s : Bool) (p : leb low high ≡ o) (q : is_small high ≡ s) (t : List ℕ) (range : ByteRange) → range.low ≡ low → range.high ≡ high → range_by low high o s p q t ≡ got (atom range) t
unfolding range_by
by_order low high true true p q t range a b =
    ap (λ r. got (atom r) t) (range_same (record { low = low; high = high; ordered = (leb-true low high p, small_enough high q) }) range (sym a) (sym b))
by_order low high true false p q t range a b =
    let large : 256 ≤ high = ltb-false high 256 q in
    absurd (omega (arith, range.ordered.1))
by_order low high false s p q t range a b =
    let wrong : high < low = leb-false low high p in
    absurd (omega (arith, range.ordered.0))

-- No range.
pub range_none : (text : List ℕ) (at : ℕ) (r : Option (Read ByteRange)) → r ≡ None → read_range (drop at text) ≡ bad → RangeAt text at r
range_none text at r none h = subst (RangeAt text at) (sym none) h

module _ (text : List ℕ) (at : ℕ) where
  pub no_low : read_byte (drop at text) ≡ bad → read_range (drop at text) ≡ bad
  unfolding with_low
  no_low e = ap with_low e

  module _ (low : Read ℕ) (l : NumeralAt text at (Some low)) where
    behind_it : read_range (drop at text) ≡ behind_low low.value (word (codes " ") (drop low.end text))
    unfolding with_low
    behind_it = ap with_low l.1 ∙ ap (λ t. behind_low low.value (word (codes " ") t)) (sym l.2.behind)

    pub no_space : EndOf text low.end (word (codes " ") (drop low.end text)) None → read_range (drop at text) ≡ bad
    unfolding behind_low
    no_space h = behind_it ∙ ap (behind_low low.value) (end_bad text low.end (word (codes " ") (drop low.end text)) h)

    module _ (space : ℕ) (s : EndOf text low.end (word (codes " ") (drop low.end text)) (Some space)) where
      before_high : read_range (drop at text) ≡ with_high low.value (read_byte (drop space text))
      unfolding behind_low
      before_high = behind_it ∙ ap (behind_low low.value) (worded (codes " ") text low.end space s).reads

      pub no_high : read_byte (drop space text) ≡ bad → read_range (drop at text) ≡ bad
      unfolding with_high
      no_high e = before_high ∙ ap (with_high low.value) e

      module _ (high : Read ℕ) (h : NumeralAt text space (Some high)) where
        before_end : read_range (drop at text) ≡ shut_range low.value high.value (word (codes "]") (drop high.end text))
        unfolding with_high
        before_end =
            before_high ∙ ap (with_high low.value) h.1
            ∙ ap (λ t. shut_range low.value high.value (word (codes "]") t)) (sym h.2.behind)

        pub no_end : EndOf text high.end (word (codes "]") (drop high.end text)) None → read_range (drop at text) ≡ bad
        unfolding shut_range
        no_end n = before_end ∙ ap (shut_range low.value high.value) (end_bad text high.end (word (codes "]") (drop high.end text)) n)

        module _ (end : ℕ) (e : EndOf text high.end (word (codes "]") (drop high.end text)) (Some end)) where
          made : read_range (drop at text) ≡ range_from low.value high.value (drop end text)
          unfolding shut_range
          made = before_end ∙ ap (shut_range low.value high.value) (worded (codes "]") text high.end end e).reads

          pub no_range : (low.value ≤ high.value → ⊥) → read_range (drop at text) ≡ bad
          no_range wrong = made ∙ by_disorder low.value high.value (leb low.value high.value) (is_small high.value) refl refl (drop end text) wrong

          pub ranged : (range : ByteRange) → range.low ≡ low.value → range.high ≡ high.value → RangeAt text at (Some (record { value = range; end = end }))
          ranged range a b =
              let v = worded (codes " ") text low.end space s in
              let w = worded (codes "]") text high.end end e in (
                drop end text,
                made ∙ by_order low.value high.value (leb low.value high.value) (is_small high.value) refl refl (drop end text) range a b,
                record { forward = omega (arith, l.3, h.3, v.place, w.place); inside = w.inside; behind = refl },
                omega (arith, l.3, h.3, v.place, w.place),
              )
