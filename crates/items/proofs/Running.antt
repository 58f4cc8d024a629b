-- A run of text, byte by byte.
use Rattle.std.proofs.Common.{◌≡◌, ℕ, zero, suc, ◌+◌, ◌-◌, ◌<◌, ◌≤◌, min, Bool, true, false, not, ◌&&◌, eqb, List, [], ◌∷◌, length, get_or, take, drop, Some, None, Option, slice_get, codes, sym, refl, ap, ◌∙◌, subst, inl, inr, arith, length-drop, length-take}
use Rattle.std.proofs.lemmas.List.{drop_more, drop_all}
use Rattle.std.proofs.lemmas.Bool.{cases_lt, both_ways, not-true, not-false, and_parts, and_left, ne_eqb}
use Rattle.std.specs.Bool.{then_some}
use Rattle.std.specs.Option.{unwrap_or}
use Rattle.scan.specs.declared.read.Read.{Read}
use Rattle.items.specs.declared.item.Kind.{Kind}
use Rattle.scan.specs.Bytes.{is_text_byte, first_is}
use Rattle.scan.specs.Comments.{held}
use Rattle.scan.specs.Readings.{bad, got, word}
use Rattle.scan.proofs.Agreements.{chosen_true, chosen_false}
use Rattle.scan.proofs.Fronts.{first_there, first_past, first_peeked}
use Rattle.scan.proofs.Wording.{word_bad}
use Rattle.items.specs.Grammar.{is_markup}
use Rattle.items.specs.Places.{ItemOf}
use Rattle.items.specs.Readers.{chars_from, as_chars, allowed, in_run, RunStops, there}
use Rattle.items.specs.Values.{chars}
use Rattle.items.specs.declared.item.Kind.TheVariants as kind

-- A byte that begins no markup.
abbrev pub unmarked : ℕ → Bool
unmarked b = not (is_markup b)

pub chars_stop : (t : List ℕ) → first_is unmarked t ≡ false → chars_from t ≡ got [] t
unfolding chars_from
chars_stop [] e = refl
chars_stop (b ∷ t) e = chosen_true (is_markup b) _ _ (not-false (is_markup b) e)

pub chars_bad : (t : List ℕ) → first_is unmarked t ≡ true → allowed t ≡ false → chars_from t ≡ bad
unfolding chars_from
chars_bad [] e f = absurd (both_ways false refl e)
chars_bad (b ∷ t) e f = chosen_false (is_markup b) _ _ (not-true (is_markup b) e) ∙ chosen_false (allowed (b ∷ t)) _ _ f

pub chars_more : (b : ℕ) (t : List ℕ) → unmarked b ≡ true → allowed (b ∷ t) ≡ true → chars_from (b ∷ t) ≡ held b (chars_from t)
unfolding chars_from
chars_more b t e f = chosen_false (is_markup b) _ _ (not-true (is_markup b) e) ∙ chosen_true (allowed (b ∷ t)) _ _ f

as_some : (bytes rest : List ℕ) → 0 < length bytes → as_chars (got bytes rest) ≡ got (chars bytes) rest
unfolding as_chars
as_some [] rest h = absurd (omega arith)
as_some (b ∷ bytes) rest h = refl

as_bad : as_chars bad ≡ bad
unfolding as_chars
as_bad = refl

as_none : (rest : List ℕ) → as_chars (got [] rest) ≡ bad
unfolding as_chars
as_none rest = refl

and_all : (x : Bool) → (x && true) ≡ x
and_all true = refl
and_all false = refl

-- Whether the byte at a place may stand: `]` where it begins no `]]>`, and every other byte by itself.
pub closing_stands : (text : List ℕ) (at b : ℕ) (r : Bool) → Some b ≡ slice_get text at → b ≡ 93 → r ≡ there (word (codes "]]>") (drop at text)) → not r ≡ allowed (drop at text)
closing_stands text at b r e is closes =
    let first : first_is is_text_byte (drop at text) ≡ true = first_peeked is_text_byte text at (Some b) e ∙ ap is_text_byte is in
    ap not closes ∙ sym (ap (λ v. v && not (there (word (codes "]]>") (drop at text)))) first)

pub other_stands : (text : List ℕ) (at b : ℕ) (r : Bool) → Some b ≡ slice_get text at → (b ≡ 93 → ⊥) → r ≡ is_text_byte b → r ≡ allowed (drop at text)
other_stands text at b r e other is =
    let first : first_is is_text_byte (drop at text) ≡ is_text_byte b = first_peeked is_text_byte text at (Some b) e in
    let no_closing : first_is (eqb 93) (drop at text) ≡ false = first_peeked (eqb 93) text at (Some b) e ∙ ne_eqb 93 b (λ same. other (sym same)) in
    let none : there (word (codes "]]>") (drop at text)) ≡ false = ap there (word_bad 93 (codes "]>") (drop at text) no_closing) in
    is ∙ sym (ap (λ v. first_is is_text_byte (drop at text) && not v) none ∙ and_all (first_is is_text_byte (drop at text)) ∙ first)

pub none_stands : (text : List ℕ) (at : ℕ) → None ≡ slice_get text at → false ≡ allowed (drop at text)
none_stands text at e = sym (and_left _ _ (first_peeked is_text_byte text at None e))

held_got : (b : ℕ) (bytes rest : List ℕ) → held b (got bytes rest) ≡ got (b ∷ bytes) rest
unfolding held
held_got b bytes rest = refl

held_bad : (b : ℕ) → held b bad ≡ bad
unfolding held
held_bad b = refl

module _ (text : List ℕ) where
  cut : (at : ℕ) → first_is unmarked (drop at text) ≡ true → drop at text ≡ get_or text at 0 ∷ drop (at + 1) text
  cut at e = drop_more text at 0 (first_there unmarked text at e)

  one_more : (at : ℕ) → first_is unmarked (drop at text) ≡ true → allowed (drop at text) ≡ true → chars_from (drop at text) ≡ held (get_or text at 0) (chars_from (drop (at + 1) text))
  one_more at e ok =
      ap chars_from (cut at e) ∙ chars_more (get_or text at 0) (drop (at + 1) text) (ap (first_is unmarked) (sym (cut at e)) ∙ e) (ap allowed (sym (cut at e)) ∙ ok)

  -- Bytes that a run may hold, up to a place.
  abbrev Held : ℕ → ℕ → Type 0
  Held at end = (k : ℕ) → at ≤ k → k < end → in_run (drop k text) ≡ true

  along : (n at end : ℕ) → at + n ≡ end → Held at end → first_is unmarked (drop end text) ≡ false → chars_from (drop at text) ≡ got (take n (drop at text)) (drop end text)
  along zero at end e on stops =
      let same : end ≡ at = omega arith in
      chars_stop (drop at text) (ap (λ k. first_is unmarked (drop k text)) (sym same) ∙ stops) ∙ ap (λ k. got [] (drop k text)) (sym same)
  along (suc n) at end e on stops =
      let ok = and_parts (first_is unmarked (drop at text)) (allowed (drop at text)) (on at (omega arith) (omega arith)) in
      one_more at ok.0 ok.1
      ∙ ap (held (get_or text at 0)) (along n (at + 1) end (omega arith) (λ k low high. on k (omega arith) high) stops)
      ∙ held_got (get_or text at 0) (take n (drop (at + 1) text)) (drop end text)
      ∙ ap (λ l. got (take (suc n) l) (drop end text)) (sym (cut at ok.0))

  along_bad : (n at end : ℕ) → at + n ≡ end → Held at end → chars_from (drop end text) ≡ bad → chars_from (drop at text) ≡ bad
  along_bad zero at end e on wrong =
      let same : end ≡ at = omega arith in ap (λ k. chars_from (drop k text)) (sym same) ∙ wrong
  along_bad (suc n) at end e on wrong =
      let ok = and_parts (first_is unmarked (drop at text)) (allowed (drop at text)) (on at (omega arith) (omega arith)) in
      one_more at ok.0 ok.1
      ∙ ap (held (get_or text at 0)) (along_bad n (at + 1) end (omega arith) (λ k low high. on k (omega arith) high) wrong)
      ∙ held_bad (get_or text at 0)

  -- Where a run does not go on, the end of the text included.
  record Ended (at end : ℕ) : Type 0 where
    forward : at ≤ length text → at ≤ end
    inside : end ≤ length text
    on : Held at end
    stops : in_run (drop end text) ≡ false

  ended : (at : ℕ) (stop : Option ℕ) → RunStops text at stop → Ended at (unwrap_or stop (length text))
  ended at None on = record {
    forward = λ h. h;
    inside = omega arith;
    on = on;
    stops = ap in_run (drop_all (length text) text (omega arith));
  }
  ended at (Some i) h = record {
    forward = λ _. h.0;
    inside = (let lt : i < length text = h.1 in omega arith);
    on = h.3;
    stops = h.2;
  }

  -- The run that is answered.
  abbrev pub run_item : ℕ → ℕ → Read Kind
  run_item at end = record { value = kind.Run (record { start = at; end = end }); end = end }

  -- A run stands where markup or the end closes at least one byte.
  closed : (at end : ℕ) → Ended at end → at < end → first_is unmarked (drop end text) ≡ false → ItemOf text at (as_chars (chars_from (drop at text))) (Some (run_item at end))
  closed at end e some stops =
      let n = end - at in
      let size : length (drop at text) ≡ length text - at = length-drop at text in
      let count : length (take n (drop at text)) ≡ min n (length (drop at text)) = length-take n (drop at text) in
      let within : end ≤ length text = e.inside in
      subst (λ g. ItemOf text at g (Some (run_item at end))) (sym (ap as_chars (along n at end (omega arith) e.on stops) ∙ as_some (take n (drop at text)) (drop end text) (omega arith)))
      (record { forward = omega arith; inside = within; behind = refl }, refl)

  none_at : (at : ℕ) → chars_from (drop at text) ≡ bad → ItemOf text at (as_chars (chars_from (drop at text))) None
  none_at at e = subst (λ g. ItemOf text at g None) (sym (ap as_chars e ∙ as_bad)) tt

  -- No run stands where markup begins or the text ends.
  pub run_none : (at : ℕ) → first_is unmarked (drop at text) ≡ false → ItemOf text at (as_chars (chars_from (drop at text))) None
  run_none at e = subst (λ g. ItemOf text at g None) (sym (ap as_chars (chars_stop (drop at text) e) ∙ as_none (drop at text))) tt

  -- Nor where a byte stops it that may not stand.
  stopped : (at end : ℕ) → Ended at end → at ≤ end → first_is unmarked (drop end text) ≡ true → ItemOf text at (as_chars (chars_from (drop at text))) None
  stopped at end e before goes =
      let wrong : allowed (drop end text) ≡ false = sym (ap (λ v. v && allowed (drop end text)) goes) ∙ e.stops in
      none_at at (along_bad (end - at) at end (omega arith) e.on (chars_bad (drop end text) goes wrong))

  pub run_asked : (at end : ℕ) (stop : Option ℕ) (b goes : Bool) → RunStops text at stop → end ≡ unwrap_or stop (length text) → at < end → goes ≡ first_is unmarked (drop end text) → b ≡ not goes → ItemOf text at (as_chars (chars_from (drop at text))) (then_some b (run_item at end))
  run_asked at end stop b goes h is some asked answer =
      let e : Ended at end = subst (Ended at) (sym is) (ended at stop h) in
      subst (λ v. ItemOf text at (as_chars (chars_from (drop at text))) (then_some v (run_item at end))) (sym answer) (by goes asked e)
    where
      by : (v : Bool) → v ≡ first_is unmarked (drop end text) → Ended at end → ItemOf text at (as_chars (chars_from (drop at text))) (then_some (not v) (run_item at end))
      by true v e = stopped at end e (omega arith) (sym v)
      by false v e = closed at end e some (sym v)

  pub run_empty : (at end : ℕ) (stop : Option ℕ) → RunStops text at stop → end ≡ unwrap_or stop (length text) → end ≤ at → ItemOf text at (as_chars (chars_from (drop at text))) None
  run_empty at end stop h is none =
      let e : Ended at end = subst (Ended at) (sym is) (ended at stop h) in
      elim (cases_lt (length text) at) [
        | inl past ↦ run_none at (first_past unmarked text at (omega arith))
        | inr within ↦
            let before : at ≤ end = e.forward within in
            let same : at ≡ end = omega arith in
            by (first_is unmarked (drop end text)) refl e before same
      ]
    where
      by : (v : Bool) → first_is unmarked (drop end text) ≡ v → Ended at end → at ≤ end → at ≡ end → ItemOf text at (as_chars (chars_from (drop at text))) None
      by true v e before same = stopped at end e before v
      by false v e before same = run_none at (ap (λ k. first_is unmarked (drop k text)) same ∙ v)
