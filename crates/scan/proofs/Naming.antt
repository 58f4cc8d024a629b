-- The end of a name.
use Rattle.std.proofs.Common.{◌≡◌, ℕ, ◌+◌, ◌-◌, ◌<◌, ◌≤◌, Bool, true, false, ◌&&◌, leb, List, length, take, drop, Some, None, Option, sym, ap, ◌∙◌, subst, ap₂, inl, inr, arith, length-drop, drop-drop}
use Rattle.std.specs.Bool.{then_some}
use Rattle.std.specs.List.{prefix_len}
use Rattle.std.proofs.lemmas.List.Sums.{prefix_len-drop_yes, prefix_len-le-length}
use Rattle.std.proofs.lemmas.Bool.{cases_lt, le-leb, lt-leb, and_from, and_left, and_right}
use Rattle.scan.specs.Bytes.{is_initial, is_name_byte, first_is}
use Rattle.scan.specs.Names.{read_name}
use Rattle.scan.specs.Readings.{bad, got, EndOf}
use Rattle.scan.proofs.Fronts.{first_inside, first_there}

-- One more name byte, and none.
pub leading_one : (test : ℕ → Bool) (t : List ℕ) (i : ℕ) → first_is test (drop i t) ≡ true → prefix_len test (drop i t) ≡ 1 + prefix_len test (drop (i + 1) t)
leading_one test t i holds =
    let lt : i < length t = first_there test t i holds in
    prefix_len-drop_yes test t i 0 lt (sym (first_inside test t i 0 lt) ∙ holds)

-- The three ways in which the reading of a name ends.
read_some : (t : List ℕ) → first_is is_initial t ≡ true → prefix_len is_name_byte t ≤ 32 → read_name t ≡ got (take (prefix_len is_name_byte t) t) (drop (prefix_len is_name_byte t) t)
read_some t holds short =
    let h : (first_is is_initial t && leb (prefix_len is_name_byte t) 32) ≡ true = and_from _ _ holds (le-leb _ _ short) in
    rw (h, read_name)

read_long : (t : List ℕ) → first_is is_initial t ≡ true → 32 < prefix_len is_name_byte t → read_name t ≡ bad
read_long t holds long =
    let h : (first_is is_initial t && leb (prefix_len is_name_byte t) 32) ≡ false = and_right _ _ (lt-leb _ _ long) in
    rw (h, read_name)

read_none : (t : List ℕ) → first_is is_initial t ≡ false → read_name t ≡ bad
read_none t fails =
    let h : (first_is is_initial t && leb (prefix_len is_name_byte t) 32) ≡ false = and_left _ _ fails in
    rw (h, read_name)

-- What an answer says at a place.
abbrev pub Spelled : List ℕ → ℕ → Option ℕ → Type 0
Spelled text at None = Unit {0}
Spelled text at (Some end) = read_name (drop at text) ≡ got (take (end - at) (drop at text)) (drop end text)

pub record Named (text : List ℕ) (at : ℕ) (r : Option ℕ) : Type 0 where
  pub answer : EndOf text at (read_name (drop at text)) r
  pub name : Spelled text at r

refused : (text : List ℕ) (at : ℕ) → read_name (drop at text) ≡ bad → Named text at None
refused text at e = record {
  answer = subst (λ f. EndOf text at f None) (sym e) tt;
  name = tt;
}

pub not_begun : (text : List ℕ) (at : ℕ) → first_is is_initial (drop at text) ≡ false → Named text at None
not_begun text at fails = refused text at (read_none (drop at text) fails)

pub named : (text : List ℕ) (at end : ℕ) → first_is is_initial (drop at text) ≡ true → end ≡ at + prefix_len is_name_byte (drop at text) → end - at ≤ 32 → Named text at (Some end)
named text at end holds is short =
    let n = prefix_len is_name_byte (drop at text) in
    let there : at < length text = first_there is_initial text at holds in
    let few : n ≤ length (drop at text) = prefix_len-le-length is_name_byte (drop at text) in
    let left : length (drop at text) ≡ length text - at = length-drop at text in
    let behind : drop end text ≡ drop n (drop at text) = ap (λ k. drop k text) is ∙ sym (drop-drop n at text) in
    let width : end - at ≡ n = omega arith in
    let read : read_name (drop at text) ≡ got (take n (drop at text)) (drop n (drop at text)) = read_some (drop at text) holds (omega arith) in
    record {
      answer = subst (λ f. EndOf text at f (Some end)) (sym read) (record { forward = omega arith; inside = omega arith; behind = behind });
      name = read ∙ ap₂ (λ k rest. got (take k (drop at text)) rest) (sym width) (sym behind);
    }

-- An end that is answered where the name is not too long.
pub named_if : (text : List ℕ) (at end : ℕ) → first_is is_initial (drop at text) ≡ true → end ≡ at + prefix_len is_name_byte (drop at text) → Named text at (then_some (leb (end - at) 32) end)
named_if text at end holds is =
    elim (cases_lt 32 (end - at)) [
      | inl long ↦ subst (λ b. Named text at (then_some b end)) (sym (lt-leb _ _ long)) (refused text at (read_long (drop at text) holds (omega arith)))
      | inr short ↦ subst (λ b. Named text at (then_some b end)) (sym (le-leb _ _ short)) (named text at end holds is short)
    ]
