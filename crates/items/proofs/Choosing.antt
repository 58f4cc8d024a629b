-- The first byte tells what an item has to be.
use Rattle.std.proofs.Common.{◌≡◌, ℕ, ◌≢◌, true, false, eqb, List, drop, Some, None, Option, slice_get, sym, ◌∙◌, subst, arith}
use Rattle.std.proofs.lemmas.Bool.{eq-eqb, ne_eqb}
use Rattle.scan.specs.Bytes.{first_is}
use Rattle.scan.specs.declared.read.Read.{Read}
use Rattle.scan.proofs.Agreements.{chosen_true, chosen_false}
use Rattle.scan.proofs.Fronts.{first_peeked}
use Rattle.items.specs.Places.{ItemOf}
use Rattle.items.specs.Readers.{read_markup, read_reference, read_item, as_chars, chars_from}
use Rattle.items.proofs.Running.{unmarked, run_none}
use Rattle.items.specs.declared.item.Kind.{Kind}

module _ (text : List ℕ) (at : ℕ) (r : Option (Read Kind)) where
  front_is : (b c : ℕ) → Some c ≡ slice_get text at → c ≡ b → first_is (eqb b) (drop at text) ≡ true
  front_is b c e same = first_peeked (eqb b) text at (Some c) e ∙ eq-eqb b c (sym same)

  front_is_not : (b c : ℕ) → Some c ≡ slice_get text at → c ≢ b → first_is (eqb b) (drop at text) ≡ false
  front_is_not b c e other = first_peeked (eqb b) text at (Some c) e ∙ ne_eqb b c (λ same. other (sym same))

  pub at_markup : (c : ℕ) → Some c ≡ slice_get text at → c ≡ 60 → ItemOf text at (read_markup (drop at text)) r → ItemOf text at (read_item (drop at text)) r
  at_markup c e same h = subst (λ f. ItemOf text at f r) (sym (chosen_true (first_is (eqb 60) (drop at text)) _ _ (front_is 60 c e same))) h

  pub at_reference : (c : ℕ) → Some c ≡ slice_get text at → c ≡ 38 → ItemOf text at (read_reference (drop at text)) r → ItemOf text at (read_item (drop at text)) r
  at_reference c e same h =
      subst (λ f. ItemOf text at f r) (sym (chosen_false (first_is (eqb 60) (drop at text)) _ _ (front_is_not 60 c e (λ less. omega arith)) ∙ chosen_true (first_is (eqb 38) (drop at text)) _ _ (front_is 38 c e same))) h

  pub at_run : (c : ℕ) → Some c ≡ slice_get text at → c ≢ 60 → c ≢ 38 → ItemOf text at (as_chars (chars_from (drop at text))) r → ItemOf text at (read_item (drop at text)) r
  at_run c e other another h =
      subst (λ f. ItemOf text at f r) (sym (chosen_false (first_is (eqb 60) (drop at text)) _ _ (front_is_not 60 c e other) ∙ chosen_false (first_is (eqb 38) (drop at text)) _ _ (front_is_not 38 c e another))) h

-- Past the end no item stands.
pub at_end : (text : List ℕ) (at : ℕ) → None ≡ slice_get text at → ItemOf text at (read_item (drop at text)) None
at_end text at e =
    subst (λ f. ItemOf text at f None) (sym (chosen_false (first_is (eqb 60) (drop at text)) _ _ (first_peeked (eqb 60) text at None e) ∙ chosen_false (first_is (eqb 38) (drop at text)) _ _ (first_peeked (eqb 38) text at None e)))
    (run_none text at (first_peeked unmarked text at None e))
