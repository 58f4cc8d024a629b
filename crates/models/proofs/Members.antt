-- Whether a number is in a set, as an answer that decides it.
use Rattle.std.proofs.Common.{◌≡◌, ℕ, ◌/◌, ◌%◌, ◌^◌, Bool, sym, ◌∙◌, subst, inl, inr, eq-eqb, ne_eqb}
use Rattle.std.proofs.lemmas.Bool.{cases_eq}
use Rattle.engine.specs.Languages.{Decides}
use Rattle.bits.specs.Sets.{has, Has}

pub decides_has : (b : Bool) (s n : ℕ) → b ≡ has s n → Decides b (Has s n)
decides_has b s n is =
    let d = s / 2 ^ n % 2 in
    elim (cases_eq d 1) [
      | inl one ↦ subst (λ t. Decides t (Has s n)) (sym (is ∙ eq-eqb d 1 one)) one
      | inr other ↦ subst (λ t. Decides t (Has s n)) (sym (is ∙ ne_eqb d 1 other)) other
    ]
