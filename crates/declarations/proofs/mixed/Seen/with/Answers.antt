use Rattle.std.proofs.Common.{◌≡◌, ℕ, not, ◌&&◌, [], ◌∷◌, ◌++◌, Some, None, Option, sym, ap, ◌∙◌, subst}
use Rattle.std.specs.Option.{unwrap_or}
use lib.Bits.{bit_or}
use Rattle.scan.specs.Lists.{NumberIs, number_of}
use Rattle.models.proofs.Members.{decides_has}
use Rattle.declarations.specs.Inner.{SeenIs}
use Rattle.declarations.proofs.Repeated.{seen_more}
use Rattle.declarations.proofs.mixed.Seen.with.Goals as goal

number_or_0 : (n : ℕ) (number : Option ℕ) → NumberIs n number → unwrap_or number 0 ≡ n
number_or_0 n None is = sym is
number_or_0 n (Some it) is = sym is.0

pub returns-then-self : goal.returns-then-self
returns-then-self c names its name few is s =
    let seen = c.args.self in
    let same = c.unwrap_or-number.ensures ∙ number_or_0 (number_of names name) c.args.number is in
    let bits = bit_or seen.set c.only.result in
    subst (λ b. SeenIs names (its ++ (name ∷ [])) (record { set = bits; distinct = b })) (ap (λ d. d && not c.contains-came.result) c.if-self.true)
    (seen_more names few its seen s name c.unwrap_or-number.result same c.contains-came.result (decides_has _ _ _ c.contains-came.ensures) bits (ap (bit_or seen.set) c.only.ensures))

pub returns-else-self : goal.returns-else-self
returns-else-self c names its name few is s =
    let seen = c.args.self in
    let same = c.unwrap_or-number.ensures ∙ number_or_0 (number_of names name) c.args.number is in
    let bits = bit_or seen.set c.only.result in
    subst (λ b. SeenIs names (its ++ (name ∷ [])) (record { set = bits; distinct = b })) (ap (λ d. d && not c.contains-came.result) c.if-self.false ∙ sym c.if-self.false)
    (seen_more names few its seen s name c.unwrap_or-number.result same c.contains-came.result (decides_has _ _ _ c.contains-came.ensures) bits (ap (bit_or seen.set) c.only.ensures))
