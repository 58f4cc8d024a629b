-- Which buckets the letters of an atom are in, for both kinds of letter.
use Rattle.std.proofs.Common.{◌≡◌, ℕ, zero, suc, ◌+◌, ◌-◌, ◌%◌, ◌<◌, ◌≤◌, Bool, true, false, eqb, ltb, leb, sym, refl, ap, ◌∙◌, arith, ltb-false, ltb-true, eqb-true, leb-false, leb-true}
use borrow.Author.Tests.{eqb-false}
use Rattle.engine.specs.Atoms.{StandsFor, InRange}
use Rattle.engine.specs.Languages.{Decides}
use Rattle.engine.specs.declared.alphabet.Letter.{Letter}
use Rattle.engine.specs.declared.alphabet.Letter.TheVariants as letter
use Rattle.engine.specs.declared.alphabet.ContentAtom.TheVariants as atom
use Rattle.engine.specs.declared.range.ByteRange.{ByteRange}
use Rattle.positions.specs.Columns.{Meets, letter_bucket, byte_bucket}

decides_by : {P : Type 0} (t : Bool) → (t ≡ true → P) → (t ≡ false → P → ⊥) → Decides t P
decides_by true holds fails = holds refl
decides_by false holds fails = fails refl

element_bucket : (n b : ℕ) (x : Letter) → StandsFor (atom.Element n) x → letter_bucket x ≡ b → b ≡ n % 64
element_bucket n b letter.Text h e = absurd h
element_bucket n b (letter.Element k) h e = sym e ∙ ap (λ m. m % 64) (sym h)

pub element_meets : (n b : ℕ) → Decides (eqb b (n % 64)) (Meets StandsFor letter_bucket (atom.Element n) b)
element_meets n b =
    decides_by (eqb b (n % 64)) (λ h. (letter.Element n, refl, sym (eqb-true b (n % 64) h))) (λ h m. eqb-false b (n % 64) h (element_bucket n b m.0 m.1 m.2))

bucket_few : (x : Letter) → letter_bucket x < 64
bucket_few letter.Text = omega arith
bucket_few (letter.Element n) = omega arith

all_has : (last b : ℕ) → b ≤ last → b < 64 → Meets StandsFor letter_bucket (atom.All last) b
all_has last zero le lt = (letter.Text, tt, refl)
all_has last (suc b) le lt = (letter.Element (suc b), (omega arith, le), omega arith)

pub all_meets : (last b : ℕ) → b ≤ last → Decides (ltb b 64) (Meets StandsFor letter_bucket (atom.All last) b)
all_meets last b le =
    decides_by (ltb b 64) (λ h. all_has last b le (ltb-true b 64 h)) (λ h m. let far = ltb-false b 64 h in let few = bucket_few m.0 in let is = m.2 in omega arith)

pub range_meets : (range : ByteRange) (b low low' high : ℕ) → b < 64 → low ≡ range.low → low' ≡ range.low → high ≡ range.high → Decides (leb ((b + 64 - low % 64) % 64) (high - low')) (Meets InRange byte_bucket range b)
range_meets range b low low' high lt is is' top =
    let order = range.ordered.0 in
    let gap : ℕ = (b + 64 - low % 64) % 64 in
    decides_by (leb gap (high - low'))
    (λ h. let near = leb-true gap (high - low') h in (low + gap, (omega arith, omega arith), omega arith))
    (λ h m. let far = leb-false gap (high - low') h in let x = m.0 in let lo = m.1.0 in let hi = m.1.1 in let at = m.2 in omega arith)
