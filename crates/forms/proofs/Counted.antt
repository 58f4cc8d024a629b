-- How many atoms the expressions of forms have; and the first of some digits.
use Rattle.std.proofs.Common.{◌≡◌, ℕ, zero, suc, ◌+◌, ◌<◌, ◌≤◌, true, not, eqb, leb, List, [], ◌∷◌, length, get_or, take, drop, sym, refl, ap, ◌∙◌, arith}
use Rattle.std.proofs.lemmas.Bool.{leb-true, and_parts}
use Rattle.engine.specs.declared.range.ByteRange.{ByteRange}
use Rattle.models.specs.Expressions.{Exp, atoms}
use Rattle.scan.specs.Bytes.{first_is}
use Rattle.scan.proofs.Fronts.{first_inside, first_there}
use Rattle.writing.specs.declared.signs.Joint as joint
use Rattle.writing.specs.declared.signs.Joint.TheVariants.{Sequence, Alternatives}
use Rattle.writing.specs.declared.signs.Mark as mark
use Rattle.writing.specs.declared.signs.Mark.TheVariants.{AnyNumber, AtLeastOne, Perhaps}
use Rattle.forms.specs.Grammar.{join, marked}
use Rattle.forms.specs.Inner.{joint_of, mark_of}
use Rattle.forms.specs.Numbers.{is_digit, no_leading_zero}
use Rattle.forms.proofs.Digits.{flip}

pub join_atoms : (j : joint.Joint) (e f : Exp ByteRange) → atoms (join (joint_of j) e f) ≡ atoms e + atoms f
join_atoms Sequence e f = refl
join_atoms Alternatives e f = refl

pub mark_atoms : (m : mark.Mark) (e : Exp ByteRange) → atoms (marked (mark_of m) e) ≡ atoms e
mark_atoms AnyNumber e = refl
mark_atoms AtLeastOne e = refl
mark_atoms Perhaps e = refl

-- A digit is no less than the digit zero.
pub digit_low : (text : List ℕ) (here : ℕ) → first_is is_digit (drop here text) ≡ true → 48 ≤ get_or text here 0
digit_low text here e =
    let there : here < length text = first_there is_digit text here e in
    let inside = first_inside is_digit text here 0 there in
    leb-true 48 (get_or text here 0) (and_parts (leb 48 (get_or text here 0)) (leb (get_or text here 0) 57) (sym inside ∙ e)).0

-- With two digits or more the first must not be a zero.
pub plain_first : (t : List ℕ) (n : ℕ) → 2 ≤ n → n ≤ length t → not (first_is (eqb 48) t) ≡ no_leading_zero (take n t)
plain_first [] n two long = absurd (omega arith)
plain_first (b ∷ []) n two long = absurd (omega arith)
plain_first (b ∷ (c ∷ t)) zero two long = absurd (omega arith)
plain_first (b ∷ (c ∷ t)) (suc zero) two long = absurd (omega arith)
plain_first (b ∷ (c ∷ t)) (suc (suc n)) two long = ap not (flip 48 b)
