use Rattle.std.proofs.Common.{◌<◌, codes, refl, lit<, rules}
use Rattle.scan.specs.Readings.{bad}
use Rattle.writing.specs.declared.signs.Joint.TheVariants.{Sequence, Alternatives}
use Rattle.writing.specs.declared.signs.Mark.TheVariants.{AnyNumber, AtLeastOne, Perhaps}
use Rattle.forms.specs.declared.openings.Opening.TheVariants.{Range, Members, Marked}
use Rattle.forms.proofs.Beginnings.{from_seq, from_alt, from_star, from_plus, from_opt, one_tried, tried, all_tried}
use Rattle.forms.proofs.openings.opening_at.Goals as goal

five : 0 < 5
five = lit< tt

six : 0 < 6
six = lit< tt

seven : 0 < 7
seven = lit< tt

pub returns : goal.returns
returns c =
    let text = c.args.text.now in
    let at = c.args.at in
    let range = one_tried text at (codes "[range ") seven Range from_seq (λ inner. refl) c.opened.result c.opened.ensures in
    let sequence = tried text at (codes "[seq ") five (Members Sequence) from_alt c.opened.result c.or_else.result range c.or_else.ensures (λ k. search rules) in
    let alternatives = tried text at (codes "[alt ") five (Members Alternatives) from_star c.or_else.result c.or_else-2.result sequence c.or_else-2.ensures (λ k. search rules) in
    let star = tried text at (codes "[star ") six (Marked AnyNumber) from_plus c.or_else-2.result c.or_else-3.result alternatives c.or_else-3.ensures (λ k. search rules) in
    let plus = tried text at (codes "[plus ") six (Marked AtLeastOne) from_opt c.or_else-3.result c.or_else-4.result star c.or_else-4.ensures (λ k. search rules) in
    all_tried text at c.or_else-5.result
    (tried text at (codes "[opt ") five (Marked Perhaps) (λ inner t. bad) c.or_else-4.result c.or_else-5.result plus c.or_else-5.ensures (λ k. search rules))
