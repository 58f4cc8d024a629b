use Rattle.std.proofs.Common.{not, drop, sym, ap, ◌∙◌, rules}
use Rattle.scan.specs.Bytes.{is_text_byte}
use Rattle.scan.specs.Comments.{two_dashes}
use Rattle.scan.proofs.Fronts.{first_asked}
use Rattle.scan.proofs.Remarks.{goes_on_dash, goes_on_plain}
use Rattle.scan.proofs.comments.goes_on.Goals as goal

pub returns-then-byte_is : goal.returns-then-byte_is
returns-then-byte_is c =
    ap not (c.two_dashes.ensures ∙ ap two_dashes c.rest.ensures) ∙ sym (goes_on_dash (drop c.args.at c.args.text.now) (sym c.byte_is.ensures ∙ c.if-byte_is.true))

pub returns-else-byte_is : goal.returns-else-byte_is
returns-else-byte_is c =
    first_asked is_text_byte c.args.text.now c.args.at c.peek.result c.is_some_and.result c.peek.ensures (search rules) ∙ sym (goes_on_plain (drop c.args.at c.args.text.now) (sym c.byte_is.ensures ∙ c.if-byte_is.false))
