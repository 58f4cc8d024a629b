use Rattle.std.proofs.Common.{◌≡◌, ◌-◌, ◌≤◌, length, drop, sym, ap, ◌∙◌, length-drop, drop-drop, rules, arith}
use Rattle.std.specs.List.{prefix_len}
use Rattle.std.proofs.lemmas.List.Sums.{prefix_len-le-length}
use Rattle.scan.specs.Bytes.{is_blank}
use Rattle.scan.proofs.Skipping.{skip_leading}
use Rattle.scan.proofs.blanks.skip_blanks.Goals as goal

short : (c : goal.After-leading_blanks) → c.leading_blanks.result ≤ length c.args.text.now - c.args.at
short c =
    let few = prefix_len-le-length is_blank c.rest.result.now in
    let left : length c.rest.result.now ≡ length c.args.text.now - c.args.at = ap length c.rest.ensures ∙ length-drop c.args.at c.args.text.now in
    omega (arith, few)

pub overflow_add-result : goal.overflow_add-result
overflow_add-result c =
    let h = short c in
    search rules

pub returns : goal.returns
returns c =
    let h = short c in
    let same : c.leading_blanks.result ≡ prefix_len is_blank (drop c.args.at c.args.text.now) = c.leading_blanks.ensures ∙ ap (prefix_len is_blank) c.rest.ensures in
    record {
      behind = sym (skip_leading (drop c.args.at c.args.text.now) ∙ ap (λ k. drop k (drop c.args.at c.args.text.now)) (sym same) ∙ drop-drop c.leading_blanks.result c.args.at c.args.text.now);
      forward = omega arith;
      inside = λ k. omega arith;
    }
