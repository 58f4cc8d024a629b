use Rattle.std.proofs.Common.{◌≡◌, ◌-◌, ◌≤◌, length, ap, ◌∙◌, length-drop, rules, arith}
use Rattle.std.proofs.lemmas.List.Sums.{prefix_len-le-length}
use Rattle.scan.specs.Bytes.{is_name_byte}
use Rattle.scan.proofs.names.name_run_end.Goals as goal

pub overflow_add-result : goal.overflow_add-result
overflow_add-result c =
    let few = prefix_len-le-length is_name_byte c.rest.result.now in
    let left : length c.rest.result.now ≡ length c.args.text.now - c.args.at = ap length c.rest.ensures ∙ length-drop c.args.at c.args.text.now in
    let short : c.name_bytes.result ≤ length c.args.text.now - c.args.at = omega (arith, few) in
    search rules
