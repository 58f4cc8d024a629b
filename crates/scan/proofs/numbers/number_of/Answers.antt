use Rattle.std.proofs.Common.{◌≡◌, ◌+◌, ◌<◌, min, length, take, Some, sym, subst, ◌∙◌, arith, length-take, rules}
use Rattle.scan.specs.Lists.{number_of, names_at, NumberIs}
use Rattle.scan.proofs.Numbering.{placed, Found}
use Rattle.scan.proofs.numbers.number_of.Goals as goal

there : (c : goal.In_ok-index) → Found c.args.text.now c.args.name.now 0 (take 63 c.args.entries.now) (number_of (names_at c.args.text.now (take 63 c.args.entries.now)) c.args.name.now) (Some c.in_ok-index.index)
there c = placed c.args.text.now c.args.name.now (take 63 c.args.entries.now) (Some c.in_ok-index.index) (sym c.in_ok-index.was ∙ c.index_of.ensures)

pub returns-in_err-index : goal.returns-in_err-index
returns-in_err-index c =
    subst (NumberIs _) (sym c.from_residual.ensures) (placed c.args.text.now c.args.name.now (take 63 c.args.entries.now) _ (sym c.in_err-index.was ∙ c.index_of.ensures))

pub overflow_add-result : goal.overflow_add-result
overflow_add-result c =
    let inside : c.in_ok-index.index < 0 + length (take 63 c.args.entries.now) = (there c).2 in
    let few : length (take 63 c.args.entries.now) ≡ min 63 (length c.args.entries.now) = length-take 63 c.args.entries.now in
    search (rules, arith)

pub overflow_cast-result : goal.overflow_cast-result
overflow_cast-result c =
    let inside : c.in_ok-index.index < 0 + length (take 63 c.args.entries.now) = (there c).2 in
    let few : length (take 63 c.args.entries.now) ≡ min 63 (length c.args.entries.now) = length-take 63 c.args.entries.now in
    search (rules, arith)

pub returns : goal.returns
returns c = let it : _ + 0 ≡ c.in_ok-index.index + 1 = (there c).0 in (omega arith, omega arith)
