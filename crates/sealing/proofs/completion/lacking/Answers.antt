use Rattle.std.proofs.Common.{◌≡◌, rules, true, false}
use Rattle.std.proofs.lemmas.Iterator.{first_from_Range}
use borrow.Author.Tests.{tests}
use Rattle.bits.specs.Sets.{has}
use Rattle.sealing.specs.Completion.{Completes}
use Rattle.sealing.proofs.Completing.{lacking_found}
use Rattle.sealing.proofs.completion.lacking.Goals as goal

pub returns : goal.returns
returns c =
    let completes = Completes c.args.tables.nodes.now c.args.tables.models.now c.args.set in
    let set = c.args.set in
    lacking_found c.args.tables.nodes.now c.args.tables.models.now set c.find.result
    (first_from_Range _ _ _ c.find.result (λ n. (has set n ≡ false) × completes n) (λ n. completes n → has set n ≡ true) c.find.ensures.ran
    (λ x q k. search (rules, tests)) (λ x q k. search (rules, tests)))
