use Rattle.std.proofs.Common.{◌≡◌, true, false, drop, rules}
use Rattle.std.proofs.lemmas.Iterator.{first_from_Range}
use Rattle.items.specs.Readers.{in_run, RunStops}
use Rattle.items.proofs.runs.stop.Goals as goal

pub returns : goal.returns
returns c =
    let h : RunStops c.args.text.now c.args.at c.find.result = first_from_Range _ _ _ c.find.result (λ k. in_run (drop k c.args.text.now) ≡ false) (λ k. in_run (drop k c.args.text.now) ≡ true) c.find.ensures.ran (λ x q k. search rules) (λ x q k. search rules) in
    h
