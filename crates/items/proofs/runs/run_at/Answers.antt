use Rattle.std.proofs.Common.{◌≡◌, ◌≤◌, false, drop, sym, ◌∙◌, subst}
use Rattle.std.specs.Bool.{then_some}
use Rattle.std.proofs.lemmas.Bool.{le-ltb}
use Rattle.items.specs.Places.{ItemOf}
use Rattle.items.specs.Readers.{as_chars, chars_from}
use Rattle.items.proofs.Running.{run_item, run_asked, run_empty}
use Rattle.items.proofs.runs.run_at.Goals as goal
use Rattle.items.proofs.runs.run_at.Goals.{then-at-end, else-at-end}

pub returns : goal.returns
returns c =
    let text = c.args.text.now in
    let at = c.args.at in
    let end = c.unwrap_or-end.result in
    subst (ItemOf text at (as_chars (chars_from (drop at text)))) (sym c.then_some.ensures)
    (elim c.if-at-end.branch [
      | then-at-end w ↦ run_asked text at end c.stop.result c.if-at-end.then_some w.goes_on.result c.stop.ensures c.unwrap_or-end.ensures w.if-at-end.true w.goes_on.ensures w.then_some-is
      | else-at-end w ↦
          let over : end ≤ at = w.if-at-end.false in
          let not_ok : c.if-at-end.then_some ≡ false = w.then_some-is ∙ le-ltb _ _ over in
          subst (λ b. ItemOf text at (as_chars (chars_from (drop at text))) (then_some b (run_item text at end))) (sym not_ok) (run_empty text at end c.stop.result c.stop.ensures c.unwrap_or-end.ensures over)
    ])
