use Rattle.std.proofs.Common.{◌-◌, take, drop, sym, subst, lit<}
use Rattle.scan.specs.Names.{read_name}
use Rattle.declarations.specs.Inner.{HeadAt}
use Rattle.declarations.proofs.Heads.{no_word, no_blank, no_name, no_second_blank, headed}
use Rattle.declarations.proofs.Leaves.{end_at}
use Rattle.declarations.proofs.reading.opening.Goals as goal

pub returns-in_err-word : goal.returns-in_err-word
returns-in_err-word c =
    subst (λ r. HeadAt c.args.text.now c.args.at r) (sym c.from_residual.ensures)
    (no_word c.args.text.now c.args.at (c.in_err-word.ensures.answer (lit< tt)))

pub returns-then-not-blank_at : goal.returns-then-not-blank_at
returns-then-not-blank_at c =
    no_blank c.args.text.now c.args.at c.in_ok-word.word (c.in_ok-word.ensures.answer (lit< tt)) (sym c.if-not-blank_at.ensures)

pub returns-in_err-end : goal.returns-in_err-end
returns-in_err-end c =
    subst (λ r. HeadAt c.args.text.now c.args.at r) (sym c.from_residual-in_err-end.ensures)
    (no_name c.args.text.now c.args.at c.in_ok-word.word (c.in_ok-word.ensures.answer (lit< tt)) c.skip_blanks-start.result (sym c.if-not-blank_at.ensures) c.skip_blanks-start.ensures.behind c.in_err-end.ensures.answer)

pub returns-then-not-blank_at-2 : goal.returns-then-not-blank_at-2
returns-then-not-blank_at-2 c =
    no_second_blank c.args.text.now c.args.at c.in_ok-word.word (c.in_ok-word.ensures.answer (lit< tt)) c.skip_blanks-start.result (sym c.if-not-blank_at.ensures) c.skip_blanks-start.ensures.behind c.in_ok-end.end c.in_ok-end.ensures.name (sym c.if-not-blank_at-2.ensures)

pub returns : goal.returns
returns c =
    let text = c.args.text.now in
    let start = c.skip_blanks-start.result in
    let end = c.in_ok-end.end in
    let stands = end_at text start (read_name (drop start text)) (take (end - start) (drop start text)) (drop end text) end c.in_ok-end.ensures.name c.in_ok-end.ensures.answer in
    headed text c.args.at c.in_ok-word.word (c.in_ok-word.ensures.answer (lit< tt)) start (sym c.if-not-blank_at.ensures) c.skip_blanks-start.ensures.behind end c.in_ok-end.ensures.name c.skip_blanks-content.result (sym c.if-not-blank_at-2.ensures) c.skip_blanks-content.ensures.behind c.skip_blanks-start.ensures.forward c.in_ok-end.ensures.answer c.skip_blanks-content.ensures.forward (c.skip_blanks-content.ensures.inside stands.inside)
