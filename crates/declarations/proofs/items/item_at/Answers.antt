use Rattle.std.proofs.Common.{sym, arith, rules}
use Rattle.models.proofs.Options.{match_then}
use Rattle.declarations.specs.Answers.{numbered_names}
use Rattle.declarations.proofs.Pieces.{piece_end, piece_blanks, piece_comment, piece_told}
use Rattle.declarations.proofs.items.item_at.Goals as goal

pub returns-then-at-text : goal.returns-then-at-text
returns-then-at-text c =
    let text = c.args.text.now in
    piece_end text (numbered_names text c.args.entries.now) c.args.at c.if-at-text.true

pub returns-then-blank_at : goal.returns-then-blank_at
returns-then-blank_at c =
    let text = c.args.text.now in
    piece_blanks text (numbered_names text c.args.entries.now) c.args.at c.skip_blanks.result (sym c.if-blank_at.ensures) c.skip_blanks.ensures.behind c.skip_blanks.ensures.forward (c.skip_blanks.ensures.inside (omega arith))

pub returns-in-Some : goal.returns-in-Some
returns-in-Some c =
    let text = c.args.text.now in
    piece_comment text (numbered_names text c.args.entries.now) c.args.at c.if-at-text.false (sym c.if-blank_at.ensures) c.in-Some.end c.in-Some.ensures

pub returns : goal.returns
returns c =
    let text = c.args.text.now in
    piece_told text (numbered_names text c.args.entries.now) c.args.at c.if-at-text.false (sym c.if-blank_at.ensures) c.declaration_at.result c.map_or.result c.in_default.ensures c.declaration_at.ensures
    (match_then _ c.declaration_at.result c.map_or.ensures (λ told h. search rules))
