use Rattle.std.proofs.Common.{[], drop, codes, sym, arith, lit<}
use Rattle.scan.specs.Readings.{run}
use Rattle.scan.proofs.Ends.{worded}
use Rattle.declarations.specs.Answers.{numbered_names}
use Rattle.declarations.specs.Grammar.{deepest}
use Rattle.declarations.specs.Readers.{as_children, marked, read_group, bracketed, mixed_name, shut, starred}
use Rattle.declarations.proofs.Stages.{inside}
use Rattle.declarations.proofs.Wholes.{content_same, bracket_missing, bracket_mixed, bracket_children}
use Rattle.declarations.proofs.content.bracketed.Goals as goal

pub returns-then-not-byte_is-clause-read : goal.returns-then-not-byte_is-clause-read
returns-then-not-byte_is-clause-read c = bracket_missing c.args.source.text.now c.args.at (sym c.if-not-byte_is.ensures)

pub overflow_add-at : goal.overflow_add-at
overflow_add-at c =
    let h = inside 40 c.args.source.text.now c.args.at (sym c.if-not-byte_is.ensures) in
    omega arith

pub returns-in-Some-clause-read : goal.returns-in-Some-clause-read
returns-in-Some-clause-read c =
    let text = c.args.source.text.now in
    let at = c.args.at in
    let opened = sym c.if-not-byte_is.ensures in
    let end = c.in-Some.word in
    let there = c.in-Some.ensures.answer (lit< tt) in
    let w = worded (codes "#PCDATA") text c.skip_blanks-start.result end there in
    content_same text (numbered_names text c.args.source.entries.now) at c.args.model.now (bracketed (drop at text) (drop at text)) (starred (shut (run mixed_name [] (drop end text)))) c.mixed.result c.mixed.new.model
    (bracket_mixed text at c.skip_blanks-start.result opened (inside 40 text at opened) c.skip_blanks-start.ensures.behind end there)
    (c.mixed.ensures.read at (omega (arith, w.place, c.skip_blanks-start.ensures.forward)) w.inside)

pub returns-in-None-clause-read : goal.returns-in-None-clause-read
returns-in-None-clause-read c =
    let text = c.args.source.text.now in
    let at = c.args.at in
    let opened = sym c.if-not-byte_is.ensures in
    content_same text (numbered_names text c.args.source.entries.now) at c.args.model.now (bracketed (drop at text) (drop at text)) (as_children (marked (read_group deepest (drop at text)))) c.children.result c.children.new.model
    (bracket_children text at c.skip_blanks-start.result opened (inside 40 text at opened) c.skip_blanks-start.ensures.behind (c.in-None.ensures.answer (lit< tt))) c.children.ensures.read
