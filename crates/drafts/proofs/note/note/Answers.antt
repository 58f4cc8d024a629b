use Rattle.std.proofs.Common.{[], sym, refl, subst, arith}
use Rattle.drafts.specs.Noted.{NotedAt}
use Rattle.drafts.proofs.Noting.{noting_none, noted_passed, noted_declared, notes_end, notes_unread}
use Rattle.drafts.proofs.note.note.Goals as goal

pub loop-end-init : goal.loop-end-init
loop-end-init c = record {
  found = [];
  read_on = refl;
  inside = omega arith;
  small = omega arith;
  noting = noting_none c.args.text.now c.args.room c.args.entries.now _ refl refl;
}

pub loop-end-preserved-in-Blanks : goal.loop-end-preserved-in-Blanks
loop-end-preserved-in-Blanks c =
    noted_passed c.args.text.now c.args.room c.args.entries.now c.loop-end.at c.loop-end.noted c.loop-end.entries c.loop-end.invariant c.in-Blanks.end c.in-Blanks.ensures.1

pub loop-end-preserved-in-Comment : goal.loop-end-preserved-in-Comment
loop-end-preserved-in-Comment c =
    noted_passed c.args.text.now c.args.room c.args.entries.now c.loop-end.at c.loop-end.noted c.loop-end.entries c.loop-end.invariant c.in-Comment.end c.in-Comment.ensures.1

pub loop-end-preserved : goal.loop-end-preserved
loop-end-preserved c =
    let text = c.args.text.now in
    let told = c.in-Declaration.ensures in
    let one = c.note_one-noted.ensures in
    let inv = c.loop-end.invariant in
    let count = one.counted (omega (arith, inv.noting.counted, inv.small, inv.inside, told.3.longer, told.3.stands.inside)) in
    subst (NotedAt text c.args.room c.args.entries.now c.in-Declaration.told.end c.note_one-noted.result) (sym one.written)
    (noted_declared text c.args.room c.args.entries.now c.loop-end.at c.loop-end.noted c.loop-end.entries inv [] c.in-Declaration.told told.0 told.1 told.3 told.4 c.note_one-noted.result _ count one.here one.later refl told.2)

pub returns-in-End : goal.returns-in-End
returns-in-End c =
    notes_end c.args.text.now c.args.room c.args.entries.now c.loop-end.at c.loop-end.noted c.loop-end.entries c.loop-end.invariant c.in-End.ensures

pub returns-in-Unread : goal.returns-in-Unread
returns-in-Unread c =
    notes_unread c.args.text.now c.args.room c.args.entries.now c.loop-end.at c.loop-end.noted c.loop-end.entries c.loop-end.invariant c.in-Unread.ensures
