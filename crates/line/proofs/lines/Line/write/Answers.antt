use Rattle.std.proofs.Common.{None, sym, rules}
use Rattle.line.specs.Lines.{WrittenLine}
use Rattle.line.proofs.Lengths.{none_longer, enough_room}
use Rattle.line.proofs.Whole.{answered, unanswered, put_from, one_text}
use Rattle.line.proofs.lines.Line.write.Goals as goal

pub returns-then-is_none : goal.returns-then-is_none
returns-then-is_none c =
    let line = c.args.self.now in
    let out = c.args.out.now in
    let done : WrittenLine line out c.fill-then-is_none.new.self None =
    unanswered line out c.fill.new.self c.fill-then-is_none.new.self (c.fill.ensures.after (λ y e. search rules)) c.put.new.writer c.put.result _ (sym c.if-is_none.ensures) (put_from c.new-writer.ensures.bytes c.new-writer.ensures.place c.put.ensures.written) (search rules) (search rules) (c.fill-then-is_none.ensures.after (λ y e. search rules)) in
    record {
      written = done;
      one = one_text;
      longest = none_longer;
      room = enough_room line out c.fill-then-is_none.new.self None done c.put.ensures.typed;
    }

pub returns-clause-written : goal.returns-clause-written
returns-clause-written c =
    answered c.args.self.now c.args.out.now c.fill.new.self _ (c.fill.ensures.after (λ y e. search rules)) c.put.new.writer c.put.result (sym c.if-is_none.ensures) (put_from c.new-writer.ensures.bytes c.new-writer.ensures.place c.put.ensures.written) (search rules)

pub returns-clause-one : goal.returns-clause-one
returns-clause-one c = one_text

pub returns-clause-longest : goal.returns-clause-longest
returns-clause-longest c = none_longer
