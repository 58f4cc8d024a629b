use Rattle.std.proofs.Common.{decimal, subst, ◌∙◌}
use mir.Facts.{Fits-lt-pow}
use Rattle.line.specs.Placed.{Put}
use Rattle.line.specs.Reached.{reached}
use Rattle.line.proofs.Spelling.{one_decimal, library_text}
use Rattle.line.proofs.put.Writer.put_number.Goals as goal

pub returns-clause-written : goal.returns-clause-written
returns-clause-written c =
    let before = c.args.self.now in
    let after = c.put_bytes.new.self in record {
      text = decimal c.args.number;
      decimal = library_text c.args.number (Fits-lt-pow c.ranges.number);
      put = subst (λ bs. Put bs before.out.now before.at after.out.now (reached after c.put_bytes.result)) (c.as_bytes.ensures.value ∙ c.format.ensures.text) c.put_bytes.ensures.written;
    }

pub returns-clause-one : goal.returns-clause-one
returns-clause-one c = one_decimal
