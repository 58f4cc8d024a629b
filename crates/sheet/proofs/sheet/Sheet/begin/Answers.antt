use Rattle.std.proofs.Common.{◌≡◌, ℕ, refl, arith}
use Rattle.frames.specs.Meanings.{meaning}
use Rattle.sheet.proofs.Steps.{begin_right, begin_unplain}
use Rattle.sheet.proofs.sheet.Sheet.begin.Goals as goal

pub returns-then-not-agrees : goal.returns-then-not-agrees
returns-then-not-agrees g c =
    let M = meaning g.C.Engine g.V.Engine c.args.self.now.engines in
    let s = c.args.self.now.state in
    record {
      engines = refl;
      moved = record {
        right = λ calls st. begin_unplain M s calls c.args.root c.in-Fresh.is c.if-not-is_declared.ensures c.if-not-agrees.ensures st;
        after = λ calls st. st;
        same = λ n e. refl;
      };
    }

pub returns : goal.returns
returns g c =
    let M = meaning g.C.Engine g.V.Engine c.args.self.now.engines in
    let s = c.args.self.now.state in
    record {
      engines = refl;
      moved = record {
        right = λ calls st. (begin_right M s calls c.args.root c.in-Fresh.is c.if-not-is_declared.ensures c.if-not-agrees.ensures st).0;
        after = λ calls st. (begin_right M s calls c.args.root c.in-Fresh.is c.if-not-is_declared.ensures c.if-not-agrees.ensures st).1;
        same = λ n e. let z : ◌≡◌ {A = ℕ} 0 1 = cc in absurd (omega arith);
      };
    }
