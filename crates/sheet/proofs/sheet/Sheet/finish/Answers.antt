use Rattle.std.proofs.Common.{◌≡◌, ℕ, inl, inr, refl, arith}
use Rattle.frames.specs.Meanings.{meaning}
use Rattle.sheet.proofs.Steps.{finish_begun, finish_open, finish_ended}
use Rattle.sheet.proofs.sheet.Sheet.finish.Goals as goal

pub returns-in-Begun : goal.returns-in-Begun
returns-in-Begun g c =
    let M = meaning g.C.Engine g.V.Engine c.args.self.now.engines in
    let s = c.args.self.now.state in
    record {
      engines = refl;
      moved = record {
        right = λ calls st. elim c.in-Begun.is [ inl begun ↦ finish_begun M s calls begun st | inr inside ↦ finish_open M s calls inside st ];
        after = λ calls st. st;
        same = λ n e. refl;
      };
    }

pub returns-in-Ended : goal.returns-in-Ended
returns-in-Ended g c =
    let M = meaning g.C.Engine g.V.Engine c.args.self.now.engines in
    let s = c.args.self.now.state in
    record {
      engines = refl;
      moved = record {
        right = λ calls st. (finish_ended M s calls c.in-Ended.is st).0;
        after = λ calls st. (finish_ended M s calls c.in-Ended.is st).1;
        same = λ n e. let z : ◌≡◌ {A = ℕ} 0 1 = cc in absurd (omega arith);
      };
    }
