use Rattle.std.proofs.Common.{◌≡◌, ◌+◌, ◌<◌, [], ◌∷◌, ◌++◌, length, take, Some, None, sym, refl, ap, ◌∙◌, subst, arith}
use Rattle.std.proofs.lemmas.List.{take_more}
use Rattle.engine.specs.Languages.{Advanced}
use Rattle.engine.proofs.Advancing.{stuck, further}
use Rattle.bench.proofs.speed.steps_made.Goals as goal

pub loop-i-init : goal.loop-i-init
loop-i-init g c = (omega arith, refl)

pub returns-in-None : goal.returns-in-None
returns-in-None g c =
    let xs = c.args.word.now in
    let i = c.loop-i.i in
    let x = c.index-word-i.result in
    let rest = g.E.Engine.rest c.args.engine.now c.args.number in
    let lt : i < length xs = omega arith in
    let pushed : take i xs ++ (x ∷ []) ≡ take (i + 1) xs = ap (λ y. take i xs ++ (y ∷ [])) c.index-word-i.is ∙ sym (take_more xs i x lt) in (
      c.loop-i.invariant.0,
      (c.loop-i.reached, c.loop-i.invariant.1),
      λ h. subst (λ w. Advanced rest c.args.first w None) pushed (stuck rest c.args.first c.loop-i.reached (take i xs) [] x c.loop-i.invariant.1 c.in-None.ensures),
    )

pub loop-i-preserved : goal.loop-i-preserved
loop-i-preserved g c =
    let xs = c.args.word.now in
    let i = c.loop-i.i in
    let x = c.index-word-i.result in
    let rest = g.E.Engine.rest c.args.engine.now c.args.number in
    let lt : i < length xs = omega arith in
    let pushed : take i xs ++ (x ∷ []) ≡ take (i + 1) xs = ap (λ y. take i xs ++ (y ∷ [])) c.index-word-i.is ∙ sym (take_more xs i x lt) in (
      omega arith,
      subst (λ w. Advanced rest c.args.first w (Some c.in-Some.next)) pushed (further rest c.args.first c.loop-i.reached c.in-Some.next (take i xs) x c.loop-i.invariant.1 c.in-Some.ensures),
    )

pub returns : goal.returns
returns g c =
    let xs = c.args.word.now in
    let rest = g.E.Engine.rest c.args.engine.now c.args.number in (
      omega arith,
      (c.loop-i.reached, subst (λ n. Advanced rest c.args.first (take n xs) (Some c.loop-i.reached)) (omega arith) c.loop-i.invariant.1),
      λ h. absurd (omega arith),
    )
