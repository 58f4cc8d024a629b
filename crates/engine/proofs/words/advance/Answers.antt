use Rattle.std.proofs.Common.{◌≡◌, ◌+◌, [], ◌∷◌, ◌++◌, take, drop, Some, None, sym, refl, ap, ◌∙◌, subst, arith, take-append-drop, take_all}
use Rattle.std.proofs.lemmas.List.{take_more, drop_more}
use Rattle.engine.specs.Languages.{Advanced}
use Rattle.engine.proofs.Advancing.{stuck, further}
use Rattle.engine.proofs.words.advance.Goals as goal

pub loop-letter-init : goal.loop-letter-init
loop-letter-init g c = (omega arith, refl)

pub returns-in_err-reached : goal.returns-in_err-reached
returns-in_err-reached g c =
    let xs = c.args.word.now in
    let i = c.loop-letter.letter-index in
    let x = c.letter-item.result in
    let rest = g.E.Engine.rest c.args.engine.now c.args.number in
    let whole : take i xs ++ (x ∷ drop (i + 1) xs) ≡ xs =
    ap (λ y. take i xs ++ (y ∷ drop (i + 1) xs)) c.letter-item.is
    ∙ ap (λ l. take i xs ++ l) (sym (drop_more xs i x c.loop-letter-test.true))
    ∙ take-append-drop i xs in
    subst (Advanced rest c.args.state xs) (sym c.from_residual.ensures)
    (subst (λ w. Advanced rest c.args.state w None) whole
    (stuck rest c.args.state c.loop-letter.reached (take i xs) (drop (i + 1) xs) x c.loop-letter.invariant.1 c.in_err-reached.ensures))

pub loop-letter-preserved : goal.loop-letter-preserved
loop-letter-preserved g c =
    let xs = c.args.word.now in
    let i = c.loop-letter.letter-index in
    let x = c.letter-item.result in
    let rest = g.E.Engine.rest c.args.engine.now c.args.number in
    let pushed : take i xs ++ (x ∷ []) ≡ take (i + 1) xs =
    ap (λ y. take i xs ++ (y ∷ [])) c.letter-item.is ∙ sym (take_more xs i x c.loop-letter-test.true) in (
      omega arith,
      subst (λ w. Advanced rest c.args.state w (Some c.in_ok-reached.reached)) pushed
          (further rest c.args.state c.loop-letter.reached c.in_ok-reached.reached (take i xs) x c.loop-letter.invariant.1 c.in_ok-reached.ensures),
    )

pub returns : goal.returns
returns g c =
    let rest = g.E.Engine.rest c.args.engine.now c.args.number in
    subst (λ w. Advanced rest c.args.state w (Some c.loop-letter.reached)) (take_all _ _ c.loop-letter-test.false) c.loop-letter.invariant.1
