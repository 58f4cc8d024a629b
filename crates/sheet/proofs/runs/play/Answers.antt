use Rattle.std.proofs.Common.{◌≡◌, ◌<◌, get_or, take, ◌∙◌, subst, arith, length-take}
use Rattle.std.proofs.lemmas.List.{get_or-take}
use Rattle.frames.specs.Meanings.{meaning}
use Rattle.calls.specs.Replies.{shown}
use Rattle.calls.specs.declared.call.Call.{Call}
use Rattle.calls.specs.declared.call.Call.TheVariants.{Begin}
use Rattle.sheet.specs.Runs.{turns}
use Rattle.sheet.specs.Said.{sent}
use Rattle.sheet.specs.Stands.{Moved}
use Rattle.sheet.specs.Theorem.{RightThroughout}
use Rattle.sheet.proofs.Judging.{judged}
use Rattle.sheet.proofs.Playing.{Played, played_none, played_more, turns_take}
use Rattle.sheet.proofs.runs.play.Goals as goal

pub loop-i-init : goal.loop-i-init
loop-i-init g c = (c.make-sheet.ensures.engines, played_none _ c.args.calls.now c.args.answers.now _ c.make-sheet.ensures.stands)

pub loop-i-preserved : goal.loop-i-preserved
loop-i-preserved g c =
    let (same, played) = c.loop-i.invariant in
    let i = c.loop-i.i in
    let s = c.loop-i.sheet.state in
    let t = c.answer.new.self.state in
    let calls = c.args.calls.now in
    let place : i < c.min-count.result = omega (arith, length-take {A = Call} c.min-count.result calls) in
    let moved = subst (λ e. Moved (meaning g.C.Engine g.V.Engine e) s t (sent (get_or (take c.min-count.result calls) i (Begin 0))) (shown c.answer.result)) same c.answer.ensures.moved in
    let told = subst (λ call. Moved (meaning g.C.Engine g.V.Engine c.args.engines) s t (sent call) (shown c.answer.result)) (get_or-take c.min-count.result calls i (Begin 0) place) moved in (
      c.answer.ensures.engines ∙ same,
      played_more _ calls c.args.answers.now c.loop-i.answers i s t (Begin 0) c.answer.result (omega arith) (omega arith) played told,
    )

pub returns : goal.returns
returns g c =
    let M = meaning g.C.Engine g.V.Engine c.args.engines in
    let calls = c.args.calls.now in
    let answers = c.loop-i.answers in
    let reached : c.loop-i.i ≡ c.min-count.result = omega (arith, length-take {A = Call} c.min-count.result calls) in
    let played : Played M calls c.args.answers.now answers c.min-count.result c.loop-i.sheet.state =
    subst (λ n. Played M calls c.args.answers.now answers n c.loop-i.sheet.state) reached c.loop-i.invariant.1 in
    record {
      answer = c.min-count.ensures;
      same = played.rest;
      law = judged M.contents M.values (turns calls answers) (subst (RightThroughout M.contents M.values) (turns_take calls answers c.min-count.result (omega arith)) played.right);
    }
