use Rattle.std.proofs.Common.{◌≡◌, ◌+◌, length, set, not, false, Ok, inl, inr, sym, ap, ◌∙◌, subst, subst₂, arith, rules}
use Rattle.std.proofs.lemmas.List.{length_push}
use Rattle.frames.specs.Meanings.{meaning}
use Rattle.calls.specs.Replies.{shown, IsRefused}
use Rattle.calls.specs.declared.answer.Granted.TheVariants.{Accepted}
use Rattle.calls.specs.declared.call.Call.TheVariants.{Begin}
use Rattle.sheet.specs.Runs.{turns}
use Rattle.sheet.specs.Said.{sent}
use Rattle.sheet.specs.Stands.{Moved}
use Rattle.sheet.specs.Theorem.{RightThroughout}
use Rattle.sheet.proofs.Replaying.{Resent, Walked, in_front, walked_more, walked_all, refused_unless, resent_none, resent_refused, resent_full, resent_more, resent_all}
use Rattle.sheet.proofs.runs.send_granted.Goals as goal
use Rattle.sheet.proofs.runs.send_granted.Goals.{else-is_ok-via-then-is_ok+else-sent-again, else-is_ok-via-else-is_ok}

pub loop-call-init : goal.loop-call-init
loop-call-init g c = (
  record { some = omega arith; room = omega arith; left_is = search rules; told_is = search rules },
  c.make-sheet.ensures.engines,
  λ right. resent_none _ c.args.calls.now c.args.answers.now c.args.again.now _ c.make-sheet.ensures.stands,
)

pub loop-call-preserved-then-sent-again : goal.loop-call-preserved-then-sent-again
loop-call-preserved-then-sent-again g c =
    let M = meaning g.C.Engine g.V.Engine c.args.engines in
    let calls = c.args.calls.now in
    let answers = c.args.answers.now in
    let before = c.args.again.now in
    let again = c.loop-call.again in
    let n = length c.loop-call.yielded in
    let m = c.loop-call.sent in
    let s = c.loop-call.sheet.state in
    let t = c.answer.new.self.state in
    let result = c.answer.result in
    let (walked, same, resent) = c.loop-call.invariant in
    let (some, call-at, _) = in_front calls n c.in-Some.call.now _ (sym c.in-Some.ensures.steps.0 ∙ walked.left_is) in
    let (room, answer-at, _) = in_front answers n c.in-Some.answer.now _ (sym c.in-Some.ensures.steps.1 ∙ walked.told_is) in
    let stays = refused_unless c.in-Some.answer.now c.is_ok.result (search rules) in
    let granted = subst (λ a. IsRefused (shown a) ≡ false) (answer-at (Ok Accepted)) (stays ∙ ap not c.if-is_ok.true) in
    let moved = subst (λ e. Moved (meaning g.C.Engine g.V.Engine e) s t (sent c.in-Some.call.now) (shown result)) same c.answer.ensures.moved in
    let told = subst (λ call. Moved M s t (sent call) (shown result)) (call-at (Begin 0)) moved in
    let next = walked_more calls answers c.next.new.self.a.rest.now c.next.new.self.b.rest.now c.in-Some.call.now c.in-Some.answer.now n
    (subst₂ (λ left told. Walked calls answers left told n) c.in-Some.ensures.steps.0 c.in-Some.ensures.steps.1 walked) in
    subst (λ k. Walked calls answers c.next.new.self.a.rest.now c.next.new.self.b.rest.now k × (c.answer.new.self.engines ≡ c.args.engines)
    × (RightThroughout M.contents M.values (turns calls answers) → Resent M calls answers before (set again m result) k (m + 1) t)) (sym (length_push c.loop-call.yielded _)) (
      next,
      c.answer.ensures.engines ∙ same,
      λ right. resent_more M calls answers before again n m s (Begin 0) (Ok Accepted) some room t result right granted c.loop-call.auto.again c.if-sent-again.true told (resent right),
    )

pub loop-call-preserved : goal.loop-call-preserved
loop-call-preserved g c =
    let M = meaning g.C.Engine g.V.Engine c.args.engines in
    let calls = c.args.calls.now in
    let answers = c.args.answers.now in
    let before = c.args.again.now in
    let again = c.loop-call.again in
    let n = length c.loop-call.yielded in
    let m = c.loop-call.sent in
    let s = c.loop-call.sheet.state in
    let (walked, same, resent) = c.loop-call.invariant in
    let (some, call-at, _) = in_front calls n c.in-Some.call.now _ (sym c.in-Some.ensures.steps.0 ∙ walked.left_is) in
    let (room, answer-at, _) = in_front answers n c.in-Some.answer.now _ (sym c.in-Some.ensures.steps.1 ∙ walked.told_is) in
    let stays = subst (λ a. IsRefused (shown a) ≡ not c.is_ok.result) (answer-at (Ok Accepted)) (refused_unless c.in-Some.answer.now c.is_ok.result (search rules)) in
    let next = walked_more calls answers c.next.new.self.a.rest.now c.next.new.self.b.rest.now c.in-Some.call.now c.in-Some.answer.now n
    (subst₂ (λ left told. Walked calls answers left told n) c.in-Some.ensures.steps.0 c.in-Some.ensures.steps.1 walked) in
    subst (λ k. Walked calls answers c.next.new.self.a.rest.now c.next.new.self.b.rest.now k × (c.loop-call.sheet.engines ≡ c.args.engines)
    × (RightThroughout M.contents M.values (turns calls answers) → Resent M calls answers before again k m s)) (sym (length_push c.loop-call.yielded _)) (
      next,
      same,
      λ right. elim c.else-is_ok.branch [
        | else-is_ok-via-then-is_ok+else-sent-again w ↦
            resent_full M calls answers before again n m s (Begin 0) (Ok Accepted) some room (stays ∙ ap not w.if-is_ok.true) (omega arith) (resent right)
        | else-is_ok-via-else-is_ok w ↦
            resent_refused M calls answers before again n m s (Begin 0) (Ok Accepted) some room (stays ∙ ap not w.if-is_ok.false) (resent right)
      ],
    )

pub returns : goal.returns
returns g c right =
    let M = meaning g.C.Engine g.V.Engine c.args.engines in
    let (walked, same, resent) = c.loop-call.invariant in
    let n = length c.loop-call.yielded in
    resent_all M c.args.calls.now c.args.answers.now c.args.again.now c.loop-call.again n c.loop-call.sent c.loop-call.sheet.state
    (walked_all c.args.calls.now c.args.answers.now _ _ n walked (elim c.in-None.ensures.steps [ inl p ↦ inl p.1.0 | inr p ↦ inr p.1.0 ])) (resent right)
