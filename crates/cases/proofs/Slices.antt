-- Right answers to the same calls are the same, so the slice of a run holds those that are known to be right.
use Rattle.std.proofs.Common.{◌≡◌, ℕ, ◌+◌, ◌-◌, min, List, [], ◌∷◌, ◌++◌, map, length, get_or, take, drop, Ok, Err, sym, refl, ap, ◌∙◌, subst, arith, drop-drop}
use lib.ListN.{length-map}
use Rattle.engine.specs.Languages.{Language}
use Rattle.engine.specs.declared.alphabet.Letter.{Letter}
use Rattle.calls.specs.Replies.{Recorded, Reply, accepted, refused, pass, shown}
use Rattle.sheet.specs.Histories as histories
use Rattle.sheet.specs.Histories.{keep}
use Rattle.sheet.specs.Runs.{turns}
use Rattle.sheet.specs.Said.{sent}
use Rattle.sheet.specs.Theorem.{RightAfter, RightThroughout, Judged}
use Rattle.calls.specs.declared.answer.Granted.TheVariants.{Accepted, Passed}
use Rattle.calls.specs.declared.answer.Refusal.TheVariants.{NotFresh, RootUndeclared, ValueNotPlain, NotUnderway, NotKnown, Offending, TooDeep, TooMany, RootOpen}
use Rattle.calls.specs.declared.call.Call.{Call}
use Rattle.sheet.proofs.Judging.{same_reply}
use Rattle.cases.specs.Answers.{history, Answered, laid}

-- The answer that a reply shows.
abbrev answer_of : Reply → Recorded
answer_of accepted = Ok Accepted
answer_of (refused n) =
    Err (get_or (NotFresh ∷ RootUndeclared ∷ ValueNotPlain ∷ NotUnderway ∷ NotKnown ∷ Offending ∷ TooDeep ∷ TooMany ∷ RootOpen ∷ []) (n - 31) NotFresh)
answer_of (pass r n) = Ok (Passed r n)

answer_shown : (a : Recorded) → answer_of (shown a) ≡ a
answer_shown (Ok Accepted) = refl
answer_shown (Err NotFresh) = refl
answer_shown (Err RootUndeclared) = refl
answer_shown (Err ValueNotPlain) = refl
answer_shown (Err NotUnderway) = refl
answer_shown (Err NotKnown) = refl
answer_shown (Err Offending) = refl
answer_shown (Err TooDeep) = refl
answer_shown (Err TooMany) = refl
answer_shown (Err RootOpen) = refl
answer_shown (Ok (Passed r n)) = refl

shown_same : (a b : Recorded) → shown a ≡ shown b → a ≡ b
shown_same a b e = sym (answer_shown a) ∙ ap answer_of e ∙ answer_shown b

module _ (C : ℕ → Language Letter) (V : ℕ → Language ℕ) where
  same_answers : (before : List histories.Call) (calls : List Call) (right answers : List Recorded) → length right ≡ length calls →
      RightAfter C V before (history (map sent calls) right) → RightAfter C V before (turns calls answers) →
      answers ≡ take (length answers) right ++ drop (length right) answers
  same_answers before [] [] [] e h k = refl
  same_answers before [] [] (a ∷ answers) e h k = refl
  same_answers before [] (x ∷ right) answers e h k = absurd (omega arith)
  same_answers before (c ∷ calls) [] answers e h k = absurd (omega arith)
  same_answers before (c ∷ calls) (x ∷ right) [] e h k = refl
  same_answers before (c ∷ calls) (x ∷ right) (a ∷ answers) e (h, hs) (k, ks) =
      let replied : shown a ≡ shown x = same_reply C V before (sent c) (shown a) (shown x) k h in
      let same : a ≡ x = shown_same a x replied in
      let tail = same_answers (keep before (sent c) (shown x)) calls right answers (omega arith) hs
      (subst (λ r. RightAfter C V (keep before (sent c) r) (turns calls answers)) replied ks) in
      cc

  -- What a run leaves in its slice, when the right answers to its calls are known.
  pub told_laid : (calls : List Call) (said : List histories.Call) (right before after : List Recorded) (k : ℕ) →
      map sent calls ≡ said → Answered C V said right →
      k ≡ min (length calls) (length before) → length after ≡ length before → drop k after ≡ drop k before →
      Judged C V (turns calls after) → after ≡ laid right before
  told_laid calls said right before after k is known count long rest judged =
      let n = length right in
      let sized : length right ≡ length calls = known.all ∙ (ap length (sym is) ∙ length-map calls sent) in
      let past : k + (n - k) ≡ n = omega arith in
      let stays : drop n after ≡ drop n before =
      ap (λ m. drop m after) (sym past) ∙ (sym (drop-drop (n - k) k after) ∙ (ap (drop (n - k)) rest ∙ (drop-drop (n - k) k before ∙ ap (λ m. drop m before) past))) in
      same_answers [] calls right after sized (subst (λ cs. RightThroughout C V (history cs right)) (sym is) known.right) judged.right
      ∙ (ap (λ m. take m right ++ drop n after) long ∙ ap (λ xs. take (length before) right ++ xs) stays)
