-- A run call by call: one answer more keeps the history right and the sheet standing for what was accepted.
use Rattle.std.proofs.Common.{◌≡◌, ℕ, zero, suc, ◌+◌, ◌<◌, min, List, [], ◌∷◌, ◌++◌, length, get_or, take, drop, set, sym, refl, ap, ◌∙◌, subst, arith, length-take, drop-drop, drop-set-lt}
use Rattle.std.proofs.lemmas.List.{take_more, take_more_set}
use Rattle.calls.specs.Replies.{Recorded, shown}
use Rattle.sheet.specs.Histories.{Turn, kept}
use Rattle.sheet.specs.Runs.{turns}
use Rattle.sheet.specs.Said.{sent}
use Rattle.sheet.specs.Stands.{Stands, Moved}
use Rattle.sheet.specs.Theorem.{RightThroughout}
use Rattle.calls.specs.declared.call.Call.{Call}
use Rattle.frames.specs.Meanings.{Meaning}
use Rattle.sheet.specs.declared.state.State.{State}
use Rattle.sheet.proofs.Calls.{kept_after_push, right_push}

-- One call and one answer more make one turn more.
pub turns_push : (calls : List Call) (answers : List Recorded) (c : Call) (a : Recorded) → length calls ≡ length answers →
    turns (calls ++ (c ∷ [])) (answers ++ (a ∷ [])) ≡ turns calls answers ++ (record { call = sent c; reply = shown a } ∷ [])
turns_push [] [] c a e = refl
turns_push [] (b ∷ answers) c a e = absurd (omega arith)
turns_push (d ∷ calls) [] c a e = absurd (omega arith)
turns_push (d ∷ calls) (b ∷ answers) c a e = ap (λ ts. record { call = sent d; reply = shown b } ∷ ts) (turns_push calls answers c a (omega arith))

-- The turns go as far as the shorter list.
pub turns_take : (calls : List Call) (answers : List Recorded) (n : ℕ) → n ≡ min (length calls) (length answers) → turns (take n calls) (take n answers) ≡ turns calls answers
turns_take [] answers zero e = refl
turns_take [] answers (suc n) e = refl
turns_take (c ∷ calls) [] zero e = refl
turns_take (c ∷ calls) [] (suc n) e = refl
turns_take (c ∷ calls) (a ∷ answers) zero e = absurd (omega arith)
turns_take (c ∷ calls) (a ∷ answers) (suc n) e = ap (λ ts. record { call = sent c; reply = shown a } ∷ ts) (turns_take calls answers n (omega arith))

module _ (M : Meaning) where
  -- The first n calls were sent and their answers written; the others are as they were.
  pub record Played (calls : List Call) (before answers : List Recorded) (n : ℕ) (s : State) : Type 0 where
    pub right : RightThroughout M.contents M.values (turns (take n calls) (take n answers))
    pub stands : Stands M s (kept (turns (take n calls) (take n answers)))
    pub rest : drop n answers ≡ drop n before

  pub played_none : (calls : List Call) (answers : List Recorded) (s : State) → Stands M s [] → Played calls answers answers 0 s
  played_none calls answers s st = record { right = tt; stands = st; rest = refl }

  pub played_more : (calls : List Call) (before answers : List Recorded) (n : ℕ) (s t : State) (d : Call) (a : Recorded) →
      n < length calls → n < length answers → Played calls before answers n s → Moved M s t (sent (get_or calls n d)) (shown a) →
      Played calls before (set answers n a) (n + 1) t
  played_more calls before answers n s t d a some room p m =
      let history = turns (take n calls) (take n answers) in
      let next : Turn = record { call = sent (get_or calls n d); reply = shown a } in
      let grown : turns (take (n + 1) calls) (take (n + 1) (set answers n a)) ≡ history ++ (next ∷ []) =
      ap (λ cs. turns cs (take (n + 1) (set answers n a))) (take_more calls n d some)
      ∙ (ap (λ xs. turns (take n calls ++ (get_or calls n d ∷ [])) xs) (take_more_set answers n a room)
      ∙ turns_push (take n calls) (take n answers) (get_or calls n d) a (simp length-take (omega arith))) in
      let stands : Stands M t (kept (history ++ (next ∷ []))) =
      subst (Stands M t) (sym (kept_after_push [] history next)) (m.after (kept history) p.stands) in
      record {
        right = subst (RightThroughout M.contents M.values) (sym grown) (right_push M.contents M.values [] history next p.right (m.right (kept history) p.stands));
        stands = subst (λ h. Stands M t (kept h)) (sym grown) stands;
        rest = drop-set-lt (n + 1) answers n a (omega arith) ∙ (sym (drop-drop 1 n answers) ∙ (ap (drop 1) p.rest ∙ drop-drop 1 n before));
      }
