-- From a history whose every reply is right, the whole theorem about that history.
use Rattle.std.proofs.Common.{◌≡◌, ℕ, ◌<◌, false, ◌⊎◌, List, [], ◌∷◌, ◌++◌, length, Some, None, Option, sym, refl, ap, ◌∙◌, subst, inl, inr, arith}
use Rattle.engine.specs.Languages.{Language}
use Rattle.engine.specs.Trees.{Event, start, text, end}
use Rattle.engine.specs.declared.alphabet.Letter.{Letter}
use Rattle.calls.specs.Replies.{Reply, accepted, refused, pass, IsRefused}
use Rattle.sheet.specs.Histories.{Call, begin, send, finish, Turn, keep, kept_after, kept, root, events, passed, starts, ends}
use Rattle.sheet.specs.Questions.{Question, FirstNo, AllHold, BeginsDocument, IsDocument, depth_questions, questions, number_or_0, granted, Right}
use Rattle.sheet.specs.Theorem.{RightAfter, RightThroughout, struck, calls_of, Offends, StandsIn, Passes, Offences, Accepts, Repeats, Judged}
use Rattle.sheet.proofs.Balance.{begins_known, begins_whole, document_balanced}
use Rattle.sheet.proofs.Calls.{root_more, events_more, root_finish, events_finish, root_begin, events_begin, right_split}
use Rattle.sheet.proofs.Forests.{one_document}

-- A reply that is not refused says that every question holds.
first_stays : (qs : List Question) (granted reply : Reply) → FirstNo qs granted reply → IsRefused reply ≡ false → AllHold qs
first_stays [] granted reply h stays = tt
first_stays (q ∷ qs) granted reply (inl (never, eq)) stays = let z : ◌≡◌ {A = ℕ} 0 1 = cc (ap IsRefused eq) in absurd (omega arith)
first_stays (q ∷ qs) granted reply (inr (holds, h)) stays = (holds, first_stays qs granted reply h stays)

-- Where every question holds, the reply is the granted one.
first_held : (qs : List Question) (granted reply : Reply) → FirstNo qs granted reply → AllHold qs → reply ≡ granted
first_held [] granted reply h all = h
first_held (q ∷ qs) granted reply (inl (never, eq)) (holds, all) = absurd (never holds)
first_held (q ∷ qs) granted reply (inr (yes-to, h)) (holds, all) = first_held qs granted reply h all

first_same : (qs : List Question) (granted a b : Reply) → FirstNo qs granted a → FirstNo qs granted b → a ≡ b
first_same [] granted a b h k = h ∙ sym k
first_same (q ∷ qs) granted a b (inl (never, eq)) (inl (never-b, eq-b)) = eq ∙ sym eq-b
first_same (q ∷ qs) granted a b (inl (never, eq)) (inr (holds, k)) = absurd (never holds)
first_same (q ∷ qs) granted a b (inr (holds, h)) (inl (never, eq)) = absurd (never holds)
first_same (q ∷ qs) granted a b (inr (holds, h)) (inr (holds-b, k)) = first_same qs granted a b h k

granted_stays : (calls : List Call) (call : Call) → IsRefused (granted calls call) ≡ false
granted_stays calls (begin n) = refl
granted_stays calls (send e) = refl
granted_stays calls finish = refl

-- No reply granted to an event offends, nor does a refusal with a number above 36.
accepted_clears : (reply : Reply) → reply ≡ accepted → Offends reply → ⊥
accepted_clears reply eq (inl off) = let z : ◌≡◌ {A = ℕ} 0 1 = cc in omega arith
accepted_clears reply eq (inr off) = let z : ◌≡◌ {A = ℕ} 0 1 = cc in omega arith

above_clears : (reply : Reply) (n : ℕ) → 36 < n → reply ≡ refused n → Offends reply → ⊥
above_clears reply n above eq (inl off) = let z : n ≡ 35 = cc in omega arith
above_clears reply n above eq (inr off) = let z : n ≡ 36 = cc in omega arith

-- So the questions after 36 refuse no event as offending.
question_clears : (q : Question) (qs : List Question) (reply : Reply) → 36 < q.number → (FirstNo qs accepted reply → Offends reply → ⊥) → FirstNo (q ∷ qs) accepted reply → Offends reply → ⊥
question_clears q qs reply above clears (inl (never, eq)) = above_clears reply q.number above eq
question_clears q qs reply above clears (inr (holds, h)) = clears h

depth_clears : (calls : List Call) (e : Event) (qs : List Question) (reply : Reply) → (FirstNo qs accepted reply → Offends reply → ⊥) → FirstNo (depth_questions calls e qs) accepted reply → Offends reply → ⊥
depth_clears calls (start n) qs reply clears = question_clears _ qs reply (omega arith) clears
depth_clears calls (text bs) qs reply clears = clears
depth_clears calls (end n) qs reply clears = clears

module _ (C : ℕ → Language Letter) (V : ℕ → Language ℕ) where
  pub same_reply : (calls : List Call) (call : Call) (a b : Reply) → Right C V calls call a → Right C V calls call b → a ≡ b
  same_reply calls call a b h k = first_same (questions C V calls call) (granted calls call) a b h k

  -- Every question holds of a call that is not refused.
  all_hold : (calls : List Call) (call : Call) (reply : Reply) → Right C V calls call reply → IsRefused reply ≡ false → AllHold (questions C V calls call)
  all_hold calls call reply h stays = first_stays (questions C V calls call) (granted calls call) reply h stays

  -- A call of which every question holds gets what is granted.
  gets_granted : (calls : List Call) (call : Call) (reply : Reply) → Right C V calls call reply → AllHold (questions C V calls call) → reply ≡ granted calls call
  gets_granted calls call reply h all = first_held (questions C V calls call) (granted calls call) reply h all

  -- The events so far: none before a begin, and after it none or a beginning of a document.
  abbrev Begun : Option ℕ → List Event → Type 0
  Begun None es = es ≡ []
  Begun (Some r) es = (es ≡ []) ⊎ BeginsDocument C V r es

  -- That is kept by a call of which every question holds, and so by every right history.
  begun_call : (calls : List Call) (call : Call) → AllHold (questions C V calls call) → Begun (root calls) (events calls) → Begun (root (calls ++ (call ∷ []))) (events (calls ++ (call ∷ [])))
  begun_call calls (begin n) (fresh, rest) h = rw (root_begin calls n fresh, events_begin calls n) (inl (rw fresh at h))
  begun_call calls (send e) (underway, (known, ((r, is, begins), rest))) h =
      rw (root_more calls e, events_more calls e, is) (inr begins)
  begun_call calls finish all h = rw (root_finish calls, events_finish calls) h

  begun_turn : (calls : List Call) (call : Call) (reply : Reply) → Right C V calls call reply → Begun (root calls) (events calls) → Begun (root (keep calls call reply)) (events (keep calls call reply))
  begun_turn calls call accepted h b = begun_call calls call (all_hold calls call accepted h refl) b
  begun_turn calls call (refused n) h b = b
  begun_turn calls call (pass r n) h b = begun_call calls call (all_hold calls call (pass r n) h refl) b

  begun_after : (calls : List Call) (history : List Turn) → RightAfter C V calls history → Begun (root calls) (events calls) → Begun (root (kept_after calls history)) (events (kept_after calls history))
  begun_after calls [] h b = b
  begun_after calls (t ∷ history) (h, hs) b =
      begun_after (keep calls t.call t.reply) history hs (begun_turn calls t.call t.reply h b)

  -- What has begun is a document when some element starts in it and it is balanced.
  begun_whole : (r : ℕ) (es : List Event) → Begun (Some r) es → 0 < starts es → starts es ≡ ends es → IsDocument C V r es
  begun_whole r es (inl eq) some even = let z : starts es ≡ 0 = ap starts eq in absurd (omega arith)
  begun_whole r es (inr begins) some even = begins_whole C V r es begins some even

  -- What a pass to this call says.
  abbrev Complete : List Call → Call → ℕ → ℕ → Type 0
  Complete calls call r n = (call ≡ finish) × (root calls ≡ Some r) × (passed calls ≡ false) × (n ≡ length (events calls)) × IsDocument C V r (events calls)

  granted_complete : (calls : List Call) (call : Call) (r n : ℕ) → Begun (root calls) (events calls) → AllHold (questions C V calls call) → granted calls call ≡ pass r n → Complete calls call r n
  granted_complete calls (begin m) r n b all eq = let z : ◌≡◌ {A = ℕ} 0 1 = cc in absurd (omega arith)
  granted_complete calls (send e) r n b all eq = let z : ◌≡◌ {A = ℕ} 0 1 = cc in absurd (omega arith)
  granted_complete calls finish r n b (((s, is), unpassed), ((some, even), rest)) eq =
      let is_r : root calls ≡ Some r = cc (ap number_or_0 is) in
      (refl, is_r, unpassed, cc, begun_whole r (events calls) (rw is_r at b) some even)

  pass_complete : (calls : List Call) (call : Call) (reply : Reply) (r n : ℕ) → Begun (root calls) (events calls) → Right C V calls call reply → reply ≡ pass r n → Complete calls call r n
  pass_complete calls call reply r n b h eq =
      let all : AllHold (questions C V calls call) = all_hold calls call reply h (ap IsRefused eq) in
      granted_complete calls call r n b all (sym (gets_granted calls call reply h all) ∙ eq)

  complete_pass : (calls : List Call) (call : Call) (reply : Reply) (r n : ℕ) → Right C V calls call reply → Complete calls call r n → reply ≡ pass r n
  complete_pass calls call reply r n h (is-finish, is, unpassed, count, document) =
      gets_granted calls finish reply (subst (λ c. Right C V calls c reply) is-finish h) (((r, is), unpassed), (document_balanced C V r (events calls) document, tt)) ∙ cc (ap number_or_0 is)

  -- An event underway: refused as offending exactly when no document begins so.
  offends_never : (calls : List Call) (e : Event) (reply : Reply) (r : ℕ) → Right C V calls (send e) reply → root calls ≡ Some r → passed calls ≡ false → Offends reply → BeginsDocument C V r (events calls ++ (e ∷ [])) → ⊥
  offends_never calls e reply r (inl (never, eq)) is unpassed off begins = never ((r, is), unpassed)
  offends_never calls e reply r (inr (underway, inl (never, eq))) is unpassed off begins = never (begins_known C V r (events calls) e begins)
  offends_never calls e reply r (inr (underway, inr (known, inl (never, eq)))) is unpassed off begins = never (r, is, begins)
  offends_never calls e reply r (inr (underway, inr (known, inr (admitted, h)))) is unpassed off begins =
      depth_clears calls e _ reply (question_clears _ [] reply (omega arith) (accepted_clears reply)) h off

  never_offends : (calls : List Call) (e : Event) (reply : Reply) (r : ℕ) → Right C V calls (send e) reply → root calls ≡ Some r → passed calls ≡ false → (BeginsDocument C V r (events calls ++ (e ∷ [])) → ⊥) → Offends reply
  never_offends calls e reply r (inl (never, eq)) is unpassed none = absurd (never ((r, is), unpassed))
  never_offends calls e reply r (inr (underway, inl (never, eq))) is unpassed none = inl eq
  never_offends calls e reply r (inr (underway, inr (known, inl (never, eq)))) is unpassed none = inr eq
  never_offends calls e reply r (inr (underway, inr (known, inr ((s, is-s, begins), h)))) is unpassed none =
      let same : s ≡ r = cc in
      absurd (none (subst (λ x. BeginsDocument C V x (events calls ++ (e ∷ []))) same begins))

  -- Without its refused calls a right history is right.
  struck_turn : (calls : List Call) (call : Call) (reply : Reply) (ts : List Turn) → Right C V calls call reply → RightAfter C V (keep calls call reply) (struck ts) → RightAfter C V calls (struck (record { call = call; reply = reply } ∷ ts))
  struck_turn calls call accepted ts h hs = (h, hs)
  struck_turn calls call (refused n) ts h hs = hs
  struck_turn calls call (pass r n) ts h hs = (h, hs)

  struck_right : (calls : List Call) (history : List Turn) → RightAfter C V calls history → RightAfter C V calls (struck history)
  struck_right calls [] h = tt
  struck_right calls (t ∷ history) (h, hs) =
      struck_turn calls t.call t.reply history h (struck_right (keep calls t.call t.reply) history hs)

  -- Two right histories of the same calls are the same.
  same_history : (calls : List Call) (xs ys : List Turn) → calls_of xs ≡ calls_of ys → RightAfter C V calls xs → RightAfter C V calls ys → xs ≡ ys
  same_history calls [] [] eq h k = refl
  same_history calls [] (y ∷ ys) eq h k = let z : ◌≡◌ {A = ℕ} 0 1 = cc in absurd (omega arith)
  same_history calls (x ∷ xs) [] eq h k = let z : ◌≡◌ {A = ℕ} 0 1 = cc in absurd (omega arith)
  same_history calls (x ∷ xs) (y ∷ ys) eq (h, hs) (k, ks) =
      let called : x.call ≡ y.call = cc in
      let replied : x.reply ≡ y.reply = same_reply calls y.call x.reply y.reply (subst (λ c. Right C V calls c x.reply) called h) k in
      let turn : x ≡ y = λ i. record { call = called i; reply = replied i } in
      let tail : xs ≡ ys = same_history (keep calls x.call x.reply) xs ys (cc) hs (subst (λ t. RightAfter C V (keep calls t.call t.reply) ys) (sym turn) ks) in
      cc

  -- What stands before a turn of a right history is right, and so is the turn.
  right_here : (history before : List Turn) (t : Turn) → RightThroughout C V history → StandsIn history before t → RightThroughout C V before × Right C V (kept before) t.call t.reply
  right_here history before t right (later, is) =
      let (front, (here, back)) = right_split C V [] before (t ∷ later) (subst (RightThroughout C V) (sym is) right) in (front, here)

  passes : (history : List Turn) → RightThroughout C V history → Passes C V history
  passes history right before t stands r n =
      let (front, here) = right_here history before t right stands in (
        pass_complete (kept before) t.call t.reply r n (begun_after [] before front refl) here,
        complete_pass (kept before) t.call t.reply r n here,
      )

  offences : (history : List Turn) → RightThroughout C V history → Offences C V history
  offences history right before t stands e r is-send is unpassed =
      let here : Right C V (kept before) (send e) t.reply = subst (λ c. Right C V (kept before) c t.reply) is-send (right_here history before t right stands).1 in (
        offends_never (kept before) e t.reply r here is unpassed,
        never_offends (kept before) e t.reply r here is unpassed,
      )

  accepts : (history : List Turn) → RightThroughout C V history → Accepts C V history
  accepts history right before t stands =
      let (front, here) = right_here history before t right stands in (
        all_hold (kept before) t.call t.reply here,
        λ all. ap IsRefused (gets_granted (kept before) t.call t.reply here all) ∙ granted_stays (kept before) t.call,
        here,
      )

  repeats : (history : List Turn) → RightThroughout C V history → Repeats C V history
  repeats history right =
      let still : RightThroughout C V (struck history) = struck_right [] history right in
      (still, λ other same k. same_history [] other (struck history) same k still)

  pub judged : (history : List Turn) → RightThroughout C V history → Judged C V history
  judged history right = record {
    right = right;
    passes = passes history right;
    one_document = one_document C V;
    offences = offences history right;
    accepts = accepts history right;
    repeats = repeats history right;
  }
