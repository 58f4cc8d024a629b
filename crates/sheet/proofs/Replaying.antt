-- A run without its refused calls, call by call: a second sheet gives each of the other calls the answer it got.
use Rattle.std.proofs.Common.{◌≡◌, ℕ, zero, suc, ◌+◌, ◌-◌, ◌<◌, ◌≤◌, ◌⊎◌, min, Bool, true, false, not, List, [], ◌∷◌, ◌++◌, length, get_or, take, drop, set, Ok, Err, inl, inr, sym, refl, ap, ◌∙◌, subst, append-nil, arith, length-take, length-drop, drop-drop, drop-set-lt}
use mathlib.Core.Path.{subst₃}
use Rattle.std.specs.Result.{is_ok}
use Rattle.std.proofs.lemmas.List.{length_push, take_all, take-append-le, take_more, take_more_set}
use Rattle.calls.specs.Replies.{Recorded, Reply, accepted, refused, pass, shown, IsRefused}
use Rattle.sheet.specs.Histories as histories
use Rattle.sheet.specs.Histories.{Turn, keep, kept}
use Rattle.sheet.specs.Questions.{Right}
use Rattle.sheet.specs.Runs.{grants, Repeated, turns}
use Rattle.sheet.specs.Said.{sent}
use Rattle.sheet.specs.Stands.{Stands, Moved}
use Rattle.sheet.specs.Theorem.{RightThroughout, StandsIn}
use Rattle.calls.specs.declared.answer.Granted.TheVariants.{Accepted, Passed}
use Rattle.calls.specs.declared.call.Call.{Call}
use Rattle.frames.specs.Meanings.{Meaning}
use Rattle.sheet.specs.declared.state.State.{State}
use Rattle.sheet.proofs.Calls.{kept_after_push, right_at}
use Rattle.sheet.proofs.Judging.{same_reply}
use Rattle.sheet.proofs.Playing.{turns_push}

grants_append : (xs ys : List Recorded) → grants (xs ++ ys) ≡ grants xs ++ grants ys
grants_append [] ys = refl
grants_append (Ok granted ∷ xs) ys = ap (λ zs. Ok granted ∷ zs) (grants_append xs ys)
grants_append (Err refusal ∷ xs) ys = grants_append xs ys

-- An answer that is no refusal is among the grants, and a refusal is not.
grants_one : (a : Recorded) → IsRefused (shown a) ≡ false → grants (a ∷ []) ≡ a ∷ []
grants_one (Ok granted) stays = refl
grants_one (Err refusal) stays = let z : ◌≡◌ {A = ℕ} 0 1 = cc in absurd (omega arith)

grants_none : (a : Recorded) → IsRefused (shown a) ≡ true → grants (a ∷ []) ≡ []
grants_none (Ok Accepted) goes = let z : ◌≡◌ {A = ℕ} 0 1 = cc in absurd (omega arith)
grants_none (Ok (Passed root events)) goes = let z : ◌≡◌ {A = ℕ} 0 1 = cc in absurd (omega arith)
grants_none (Err refusal) goes = refl

-- Two answers that say the same are the same unless they refuse.
same_answer : (a b : Recorded) → shown a ≡ shown b → IsRefused (shown a) ≡ false → a ≡ b
same_answer (Ok Accepted) (Ok Accepted) same stays = refl
same_answer (Ok Accepted) (Ok (Passed root events)) same stays = cc
same_answer (Ok (Passed root events)) (Ok Accepted) same stays = cc
same_answer (Ok (Passed root events)) (Ok (Passed other more)) same stays = cc
same_answer (Ok Accepted) (Err refusal) same stays = cc
same_answer (Ok (Passed root events)) (Err refusal) same stays = cc
same_answer (Err refusal) b same stays = cc

-- A test for a grant tells refusals.
pub refused_unless : (a : Recorded) (ok : Bool) → ok ≡ is_ok a → IsRefused (shown a) ≡ not ok
refused_unless (Ok Accepted) ok e = sym (ap not e)
refused_unless (Ok (Passed root events)) ok e = sym (ap not e)
refused_unless (Err refusal) ok e = sym (ap not e)

-- What is left of a list behind its first n is its n-th and what is left behind that.
pub in_front : {A : Type 0} (xs : List A) (n : ℕ) (x : A) (rest : List A) → x ∷ rest ≡ drop n xs → (n < length xs) × ((d : A) → x ≡ get_or xs n d) × (rest ≡ drop (n + 1) xs)
in_front [] zero x rest e = cc
in_front [] (suc n) x rest e = cc
in_front (y ∷ xs) zero x rest e = (omega arith, λ d. cc, cc)
in_front (y ∷ xs) (suc n) x rest e =
    let (below, at, left) = in_front xs n x rest e in
    let next : suc n + 1 ≡ suc (n + 1) = omega arith in
    (omega arith, at, left ∙ ap (λ k. drop k (y ∷ xs)) (sym next))

-- A walk along the calls and their answers: n of each are behind it, and these are left.
pub record Walked (calls : List Call) (answers : List Recorded) (left : List Call) (told : List Recorded) (n : ℕ) : Type 0 where
  pub some : n ≤ length calls
  pub room : n ≤ length answers
  pub left_is : left ≡ drop n calls
  pub told_is : told ≡ drop n answers

pub walked_more : (calls : List Call) (answers : List Recorded) (left : List Call) (told : List Recorded) (c : Call) (a : Recorded) (n : ℕ) →
    Walked calls answers (c ∷ left) (a ∷ told) n → Walked calls answers left told (n + 1)
walked_more calls answers left told c a n w =
    let (some, _, left_is) = in_front calls n c left w.left_is in
    let (room, _, told_is) = in_front answers n a told w.told_is in
    record { some = omega arith; room = omega arith; left_is = left_is; told_is = told_is }

-- It ends where the shorter list does.
pub walked_all : (calls : List Call) (answers : List Recorded) (left : List Call) (told : List Recorded) (n : ℕ) →
    Walked calls answers left told n → (length left ≡ 0) ⊎ (length told ≡ 0) → n ≡ min (length calls) (length answers)
walked_all calls answers left told n w (inl none) =
    let behind : length left ≡ length calls - n = ap length w.left_is ∙ length-drop n calls in omega (arith, w.some, w.room)
walked_all calls answers left told n w (inr none) =
    let behind : length told ≡ length answers - n = ap length w.told_is ∙ length-drop n answers in omega (arith, w.some, w.room)

-- A refused call is not kept.
keep_refused : (calls : List histories.Call) (call : histories.Call) (reply : Reply) → IsRefused reply ≡ true → keep calls call reply ≡ calls
keep_refused calls call accepted goes = let z : ◌≡◌ {A = ℕ} 0 1 = cc in absurd (omega arith)
keep_refused calls call (refused n) goes = refl
keep_refused calls call (pass r n) goes = let z : ◌≡◌ {A = ℕ} 0 1 = cc in absurd (omega arith)

-- The n-th call with the n-th answer stands in the history behind the turns of the first n.
turn_stands : (calls : List Call) (answers : List Recorded) (n : ℕ) (d : Call) (e : Recorded) → n < length calls → n < length answers →
    StandsIn (turns calls answers) (turns (take n calls) (take n answers)) (record { call = sent (get_or calls n d); reply = shown (get_or answers n e) })
turn_stands [] answers n d e some room = absurd (omega arith)
turn_stands (c ∷ calls) [] n d e some room = absurd (omega arith)
turn_stands (c ∷ calls) (a ∷ answers) zero d e some room = (turns calls answers, refl)
turn_stands (c ∷ calls) (a ∷ answers) (suc n) d e some room =
    let (later, is) = turn_stands calls answers n d e (omega arith) (omega arith) in
    (later, ap (λ ts. record { call = sent c; reply = shown a } ∷ ts) is)

-- The calls kept of the first n + 1 turns.
kept_more : (calls : List Call) (answers : List Recorded) (n : ℕ) (d : Call) (e : Recorded) → n < length calls → n < length answers →
    kept (turns (take (n + 1) calls) (take (n + 1) answers)) ≡ keep (kept (turns (take n calls) (take n answers))) (sent (get_or calls n d)) (shown (get_or answers n e))
kept_more calls answers n d e some room =
    let history = turns (take n calls) (take n answers) in
    let next : Turn = record { call = sent (get_or calls n d); reply = shown (get_or answers n e) } in
    ap (λ cs. kept (turns cs (take (n + 1) answers))) (take_more calls n d some)
    ∙ (ap (λ xs. kept (turns (take n calls ++ (get_or calls n d ∷ [])) xs)) (take_more answers n e room)
    ∙ (ap kept (turns_push (take n calls) (take n answers) (get_or calls n d) (get_or answers n e) (simp length-take (omega arith)))
    ∙ kept_after_push [] history next))

-- The grants of the first n + 1 answers.
grants_granted : (answers : List Recorded) (n : ℕ) (e : Recorded) → n < length answers → IsRefused (shown (get_or answers n e)) ≡ false →
    grants (take (n + 1) answers) ≡ grants (take n answers) ++ (get_or answers n e ∷ [])
grants_granted answers n e room stays =
    ap grants (take_more answers n e room)
    ∙ (grants_append (take n answers) (get_or answers n e ∷ [])
    ∙ ap (λ xs. grants (take n answers) ++ xs) (grants_one (get_or answers n e) stays))

grants_refused : (answers : List Recorded) (n : ℕ) (e : Recorded) → n < length answers → IsRefused (shown (get_or answers n e)) ≡ true →
    grants (take (n + 1) answers) ≡ grants (take n answers)
grants_refused answers n e room goes =
    ap grants (take_more answers n e room)
    ∙ (grants_append (take n answers) (get_or answers n e ∷ [])
    ∙ (ap (λ xs. grants (take n answers) ++ xs) (grants_none (get_or answers n e) goes)
    ∙ append-nil (grants (take n answers))))

-- One grant more, and the same answer behind the first grants where it has a place.
repeated_more : (granted before again : List Recorded) (n : ℕ) (a b : Recorded) → length again ≡ length before → n < length again → a ≡ b →
    Repeated granted before again n → Repeated (granted ++ (a ∷ [])) before (set again n b) (n + 1)
repeated_more granted before again n a b long room same r =
    let all : n ≡ length granted = omega (arith, r.count) in
    let more : length (granted ++ (a ∷ [])) ≡ length granted + 1 = length_push granted a in
    record {
      count = omega arith;
      repeats = take_more_set again n b room
          ∙ (ap (λ xs. xs ++ (b ∷ [])) (r.repeats ∙ take_all n granted (omega arith))
          ∙ (ap (λ x. granted ++ (x ∷ [])) (sym same)
          ∙ sym (take_all (n + 1) (granted ++ (a ∷ [])) (omega arith))));
      same = drop-set-lt (n + 1) again n b (omega arith) ∙ (sym (drop-drop 1 n again) ∙ (ap (drop 1) r.same ∙ drop-drop 1 n before));
    }

-- One grant more that has no place.
repeated_full : (granted before again : List Recorded) (n : ℕ) (a : Recorded) → length before ≤ n → Repeated granted before again n → Repeated (granted ++ (a ∷ [])) before again n
repeated_full granted before again n a full r =
    let more : length (granted ++ (a ∷ [])) ≡ length granted + 1 = length_push granted a in
    record {
      count = omega (arith, r.count);
      repeats = r.repeats ∙ sym (take-append-le n granted (a ∷ []) (omega (arith, r.count)));
      same = r.same;
    }

-- The answers go no further than the calls.
take_end : (calls : List Call) (answers : List Recorded) (n : ℕ) → n ≡ min (length calls) (length answers) → take n answers ≡ take (length calls) answers
take_end [] answers n end = let z : n ≡ 0 = omega arith in ap (λ k. take k answers) z
take_end (c ∷ calls) [] n end = let z : n ≡ 0 = omega arith in ap (λ k. take {A = Recorded} k []) z
take_end (c ∷ calls) (a ∷ answers) zero end = absurd (omega arith)
take_end (c ∷ calls) (a ∷ answers) (suc n) end = ap (λ xs. a ∷ xs) (take_end calls answers n (omega arith))

module _ (M : Meaning) where
  -- The first m grants of the first n answers stand in the second list, and where those are all of them the
  -- sheet stands for the calls kept.
  pub record Resent (calls : List Call) (answers before again : List Recorded) (n m : ℕ) (s : State) : Type 0 where
    pub repeated : Repeated (grants (take n answers)) before again m
    pub stands : m ≡ length (grants (take n answers)) → Stands M s (kept (turns (take n calls) (take n answers)))

  pub resent_none : (calls : List Call) (answers before : List Recorded) (s : State) → Stands M s [] → Resent calls answers before before 0 0 s
  resent_none calls answers before s st = record { repeated = record { count = omega arith; repeats = refl; same = refl }; stands = λ all. st }

  -- The same of lists, counts and states that are equal to these.
  pub resent_as : (calls : List Call) (answers before again : List Recorded) (n m : ℕ) (s : State) {now : List Recorded} {k : ℕ} {t : State} →
      now ≡ again → k ≡ m → t ≡ s → Resent calls answers before again n m s → Resent calls answers before now n k t
  resent_as calls answers before again n m s is-again is_m is-s r = subst₃ (λ x k y. Resent calls answers before x n k y) (sym is-again) (sym is_m) (sym is-s) r

  -- The second sheet gives a call that was granted the answer it got.
  same_granted : (calls : List histories.Call) (call : histories.Call) (a b : Recorded) → Right M.contents M.values calls call (shown a) → Right M.contents M.values calls call (shown b) → IsRefused (shown a) ≡ false → a ≡ b
  same_granted calls call a b h k stays = same_answer a b (same_reply M.contents M.values calls call (shown a) (shown b) h k) stays

  module _ (calls : List Call) (answers before again : List Recorded) (n m : ℕ) (s : State) (d : Call) (e : Recorded) (some : n < length calls) (room : n < length answers) where
    -- The call was refused.
    pub resent_refused : IsRefused (shown (get_or answers n e)) ≡ true → Resent calls answers before again n m s → Resent calls answers before again (n + 1) m s
    resent_refused goes r =
        let same : grants (take (n + 1) answers) ≡ grants (take n answers) = grants_refused answers n e room goes in
        let left = kept_more calls answers n d e some room ∙ keep_refused (kept (turns (take n calls) (take n answers))) (sent (get_or calls n d)) (shown (get_or answers n e)) goes in
        record {
          repeated = subst (λ g. Repeated g before again m) (sym same) r.repeated;
          stands = λ all. subst (Stands M s) (sym left) (r.stands (all ∙ ap length same));
        }

    -- The call was granted, and its answer has no place.
    pub resent_full : IsRefused (shown (get_or answers n e)) ≡ false → length before ≤ m → Resent calls answers before again n m s → Resent calls answers before again (n + 1) m s
    resent_full stays full r =
        let grown : grants (take (n + 1) answers) ≡ grants (take n answers) ++ (get_or answers n e ∷ []) = grants_granted answers n e room stays in
        let more : length (grants (take (n + 1) answers)) ≡ length (grants (take n answers)) + 1 = ap length grown ∙ length_push (grants (take n answers)) (get_or answers n e) in
        record {
          repeated = subst (λ g. Repeated g before again m) (sym grown) (repeated_full (grants (take n answers)) before again m (get_or answers n e) full r.repeated);
          stands = λ all. absurd (omega (arith, r.repeated.count));
        }

    -- The call was granted, and the second sheet gave it an answer, which has a place.
    pub resent_more : (t : State) (b : Recorded) → RightThroughout M.contents M.values (turns calls answers) → IsRefused (shown (get_or answers n e)) ≡ false →
        length again ≡ length before → m < length again → Moved M s t (sent (get_or calls n d)) (shown b) →
        Resent calls answers before again n m s → Resent calls answers before (set again m b) (n + 1) (m + 1) t
    resent_more t b right stays long place moves r =
        let history = turns (take n calls) (take n answers) in
        let a = get_or answers n e in
        let (later, is) = turn_stands calls answers n d e some room in
        let first : Right M.contents M.values (kept history) (sent (get_or calls n d)) (shown a) = right_at M.contents M.values [] history _ later (subst (RightThroughout M.contents M.values) (sym is) right) in
        let stood : Stands M s (kept history) = r.stands (omega (arith, r.repeated.count)) in
        let same : a ≡ b = same_granted (kept history) (sent (get_or calls n d)) a b first (moves.right (kept history) stood) stays in
        let grown : grants (take (n + 1) answers) ≡ grants (take n answers) ++ (a ∷ []) = grants_granted answers n e room stays in
        let kept-now = kept_more calls answers n d e some room ∙ ap (λ x. keep (kept history) (sent (get_or calls n d)) (shown x)) same in
        record {
          repeated = subst (λ g. Repeated g before (set again m b) (m + 1)) (sym grown) (repeated_more (grants (take n answers)) before again m a b long place same r.repeated);
          stands = λ all. subst (Stands M t) (sym kept-now) (moves.after (kept history) stood);
        }

  -- At the end of the shorter list all is sent.
  pub resent_all : (calls : List Call) (answers before again : List Recorded) (n m : ℕ) (s : State) → n ≡ min (length calls) (length answers) → Resent calls answers before again n m s → Repeated (grants (take (length calls) answers)) before again m
  resent_all calls answers before again n m s end r = subst (λ xs. Repeated (grants xs) before again m) (take_end calls answers n end) r.repeated
