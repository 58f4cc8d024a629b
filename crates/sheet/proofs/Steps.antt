-- One event asked of a sheet that stands for some calls: which reply is right, and what the sheet then stands for.
use Rattle.std.proofs.Common.{◌≡◌, ℕ, suc, ◌+◌, ◌-◌, ◌<◌, ◌≤◌, true, false, ◌⊎◌, List, [], ◌∷◌, ◌++◌, length, take, slice_get, Some, None, Option, sym, refl, ap, ◌∙◌, subst, inl, inr, append_assoc, append-nil, arith, length-append}
use Rattle.std.proofs.lemmas.List.{length_push}
use lib.Dec.{eqb-suc-zero}
use Rattle.engine.specs.Languages.{Language, Empty, Inhabited, residue, Each}
use Rattle.engine.specs.Trees.{Forest, none, piece, child, letters, joined, Fits, Valid, Declared, IsByte, Event, start, text, end, traversal}
use Rattle.engine.specs.declared.alphabet.Letter.{Letter}
use Rattle.engine.specs.declared.alphabet.Letter.TheVariants.{Text, Element}
use Rattle.calls.specs.Replies.{Reply, accepted, refused, pass, number}
use Rattle.frames.specs.Agreements.{Agreed, Agrees}
use Rattle.frames.specs.Asks.{OpensFrame, ReadsLetter, ReadsText, Completes}
use Rattle.sheet.specs.Histories.{Call, begin, send, finish, root, events, passed, starts, ends}
use Rattle.sheet.specs.Levels.{Level, opened, Outermost, Alive}
use Rattle.sheet.specs.Questions.{BeginsDocument, IsDocument, HasByte, Known, Underway, ValuesPlain, number_or_0, Admitted, Right}
use Rattle.sheet.specs.Said.{Unwelcome}
use Rattle.sheet.specs.Stands.{Reads, Held, Tallied, Within, StandsAt, Stands}
use Rattle.sheet.specs.States.{applied, around, depth, phase_at}
use Rattle.calls.specs.declared.answer.Refusal.{Refusal}
use Rattle.frames.specs.declared.frame.Frame.{Frame}
use Rattle.frames.specs.Meanings.{Meaning}
use Rattle.sheet.specs.declared.state.State.{State}
use Rattle.sheet.specs.declared.state.Phase.{Phase}
use Rattle.sheet.specs.declared.state.Phase.TheVariants as phase
use Rattle.sheet.specs.declared.state.Change.TheVariants as change
use Rattle.sheet.proofs.Balance.{open_count, document_balanced}
use Rattle.sheet.proofs.Calls.{root_more, events_more, passed_more, root_finish, events_finish, passed_finish}
use Rattle.sheet.proofs.Completion.{completes, alive_root, alive_start, alive_text, alive_end, opened_start, opened_text, opened_end, opened_whole}
use Rattle.sheet.proofs.Forests.{join}
use Rattle.sheet.proofs.Frames.{last_is, front_is, held_length, reads_opened, reads_letter, stuck_letter, reads_text, stuck_text, reads_end, reads_child}
use Rattle.sheet.proofs.Prefixes.{starts_inside, texts_inside, ends_inside, nothing_after}

-- The root that a document begins with is the one begun.
pub begins_at : (C : ℕ → Language Letter) (V : ℕ → Language ℕ) (calls : List Call) (e : Event) (r : ℕ) → root calls ≡ Some r →
    Admitted C V calls e → BeginsDocument C V r (events calls ++ (e ∷ []))
begins_at C V calls e r begun (q, other, d) = let same : q ≡ r = cc in subst (λ x. BeginsDocument C V x (events calls ++ (e ∷ []))) same d

stays_open : (d : ℕ) (p : Phase) → phase_at (suc d) p ≡ p
stays_open d p = ap (λ b. elim b as (λ _. Phase) [ true ↦ phase.Ended | false ↦ p ]) (eqb-suc-zero d)

-- The outermost element is told by the numbers alone.
outermost_same : (r n : ℕ) (f g : Forest) (ls : List Level) → Outermost r (record { number = n; done = f } ∷ ls) → Outermost r (record { number = n; done = g } ∷ ls)
outermost_same r n f g [] o = o
outermost_same r n f g (l ∷ ls) o = o

module _ (M : Meaning) where
  -- The innermost open element with its frame, and those around it.
  pub record Inner (s : State) (calls : List Call) (f : Frame) : Type 0 where
    pub level : Level
    pub around : List Level
    pub front : List Frame
    pub outermost : Outermost s.root (level ∷ around)
    pub led : events calls ≡ opened (level ∷ around)
    pub alive : Alive M.contents M.values [] (level ∷ around)
    pub split : s.frames.items ≡ front ++ (f ∷ [])
    pub reads : Reads M f level []
    pub held : Held M front (Element level.number ∷ []) around

  pub inner : (s : State) (calls : List Call) (f : Frame) → Within M s calls → Some f ≡ slice_get s.frames.items (depth s - 1) → Inner s calls f
  inner s calls f w top = go w.levels w.outermost w.led w.alive w.held
    where
      go : (ls : List Level) → Outermost s.root ls → events calls ≡ opened ls → Alive M.contents M.values [] ls → Held M s.frames.items [] ls → Inner s calls f
      go [] o p a h = absurd o
      go (l ∷ ls) o p a (front, g, split, r, h) =
          let told : ◌≡◌ {A = Option Frame} (Some f) (Some g) = top ∙ (ap (λ fs. slice_get fs (length fs - 1)) split ∙ last_is front g) in
          let same : f ≡ g = cc in
          record {
            level = l;
            around = ls;
            front = front;
            outermost = o;
            led = p;
            alive = a;
            split = split ∙ ap (λ x. front ++ (x ∷ [])) (sym same);
            reads = subst (λ x. Reads M x l []) (sym same) r;
            held = h;
          }

  -- A sheet where something is open has an innermost element.
  pub some_top : (s : State) (calls : List Call) → Within M s calls → None ≡ slice_get s.frames.items (depth s - 1) → ⊥
  some_top s calls w never = go w.levels w.outermost w.held
    where
      go : (ls : List Level) → Outermost s.root ls → Held M s.frames.items [] ls → ⊥
      go [] o h = o
      go (l ∷ ls) o (front, g, split, r, h) =
          let told : ◌≡◌ {A = Option Frame} None (Some g) = never ∙ (ap (λ fs. slice_get fs (length fs - 1)) split ∙ last_is front g) in
          let z : ◌≡◌ {A = ℕ} 0 1 = cc in
          omega arith

  -- How many elements are open, by the events.
  inner_open : (s : State) (calls : List Call) (f : Frame) → Inner s calls f → starts (events calls) ≡ ends (events calls) + depth s
  inner_open s calls f i =
      let ls = i.level ∷ i.around in
      let deep : depth s ≡ length ls = held_length M s.frames.items [] ls (i.front, f, i.split, i.reads, i.held) in
      ap starts i.led ∙ (open_count ls ∙ (ap (λ es. ends es + length ls) (sym i.led) ∙ ap (λ d. ends (events calls) + d) (sym deep)))

  -- One event more is tallied.
  tallied_more : (s t : State) (calls : List Call) (e : Event) → Tallied M s calls → t.root ≡ s.root → t.count ≡ s.count + 1 → Tallied M t (calls ++ (send e ∷ []))
  tallied_more s t calls e tally same more = record {
    begun = root_more calls e ∙ (tally.begun ∙ ap Some (sym same));
    count = more ∙ (ap (λ n. n + 1) tally.count ∙ (sym (length-append (events calls) (e ∷ [])) ∙ ap length (sym (events_more calls e))));
  }

  module _ (s : State) (calls : List Call) (tally : Tallied M s calls) (unpassed : passed calls ≡ false) where
    underway : Underway calls
    underway = ((s.root, tally.begun), unpassed)

    pub right_35 : (e : Event) → (Known M.contents e → ⊥) → Right M.contents M.values calls (send e) (refused 35)
    right_35 e unknown = inr (underway, inl (unknown, refl))

    pub right_36 : (e : Event) → Known M.contents e → (BeginsDocument M.contents M.values s.root (events calls ++ (e ∷ [])) → ⊥) → Right M.contents M.values calls (send e) (refused 36)
    right_36 e known never = inr (underway, inr (known, inl ((λ a. never (begins_at M.contents M.values calls e s.root tally.begun a)), refl)))

    admitted : (e : Event) → BeginsDocument M.contents M.values s.root (events calls ++ (e ∷ [])) → Admitted M.contents M.values calls e
    admitted e d = (s.root, tally.begun, d)

    few : s.count < 1000000 → length (events calls) < 1000000
    few h = omega (arith, tally.count)

    many : 1000000 ≤ s.count → length (events calls) < 1000000 → ⊥
    many h k = omega (arith, tally.count)

  at_open : (s : State) (calls : List Call) → s.phase ≡ phase.Open → Stands M s calls → StandsAt M phase.Open s calls
  at_open s calls is h = subst (λ p. StandsAt M p s calls) is h

  pub has_top : (s : State) (calls : List Call) (call : Call) (reply : Reply) → s.phase ≡ phase.Open → Stands M s calls →
      None ≡ slice_get s.frames.items (depth s - 1) → Right M.contents M.values calls call reply
  has_top s calls call reply is st never = absurd (some_top s calls (at_open s calls is st).3 never)

  -- The root's start.
  pub root_right : (s : State) (calls : List Call) (n : ℕ) (f : Frame) → s.phase ≡ phase.Begun → n ≡ s.root → s.count < 1000000 →
      OpensFrame M n (Some f) → Stands M s calls →
      Right M.contents M.values calls (send (start n)) accepted × Stands M (applied s (change.Root f)) (calls ++ (send (start n) ∷ []))
  root_right s calls n f is same count open-frame st =
      let (tally, unpassed, agreed, declared, nothing) = subst (λ p. StandsAt M p s calls) is st in
      let e = start n in
      let new : Level = record { number = s.root; done = none } in
      let led : events (calls ++ (send e ∷ [])) ≡ opened (new ∷ []) =
      events_more calls e ∙ (ap (λ es. es ++ (e ∷ [])) nothing ∙ ap (λ m. start m ∷ []) same) in
      let alive = alive_root M.contents M.values agreed s.root declared in
      let document : BeginsDocument M.contents M.values s.root (events calls ++ (e ∷ [])) =
      subst (BeginsDocument M.contents M.values s.root) (sym led ∙ events_more calls e) (completes M.contents M.values agreed s.root (new ∷ []) refl alive) in
      let known : Declared M.contents n = subst (Declared M.contents) (sym same) declared in
      let shallow : starts (events calls) < ends (events calls) + 64 = subst (λ es. starts es < ends es + 64) (sym nothing) (omega arith) in
      let reads = subst (λ m. Reads M f (record { number = m; done = none }) []) same (reads_opened M n f open-frame) in (
        inr (underway s calls tally unpassed, inr (known, inr (admitted s calls tally unpassed e document, inr (shallow, inr (few s calls tally unpassed count, refl))))),
        (
          tallied_more s (applied s (change.Root f)) calls e tally refl refl,
          passed_more calls e ∙ unpassed,
          agreed,
          record { levels = new ∷ []; outermost = refl; led = led; alive = alive; held = ([], f, refl, reads, refl); fits = omega arith },
        ),
      )

  -- No event has a place behind the root's end.
  pub ended_unwelcome : (s : State) (calls : List Call) (e : Event) (r : Refusal) → s.phase ≡ phase.Ended → Unwelcome M.contents e r → Stands M s calls →
      Right M.contents M.values calls (send e) (refused (number r))
  ended_unwelcome s calls e r is unwelcome st =
      let (tally, unpassed, f, valid, whole) = ended_at s calls is st in
      elim unwelcome [
        | inl p ↦ subst (λ x. Right M.contents M.values calls (send e) (refused (number x))) (sym p.1) (right_35 s calls tally unpassed e p.0)
        | inr p ↦ subst (λ x. Right M.contents M.values calls (send e) (refused (number x))) (sym p.1)
            (right_36 s calls tally unpassed e p.0 (λ d. nothing_after M.contents M.values s.root f e (subst (λ es. BeginsDocument M.contents M.values s.root (es ++ (e ∷ []))) (sym whole) d)))
      ]
    where
      ended_at : (s : State) (calls : List Call) → s.phase ≡ phase.Ended → StandsAt M s.phase s calls →
          Tallied M s calls × (passed calls ≡ false) × (f : Forest) × Valid M.contents M.values s.root f × (traversal s.root f ≡ events calls)
      ended_at s calls is st = let h = subst (λ p. StandsAt M p s calls) is st in (h.0, h.1, h.2.0, h.2.1, h.2.2)

  -- Where something is open, more elements have started than ended.
  open_uneven : (s : State) (calls : List Call) → Within M s calls → starts (events calls) ≡ ends (events calls) → ⊥
  open_uneven s calls w even = go w.levels w.outermost w.led
    where
      go : (ls : List Level) → Outermost s.root ls → events calls ≡ opened ls → ⊥
      go [] o led = o
      go (l ∷ ls) o led =
          let more : starts (events calls) ≡ ends (events calls) + length (l ∷ ls) =
          ap starts led ∙ (open_count (l ∷ ls) ∙ ap (λ es. ends es + length (l ∷ ls)) (sym led)) in
          omega arith

  -- Finish before the root's start.
  pub finish_begun : (s : State) (calls : List Call) → s.phase ≡ phase.Begun → Stands M s calls → Right M.contents M.values calls finish (refused 39)
  finish_begun s calls is st =
      let h = subst (λ p. StandsAt M p s calls) is st in
      let nothing : starts (events calls) ≡ 0 = ap starts h.4 in
      inr (underway s calls h.0 h.1, inl ((λ (some, even). omega arith), refl))

  -- Finish while something is open.
  pub finish_open : (s : State) (calls : List Call) → s.phase ≡ phase.Open → Stands M s calls → Right M.contents M.values calls finish (refused 39)
  finish_open s calls is st =
      let h = at_open s calls is st in
      inr (underway s calls h.0 h.1, inl ((λ (some, even). open_uneven s calls h.3 even), refl))

  -- Finish behind the root's end.
  pub finish_ended : (s : State) (calls : List Call) → s.phase ≡ phase.Ended → Stands M s calls →
      Right M.contents M.values calls finish (pass s.root s.count)
      × Stands M (record { phase = phase.Passed; root = s.root; count = s.count; frames = s.frames }) (calls ++ (finish ∷ []))
  finish_ended s calls is st =
      let h = subst (λ p. StandsAt M p s calls) is st in
      let counts = document_balanced M.contents M.values s.root (events calls) h.2 in
      let says : pass s.root s.count ≡ pass (number_or_0 (root calls)) (length (events calls)) =
      ap (λ n. pass s.root n) h.0.count ∙ ap (λ o. pass (number_or_0 o) (length (events calls))) (sym h.0.begun) in (
        inr (underway s calls h.0 h.1, inr (counts, says)),
        (
          record { begun = root_finish calls ∙ h.0.begun; count = h.0.count ∙ ap length (sym (events_finish calls)) },
          passed_finish calls,
          subst (IsDocument M.contents M.values s.root) (sym (events_finish calls)) h.2,
        ),
      )

  -- A begin over engines that do not agree.
  pub begin_unplain : (s : State) (calls : List Call) (n : ℕ) → s.phase ≡ phase.Fresh → Declared M.contents n → Agrees M false → Stands M s calls →
      Right M.contents M.values calls (begin n) (refused 33)
  begin_unplain s calls n is declared (m, low, high, valued, unplain) st =
      let h = subst (λ p. StandsAt M p s calls) is st in
      inr (ap root h.0, inr (declared, inl ((λ plain. unplain (plain m low high valued)), refl)))

  -- A begin that is accepted.
  pub begin_right : (s : State) (calls : List Call) (n : ℕ) → s.phase ≡ phase.Fresh → Declared M.contents n → Agreed M.contents M.values → Stands M s calls →
      Right M.contents M.values calls (begin n) accepted
      × Stands M (record { phase = phase.Begun; root = n; count = s.count; frames = s.frames }) (calls ++ (begin n ∷ []))
  begin_right s calls n is declared agreed st =
      let h = subst (λ p. StandsAt M p s calls) is st in
      let plain : ValuesPlain M.contents M.values = λ m low high i. elim (agreed.values m low high) [ inl never ↦ absurd (never i.0 i.1) | inr p ↦ p.1 ] in
      let only : begin n ∷ [] ≡ calls ++ (begin n ∷ []) = ap (λ l. l ++ (begin n ∷ [])) (sym h.0) in (
        inr (ap root h.0, inr (declared, inr (plain, refl))),
        subst (λ l. Stands M (record { phase = phase.Begun; root = n; count = s.count; frames = s.frames }) l) only
            (record { begun = refl; count = h.1 }, refl, agreed, declared, refl),
      )

  -- Events inside the innermost element, whose frame is f.
  module _ (s : State) (calls : List Call) (f : Frame) (is : s.phase ≡ phase.Open) (top : Some f ≡ slice_get s.frames.items (depth s - 1)) (st : Stands M s calls) where
    pub here : StandsAt M phase.Open s calls
    here = at_open s calls is st

    pub in_top : Inner s calls f
    in_top = inner s calls f here.3 top

    around_is : around s ≡ in_top.front
    around_is = ap (λ fs. take (length fs - 1) fs) in_top.split ∙ front_is in_top.front f

    -- The innermost frame and those around it are all that are open.
    one_more : depth s ≡ length (around s) + 1
    one_more = ap length in_top.split ∙ (length_push in_top.front f ∙ ap (λ fs. length fs + 1) (sym around_is))

    -- The accepted events and one more begin no document where those of the open elements and it begin none.
    never : (e : Event) → (BeginsDocument M.contents M.values s.root (opened (in_top.level ∷ in_top.around) ++ (e ∷ [])) → ⊥) → BeginsDocument M.contents M.values s.root (events calls ++ (e ∷ [])) → ⊥
    never e h d = h (subst (λ es. BeginsDocument M.contents M.values s.root (es ++ (e ∷ []))) in_top.led d)

    -- Open elements that are alive after one event more: it is admitted.
    begins : (e : Event) (ls : List Level) → Outermost s.root ls → opened ls ≡ opened (in_top.level ∷ in_top.around) ++ (e ∷ []) → Alive M.contents M.values [] ls →
        BeginsDocument M.contents M.values s.root (events calls ++ (e ∷ []))
    begins e ls o led alive =
        subst (BeginsDocument M.contents M.values s.root) (led ∙ ap (λ es. es ++ (e ∷ [])) (sym in_top.led)) (completes M.contents M.values here.2 s.root ls o alive)

    after_events : (e : Event) (ls : List Level) → opened ls ≡ opened (in_top.level ∷ in_top.around) ++ (e ∷ []) → events (calls ++ (send e ∷ [])) ≡ opened ls
    after_events e ls led = events_more calls e ∙ (ap (λ es. es ++ (e ∷ [])) in_top.led ∙ sym led)

    -- A child that no word goes on with.
    pub child_offends : (n : ℕ) → Declared M.contents n → ReadsLetter M f (Element n) None → Right M.contents M.values calls (send (start n)) (refused 36)
    child_offends n known stuck =
        right_36 s calls here.0 here.1 (start n) known
        (never (start n) (λ d. stuck_letter M f in_top.level (Element n) in_top.reads stuck (starts_inside M.contents M.values s.root in_top.level in_top.around n in_top.outermost d)))

    -- A child that some word goes on with.
    module _ (n : ℕ) (known : Declared M.contents n) (content : Inhabited (residue (M.contents in_top.level.number) (letters in_top.level.done ++ (Element n ∷ [])))) where
      new : Level
      new = record { number = n; done = none }

      child_alive : Alive M.contents M.values [] (new ∷ (in_top.level ∷ in_top.around))
      unfolding new
      child_alive = alive_start M.contents M.values here.2 in_top.level in_top.around n in_top.alive known content

      child_led : opened (new ∷ (in_top.level ∷ in_top.around)) ≡ opened (in_top.level ∷ in_top.around) ++ (start n ∷ [])
      unfolding new
      child_led = opened_start n (in_top.level ∷ in_top.around)

      pub child_admitted : Admitted M.contents M.values calls (start n)
      child_admitted =
          admitted s calls here.0 here.1 (start n)
          (begins (start n) (new ∷ (in_top.level ∷ in_top.around)) in_top.outermost child_led child_alive)

    module _ (n : ℕ) (g k : Frame) (open-frame : OpensFrame M n (Some k)) (reads : ReadsLetter M f (Element n) (Some g)) where
      child_known : Declared M.contents n
      child_known = open-frame.1.0

      child_read : Inhabited (residue (M.contents in_top.level.number) (letters in_top.level.done ++ (Element n ∷ []))) × Reads M g in_top.level (Element n ∷ [])
      child_read = reads_letter M f g in_top.level (Element n) in_top.reads reads

      admits : Admitted M.contents M.values calls (start n)
      admits = child_admitted n child_known child_read.0

      pub child_too_deep : 64 ≤ depth s → Right M.contents M.values calls (send (start n)) (refused 37)
      child_too_deep deep =
          inr (underway s calls here.0 here.1, inr (child_known, inr (admits, inl ((λ few. omega (arith, inner_open s calls f in_top)), refl))))

      shallow : depth s < 64 → starts (events calls) < ends (events calls) + 64
      shallow h = omega (arith, inner_open s calls f in_top)

      pub child_too_many : depth s < 64 → 1000000 ≤ s.count → Right M.contents M.values calls (send (start n)) (refused 38)
      child_too_many fits more =
          inr (underway s calls here.0 here.1, inr (child_known, inr (admits, inr (shallow fits, inl (many s calls here.0 here.1 more, refl)))))

      pub child_right : depth s < 64 → s.count < 1000000 →
          Right M.contents M.values calls (send (start n)) accepted × Stands M (applied s (change.Child g k)) (calls ++ (send (start n) ∷ []))
      unfolding new
      child_right fits less =
          let fresh_level : Level = record { number = n; done = none } in
          let split : around s ++ (g ∷ k ∷ []) ≡ (around s ++ (g ∷ [])) ++ (k ∷ []) = sym (append_assoc (around s) (g ∷ []) (k ∷ [])) in (
            inr (underway s calls here.0 here.1, inr (child_known, inr (admits, inr (shallow fits, inr (few s calls here.0 here.1 less, refl))))),
            subst (λ p. StandsAt M p (applied s (change.Child g k)) (calls ++ (send (start n) ∷ []))) (sym is) (
              tallied_more s (applied s (change.Child g k)) calls (start n) here.0 refl refl,
              passed_more calls (start n) ∙ here.1,
              here.2,
              record {
                levels = fresh_level ∷ (in_top.level ∷ in_top.around);
                outermost = in_top.outermost;
                led = after_events (start n) (fresh_level ∷ (in_top.level ∷ in_top.around)) (child_led n child_known child_read.0);
                alive = child_alive n child_known child_read.0;
                held = (
                  around s ++ (g ∷ []),
                  k,
                  split,
                  reads_opened M n k open-frame,
                  (in_top.front, g, ap (λ fs. fs ++ (g ∷ [])) around_is, child_read.1, in_top.held),
                );
                fits = omega (arith, fits, one_more, length-append (around s) (g ∷ k ∷ []));
              },
            ),
          )

    -- A text that the content or the value does not go on with.
    pub text_offends : (w : List ℕ) → HasByte w → ReadsText M f w None → Right M.contents M.values calls (send (text w)) (refused 36)
    text_offends [] known stuck = absurd known
    text_offends (b ∷ bs) known stuck =
        right_36 s calls here.0 here.1 (text (b ∷ bs)) known
        (never (text (b ∷ bs)) (λ d.
        let (content, value) = texts_inside M.contents M.values s.root in_top.level in_top.around (b ∷ bs) in_top.outermost d in
        stuck_text M f in_top.level b bs in_top.reads stuck content value))

    -- A text that the content and the value go on with.
    module _ (b : ℕ) (bs : List ℕ) (bytes : Each IsByte (b ∷ bs)) (content : Inhabited (residue (M.contents in_top.level.number) (letters in_top.level.done ++ (Text ∷ []))))
        (value : Empty (M.values in_top.level.number) ⊎ Inhabited (residue (M.values in_top.level.number) (joined in_top.level.done ++ (b ∷ bs)))) where
      more : Level
      more = record { number = in_top.level.number; done = join in_top.level.done (piece b bs none) }

      text_alive : Alive M.contents M.values [] (more ∷ in_top.around)
      unfolding more
      text_alive = alive_text M.contents M.values in_top.level in_top.around b bs bytes in_top.alive content value

      text_outermost : Outermost s.root (more ∷ in_top.around)
      unfolding more
      text_outermost =
          outermost_same s.root in_top.level.number in_top.level.done (join in_top.level.done (piece b bs none)) in_top.around in_top.outermost

      text_led : opened (more ∷ in_top.around) ≡ opened (in_top.level ∷ in_top.around) ++ (text (b ∷ bs) ∷ [])
      unfolding more
      text_led = opened_text in_top.level in_top.around b bs

      pub text_admitted : Admitted M.contents M.values calls (text (b ∷ bs))
      text_admitted = admitted s calls here.0 here.1 (text (b ∷ bs)) (begins (text (b ∷ bs)) (more ∷ in_top.around) text_outermost text_led text_alive)

    module _ (b : ℕ) (bs : List ℕ) (g : Frame) (bytes : Each IsByte (b ∷ bs)) (reads : ReadsText M f (b ∷ bs) (Some g)) where
      text_read : Inhabited (residue (M.contents in_top.level.number) (letters in_top.level.done ++ (Text ∷ [])))
          × (Empty (M.values in_top.level.number) ⊎ Inhabited (residue (M.values in_top.level.number) (joined in_top.level.done ++ (b ∷ bs))))
          × Reads M g (record { number = in_top.level.number; done = join in_top.level.done (piece b bs none) }) []
      text_read = reads_text M f g in_top.level b bs in_top.reads reads

      text_admits : Admitted M.contents M.values calls (text (b ∷ bs))
      text_admits = text_admitted b bs bytes text_read.0 text_read.1

      text_right_cons : s.count < 1000000 → Right M.contents M.values calls (send (text (b ∷ bs))) accepted × Stands M (applied s (change.Text g)) (calls ++ (send (text (b ∷ bs)) ∷ []))
      unfolding more
      text_right_cons less =
          let e = text (b ∷ bs) in
          let longer : Level = record { number = in_top.level.number; done = join in_top.level.done (piece b bs none) } in (
            inr (underway s calls here.0 here.1, inr (tt, inr (text_admits, inr (few s calls here.0 here.1 less, refl)))),
            subst (λ p. StandsAt M p (applied s (change.Text g)) (calls ++ (send e ∷ []))) (sym is) (
              tallied_more s (applied s (change.Text g)) calls e here.0 refl refl,
              passed_more calls e ∙ here.1,
              here.2,
              record {
                levels = longer ∷ in_top.around;
                outermost = text_outermost b bs bytes text_read.0 text_read.1;
                led = after_events e (longer ∷ in_top.around) (text_led b bs bytes text_read.0 text_read.1);
                alive = text_alive b bs bytes text_read.0 text_read.1;
                held = (in_top.front, g, ap (λ fs. fs ++ (g ∷ [])) around_is, text_read.2, in_top.held);
                fits = omega (arith, here.3.fits, one_more, length_push (around s) g);
              },
            ),
          )

    pub text_too_many : (w : List ℕ) (g : Frame) → HasByte w → Each IsByte w → ReadsText M f w (Some g) → 1000000 ≤ s.count → Right M.contents M.values calls (send (text w)) (refused 38)
    text_too_many [] g known bytes reads full = absurd known
    text_too_many (b ∷ bs) g known bytes reads full =
        inr (underway s calls here.0 here.1, inr (tt, inr (text_admits b bs g bytes reads, inl (many s calls here.0 here.1 full, refl))))

    pub text_right : (w : List ℕ) (g : Frame) → HasByte w → Each IsByte w → ReadsText M f w (Some g) → s.count < 1000000 →
        Right M.contents M.values calls (send (text w)) accepted × Stands M (applied s (change.Text g)) (calls ++ (send (text w) ∷ []))
    text_right [] g known bytes reads less = absurd known
    text_right (b ∷ bs) g known bytes reads less = text_right_cons b bs g bytes reads less

    -- The end of another element, or of one that is not complete.
    pub end_offends : (n : ℕ) → Declared M.contents n → (n ≡ f.number → Completes M f → ⊥) → Right M.contents M.values calls (send (end n)) (refused 36)
    end_offends n known wrong =
        right_36 s calls here.0 here.1 (end n) known
        (never (end n) (λ d.
        let (same, content, value) = ends_inside M.contents M.values s.root in_top.level in_top.around n in_top.outermost d in
        wrong (same ∙ sym in_top.reads.number) ((reads_end M f in_top.level in_top.reads).1 (record { content = content; value = value }))))

    module _ (n : ℕ) (known : Declared M.contents n) (same : n ≡ f.number) (complete : Completes M f) where
      named : n ≡ in_top.level.number
      named = same ∙ in_top.reads.number

      fitting : Fits M.contents M.values in_top.level.number in_top.level.done
      fitting = (reads_end M f in_top.level in_top.reads).0 complete

      -- What the end leaves: the whole document, or the elements around with one child more.
      Left : List Level → Type 0
      Left ls = (e : Event) → e ≡ end in_top.level.number → Held M in_top.front (Element in_top.level.number ∷ []) ls →
          Outermost s.root (in_top.level ∷ ls) → Alive M.contents M.values [] (in_top.level ∷ ls) → events (calls ++ (send e ∷ [])) ≡ opened (in_top.level ∷ ls) ++ (e ∷ []) →
          BeginsDocument M.contents M.values s.root (opened (in_top.level ∷ ls) ++ (e ∷ [])) × Stands M (applied s change.End) (calls ++ (send e ∷ []))

      ended_tally : (e : Event) → Tallied M (applied s change.End) (calls ++ (send e ∷ []))
      ended_tally e = tallied_more s (applied s change.End) calls e here.0 refl refl

      behind : depth s - 1 ≡ length in_top.front
      behind = ap (λ fs. length fs - 1) in_top.split ∙ (ap (λ n. n - 1) (length_push in_top.front f) ∙ omega arith)

      left : (ls : List Level) → Left ls
      unfolding Left
      left [] e is-end held outermost alive led =
          let l = in_top.level in
          let whole : traversal s.root l.done ≡ opened (l ∷ []) ++ (e ∷ []) =
          ap (λ m. traversal m l.done) (sym outermost) ∙ (opened_whole l ∙ ap (λ x. opened (l ∷ []) ++ (x ∷ [])) (sym is-end)) in
          let valid : Valid M.contents M.values s.root l.done = subst (λ m. Valid M.contents M.values m l.done) outermost (fitting, alive.0.below) in
          let bare : depth s - 1 ≡ 0 = behind ∙ ap length held in (
            (l.done, [], valid, whole ∙ sym (append-nil _)),
            subst (λ p. StandsAt M p (applied s change.End) (calls ++ (send e ∷ []))) (ap (λ d. phase_at d s.phase) (sym bare))
                (ended_tally e, passed_more calls e ∙ here.1, (l.done, valid, whole ∙ sym led)),
          )
      left (m ∷ ls) e is-end (under, g, split, reads, held) outermost alive led =
          let l = in_top.level in
          let grown : Level = record { number = m.number; done = join m.done (child l.number l.done none) } in
          let still : Alive M.contents M.values [] (grown ∷ ls) = alive_end M.contents M.values l m ls alive fitting.content fitting.value in
          let outer : Outermost s.root (grown ∷ ls) = outermost_same s.root m.number m.done (join m.done (child l.number l.done none)) ls outermost in
          let told : opened (grown ∷ ls) ≡ opened (l ∷ (m ∷ ls)) ++ (e ∷ []) =
          opened_end l m ls ∙ ap (λ x. opened (l ∷ (m ∷ ls)) ++ (x ∷ [])) (sym is-end) in
          let at : depth s - 1 ≡ suc (length under) = behind ∙ (ap length split ∙ (length_push under g ∙ omega arith)) in
          let stays : phase.Open ≡ phase_at (depth s - 1) s.phase = sym is ∙ (sym (stays_open (length under) s.phase) ∙ ap (λ d. phase_at d s.phase) (sym at)) in (
            subst (BeginsDocument M.contents M.values s.root) told (completes M.contents M.values here.2 s.root (grown ∷ ls) outer still),
            subst (λ p. StandsAt M p (applied s change.End) (calls ++ (send e ∷ []))) stays (
              ended_tally e,
              passed_more calls e ∙ here.1,
              here.2,
              record {
                levels = grown ∷ ls;
                outermost = outer;
                led = led ∙ sym told;
                alive = still;
                held = (under, g, around_is ∙ split, reads_child M g m l.number l.done reads, held);
                fits = omega (arith, here.3.fits, one_more);
              },
            ),
          )

      end_left : BeginsDocument M.contents M.values s.root (opened (in_top.level ∷ in_top.around) ++ (end n ∷ [])) × Stands M (applied s change.End) (calls ++ (send (end n) ∷ []))
      unfolding Left
      end_left =
          left in_top.around (end n) (ap end named) in_top.held in_top.outermost in_top.alive
          (events_more calls (end n) ∙ ap (λ es. es ++ (end n ∷ [])) in_top.led)

      pub end_admitted : Admitted M.contents M.values calls (end n)
      end_admitted =
          admitted s calls here.0 here.1 (end n)
          (subst (λ es. BeginsDocument M.contents M.values s.root (es ++ (end n ∷ []))) (sym in_top.led) end_left.0)

      pub end_too_many : 1000000 ≤ s.count → Right M.contents M.values calls (send (end n)) (refused 38)
      end_too_many full = inr (underway s calls here.0 here.1, inr (known, inr (end_admitted, inl (many s calls here.0 here.1 full, refl))))

      pub end_right : s.count < 1000000 → Right M.contents M.values calls (send (end n)) accepted × Stands M (applied s change.End) (calls ++ (send (end n) ∷ []))
      end_right less = (inr (underway s calls here.0 here.1, inr (known, inr (end_admitted, inr (few s calls here.0 here.1 less, refl)))), end_left.1)
