-- What a sheet tells about the next events is right for the calls that it stands for.
use Rattle.std.proofs.Common.{◌≡◌, ℕ, ◌-◌, ◌<◌, ◌≤◌, Bool, true, false, ◌⊎◌, List, [], ◌∷◌, ◌++◌, slice_get, Some, None, Option, sym, refl, ◌∙◌, subst, inl, inr, append_assoc, arith}
use native.Mathlib.Decide.{ℕ_discrete}
use Rattle.bits.specs.Sets.{has}
use Rattle.bits.proofs.Sets.{empty}
use Rattle.engine.specs.Languages.{Language, Empty, Inhabited, residue, Decides, Each}
use Rattle.engine.specs.Trees.{none, letters, joined, Declared, IsByte, IsKnown, Event, start, text, end}
use Rattle.engine.specs.declared.alphabet.Letter.{Letter}
use Rattle.engine.specs.declared.alphabet.Letter.TheVariants.{Text, Element}
use Rattle.engine.proofs.Advancing.{decides_iff}
use Rattle.frames.specs.Agreements.{Agreed}
use Rattle.frames.specs.Next.{ValueGoesOn, TextGoesOn, ChildGoesOn}
use Rattle.frames.specs.Asks.{Completes}
use Rattle.sheet.specs.Expect.{Welcome, ExpectedNext}
use Rattle.sheet.specs.Histories.{Call}
use Rattle.sheet.specs.Levels.{Level, opened}
use Rattle.sheet.specs.Questions.{Admitted, BeginsDocument, HasByte, Underway}
use Rattle.sheet.specs.Stands.{Reads, ReadsValue, StandsAt, Stands}
use Rattle.sheet.specs.States.{depth}
use Rattle.frames.specs.declared.frame.Frame.{Frame}
use Rattle.frames.specs.Meanings.{Meaning}
use Rattle.sheet.specs.declared.state.State.{State}
use Rattle.sheet.specs.declared.state.Phase.TheVariants as phase
use Rattle.sheet.proofs.Completion.{completes, alive_root}
use Rattle.sheet.proofs.Frames.{reads_after, value_after, reads_end}
use Rattle.sheet.proofs.Letters.{each_front, each_back}
use Rattle.sheet.proofs.Prefixes.{starts_inside, texts_inside, ends_inside, first_event, nothing_after}
use Rattle.sheet.proofs.Steps.{begins_at, some_top, here, in_top, child_admitted, text_admitted, end_admitted}

different : {w : List ℕ} {r : ℕ} → text w ≡ start r → ⊥
different e = let z : ◌≡◌ {A = ℕ} 0 1 = cc in omega arith

different_end : {n r : ℕ} → end n ≡ start r → ⊥
different_end e = let z : ◌≡◌ {A = ℕ} 0 1 = cc in omega arith

same_start : {n r : ℕ} → start n ≡ start r → n ≡ r
same_start e = cc

-- Where nothing is welcome, nothing is expected.
pub expects_nothing : (C : ℕ → Language Letter) (V : ℕ → Language ℕ) (calls : List Call) → ((e : Event) → Admitted C V calls e → ⊥) → ExpectedNext C V calls 0 false
expects_nothing C V calls never = record {
  texts = subst (λ b. Decides b ((w : List ℕ) × Welcome C V calls (text w))) (sym (empty 0)) (λ p. never (text p.0) p.1.1);
  starts = λ n low high. subst (λ b. Decides b (Welcome C V calls (start n))) (sym (empty n)) (λ p. never (start n) p.1);
  ends = λ p. never (end p.0) p.1.1;
}

module _ (M : Meaning) where
  pub expects_ended : (s : State) (calls : List Call) → s.phase ≡ phase.Ended → Stands M s calls → Underway calls × ExpectedNext M.contents M.values calls 0 false
  expects_ended s calls is st =
      let h = subst (λ p. StandsAt M p s calls) is st in
      let (f, valid, whole) = h.2 in (
        ((s.root, h.0.begun), h.1),
        expects_nothing M.contents M.values calls (λ e a. nothing_after M.contents M.values s.root f e (subst (λ es. BeginsDocument M.contents M.values s.root (es ++ (e ∷ []))) (sym whole) (begins_at M.contents M.values calls e s.root h.0.begun a))),
      )

  -- Before the root starts, only its start is welcome.
  pub expects_root : (s : State) (calls : List Call) (set : ℕ) → s.phase ≡ phase.Begun → (s.root < 64 → has set s.root ≡ true) → ((q : ℕ) → (q ≡ s.root → ⊥) → has set q ≡ has 0 q) →
      Stands M s calls → Underway calls × ExpectedNext M.contents M.values calls set false
  expects_root s calls set is here-is others st =
      let (tally, unpassed, agreed, declared, nothing) = subst (λ p. StandsAt M p s calls) is st in
      let r = s.root in
      let bounds = agreed.law.numbers r declared in
      let only : (e : Event) → Admitted M.contents M.values calls e → e ≡ start r = λ e a.
      first_event M.contents M.values r e (subst (λ es. BeginsDocument M.contents M.values r (es ++ (e ∷ []))) nothing (begins_at M.contents M.values calls e r tally.begun a)) in
      let welcome : Welcome M.contents M.values calls (start r) =
      (declared, (r, tally.begun, subst (λ es. BeginsDocument M.contents M.values r (es ++ (start r ∷ []))) (sym nothing) (completes M.contents M.values agreed r (record { number = r; done = none } ∷ []) refl (alive_root M.contents M.values agreed r declared)))) in (
        ((r, tally.begun), unpassed),
        record {
          texts = subst (λ b. Decides b ((w : List ℕ) × Welcome M.contents M.values calls (text w))) (sym (others 0 (λ e. omega arith) ∙ empty 0)) (λ p. different (only (text p.0) p.1.1));
          starts = λ n low high. elim (ℕ_discrete n r) [
            | yes same ↦ subst (λ m. Decides (has set m) (Welcome M.contents M.values calls (start m))) (sym same) (subst (λ b. Decides b (Welcome M.contents M.values calls (start r))) (sym (here-is (omega arith))) welcome)
            | no other ↦ subst (λ b. Decides b (Welcome M.contents M.values calls (start n))) (sym (others n other ∙ empty n)) (λ p. other (same_start (only (start n) p.1)))
          ];
          ends = λ p. different_end (only (end p.0) p.1.1);
        },
      )

  pub open_underway : (s : State) (calls : List Call) → s.phase ≡ phase.Open → Stands M s calls → Underway calls
  open_underway s calls is st = let h = subst (λ p. StandsAt M p s calls) is st in ((s.root, h.0.begun), h.1)

  -- A sheet where something is open has an innermost element.
  pub expects_top : (s : State) (calls : List Call) → s.phase ≡ phase.Open → Stands M s calls → None ≡ slice_get s.frames.items (depth s - 1) → ExpectedNext M.contents M.values calls 0 false
  expects_top s calls is st never = absurd (some_top M s calls (subst (λ p. StandsAt M p s calls) is st).3 never)

  -- Inside the innermost element, whose frame is f.
  module _ (s : State) (calls : List Call) (f : Frame) (is : s.phase ≡ phase.Open) (top : Some f ≡ slice_get s.frames.items (depth s - 1)) (st : Stands M s calls) where
    abbrev in_level : Level
    in_level = (in_top M s calls f is top st).level

    inner_reads : Reads M f in_level []
    inner_reads = (in_top M s calls f is top st).reads

    agreed_here : Agreed M.contents M.values
    agreed_here = (here M s calls f is top st).2

    declared_here : Declared M.contents in_level.number
    declared_here = let (w, h) = (in_top M s calls f is top st).alive.0.content in (_, h)

    in_range : (1 ≤ in_level.number) × (in_level.number ≤ 63)
    in_range = agreed_here.law.numbers in_level.number declared_here

    -- An admitted event goes on behind the events of the open elements.
    begun_inside : (e : Event) → Admitted M.contents M.values calls e → BeginsDocument M.contents M.values s.root (opened (in_level ∷ (in_top M s calls f is top st).around) ++ (e ∷ []))
    begun_inside e a =
        subst (λ es. BeginsDocument M.contents M.values s.root (es ++ (e ∷ []))) (in_top M s calls f is top st).led (begins_at M.contents M.values calls e s.root (here M s calls f is top st).0.begun a)

    -- A byte that the value goes on with, or any byte where there is no value.
    some_byte : (v : Option ℕ) → ReadsValue (M.values in_level.number) (M.value_rests in_level.number) (joined in_level.done) v → ValueGoesOn (M.value_rests in_level.number) v →
        (b : ℕ) × (b < 256) × (Empty (M.values in_level.number) ⊎ Inhabited (residue (M.values in_level.number) (joined in_level.done ++ (b ∷ []))))
    some_byte None never goes = (0, omega arith, inl never)
    some_byte (Some t) (i, same) (b, byte, (w, h)) = (b, byte, inr (w, (value_after M in_level.number t (joined in_level.done) (b ∷ []) same w).0 h))

    -- A value that goes on with a text goes on with its first byte.
    first_byte : (v : Option ℕ) (b : ℕ) (bs : List ℕ) → ReadsValue (M.values in_level.number) (M.value_rests in_level.number) (joined in_level.done) v →
        (Inhabited (M.values in_level.number) → Inhabited (residue (M.values in_level.number) (joined in_level.done ++ (b ∷ bs)))) → ValueGoesOn (M.value_rests in_level.number) v
    first_byte None b bs never goes = tt
    first_byte (Some t) b bs (i, same) goes =
        let n = in_level.number in
        let u = joined in_level.done in
        let (w, h) = goes i in
        let long = append_assoc u (b ∷ bs) w in
        let bytes = each_back IsByte u (b ∷ (bs ++ w)) (subst (Each IsByte) long (agreed_here.bytes n in_range.0 in_range.1 ((u ++ (b ∷ bs)) ++ w) h)) in
        (b, bytes.0, (bs ++ w, (same (b ∷ (bs ++ w))).1 (subst (M.values n) long h)))

    text_welcome : (TextGoesOn M f → (w : List ℕ) × Welcome M.contents M.values calls (text w)) × ((w : List ℕ) × Welcome M.contents M.values calls (text w) → TextGoesOn M f)
    text_welcome = (
      (λ (content, value).
          let (b, byte, goes) = some_byte f.value inner_reads.value (subst (λ n. ValueGoesOn (M.value_rests n) f.value) inner_reads.number value) in
          (b ∷ [], (tt, text_admitted M s calls f is top st b [] (byte, tt) (content.0, (reads_after M f in_level Text inner_reads content.0).0 content.1) goes))),
      λ (w, p). backward w p.0 p.1,
    )
      where
        backward : (w : List ℕ) → HasByte w → Admitted M.contents M.values calls (text w) → TextGoesOn M f
        backward [] known a = absurd known
        backward (b ∷ bs) known a =
            let (content, value) = texts_inside M.contents M.values s.root in_level (in_top M s calls f is top st).around (b ∷ bs) (in_top M s calls f is top st).outermost (begun_inside (text (b ∷ bs)) a) in (
              (content.0, (reads_after M f in_level Text inner_reads content.0).1 content.1),
              subst (λ n. ValueGoesOn (M.value_rests n) f.value) (sym inner_reads.number) (first_byte f.value b bs inner_reads.value value),
            )

    start_welcome : (n : ℕ) → (ChildGoesOn M f n → Welcome M.contents M.values calls (start n)) × (Welcome M.contents M.values calls (start n) → ChildGoesOn M f n)
    start_welcome n = (
      (λ (w, h).
          let c = (reads_after M f in_level (Element n) inner_reads w).0 h in
          let read = letters in_level.done ++ (Element n ∷ []) in
          let known = (each_back (IsKnown M.contents) (letters in_level.done) (Element n ∷ []) (each_front (IsKnown M.contents) read w (agreed_here.law.words in_level.number (read ++ w) c))).0 in
          (known, child_admitted M s calls f is top st n known (w, c))),
      λ (known, a).
          let (w, h) = starts_inside M.contents M.values s.root in_level (in_top M s calls f is top st).around n (in_top M s calls f is top st).outermost (begun_inside (start n) a) in
          (w, (reads_after M f in_level (Element n) inner_reads w).1 h),
    )

    end_welcome : (Completes M f → (n : ℕ) × Welcome M.contents M.values calls (end n)) × ((n : ℕ) × Welcome M.contents M.values calls (end n) → Completes M f)
    end_welcome = (
      (λ complete.
          let known = subst (Declared M.contents) (sym inner_reads.number) declared_here in
          (f.number, (known, end_admitted M s calls f is top st f.number known refl complete))),
      λ (n, p).
          let (same, content, value) = ends_inside M.contents M.values s.root in_level (in_top M s calls f is top st).around n (in_top M s calls f is top st).outermost (begun_inside (end n) p.1) in
          (reads_end M f in_level inner_reads).1 (record { content = content; value = value }),
    )

    pub expects_inside : (set : ℕ) (end-next : Bool) → Decides (has set 0) (TextGoesOn M f) → ((n : ℕ) → 1 ≤ n → n ≤ 63 → Decides (has set n) (ChildGoesOn M f n)) →
        Decides end-next (Completes M f) → ExpectedNext M.contents M.values calls set end-next
    expects_inside set end-next texts starts ends = record {
      texts = decides_iff (has set 0) text_welcome texts;
      starts = λ n low high. decides_iff (has set n) (start_welcome n) (starts n low high);
      ends = decides_iff end-next end_welcome ends;
    }
