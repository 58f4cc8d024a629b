-- Frames: what a write to one leaves of the others, and what the engines' answers say of the element it stands for.
use Rattle.std.proofs.Common.{◌≡◌, ℕ, ◌+◌, ◌-◌, ◌<◌, ◌≤◌, Bool, true, false, ◌==◌, ◌⊎◌, List, [], ◌∷◌, ◌++◌, length, take, slice_get, Some, None, Option, sym, refl, ap, ◌∙◌, subst, inl, inr, append_assoc, append-nil, arith}
use Rattle.std.proofs.lemmas.Bool.{eqb-true, eqb-false}
use Rattle.std.proofs.lemmas.List.{length_push}
use Rattle.engine.specs.Languages.{Empty, Inhabited, Same, residue, Answers}
use Rattle.engine.specs.Trees.{Forest, none, piece, child, letters, joined, Fits}
use Rattle.engine.specs.declared.alphabet.Letter.{Letter}
use Rattle.engine.specs.declared.alphabet.Letter.TheVariants.{Text, Element}
use Rattle.frames.specs.Asks.{OpensFrame, ReadsLetter, ReadsText, AdvancesValue, NoValue, ValueEnds, Completes}
use Rattle.sheet.specs.Levels.{Level}
use Rattle.sheet.specs.Stands.{Reads, ReadsValue, Held}
use Rattle.frames.specs.declared.frame.Frame.{Frame}
use Rattle.frames.specs.Meanings.{Meaning}
use Rattle.sheet.proofs.Forests.{join, letters_join, joined_join}

-- What is last, and what is before it.
pub last_is : (front : List Frame) (f : Frame) → slice_get (front ++ (f ∷ [])) (length (front ++ (f ∷ [])) - 1) ≡ Some f
last_is front f =
    let at : length (front ++ (f ∷ [])) - 1 ≡ length front = ap (λ n. n - 1) (length_push front f) ∙ omega arith in
    ap (slice_get (front ++ (f ∷ []))) at ∙ at_last front
  where
    at_last : (xs : List Frame) → slice_get (xs ++ (f ∷ [])) (length xs) ≡ Some f
    at_last [] = refl
    at_last (x ∷ xs) = at_last xs

pub front_is : (front : List Frame) (f : Frame) → take (length (front ++ (f ∷ [])) - 1) (front ++ (f ∷ [])) ≡ front
front_is front f =
    let at : length (front ++ (f ∷ [])) - 1 ≡ length front = ap (λ n. n - 1) (length_push front f) ∙ omega arith in
    ap (λ n. take n (front ++ (f ∷ []))) at ∙ before_last front
  where
    before_last : (xs : List Frame) → take (length xs) (xs ++ (f ∷ [])) ≡ xs
    before_last [] = refl
    before_last (x ∷ xs) = ap (λ ys. x ∷ ys) (before_last xs)

-- Where there is a last, something is there.
pub not_empty : (frames : List Frame) (f : Frame) (i : ℕ) → Some f ≡ slice_get frames i → 0 < length frames
not_empty [] f i e = let z : ◌≡◌ {A = ℕ} 0 1 = cc in omega arith
not_empty (g ∷ frames) f i e = omega arith

-- Whether 64 are open, as the test for a full vector tells.
pub full : (n : ℕ) (b : Bool) → b ≡ (n == 64) → b ≡ true → 64 ≤ n
full n b e is = let all = eqb-true n 64 (sym e ∙ is) in omega arith

pub not_full : (n : ℕ) (b : Bool) → b ≡ (n == 64) → n ≤ 64 → b ≡ false → n < 64
not_full n b e fits is = let fewer = eqb-false n 64 (sym e ∙ is) in omega (arith, fewer)

module _ (M : Meaning) where
  pub held_length : (frames : List Frame) (pending : List Letter) (ls : List Level) → Held M frames pending ls → length frames ≡ length ls
  held_length frames pending [] e = ap length e
  held_length frames pending (l ∷ ls) (front, f, e, r, more) =
      ap length e ∙ (length_push front f ∙ (ap (λ n. n + 1) (held_length front (Element l.number ∷ []) ls more) ∙ omega arith))

  -- The frame of an element that has just started stands for it.
  pub reads_opened : (n : ℕ) (f : Frame) → OpensFrame M n (Some f) → Reads M f (record { number = n; done = none }) []
  reads_opened n f (e, (i, same), v) = record { number = e; content = same; value = opened_value f.value v }
    where
      opened_value : (s : Option ℕ) → Answers (M.values n) (M.value_rests n) s → ReadsValue (M.values n) (M.value_rests n) [] s
      opened_value None h = h
      opened_value (Some s) h = h

  -- What follows a letter in the rest of the content state is what follows it in the content language.
  pub reads_after : (f : Frame) (l : Level) (a : Letter) → Reads M f l [] →
      Same (residue (M.content_rests f.number f.content) (a ∷ [])) (residue (M.contents l.number) (letters l.done ++ (a ∷ [])))
  reads_after f l a r w =
      let cut : (letters l.done ++ []) ++ (a ∷ w) ≡ (letters l.done ++ (a ∷ [])) ++ w =
      append_assoc (letters l.done) [] (a ∷ w) ∙ sym (append_assoc (letters l.done) (a ∷ []) w) in (
        λ h. subst (M.contents l.number) cut ((r.content (a ∷ w)).0 (subst (λ n. M.content_rests n f.content (a ∷ w)) r.number h)),
        λ h. subst (λ n. M.content_rests n f.content (a ∷ w)) (sym r.number) ((r.content (a ∷ w)).1 (subst (M.contents l.number) (sym cut) h)),
      )

  -- After a letter the frame stands for the element with that letter pending.
  pub reads_letter : (f g : Frame) (l : Level) (a : Letter) → Reads M f l [] → ReadsLetter M f a (Some g) →
      Inhabited (residue (M.contents l.number) (letters l.done ++ (a ∷ []))) × Reads M g l (a ∷ [])
  reads_letter f g l a r (e, v, ((w, h), same)) = (
    (w, (reads_after f l a r w).0 h),
    record {
      number = e ∙ r.number;
      content = λ u. (
        λ k. (reads_after f l a r u).0 ((same u).0 (subst (λ n. M.content_rests n g.content u) (sym r.number) k)),
        λ k. subst (λ n. M.content_rests n g.content u) r.number ((same u).1 ((reads_after f l a r u).1 k)),
      );
      value = subst (ReadsValue (M.values l.number) (M.value_rests l.number) (joined l.done)) (sym v) r.value;
    },
  )

  pub stuck_letter : (f : Frame) (l : Level) (a : Letter) → Reads M f l [] → ReadsLetter M f a None →
      Inhabited (residue (M.contents l.number) (letters l.done ++ (a ∷ []))) → ⊥
  stuck_letter f l a r never (w, h) = never w ((reads_after f l a r w).1 h)

  -- What follows a text in the rest of the value state is what follows it in the value language.
  pub value_after : (n s : ℕ) (u w : List ℕ) → Same (M.value_rests n s) (residue (M.values n) u) → Same (residue (M.value_rests n s) w) (residue (M.values n) (u ++ w))
  value_after n s u w same v = (
    λ h. subst (M.values n) (sym (append_assoc u w v)) ((same (w ++ v)).0 h),
    λ h. (same (w ++ v)).1 (subst (M.values n) (append_assoc u w v) h),
  )

  -- A value state after more text stands for the longer text.
  pub reads_value : (n : ℕ) (u : List ℕ) (b : ℕ) (bs : List ℕ) (s t : Option ℕ) → ReadsValue (M.values n) (M.value_rests n) u s → AdvancesValue (M.value_rests n) (b ∷ bs) s t →
      (Empty (M.values n) ⊎ Inhabited (residue (M.values n) (u ++ (b ∷ bs)))) × ReadsValue (M.values n) (M.value_rests n) (u ++ (b ∷ bs)) t
  reads_value n u b bs None t h e = (inl h, subst (ReadsValue (M.values n) (M.value_rests n) (u ++ (b ∷ bs))) (sym e) h)
  reads_value n u b bs (Some s) None h e = absurd e
  reads_value n u b bs (Some s) (Some t) (i, same) ((w, k), more) = (
    inr (w, (value_after n s u (b ∷ bs) same w).0 k),
    (i, λ v. ((λ x. (value_after n s u (b ∷ bs) same v).0 ((more v).0 x)), (λ x. (more v).1 ((value_after n s u (b ∷ bs) same v).1 x)))),
  )

  stuck_value : (n : ℕ) (u : List ℕ) (b : ℕ) (bs : List ℕ) (s : Option ℕ) → ReadsValue (M.values n) (M.value_rests n) u s → NoValue (M.value_rests n) (b ∷ bs) s →
      (Inhabited (M.values n) → Inhabited (residue (M.values n) (u ++ (b ∷ bs)))) → ⊥
  stuck_value n u b bs None h e k = e
  stuck_value n u b bs (Some s) (i, same) never k = let (w, x) = k i in never w ((value_after n s u (b ∷ bs) same w).1 x)

  -- After a text the frame stands for the element with that piece more.
  pub reads_text : (f g : Frame) (l : Level) (b : ℕ) (bs : List ℕ) → Reads M f l [] → ReadsText M f (b ∷ bs) (Some g) →
      Inhabited (residue (M.contents l.number) (letters l.done ++ (Text ∷ [])))
      × (Empty (M.values l.number) ⊎ Inhabited (residue (M.values l.number) (joined l.done ++ (b ∷ bs))))
      × Reads M g (record { number = l.number; done = join l.done (piece b bs none) }) []
  reads_text f g l b bs r (e, answers, advances) =
      let n = l.number in
      let letter = reads_letter f (record { number = g.number; content = g.content; value = f.value }) l Text r (e, refl, answers) in
      let value = reads_value n (joined l.done) b bs f.value g.value r.value (subst (λ m. AdvancesValue (M.value_rests m) (b ∷ bs) f.value g.value) r.number advances) in
      let read : letters l.done ++ (Text ∷ []) ≡ letters (join l.done (piece b bs none)) ++ [] =
      sym (letters_join l.done (piece b bs none)) ∙ sym (append-nil _) in
      let told : joined l.done ++ (b ∷ bs) ≡ joined (join l.done (piece b bs none)) =
      ap (λ w. joined l.done ++ w) (sym (append-nil (b ∷ bs))) ∙ sym (joined_join l.done (piece b bs none)) in (
        letter.0,
        value.0,
        record {
          number = e ∙ r.number;
          content = subst (λ w. Same (M.content_rests n g.content) (residue (M.contents n) w)) read letter.1.content;
          value = subst (λ w. ReadsValue (M.values n) (M.value_rests n) w g.value) told value.1;
        },
      )

  pub stuck_text : (f : Frame) (l : Level) (b : ℕ) (bs : List ℕ) → Reads M f l [] → ReadsText M f (b ∷ bs) None →
      Inhabited (residue (M.contents l.number) (letters l.done ++ (Text ∷ []))) →
      (Inhabited (M.values l.number) → Inhabited (residue (M.values l.number) (joined l.done ++ (b ∷ bs)))) → ⊥
  stuck_text f l b bs r (inl never) content value = stuck_letter f l Text r never content
  stuck_text f l b bs r (inr never) content value =
      stuck_value l.number (joined l.done) b bs f.value r.value (subst (λ m. NoValue (M.value_rests m) (b ∷ bs) f.value) r.number never) value

  value_ends : (n : ℕ) (u : List ℕ) (s : Option ℕ) → ReadsValue (M.values n) (M.value_rests n) u s →
      (ValueEnds (M.value_rests n) s → Inhabited (M.values n) → M.values n u) × ((Inhabited (M.values n) → M.values n u) → ValueEnds (M.value_rests n) s)
  value_ends n u None h = ((λ e (w, k). absurd (h w k)), λ e. tt)
  value_ends n u (Some s) (i, same) = ((λ e k. subst (M.values n) (append-nil u) ((same []).0 e)), λ e. (same []).1 (subst (M.values n) (sym (append-nil u)) (e i)))

  -- Both rests hold the empty word exactly when the children read so far fit the element.
  pub reads_end : (f : Frame) (l : Level) → Reads M f l [] →
      (Completes M f → Fits M.contents M.values l.number l.done) × (Fits M.contents M.values l.number l.done → Completes M f)
  reads_end f l r =
      let n = l.number in
      let value = value_ends n (joined l.done) f.value r.value in
      let read : (letters l.done ++ []) ++ [] ≡ letters l.done = append-nil _ ∙ append-nil (letters l.done) in (
        (λ (v, c). record {
          content = subst (M.contents n) read ((r.content []).0 (subst (λ m. M.content_rests m f.content []) r.number c));
          value = value.0 (subst (λ m. ValueEnds (M.value_rests m) f.value) r.number v);
        }),
        λ fits. (
          subst (λ m. ValueEnds (M.value_rests m) f.value) (sym r.number) (value.1 fits.value),
          subst (λ m. M.content_rests m f.content []) (sym r.number) ((r.content []).1 (subst (M.contents n) (sym read) fits.content)),
        ),
      )

  -- A frame with an open child pending stands for the element with that child complete.
  pub reads_child : (f : Frame) (m : Level) (n : ℕ) (below : Forest) → Reads M f m (Element n ∷ []) →
      Reads M f (record { number = m.number; done = join m.done (child n below none) }) []
  reads_child f m n below r =
      let read : letters m.done ++ (Element n ∷ []) ≡ letters (join m.done (child n below none)) ++ [] =
      sym (letters_join m.done (child n below none)) ∙ sym (append-nil _) in
      let told : joined m.done ≡ joined (join m.done (child n below none)) =
      sym (append-nil (joined m.done)) ∙ sym (joined_join m.done (child n below none)) in
      record {
        number = r.number;
        content = subst (λ w. Same (M.content_rests m.number f.content) (residue (M.contents m.number) w)) read r.content;
        value = subst (λ w. ReadsValue (M.values m.number) (M.value_rests m.number) w f.value) told r.value;
      }
