-- Advancing a state by a word, letter by letter, answers for the derivative by the whole word.
use Rattle.std.proofs.Common.{◌≡◌, ℕ, Bool, true, false, List, [], ◌∷◌, ◌++◌, Some, None, Option, MatchOption, sym, subst, append_assoc, append-nil, arith}
use Rattle.engine.specs.Languages.{Language, Empty, Same, residue, Answers, Advanced, Decides}

some_inj : {a b : ℕ} → ◌≡◌ {A = Option ℕ} (Some a) (Some b) → a ≡ b
some_inj e = cc

-- An answer that decides a statement decides whatever holds exactly when that does.
pub decides_iff : (b : Bool) {P Q : Type 0} → (P → Q) × (Q → P) → Decides b P → Decides b Q
decides_iff true (there, back) h = there h
decides_iff false (there, back) h = λ q. h (back q)

module _ {A : Type 0} (rest : ℕ → Language A) where
  -- The state reached by a word has as its rest the derivative by that word.
  pub advanced_same : (s t : ℕ) (u : List A) → Advanced rest s u (Some t) → Same (rest t) (residue (rest s) u)
  advanced_same s t [] e = let r : t ≡ s = some_inj e in λ w. (subst (λ x. rest x w) r, subst (λ x. rest x w) (sym r))
  advanced_same s t (a ∷ u) (i, same) = same

  -- A word that is not empty is advanced by whatever an engine answers for the derivative.
  pub advanced_by : (s : ℕ) (u v : List A) (a : A) (r : Option ℕ) → Answers (residue (rest s) (u ++ (a ∷ v))) rest r → Advanced rest s (u ++ (a ∷ v)) r
  advanced_by s [] v a r h = h
  advanced_by s (b ∷ u) v a r h = h

  -- No word goes on after a letter that no word goes on with.
  pub stuck : (s t : ℕ) (u v : List A) (a : A) → Advanced rest s u (Some t) → Empty (residue (rest t) (a ∷ [])) → Advanced rest s (u ++ (a ∷ v)) None
  stuck s t u v a got never =
      advanced_by s u v a None (λ w h. never (v ++ w) ((advanced_same s t u got (a ∷ (v ++ w))).1 (subst (rest s) (append_assoc u (a ∷ v) w) h)))

  -- One letter more.
  pub further : (s t r : ℕ) (u : List A) (a : A) → Advanced rest s u (Some t) → Answers (residue (rest t) (a ∷ [])) rest (Some r) → Advanced rest s (u ++ (a ∷ [])) (Some r)
  further s t r u a got ((w, h), same) =
      advanced_by s u [] a (Some r) (
        (w, subst (rest s) (sym (append_assoc u (a ∷ []) w)) ((advanced_same s t u got (a ∷ w)).0 h)),
        λ v. (
          λ k. subst (rest s) (sym (append_assoc u (a ∷ []) v)) ((advanced_same s t u got (a ∷ v)).0 ((same v).0 k)),
          λ k. (same v).1 ((advanced_same s t u got (a ∷ v)).1 (subst (rest s) (append_assoc u (a ∷ []) v) k)),
        ),
      )

  -- The whole word is told by the empty word of what the last state has left.
  pub told : (s t : ℕ) (w : List A) → Advanced rest s w (Some t) → (rest t [] → rest s w) × (rest s w → rest t [])
  told s t w got = (
    λ h. subst (rest s) (append-nil w) ((advanced_same s t w got []).0 h),
    λ h. (advanced_same s t w got []).1 (subst (rest s) (sym (append-nil w)) h),
  )

  -- A word that cannot be advanced by does not lie in the rest.
  pub untold : (s : ℕ) (w : List A) → Advanced rest s w None → rest s w → ⊥
  untold s [] e h = let z : ◌≡◌ {A = ℕ} 0 1 = cc in omega arith
  untold s (a ∷ w) never h = never [] (subst (rest s) (sym (append-nil (a ∷ w))) h)

  -- Whether the whole word lies in the rest, by a test of the state reached that is false where there is none.
  pub told_by : (s : ℕ) (w : List A) (r : Option ℕ) (b : Bool) (P : ℕ → Type 0) → Advanced rest s w r → MatchOption r (b ≡ false) P →
      ((t : ℕ) → P t → Decides b (rest t [])) → Decides b (rest s w)
  told_by s w None b P got none ends = subst (λ x. Decides x (rest s w)) (sym none) (untold s w got)
  told_by s w (Some t) b P got p ends = decides_iff b (told s t w got) (ends t p)

  -- Whether the whole word lies in a language, by a test of the state reached from the one that stands for the language.
  pub told_from : (L : Language A) (w : List A) (o r : Option ℕ) (b : Bool) (Q P : ℕ → Type 0) → Answers L rest o → MatchOption o (r ≡ None) Q →
      ((s : ℕ) → Q s → Advanced rest s w r) → MatchOption r (b ≡ false) P → ((t : ℕ) → P t → Decides b (rest t [])) → Decides b (L w)
  told_from L w None r b Q P never none steps last ends =
      subst (λ x. Decides x (L w)) (sym (subst (λ x. MatchOption x (b ≡ false) P) none last)) (never w)
  told_from L w (Some s) r b Q P (some, same) q steps last ends =
      decides_iff b (same w) (told_by s w r b P (steps s q) last ends)
