-- The states of the engines: the beginning, a step by a letter, and the end of a word.
use Rattle.std.proofs.Common.{◌≡◌, ℕ, ◌+◌, ◌^◌, ◌<◌, ◌≤◌, Bool, true, false, not, eqb, ◌&&◌, ◌≢◌, ◌⊎◌, List, [], ◌∷◌, Some, None, Option, sym, refl, ap, ◌∙◌, subst, inl, inr, arith, eq-eqb, ne_eqb}
use Rattle.engine.specs.Languages.{Empty, Answers, Decides, residue}
use Rattle.models.specs.Expressions.{Exp, atoms, Words}
use Rattle.std.specs.Bool.{then_some}
use Rattle.std.specs.Option.{MatchOption}
use Rattle.std.proofs.lemmas.Bool.{cases_eq}
use Rattle.models.specs.Folds.{Codes, Folded, value}
use Rattle.models.specs.Readers.{Numbered, atoms_of, Readers}
use Rattle.models.specs.Rests.{Rest}
use Rattle.bits.specs.Sets.{has, Has, guarded}
use Rattle.models.specs.Tables.{Coded, NodesOf, Left, ModelWords, ModelRest, Speaks}
use Rattle.models.specs.declared.node.Model.{Model}
use Rattle.models.specs.declared.node.Node.{Node}
use Rattle.bits.proofs.Bits.{has_or, has_or_l, has_or_r, has_none, has_power, has_guarded, guarded_has, some_bit}
use Rattle.models.proofs.Derivation.{Iff}
use Rattle.models.proofs.ModelTables.{coded_one}
use Rattle.models.proofs.Numbering.{leaves, length_leaves, numbered_in, numbered_one, coded_leaves}
use Rattle.models.proofs.Rests.{rest_mono, rest_or, rest_some, rest_guard, rest_live, word}
use Rattle.derivative.specs.Derivation.{derivation, after_state, ends_in}
use Rattle.derivative.specs.declared.derive.Derived.{Derived}
use Rattle.derivative.proofs.Knowing.{Knows, Agrees, computed, iff_member, iff_and, iff_or, iff_sum, iff_both, iff_then, nullable_computed, ends_computed}

module _ {A X : Type 0} (stands : A → X → Type 0) where
  -- The readers of a letter among coded nodes are the atoms of the expression that read it.
  pub readers_agree : (room : ℕ) (nodes : List (Node A)) (x : X) (readers : ℕ) (e : Exp A) → Codes room nodes e → Readers stands nodes x readers → Agrees (λ n. stands) x 0 readers (leaves e) 0
  readers_agree room nodes x readers e c told n a k =
      let same : atoms_of nodes ≡ leaves e = ap atoms_of c.coded ∙ coded_leaves e in
      let inside = numbered_in (leaves e) 0 n a k in
      let len = length_leaves e in
      let few = c.few in (
        λ h.
            let t = (told n).0 h in
            subst (λ d. stands d x) (numbered_one (leaves e) 0 n t.1.0 a (subst (λ cs. Numbered cs 0 n t.1.0) same t.1.1) k) t.1.2,
        λ h. (told n).1 (omega arith, (a, subst (λ cs. Numbered cs 0 n a) (sym same) k, h)),
      )

  module _ (x : X) (s readers : ℕ) (e : Exp A) (d : Derived) (knows : Knows (λ n. stands) x s readers e 0 d) where
    -- The words that go on with the letter are those that may follow the atoms reached.
    pub left_step : (w : List X) → Iff (Left stands e s (x ∷ w)) (Rest (λ n. stands) e 0 (Has (after_state s d)) w)
    left_step w = (
      elim [
        | inl h ↦ rest_mono (λ n. stands) e 0 (λ n lo hi k. has_or_l (guarded (has s 0) d.first) d.next n (guarded_has (has s 0) d.first n ((iff_member s 0).1 h.0, k))) w ((knows.first_is w).1 h.1)
        | inr h ↦ rest_mono (λ n. stands) e 0 (λ n lo hi k. has_or_r (guarded (has s 0) d.first) d.next n k) w ((knows.next_is w).1 h)
      ],
      λ h.
          let split = rest_mono (λ n. stands) e 0 {T = λ n. ((has s 0 ≡ true) × Has d.first n) ⊎ Has d.next n} (λ n lo hi k. elim (has_or (guarded (has s 0) d.first) d.next n k) [ inl m ↦ inl (has_guarded (has s 0) d.first n m) | inr m ↦ inr m ]) w h in
          elim (rest_or (λ n. stands) e 0 (λ n. (has s 0 ≡ true) × Has d.first n) (Has d.next) w split) [
            | inl k ↦ let m = rest_guard (λ n. stands) e 0 (has s 0 ≡ true) (Has d.first) w k in inl ((iff_member s 0).0 m.0, (knows.first_is w).0 m.1)
            | inr k ↦ inr ((knows.next_is w).0 k)
          ],
    )

    pub reached_in : (n : ℕ) → Has (after_state s d) n → (0 < n) × (n ≤ 0 + atoms e)
    reached_in n h = elim (has_or (guarded (has s 0) d.first) d.next n h) [ inl k ↦ knows.first_in n (has_guarded (has s 0) d.first n k).1 | inr k ↦ knows.next_in n k ]

    -- A state that was reached by a letter is not the beginning.
    pub left_reached : (w : List X) → Iff (Left stands e (after_state s d) w) (Rest (λ n. stands) e 0 (Has (after_state s d)) w)
    left_reached w = (elim [ inl h ↦ let k = reached_in 0 h.0 in absurd (omega arith) | inr h ↦ h ], λ h. inr h)

  -- Whether the empty word is left.
  pub left_end : (e : Exp A) (s : ℕ) (d : Derived) → Iff (d.nullable ≡ true) (Words stands e []) → Iff (d.ends ≡ true) (Rest (λ n. stands) e 0 (Has s) []) → Iff (ends_in s d ≡ true) (Left stands e s [])
  left_end e s d null last =
      iff_then (iff_or (has s 0 && d.nullable) d.ends) (iff_sum (iff_then (iff_and (has s 0) d.nullable) (iff_both (iff_member s 0) null)) last)

-- From the expression of a number to the languages of the number.
module _ {A X : Type 0} (stands : A → X → Type 0) (nodes : List (Node A)) (models : List Model) (number : ℕ) (e : Exp A) (coded : Coded nodes models number e) where
  -- What is left of the number is what is left of its expression.
  pub of_number : (s : ℕ) (w : List X) → Iff (ModelRest stands nodes models number s w) (Left stands e s w)
  of_number s w = (
    λ h. subst (λ f. Left stands f s w) (coded_one nodes models number h.0 e h.1 coded) h.2,
    λ h. (e, coded, h),
  )

  pub words_of_number : (w : List X) → Iff (ModelWords stands nodes models number w) (Words stands e w)
  words_of_number w = (
    λ h. subst (λ f. Words stands f w) (coded_one nodes models number h.0 e h.1 coded) h.2,
    λ h. (e, coded, h),
  )

  pub ends_decided : (s : ℕ) (t : Bool) → Iff (t ≡ true) (Left stands e s []) → Decides t (ModelRest stands nodes models number s [])
  ends_decided s true is = (of_number s []).1 (is.0 refl)
  ends_decided s false is = λ h. let k = is.1 ((of_number s []).0 h) in let z : ◌≡◌ {A = ℕ} 0 1 = cc in omega arith

  -- A step that reaches no atom.
  pub step_none : (x : X) (s t : ℕ) → ((w : List X) → Iff (Left stands e s (x ∷ w)) (Rest (λ n. stands) e 0 (Has t) w)) → t ≡ 0 → Empty (residue (ModelRest stands nodes models number s) (x ∷ []))
  step_none x s t is none w h =
      let k = rest_some (λ n. stands) e 0 w ((is w).0 ((of_number s (x ∷ w)).0 h)) in
      has_none k.0 (subst (λ u. Has u k.0) none k.3)

  module _ (alive : (a : A) → (x : X) × stands a x) where
    -- A step that reaches some atom.
    pub step_some : (x : X) (s t : ℕ) → ((w : List X) → Iff (Left stands e s (x ∷ w)) (Rest (λ n. stands) e 0 (Has t) w)) → ((n : ℕ) → Has t n → (0 < n) × (n ≤ 0 + atoms e)) → t < 2 ^ 64 → t ≢ 0 → Answers (residue (ModelRest stands nodes models number s) (x ∷ [])) (ModelRest stands nodes models number) (Some t)
    step_some x s t is inside fits some =
        let (n, bit) = some_bit 64 t fits some in
        let (w, r) = rest_live (λ n. stands) (λ n. alive) e 0 (Has t) n (inside n bit).0 (inside n bit).1 bit in (
          (w, (of_number s (x ∷ w)).1 ((is w).1 r)),
          λ v. (
            λ h. (of_number s (x ∷ v)).1 ((is v).1 (reached v ((of_number t v).0 h))),
            λ h. (of_number t v).1 (inr ((is v).0 ((of_number s (x ∷ v)).0 h))),
          ),
        )
      where
        reached : (v : List X) → Left stands e t v → Rest (λ n. stands) e 0 (Has t) v
        reached v (inl h) = let k = inside 0 h.0 in absurd (omega arith)
        reached v (inr h) = h

    -- The beginning.
    pub begin_some : Answers (ModelWords stands nodes models number) (ModelRest stands nodes models number) (Some 1)
    begin_some =
        let (w, r) = word (λ n. stands) (λ n. alive) e 0 in (
          (w, (words_of_number w).1 r),
          λ v. (
            λ h. (words_of_number v).1 (all v ((of_number 1 v).0 h)),
            λ h. (of_number 1 v).1 (inl (refl, (words_of_number v).0 h)),
          ),
        )
      where
        all : (v : List X) → Left stands e 1 v → Words stands e v
        all v (inl h) = h.1
        all v (inr h) = let k = rest_some (λ n. stands) e 0 v h in let z = has_power 0 k.0 k.3 in absurd (omega (arith, k.1))

  -- What the fold computed decides whether a word may end.
  pub ends_known : (s readers : ℕ) (d : Derived) → d ≡ value (derivation s readers) 0 e → (t : Bool) → t ≡ ends_in s d → Decides t (ModelRest stands nodes models number s [])
  ends_known s readers d is t ended =
      let null = subst (λ (v : Derived). Iff (v.nullable ≡ true) (Words stands e [])) (sym is) (nullable_computed (λ n. stands) s readers e 0) in
      let last = subst (λ (v : Derived). Iff (v.ends ≡ true) (Rest (λ n. stands) e 0 (Has s) [])) (sym is) (ends_computed (λ n. stands) s readers e 0) in
      ends_decided s t (subst (λ u. Iff (u ≡ true) (Left stands e s [])) (sym ended) (left_end stands e s d null last))

  -- What the fold computed says which words go on with a letter.
  module _ (slice : List (Node A)) (x : X) (s readers : ℕ) (codes : Codes 64 slice e) (told : Readers stands slice x readers) where
    knows : Knows (λ n. stands) x s readers e 0 (value (derivation s readers) 0 e)
    knows = computed (λ n. stands) x s readers e 0 (omega (arith, codes.few)) (readers_agree stands 64 slice x readers e codes told)

    pub steps : (d : Derived) → d ≡ value (derivation s readers) 0 e → (t : ℕ) → t ≡ after_state s d → (w : List X) → Iff (Left stands e s (x ∷ w)) (Rest (λ n. stands) e 0 (Has t) w)
    steps d is t reached w =
        subst (λ u. Iff (Left stands e s (x ∷ w)) (Rest (λ n. stands) e 0 (Has u) w)) (sym (reached ∙ ap (after_state s) is))
        (left_step stands x s readers e (value (derivation s readers) 0 e) knows w)

    pub steps_in : (d : Derived) → d ≡ value (derivation s readers) 0 e → (t : ℕ) → t ≡ after_state s d → (n : ℕ) → Has t n → (0 < n) × (n ≤ 0 + atoms e)
    steps_in d is t reached n h =
        reached_in stands x s readers e (value (derivation s readers) 0 e) knows n (subst (λ u. Has u n) (reached ∙ ap (after_state s) is) h)

-- What is known of the slice of a number's nodes, where they code an expression, answers for the number.
module _ {A X : Type 0} (stands : A → X → Type 0) (nodes : List (Node A)) (models : List Model) (number : ℕ) (slice : List (Node A)) (of : NodesOf nodes models number slice) where
  pub ends_found : (s readers : ℕ) (o : Option Derived) → Folded (derivation s readers) 64 slice o → (t : Bool) → MatchOption o (t ≡ false) (λ d. t ≡ ends_in s d) → Decides t (ModelRest stands nodes models number s [])
  ends_found s readers None none t ended = rw ended (λ h. none h.0 ((of h.0).1 h.1))
  ends_found s readers (Some d) (e, codes, is) t ended = ends_known stands nodes models number e ((of e).0 codes) s readers d is t ended

  pub opens_found : ((a : A) → (x : X) × stands a x) → (s readers : ℕ) (o : Option Derived) → Folded (derivation s readers) 64 slice o → (r : Option ℕ) → MatchOption o (r ≡ None) (λ d. r ≡ Some 1) → Answers (ModelWords stands nodes models number) (ModelRest stands nodes models number) r
  opens_found alive s readers None none r opened = rw opened (λ w h. none h.0 ((of h.0).1 h.1))
  opens_found alive s readers (Some d) (e, codes, is) r opened = rw opened (begin_some stands nodes models number e ((of e).0 codes) alive)

  pub step_found : ((a : A) → (x : X) × stands a x) → (x : X) (s readers : ℕ) → Readers stands slice x readers → (d : Derived) → Folded (derivation s readers) 64 slice (Some d) → (t : ℕ) → t ≡ after_state s d → t < 2 ^ 64 → (r : Option ℕ) → r ≡ then_some (not (eqb t 0)) t → Answers (residue (ModelRest stands nodes models number s) (x ∷ [])) (ModelRest stands nodes models number) r
  step_found alive x s readers told d (e, codes, is) t reached fits r answered =
      let coded = (of e).0 codes in
      let onward = steps stands nodes models number e coded slice x s readers codes told d is t reached in
      let answers = Answers (residue (ModelRest stands nodes models number s) (x ∷ [])) (ModelRest stands nodes models number) in
      elim (cases_eq t 0) [
        | inl none ↦ subst answers (sym (answered ∙ ap (λ b. then_some (not b) t) (eq-eqb t 0 none))) (step_none stands nodes models number e coded x s t onward none)
        | inr some ↦
            subst answers (sym (answered ∙ ap (λ b. then_some (not b) t) (ne_eqb t 0 some)))
            (step_some stands nodes models number e coded alive x s t onward (steps_in stands nodes models number e coded slice x s readers codes told d is t reached) fits some)
      ]

pub speaks : {A X : Type 0} (stands : A → X → Type 0) (nodes : List (Node A)) (models : List Model) → Speaks stands nodes models (ModelWords stands nodes models)
speaks stands nodes models = record {
  coded = λ number e c. words_of_number stands nodes models number e c;
  none = λ number never w h. never h.0 h.1;
}
