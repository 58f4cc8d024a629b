-- Reading text again and again: where it leads, and what it shows.
use Rattle.std.proofs.Common.{◌≡◌, ℕ, zero, suc, ◌<◌, ◌≤◌, true, false, ◌⊎◌, List, [], ◌∷◌, Some, None, Option, sym, refl, ap, ◌∙◌, subst, inl, inr, arith, MatchOption}
use borrow.Author.Tests.{both_ways}
use Rattle.std.proofs.lemmas.Bool.{cases_eq}
use Rattle.bits.specs.Sets.{has}
use Rattle.engine.specs.Atoms.{StandsFor}
use Rattle.engine.specs.Languages.{Each}
use Rattle.engine.specs.Trees.{IsText}
use Rattle.engine.specs.declared.alphabet.ContentAtom.{ContentAtom}
use Rattle.engine.specs.declared.alphabet.Letter.{Letter}
use Rattle.engine.specs.declared.alphabet.Letter.TheVariants.{Text, Element}
use Rattle.models.specs.Expressions.{Exp, Words}
use Rattle.models.specs.Folds.{Codes, value}
use Rattle.models.specs.Marks.{Ambiguous}
use Rattle.models.specs.Readers.{Readers}
use Rattle.models.specs.Rests.{Rest}
use Rattle.bits.specs.Sets.{Has, singleton}
use Rattle.models.specs.declared.node.Node.{Node}
use Rattle.bits.proofs.Bits.{has_none, has_single, single_has}
use Rattle.models.proofs.Folding.{codes_one}
use Rattle.models.proofs.Numbering.{leaves}
use Rattle.models.proofs.Rests.{rest_mono, rest_some}
use Rattle.derivative.specs.Derivation.{derivation, after_state, ends_in}
use Rattle.derivative.specs.declared.derive.Derived.{Derived}
use Rattle.derivative.proofs.Knowing.{Knows, Agrees, computed, iff_member, nullable_computed, ends_computed}
use Rattle.derivative.proofs.Stepping.{readers_agree, left_step, left_end, reached_in}
use Rattle.sealing.specs.Forks.{AmbiguousIn}
use Rattle.sealing.proofs.Forking.{content_alive}
use Rattle.sealing.proofs.Marking.{reads_next, fork_ambiguous}
use Rattle.sealed.specs.Texts.{AllTexts, Following, TextStep, TextAfter}

-- What the fold computes for a step by text after atom p.
module _ (nodes : List (Node ContentAtom)) (p : ℕ) (low : p ≤ 63) (r : ℕ) (told : Readers StandsFor nodes Text r) (e : Exp ContentAtom) (codes : Codes 64 nodes e) where
  abbrev found : Derived
  found = value (derivation (singleton p) r) 0 e

  abbrev reached : ℕ
  reached = after_state (singleton p) (value (derivation (singleton p) r) 0 e)

  agrees : Agrees (λ n. StandsFor) Text (singleton p) r (leaves e) 0
  agrees = readers_agree StandsFor 64 nodes Text r e codes told

  knows : Knows (λ n. StandsFor) Text (singleton p) r e 0 found
  knows = computed (λ n. StandsFor) Text (singleton p) r e 0 (omega (arith, codes.few)) agrees

  ends_is : (ends_in (singleton p) found ≡ true → Following e p []) × (Following e p [] → ends_in (singleton p) found ≡ true)
  ends_is = left_end StandsFor e (singleton p) found (nullable_computed (λ n. StandsFor) (singleton p) r e 0) (ends_computed (λ n. StandsFor) (singleton p) r e 0)

  no_text : reached ≡ 0 → (w : List Letter) → Following e p (Text ∷ w) → ⊥
  no_text none w h =
      let (n, lo, hi, k) = rest_some (λ n. StandsFor) e 0 w ((left_step StandsFor Text (singleton p) r e found knows w).0 h) in
      has_none n (subst (λ t. Has t n) none k)

  only_one : (q : ℕ) → Has reached q → (Ambiguous StandsFor e → ⊥) → (n : ℕ) → Has reached n → n ≡ q
  only_one q hq never n hn =
      elim (cases_eq n q) [
        | inl is ↦ is
        | inr ne ↦
            let (v, h) = (reads_next StandsFor content_alive e codes.few p low Text r agrees n).0 hn in
            let (w, k) = (reads_next StandsFor content_alive e codes.few p low Text r agrees q).0 hq in
            absurd (never (fork_ambiguous StandsFor content_alive e Text p (record { one = n; other = q; differ = ne; after_one = v; after_other = w; first_way = h; second_way = k })))
      ]

  text_step : (q : ℕ) → q ≤ 63 → Has reached q → ends_in (singleton p) found ≡ true → TextStep e p q
  text_step q small hq ended = record {
    ends = ends_is.0 ended;
    goes = λ w h. (left_step StandsFor Text (singleton p) r e found knows w).1 (onward w h);
    alone = λ never w h. inr (rest_mono (λ n. StandsFor) e 0 {T = Has (singleton q)} (λ n lo hi hn. subst (Has (singleton q)) (sym (only_one q hq never n hn)) (single_has q (omega arith))) w ((left_step StandsFor Text (singleton p) r e found knows w).0 h));
    small = small;
  }
    where
      onward : (w : List Letter) → Following e q w → Rest (λ n. StandsFor) e 0 (Has reached) w
      onward w (inl h) =
          let zero_is = has_single q 0 (omega arith) h.0 in
          let (lo, hi) = reached_in StandsFor Text (singleton p) r e found knows q hq in
          absurd (omega arith)
      onward w (inr h) = rest_mono (λ n. StandsFor) e 0 {T = Has reached} (λ n lo hi hn. subst (Has reached) (sym (has_single q n (omega arith) hn)) hq) w h

-- What the code found is a step by text, or there is none.
module _ (nodes : List (Node ContentAtom)) (p : ℕ) (low : p ≤ 63) (r : ℕ) (told : Readers StandsFor nodes Text r) (s : ℕ) (at : s ≡ singleton p) (d : Derived) (e : Exp ContentAtom) (codes : Codes 64 nodes e) (is : d ≡ value (derivation s r) 0 e) where
  d_is : d ≡ value (derivation (singleton p) r) 0 e
  d_is = is ∙ ap (λ k. value (derivation k r) 0 e) at

  pub no_end : ends_in s d ≡ false → TextAfter nodes p None
  no_end ended f c =
      let same = codes_one 64 nodes f e c codes in
      inl (λ h. both_ways (ends_in s d) ended (ap (λ k. ends_in k d) at ∙ ap (ends_in (singleton p)) d_is ∙ (ends_is nodes p low r told e codes).1 (subst (λ g. Following g p []) same h)))

  pub text_told : ends_in s d ≡ true → (t : ℕ) → t ≡ after_state s d → (answer : Option ℕ) → MatchOption answer (t ≡ 0) (λ q. (q < 64) × (has t q ≡ true) × ((k : ℕ) → k < q → has t k ≡ false)) → TextAfter nodes p answer
  text_told ended t reaches = by
    where
      t_is : t ≡ after_state (singleton p) (value (derivation (singleton p) r) 0 e)
      t_is = reaches ∙ ap (after_state s) is ∙ ap (λ k. after_state k (value (derivation k r) 0 e)) at

      ended_is : ends_in (singleton p) (value (derivation (singleton p) r) 0 e) ≡ true
      ended_is = sym (ap (λ k. ends_in k d) at ∙ ap (ends_in (singleton p)) d_is) ∙ ended

      by : (answer : Option ℕ) → MatchOption answer (t ≡ 0) (λ q. (q < 64) × (has t q ≡ true) × ((k : ℕ) → k < q → has t k ≡ false)) → TextAfter nodes p answer
      by None none =
          λ f c.
          let same = codes_one 64 nodes f e c codes in
          inr (λ w h. no_text nodes p low r told e codes (sym t_is ∙ none) w (subst (λ g. Following g p (Text ∷ w)) same h))
      by (Some q) (small, here, lower) =
          (e, codes, text_step nodes p low r told e codes q (omega arith) (subst (λ k. Has k q) t_is ((iff_member t q).0 here)) ended_is)

-- So many texts, and then a word.
abbrev texts : ℕ → List Letter → List Letter
texts zero w = w
texts (suc k) w = Text ∷ texts k w

texts_more : (k : ℕ) (w : List Letter) → texts (suc k) w ≡ texts k (Text ∷ w)
texts_more zero w = refl
texts_more (suc k) w = ap (λ t. Text ∷ t) (texts_more k w)

texts_each : (k : ℕ) (w : List Letter) → Each IsText w → Each IsText (texts k w)
texts_each zero w h = h
texts_each (suc k) w h = (tt, texts_each k w h)

-- How far the reading came: after each atom that was seen a word may end and text goes on, by an atom
-- that was seen or by the last one; and so many texts lead to the last one alone.
pub record Walk (e : Exp ContentAtom) (seen last : ℕ) : Type 0 where
  pub onward : (p : ℕ) → has seen p ≡ true → (q : ℕ) × ((has seen q ≡ true) ⊎ (q ≡ last)) × TextStep e p q
  pub beginning : (has seen 0 ≡ true) ⊎ (0 ≡ last)
  pub led : (Ambiguous StandsFor e → ⊥) → (k : ℕ) × ((w : List Letter) → Words StandsFor e (texts k w) → Following e last w)

pub record Walked (nodes : List (Node ContentAtom)) (seen last : ℕ) : Type 0 where
  pub walk : (e : Exp ContentAtom) → Codes 64 nodes e → Walk e seen last
  pub some : (p : ℕ) → has seen p ≡ true → (e : Exp ContentAtom) × Codes 64 nodes e
  pub low : last ≤ 63

module _ (nodes : List (Node ContentAtom)) (seen last more q : ℕ) (w : Walked nodes seen last) (found : TextAfter nodes last (Some q)) (here : has more last ≡ true) (others : (k : ℕ) → (k ≡ last → ⊥) → has more k ≡ has seen k) where
  kept : (k : ℕ) → has seen k ≡ true → has more k ≡ true
  kept k h = elim (cases_eq k last) [ inl is ↦ subst (λ j. has more j ≡ true) (sym is) here | inr ne ↦ others k ne ∙ h ]

  stepped : (e : Exp ContentAtom) → Codes 64 nodes e → TextStep e last q
  stepped e c = subst (λ f. TextStep f last q) (codes_one 64 nodes found.0 e found.1 c) found.2

  pub walked_more : Walked nodes more q
  walked_more = record {
    walk = λ e c. let old = w.walk e c in record {
      onward = λ p h. elim (cases_eq p last) [
        | inl is ↦ (q, inr refl, subst (λ j. TextStep e j q) (sym is) (stepped e c))
        | inr ne ↦
            let (i, where-is, step) = old.onward p (sym (others p ne) ∙ h) in
            (i, inl (elim where-is [ inl k ↦ kept i k | inr is ↦ subst (λ j. has more j ≡ true) (sym is) here ]), step)
      ];
      beginning = inl (elim old.beginning [ inl k ↦ kept 0 k | inr is ↦ subst (λ j. has more j ≡ true) (sym is) here ]);
      led = λ never.
          let (k, lead) = old.led never in
          (suc k, λ v h. (stepped e c).alone never v (lead (Text ∷ v) (subst (Words StandsFor e) (texts_more k v) h)));
    };
    some = λ p h. (found.0, found.1);
    low = found.2.small;
  }

-- An atom that comes again closes the circle.
module _ (e : Exp ContentAtom) (seen last : ℕ) (w : Walk e seen last) (again : has seen last ≡ true) where
  circle : (v : List Letter) → Each IsText v → (p : ℕ) → has seen p ≡ true → Following e p v
  circle [] h p k = let (q, at, step) = w.onward p k in step.ends
  circle (Text ∷ v) h p k =
      let (q, at, step) = w.onward p k in
      step.goes v (circle v h.1 q (elim at [ inl m ↦ m | inr is ↦ subst (λ j. has seen j ≡ true) (sym is) again ]))
  circle (Element n ∷ v) h p k = absurd h.0

  pub all_words : (v : List Letter) → Each IsText v → Words StandsFor e v
  all_words v h =
      let first : has seen 0 ≡ true = elim w.beginning [ inl k ↦ k | inr is ↦ subst (λ j. has seen j ≡ true) (sym is) again ] in
      elim (circle v h 0 first) [
        | inl k ↦ k.1
        | inr k ↦ let (n, lo, hi, m) = rest_some (λ n. StandsFor) e 0 v k in let z = has_single 0 n (omega arith) m in absurd (omega arith)
      ]

pub all_texts : (nodes : List (Node ContentAtom)) (seen last : ℕ) → Walked nodes seen last → has seen last ≡ true → AllTexts nodes
all_texts nodes seen last w again =
    let (e, c) = w.some last again in (e, c, all_words e seen last (w.walk e c) again)

-- Where text does not go on, some word of text alone is missing.
pub not_all_texts : (nodes : List (Node ContentAtom)) (seen last : ℕ) → Walked nodes seen last → TextAfter nodes last None → (AmbiguousIn nodes → ⊥) → AllTexts nodes → ⊥
not_all_texts nodes seen last w none never (e, c, all) =
    let (k, lead) = (w.walk e c).led (λ m. never (e, c, m)) in
    elim (none e c) [
      | inl stop ↦ stop (lead [] (all (texts k []) (texts_each k [] tt)))
      | inr stop ↦ stop [] (lead (Text ∷ []) (all (texts k (Text ∷ [])) (texts_each k (Text ∷ []) (tt, tt))))
    ]
