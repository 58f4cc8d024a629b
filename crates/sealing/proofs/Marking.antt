-- Marked words: what follows the last mark read, how each atom is reached, and which atoms may read next.
use Rattle.std.proofs.Common.{◌≡◌, ℕ, ◌+◌, ◌<◌, ◌≤◌, Bool, ◌&&◌, ◌||◌, ◌⊎◌, List, [], ◌∷◌, ◌++◌, sym, refl, ap, ◌∙◌, subst, ap₂, inl, inr, append_assoc, arith}
use native.Mathlib.Decide.{dec_le}
use lib.Bits.{bit_and, bit_or}
use Rattle.std.proofs.lemmas.Bool.{cases_eq}
use Rattle.engine.specs.Languages.{Each}
use Rattle.models.specs.Expressions.{Exp, empty, atom, seq, alt, star, plus, option, atoms, Many, done, more, In}
use Rattle.models.specs.Folds.{value}
use Rattle.models.specs.Marks.{Mark, MarkedWords, ReadsMarked, Ambiguous}
use Rattle.models.specs.Readers.{Numbered}
use Rattle.models.specs.Rests.{Rest}
use Rattle.bits.specs.Sets.{Has, has, singleton, guarded}
use Rattle.bits.proofs.Bits.{has_or, has_or_l, has_or_r, has_none, has_and, and_has, has_single, single_has, has_guarded, guarded_has}
use Rattle.models.proofs.Derivation.{Iff}
use Rattle.models.proofs.Joins.{then_map, then_cons, many_cons}
use Rattle.models.proofs.Numbering.{leaves, length_leaves, numbered_in, numbered_one, numbered_append}
use Rattle.models.proofs.Rests.{rest_mono, rest_some, rest_live, word}
use Rattle.derivative.specs.Derivation.{derivation, after_state}
use Rattle.derivative.proofs.Knowing.{Knows, Agrees, computed, iff_member}
use Rattle.derivative.proofs.Stepping.{reached_in}
use Rattle.sealing.specs.Forks.{After, Forks}
use Rattle.sealing.proofs.Completing.{each_both, each_back}

cons_nil : {X : Type 0} {x : X} {w : List X} → x ∷ w ≡ [] → ⊥
cons_nil e = let z : ◌≡◌ {A = ℕ} 0 1 = cc in omega arith

-- What is read goes by the atoms of the expression.
module _ {A X : Type 0} (reads : ℕ → A → X → Type 0) (P : X → Type 0) where
  many_each : {L : List X → Type 0} → ((w : List X) → L w → Each P w) → (w : List X) → Many L w → Each P w
  many_each all w (done e) = subst (Each P) (sym e) tt
  many_each all w (more u v e l m) = subst (Each P) (sym e) (each_both P u v (all u l) (many_each all v m))

  abbrev Good : List A → ℕ → Type 0
  Good cs b = (n : ℕ) (a : A) (x : X) → Numbered cs b n a → reads n a x → P x

  good_left : (e f : Exp A) (b : ℕ) → Good (leaves e ++ leaves f) b → Good (leaves e) b
  good_left e f b h n a x k = h n a x ((numbered_append (leaves e) (leaves f) b n a).1 (inl k))

  good_right : (e f : Exp A) (b : ℕ) → Good (leaves e ++ leaves f) b → Good (leaves f) (b + atoms e)
  good_right e f b h n a x k =
      h n a x ((numbered_append (leaves e) (leaves f) b n a).1 (inr (subst (λ m. Numbered (leaves f) (b + m) n a) (sym (length_leaves e)) k)))

  pub in_leaves : (e : Exp A) (b : ℕ) → Good (leaves e) b → (w : List X) → In reads e b w → Each P w
  in_leaves empty b g w h = subst (Each P) (sym h) tt
  in_leaves (atom a) b g w (x, r, h) = subst (Each P) (sym h) (g (b + 1) a x (inl (refl, refl)) r, tt)
  in_leaves (seq e f) b g w (u, v, s, l, m) =
      subst (Each P) (sym s) (each_both P u v (in_leaves e b (good_left e f b g) u l) (in_leaves f (b + atoms e) (good_right e f b g) v m))
  in_leaves (alt e f) b g w (inl h) = in_leaves e b (good_left e f b g) w h
  in_leaves (alt e f) b g w (inr h) = in_leaves f (b + atoms e) (good_right e f b g) w h
  in_leaves (star e) b g w h = many_each (in_leaves e b g) w h
  in_leaves (plus e) b g w (u, v, s, l, m) =
      subst (Each P) (sym s) (each_both P u v (in_leaves e b g u l) (many_each (in_leaves e b g) v m))
  in_leaves (option e) b g w (inl h) = subst (Each P) (sym h) tt
  in_leaves (option e) b g w (inr h) = in_leaves e b g w h

module _ {A X : Type 0} (stands : A → X → Type 0) where
  -- After a mark comes what may follow its atom.
  mark_first : (e : Exp A) (b p : ℕ) (y : X) (w : List (Mark X)) → In (ReadsMarked stands) e b ((y, p) ∷ w) → Rest (ReadsMarked stands) e b (λ n. n ≡ p) w
  mark_first empty b p y w h = absurd (cons_nil h)
  mark_first (atom a) b p y w (m, r, s) =
      let k : (y, p) ≡ m = cc in let t : w ≡ [] = cc in (sym r.1 ∙ sym (ap (λ (z : Mark X). z.1) k), t)
  mark_first (seq e f) b p y w h =
      elim (then_cons (y, p) w h) [
        | inl k ↦ inr (mark_first f (b + atoms e) p y w k.1)
        | inr k ↦ inl (then_map (λ u. mark_first e b p y u) (λ v m. m) w k)
      ]
  mark_first (alt e f) b p y w (inl h) = inl (mark_first e b p y w h)
  mark_first (alt e f) b p y w (inr h) = inr (mark_first f (b + atoms e) p y w h)
  mark_first (star e) b p y w h = then_map (λ u. mark_first e b p y u) (λ v m. m) w (many_cons (y, p) w ((y, p) ∷ w) refl h)
  mark_first (plus e) b p y w h =
      elim (then_cons (y, p) w h) [
        | inl k ↦ then_map (λ u. mark_first e b p y u) (λ v m. m) w (many_cons (y, p) w ((y, p) ∷ w) refl k.1)
        | inr k ↦ then_map (λ u. mark_first e b p y u) (λ v m. m) w k
      ]
  mark_first (option e) b p y w (inl h) = absurd (cons_nil h)
  mark_first (option e) b p y w (inr h) = mark_first e b p y w h

  mark_next : (e : Exp A) (b : ℕ) (S : ℕ → Type 0) (p : ℕ) (y : X) (w : List (Mark X)) → Rest (ReadsMarked stands) e b S ((y, p) ∷ w) → Rest (ReadsMarked stands) e b (λ n. n ≡ p) w
  mark_next empty b S p y w h = absurd h
  mark_next (atom a) b S p y w (s, h) = absurd (cons_nil h)
  mark_next (seq e f) b S p y w (inl h) =
      elim (then_cons (y, p) w h) [
        | inl k ↦ inr (mark_first f (b + atoms e) p y w k.1)
        | inr k ↦ inl (then_map (λ u. mark_next e b S p y u) (λ v m. m) w k)
      ]
  mark_next (seq e f) b S p y w (inr h) = inr (mark_next f (b + atoms e) S p y w h)
  mark_next (alt e f) b S p y w (inl h) = inl (mark_next e b S p y w h)
  mark_next (alt e f) b S p y w (inr h) = inr (mark_next f (b + atoms e) S p y w h)
  mark_next (star e) b S p y w h =
      elim (then_cons (y, p) w h) [
        | inl k ↦ then_map (λ u. mark_first e b p y u) (λ v m. m) w (many_cons (y, p) w ((y, p) ∷ w) refl k.1)
        | inr k ↦ then_map (λ u. mark_next e b S p y u) (λ v m. m) w k
      ]
  mark_next (plus e) b S p y w h =
      elim (then_cons (y, p) w h) [
        | inl k ↦ then_map (λ u. mark_first e b p y u) (λ v m. m) w (many_cons (y, p) w ((y, p) ∷ w) refl k.1)
        | inr k ↦ then_map (λ u. mark_next e b S p y u) (λ v m. m) w k
      ]
  mark_next (option e) b S p y w h = mark_next e b S p y w h

  mark_later : (e : Exp A) (S : ℕ → Type 0) (u : List (Mark X)) (p : ℕ) (y : X) (w : List (Mark X)) → Rest (ReadsMarked stands) e 0 S (u ++ ((y, p) ∷ w)) → Rest (ReadsMarked stands) e 0 (λ n. n ≡ p) w
  mark_later e S [] p y w h = mark_next e 0 S p y w h
  mark_later e S ((z, q) ∷ u) p y w h = mark_later e (λ n. n ≡ q) u p y w (mark_next e 0 S q z (u ++ ((y, p) ∷ w)) h)

  mark_last : (e : Exp A) (u : List (Mark X)) (p : ℕ) (y : X) (w : List (Mark X)) → MarkedWords stands e (u ++ ((y, p) ∷ w)) → Rest (ReadsMarked stands) e 0 (λ n. n ≡ p) w
  mark_last e [] p y w h = mark_first e 0 p y w h
  mark_last e ((z, q) ∷ u) p y w h = mark_later e (λ n. n ≡ q) u p y w (mark_first e 0 q z (u ++ ((y, p) ∷ w)) h)

  split_last : (u : List (Mark X)) → (u ≡ []) ⊎ ((u' : List (Mark X)) × (y : X) × (p : ℕ) × (u ≡ u' ++ ((y, p) ∷ [])))
  split_last [] = inl refl
  split_last ((y, p) ∷ u) =
      elim (split_last u) [
        | inl e ↦ inr ([], y, p, ap (λ t. (y, p) ∷ t) e)
        | inr (u', z, q, e) ↦ inr ((y, p) ∷ u', z, q, ap (λ t. (y, p) ∷ t) e)
      ]

  -- After a marked beginning comes what may follow its last atom.
  pub after_beginning : (e : Exp A) (u : List (Mark X)) → (p : ℕ) × ((z : List (Mark X)) → MarkedWords stands e (u ++ z) → After stands e p z)
  after_beginning e u =
      elim (split_last u) [
        | inl n ↦ (0, λ z h. inl (refl, subst (λ t. MarkedWords stands e (t ++ z)) n h))
        | inr (u', y, p, s) ↦ (
          p,
          λ z h. inr (mark_last e u' p y z (subst (MarkedWords stands e) (append_assoc u' ((y, p) ∷ []) z) (subst (λ t. MarkedWords stands e (t ++ z)) s h))),
        )
      ]

  -- A mark that is read bears the number of an atom.
  pub after_mark : (e : Exp A) (p q : ℕ) (x : X) (v : List (Mark X)) → After stands e p ((x, q) ∷ v) → (0 < q) × (q ≤ atoms e)
  after_mark e p q x v h =
      let r : Rest (ReadsMarked stands) e 0 (λ n. n ≡ q) v = elim h [ inl k ↦ mark_first e 0 q x v k.1 | inr k ↦ mark_next e 0 (λ n. n ≡ p) q x v k ] in
      let (n, lo, hi, s) = rest_some (ReadsMarked stands) e 0 v r in
      (omega arith, omega arith)

  module _ (alive : (a : A) → (x : X) × stands a x) where
    pub marks_alive : (n : ℕ) (a : A) → (m : Mark X) × ReadsMarked stands n a m
    marks_alive n a = (((alive a).0, n), ((alive a).1, refl))

    -- Every atom is read last in some marked beginning, after which all goes on that may follow it.
    pub reach : (e : Exp A) (b p : ℕ) → b < p → p ≤ b + atoms e → (u : List (Mark X)) × (y : X) × ((z : List (Mark X)) → Rest (ReadsMarked stands) e b (λ n. n ≡ p) z → In (ReadsMarked stands) e b (u ++ ((y, p) ∷ z)))
    reach empty b p lo hi = absurd (omega arith)
    reach (atom a) b p lo hi =
        let (y, r) = alive a in
        ([], y, λ z h. ((y, p), (r, omega arith), ap (λ t. (y, p) ∷ t) h.1))
    reach (seq e f) b p lo hi =
        elim (dec_le p (b + atoms e)) [
          | yes below ↦
              let (u, y, go) = reach e b p lo below in (
                u,
                y,
                λ z. elim [
                  | inl (v, w, s, l, m) ↦ (u ++ ((y, p) ∷ v), w, ap (λ t. u ++ ((y, p) ∷ t)) s ∙ sym (append_assoc u ((y, p) ∷ v) w), go v l, m)
                  | inr h ↦ let (n, low, high, is) = rest_some (ReadsMarked stands) f (b + atoms e) z h in absurd (omega arith)
                ],
              )
          | no above ↦
              let (u, y, go) = reach f (b + atoms e) p (omega arith) (omega arith) in
              let (v, l) = word (ReadsMarked stands) marks_alive e b in (
                v ++ u,
                y,
                λ z. elim [
                  | inl (t, w, s, k, m) ↦ let (n, low, high, is) = rest_some (ReadsMarked stands) e b t k in absurd (omega arith)
                  | inr h ↦ (v, u ++ ((y, p) ∷ z), append_assoc v u ((y, p) ∷ z), l, go z h)
                ],
              )
        ]
    reach (alt e f) b p lo hi =
        elim (dec_le p (b + atoms e)) [
          | yes below ↦
              let (u, y, go) = reach e b p lo below in (
                u,
                y,
                λ z. elim [
                  | inl h ↦ inl (go z h)
                  | inr h ↦ let (n, low, high, is) = rest_some (ReadsMarked stands) f (b + atoms e) z h in absurd (omega arith)
                ],
              )
          | no above ↦
              let (u, y, go) = reach f (b + atoms e) p (omega arith) (omega arith) in (
                u,
                y,
                λ z. elim [
                  | inl h ↦ let (n, low, high, is) = rest_some (ReadsMarked stands) e b z h in absurd (omega arith)
                  | inr h ↦ inr (go z h)
                ],
              )
        ]
    reach (star e) b p lo hi =
        let (u, y, go) = reach e b p lo hi in
        (u, y, λ z (v, w, s, l, m). more (u ++ ((y, p) ∷ v)) w (ap (λ t. u ++ ((y, p) ∷ t)) s ∙ sym (append_assoc u ((y, p) ∷ v) w)) (go v l) m)
    reach (plus e) b p lo hi =
        let (u, y, go) = reach e b p lo hi in
        (u, y, λ z (v, w, s, l, m). (u ++ ((y, p) ∷ v), w, ap (λ t. u ++ ((y, p) ∷ t)) s ∙ sym (append_assoc u ((y, p) ∷ v) w), go v l, m))
    reach (option e) b p lo hi = let (u, y, go) = reach e b p lo hi in (u, y, λ z h. inr (go z h))

    -- What goes on after atom p goes on after one marked beginning.
    pub before : (e : Exp A) (p : ℕ) (z₀ : List (Mark X)) → After stands e p z₀ → (u : List (Mark X)) × ((z : List (Mark X)) → After stands e p z → MarkedWords stands e (u ++ z))
    before e p z₀ h₀ =
        elim (cases_eq p 0) [
          | inl zero ↦ (
            [],
            λ z. elim [
              | inl h ↦ h.1
              | inr h ↦ let (n, low, high, is) = rest_some (ReadsMarked stands) e 0 z h in absurd (omega arith)
            ],
          )
          | inr some ↦
              let (lo, hi) = range some h₀ in
              let (u, y, go) = reach e 0 p lo hi in (
                u ++ ((y, p) ∷ []),
                λ z. elim [
                  | inl h ↦ absurd (some h.0)
                  | inr h ↦ subst (MarkedWords stands e) (sym (append_assoc u ((y, p) ∷ []) z)) (go z h)
                ],
              )
        ]
      where
        range : (p ≡ 0 → ⊥) → After stands e p z₀ → (0 < p) × (p ≤ 0 + atoms e)
        range some (inl h) = absurd (some h.0)
        range some (inr h) = let (n, low, high, is) = rest_some (ReadsMarked stands) e 0 z₀ h in (omega arith, omega arith)

    -- A fork is an ambiguity.
    pub fork_ambiguous : (e : Exp A) (x : X) (p : ℕ) → Forks stands e x p → Ambiguous stands e
    fork_ambiguous e x p f =
        let (u, go) = before e p ((x, f.one) ∷ f.after_one) f.first_way in
        record {
          shared = u;
          letter = x;
          one = f.one;
          other = f.other;
          differ = f.differ;
          after_one = f.after_one;
          after_other = f.after_other;
          first_word = go ((x, f.one) ∷ f.after_one) f.first_way;
          second_word = go ((x, f.other) ∷ f.after_other) f.second_way;
        }

-- Fewer readers: sets cut down by a test of their members.
module _ (M : ℕ → Type 0) where
  abbrev pub Cut : ℕ → ℕ → Type 0
  Cut s' s = (n : ℕ) → Iff (Has s' n) (Has s n × M n)

  cut_none : Cut 0 0
  cut_none n = (λ h. absurd (has_none n h), λ h. absurd (has_none n h.0))

  cut_or : (s' s t' t : ℕ) → Cut s' s → Cut t' t → Cut (bit_or s' t') (bit_or s t)
  cut_or s' s t' t f g n = (
    λ h. elim (has_or s' t' n h) [ inl k ↦ let (a, m) = (f n).0 k in (has_or_l s t n a, m) | inr k ↦ let (a, m) = (g n).0 k in (has_or_r s t n a, m) ],
    λ h. elim (has_or s t n h.0) [ inl k ↦ has_or_l s' t' n ((f n).1 (k, h.1)) | inr k ↦ has_or_r s' t' n ((g n).1 (k, h.1)) ],
  )

  cut_guarded : (b' b : Bool) (s' s : ℕ) → b' ≡ b → Cut s' s → Cut (guarded b' s') (guarded b s)
  cut_guarded b' b s' s e f n = (
    λ h. let (g, k) = has_guarded b' s' n h in let (a, m) = (f n).0 k in (guarded_has b s n (sym e ∙ g, a), m),
    λ h. let (g, k) = has_guarded b s n h.0 in guarded_has b' s' n (e ∙ g, (f n).1 (k, h.1)),
  )

  cut_and : (k s' s : ℕ) → Cut s' s → Cut (bit_and k s') (bit_and k s)
  cut_and k s' s f n = (
    λ h. let (a, b) = has_and k s' n h in let (c, m) = (f n).0 b in (and_has k s n a c, m),
    λ h. let (a, b) = has_and k s n h.0 in and_has k s' n a ((f n).1 (b, h.1)),
  )

  module _ {A : Type 0} (from r' r : ℕ) (f : Cut r' r) where
    -- With fewer readers, fewer atoms may read; nothing else changes.
    cut_derived : (e : Exp A) (b : ℕ) →
        let d' = value (derivation from r') b e in
        let d = value (derivation from r) b e in
        (d'.nullable ≡ d.nullable) × (d'.ends ≡ d.ends) × Cut d'.first d.first × Cut d'.next d.next
    cut_derived empty b = (refl, refl, cut_none, cut_none)
    cut_derived (atom a) b = (refl, refl, cut_and (singleton (b + 1)) r' r f, cut_none)
    cut_derived (seq e g) b =
        let u' = value (derivation from r') b e in
        let u = value (derivation from r) b e in
        let v' = value (derivation from r') (b + atoms e) g in
        let v = value (derivation from r) (b + atoms e) g in
        let (ln, le, lf, lx) = cut_derived e b in
        let (rn, re, rf, rx) = cut_derived g (b + atoms e) in (
          ap₂ ◌&&◌ ln rn,
          ap₂ ◌||◌ (ap₂ ◌&&◌ le rn) re,
          cut_or u'.first u.first (guarded u'.nullable v'.first) (guarded u.nullable v.first) lf (cut_guarded u'.nullable u.nullable v'.first v.first ln rf),
          cut_or (bit_or u'.next (guarded u'.ends v'.first)) (bit_or u.next (guarded u.ends v.first)) v'.next v.next
              (cut_or u'.next u.next (guarded u'.ends v'.first) (guarded u.ends v.first) lx (cut_guarded u'.ends u.ends v'.first v.first le rf)) rx,
        )
    cut_derived (alt e g) b =
        let u' = value (derivation from r') b e in
        let u = value (derivation from r) b e in
        let v' = value (derivation from r') (b + atoms e) g in
        let v = value (derivation from r) (b + atoms e) g in
        let (ln, le, lf, lx) = cut_derived e b in
        let (rn, re, rf, rx) = cut_derived g (b + atoms e) in
        (ap₂ ◌||◌ ln rn, ap₂ ◌||◌ le re, cut_or u'.first u.first v'.first v.first lf rf, cut_or u'.next u.next v'.next v.next lx rx)
    cut_derived (star e) b =
        let u' = value (derivation from r') b e in
        let u = value (derivation from r) b e in
        let (ln, le, lf, lx) = cut_derived e b in
        (refl, le, lf, cut_or u'.next u.next (guarded u'.ends u'.first) (guarded u.ends u.first) lx (cut_guarded u'.ends u.ends u'.first u.first le lf))
    cut_derived (plus e) b =
        let u' = value (derivation from r') b e in
        let u = value (derivation from r) b e in
        let (ln, le, lf, lx) = cut_derived e b in
        (ln, le, lf, cut_or u'.next u.next (guarded u'.ends u'.first) (guarded u.ends u.first) lx (cut_guarded u'.ends u.ends u'.first u.first le lf))
    cut_derived (option e) b = let (ln, le, lf, lx) = cut_derived e b in (refl, le, lf, lx)

    cut_reached : (e : Exp A) → Cut (after_state from (value (derivation from r') 0 e)) (after_state from (value (derivation from r) 0 e))
    cut_reached e =
        let d' = value (derivation from r') 0 e in
        let d = value (derivation from r) 0 e in
        let (ln, le, lf, lx) = cut_derived e 0 in
        cut_or (guarded (has from 0) d'.first) (guarded (has from 0) d.first) d'.next d.next (cut_guarded (has from 0) (has from 0) d'.first d.first refl lf) lx

-- A step by a mark: from atom p, what the fold computes for one atom as the only reader.
module _ {A X : Type 0} (stands : A → X → Type 0) (alive : (a : A) → (x : X) × stands a x) (e : Exp A) (few : atoms e ≤ 63) (p : ℕ) (low : p ≤ 63) (x : X) (q r : ℕ) (agrees : Agrees (ReadsMarked stands) (x, q) (singleton p) r (leaves e) 0) where
  mark_knows : Knows (ReadsMarked stands) (x, q) (singleton p) r e 0 (value (derivation (singleton p) r) 0 e)
  mark_knows = computed (ReadsMarked stands) (x, q) (singleton p) r e 0 (omega arith) agrees

  -- The atom may read the mark next.
  mark_goes : Has (after_state (singleton p) (value (derivation (singleton p) r) 0 e)) q → (v : List (Mark X)) × After stands e p ((x, q) ∷ v)
  mark_goes h =
      let s = singleton p in
      let d = value (derivation (singleton p) r) 0 e in
      elim (has_or (guarded (has s 0) d.first) d.next q h) [
        | inl k ↦
            let (g, f) = has_guarded (has s 0) d.first q k in
            let (lo, hi) = mark_knows.first_in q f in
            let (v, l) = rest_live (ReadsMarked stands) (marks_alive stands alive) e 0 (Has d.first) q lo hi f in
            (v, inl (sym (has_single p 0 (omega arith) ((iff_member s 0).0 g)), (mark_knows.first_is v).0 l))
        | inr k ↦
            let (lo, hi) = mark_knows.next_in q k in
            let (v, l) = rest_live (ReadsMarked stands) (marks_alive stands alive) e 0 (Has d.next) q lo hi k in
            (v, inr (rest_mono (ReadsMarked stands) e 0 (λ n lo hi h. has_single p n (omega arith) h) ((x, q) ∷ v) ((mark_knows.next_is v).0 l)))
      ]

  -- Where the mark may be read next, the fold finds some atom.
  mark_came : (v : List (Mark X)) → After stands e p ((x, q) ∷ v) → (n : ℕ) × Has (after_state (singleton p) (value (derivation (singleton p) r) 0 e)) n
  mark_came v (inl (z, h)) =
      let s = singleton p in
      let d = value (derivation (singleton p) r) 0 e in
      let (n, lo, hi, k) = rest_some (ReadsMarked stands) e 0 v ((mark_knows.first_is v).1 h) in
      let here : Has (singleton p) 0 = subst (λ m. Has (singleton m) 0) (sym z) (single_has 0 (omega arith)) in
      (n, has_or_l (guarded (has s 0) d.first) d.next n (guarded_has (has s 0) d.first n ((iff_member s 0).1 here, k)))
  mark_came v (inr h) =
      let s = singleton p in
      let d = value (derivation (singleton p) r) 0 e in
      let all = rest_mono (ReadsMarked stands) e 0 {T = Has (singleton p)} (λ n lo hi is. subst (Has (singleton p)) (sym is) (single_has p (omega arith))) ((x, q) ∷ v) h in
      let (n, lo, hi, k) = rest_some (ReadsMarked stands) e 0 v ((mark_knows.next_is v).1 all) in
      (n, has_or_r (guarded (has s 0) d.first) d.next n k)

module _ {A X : Type 0} (stands : A → X → Type 0) (alive : (a : A) → (x : X) × stands a x) (e : Exp A) (few : atoms e ≤ 63) (p : ℕ) (low : p ≤ 63) where
  -- The atoms that a step by a letter reaches are those that may read it next.
  module _ (x : X) (r : ℕ) (agrees : Agrees (λ n. stands) x (singleton p) r (leaves e) 0) where
    cut_one : (q : ℕ) → q ≤ 63 → Cut (λ n. n ≡ q) (bit_and r (singleton q)) r
    cut_one q lt n = (
      λ h. let (a, b) = has_and r (singleton q) n h in (a, has_single q n (omega arith) b),
      λ h. and_has r (singleton q) n h.0 (subst (Has (singleton q)) (sym h.1) (single_has q (omega arith))),
    )

    agrees_one : (q : ℕ) → q ≤ 63 → Agrees (ReadsMarked stands) (x, q) (singleton p) (bit_and r (singleton q)) (leaves e) 0
    agrees_one q lt n a k = (
      λ h. let (h', is) = (cut_one q lt n).0 h in ((agrees n a k).0 h', sym is),
      λ h. (cut_one q lt n).1 ((agrees n a k).1 h.0, sym h.1),
    )

    pub reads_next : (q : ℕ) → Iff (Has (after_state (singleton p) (value (derivation (singleton p) r) 0 e)) q) ((v : List (Mark X)) × After stands e p ((x, q) ∷ v))
    reads_next q = (
      λ h.
          let knows = computed (λ n. stands) x (singleton p) r e 0 (omega arith) agrees in
          let (lo, hi) = reached_in stands x (singleton p) r e (value (derivation (singleton p) r) 0 e) knows q h in
          let lt : q ≤ 63 = omega arith in
          mark_goes stands alive e few p low x q (bit_and r (singleton q)) (agrees_one q lt)
          ((cut_reached (λ n. n ≡ q) (singleton p) (bit_and r (singleton q)) r (cut_one q lt) e q).1 (h, refl)),
      λ (v, h).
          let (lo, hi) = after_mark stands e p q x v h in
          let lt : q ≤ 63 = omega arith in
          let (n, k) = mark_came stands alive e few p low x q (bit_and r (singleton q)) (agrees_one q lt) v h in
          let (a, is) = (cut_reached (λ n. n ≡ q) (singleton p) (bit_and r (singleton q)) r (cut_one q lt) e n).0 k in
          subst (Has (after_state (singleton p) (value (derivation (singleton p) r) 0 e))) is a,
    )

  -- An atom that may read one of its letters next may read any other of them.
  agrees_alone : (q : ℕ) → q ≤ 63 → (a : A) → Numbered (leaves e) 0 q a → (x : X) → stands a x → Agrees (ReadsMarked stands) (x, q) (singleton p) (singleton q) (leaves e) 0
  agrees_alone q lt a at x s n c k = (
    λ h.
        let is = has_single q n (omega arith) h in
        (subst (λ d. stands d x) (numbered_one (leaves e) 0 q a c at (subst (λ m. Numbered (leaves e) 0 m c) is k)) s, sym is),
    λ h. subst (Has (singleton q)) h.1 (single_has q (omega arith)),
  )

  pub other_letter : (q : ℕ) (a : A) → Numbered (leaves e) 0 q a → (x y : X) → stands a x → stands a y → (v : List (Mark X)) → After stands e p ((x, q) ∷ v) → (w : List (Mark X)) × After stands e p ((y, q) ∷ w)
  other_letter q a at x y sx sy v h =
      let inside = numbered_in (leaves e) 0 q a at in
      let len = length_leaves e in
      let lt : q ≤ 63 = omega arith in
      let (n, k) = mark_came stands alive e few p low x q (singleton q) (agrees_alone q lt a at x sx) v h in
      let alone : Cut (λ n. n ≡ q) (singleton q) (singleton q) = λ m. (λ g. (g, has_single q m (omega arith) g), λ g. g.0) in
      let (t, is) = (cut_reached (λ n. n ≡ q) (singleton p) (singleton q) (singleton q) alone e n).0 k in
      mark_goes stands alive e few p low y q (singleton q) (agrees_alone q lt a at y sy)
      (subst (Has (after_state (singleton p) (value (derivation (singleton p) (singleton q)) 0 e))) is t)

module _ {A X : Type 0} (stands : A → X → Type 0) where
  -- The atom whose number a mark bears stands for the letter.
  pub mark_atom : (e : Exp A) (u v : List (Mark X)) (x : X) (q : ℕ) → MarkedWords stands e (u ++ ((x, q) ∷ v)) → (a : A) × Numbered (leaves e) 0 q a × stands a x
  mark_atom e u v x q h = (each_back P u ((x, q) ∷ v) (in_leaves (ReadsMarked stands) P e 0 good (u ++ ((x, q) ∷ v)) h)).0
    where
      P : Mark X → Type 0
      P m = (a : A) × Numbered (leaves e) 0 m.1 a × stands a m.0

      good : (n : ℕ) (a : A) (m : Mark X) → Numbered (leaves e) 0 n a → ReadsMarked stands n a m → P m
      good n a m k (s, is) = (a, subst (λ i. Numbered (leaves e) 0 i a) (sym is) k, s)

  -- What follows an atom follows one of the expression's, or the beginning.
  pub after_place : (e : Exp A) → atoms e ≤ 63 → (p : ℕ) (z : List (Mark X)) → After stands e p z → p ≤ 63
  after_place e few p z (inl h) = omega (arith, h.0)
  after_place e few p z (inr h) = let (n, lo, hi, is) = rest_some (ReadsMarked stands) e 0 z h in omega arith

-- An ambiguity is a fork by the sample of some atom, where two atoms with a letter in common have the
-- sample of one of them in common.
module _ {A X : Type 0} (stands : A → X → Type 0) (sample : A → X) (sampled : (a : A) → stands a (sample a)) (common : (a c : A) (x : X) → stands a x → stands c x → stands c (sample a) ⊎ stands a (sample c)) where
  pub ambiguous_fork : (e : Exp A) → atoms e ≤ 63 → Ambiguous stands e → (n : ℕ) × (c : A) × Numbered (leaves e) 0 n c × (p : ℕ) × (p ≤ 63) × Forks stands e (sample c) p
  ambiguous_fork e few m =
      let x = m.letter in
      let (a, ka, sa) = mark_atom stands e m.shared m.after_one x m.one m.first_word in
      let (c, kc, sc) = mark_atom stands e m.shared m.after_other x m.other m.second_word in
      let (p, go) = after_beginning stands e m.shared in
      let one_way = go ((x, m.one) ∷ m.after_one) m.first_word in
      let other_way = go ((x, m.other) ∷ m.after_other) m.second_word in
      let low : p ≤ 63 = after_place stands e few p ((x, m.one) ∷ m.after_one) one_way in
      elim (common a c x sa sc) [
        | inl s ↦ (m.one, a, ka, p, low, fork e few p low m a c ka kc x (sample a) sa (sampled a) sc s one_way other_way)
        | inr s ↦ (m.other, c, kc, p, low, fork e few p low m a c ka kc x (sample c) sa s sc (sampled c) one_way other_way)
      ]
    where
      fork : (e : Exp A) → atoms e ≤ 63 → (p : ℕ) → p ≤ 63 → (m : Ambiguous stands e) (a c : A) → Numbered (leaves e) 0 m.one a → Numbered (leaves e) 0 m.other c → (x y : X) → stands a x → stands a y → stands c x → stands c y → After stands e p ((x, m.one) ∷ m.after_one) → After stands e p ((x, m.other) ∷ m.after_other) → Forks stands e y p
      fork e few p low m a c ka kc x y ax ay cx cy one_way other_way =
          let alive : (a : A) → (x : X) × stands a x = λ a. (sample a, sampled a) in
          let (v, h) = other_letter stands alive e few p low m.one a ka x y ax ay m.after_one one_way in
          let (w, k) = other_letter stands alive e few p low m.other c kc x y cx cy m.after_other other_way in
          record { one = m.one; other = m.other; differ = m.differ; after_one = v; after_other = w; first_way = h; second_way = k }
