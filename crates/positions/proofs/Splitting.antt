-- A step from a set of atoms is the union of the steps from each of them, whatever the letter, cut down to
-- the atoms that read the letter.
use Rattle.std.proofs.Common.{◌≡◌, ℕ, ◌+◌, ◌^◌, ◌<◌, ◌≤◌, true, false, ◌&&◌, ◌||◌, ◌⊎◌, List, ◌++◌, sym, refl, ◌∙◌, subst, ap₂, inl, inr, mod-eq_of_lt, arith, le-ltb}
use native.Mathlib.Decide.{dec_le}
use lib.Bits.{bit_and, bit_or, and_mask}
use Rattle.std.proofs.lemmas.Nat.{pow_below}
use Rattle.models.specs.Expressions.{Exp, empty, atom, seq, alt, star, plus, option, atoms}
use Rattle.models.specs.Folds.{value}
use Rattle.models.specs.Readers.{Numbered}
use Rattle.bits.specs.Sets.{Has, singleton, guarded}
use Rattle.bits.proofs.Bits.{has_none, has_and, and_has, has_own, has_single, single_has}
use Rattle.models.proofs.Derivation.{Iff, Derives, derives_by, derives_empty, derives_atom, derives_seq, derives_alt, derives_star, derives_plus, derives_option}
use Rattle.models.proofs.Numbering.{leaves, length_leaves, numbered_append}
use Rattle.derivative.specs.Derivation.{derivation}
use Rattle.derivative.specs.declared.derive.Derived.{Derived}
use Rattle.derivative.proofs.Knowing.{iff_member, iff_and, iff_or, iff_union, iff_guarded}
use Rattle.positions.specs.Following.{everything}

pub has_all : (n : ℕ) → n < 64 → Has everything n
has_all n lt = (has_and (2 ^ n) everything n (subst (λ x. Has x n) (sym (and_mask (2 ^ n) 64 ∙ mod-eq_of_lt (pow_below n 64 lt))) (has_own n))).1

single_none : (p : ℕ) → 64 ≤ p → singleton p ≡ 0
single_none p high = rw (le-ltb p 64 high, singleton)

pub single_is : (p n : ℕ) → Has (singleton p) n → n ≡ p
single_is p n h =
    elim (dec_le p 63) [
      | yes low ↦ has_single p n (omega arith) h
      | no high ↦ absurd (has_none n (subst (λ s. Has s n) (single_none p (omega arith)) h))
    ]

false_true : {P : Type 0} → false ≡ true → P
false_true e = let z : ◌≡◌ {A = ℕ} 0 1 = cc in absurd (omega arith)

-- What is known for one atom and any letter.
abbrev pub one : {A : Type 0} → ℕ → ℕ → Exp A → Derived
one p b e = value (derivation (singleton p) everything) b e

-- The empty word and the first atoms do not hang on what was read last.
null_same : {A : Type 0} (p q b : ℕ) (e : Exp A) → (one p b e).nullable ≡ (one q b e).nullable
null_same p q b empty = refl
null_same p q b (atom a) = refl
null_same p q b (seq e f) = ap₂ ◌&&◌ (null_same p q b e) (null_same p q (b + atoms e) f)
null_same p q b (alt e f) = ap₂ ◌||◌ (null_same p q b e) (null_same p q (b + atoms e) f)
null_same p q b (star e) = refl
null_same p q b (plus e) = null_same p q b e
null_same p q b (option e) = refl

pub first_same : {A : Type 0} (p q b : ℕ) (e : Exp A) → (one p b e).first ≡ (one q b e).first
first_same p q b empty = refl
first_same p q b (atom a) = refl
first_same p q b (seq e f) = ap₂ bit_or (first_same p q b e) (ap₂ guarded (null_same p q b e) (first_same p q (b + atoms e) f))
first_same p q b (alt e f) = ap₂ bit_or (first_same p q b e) (first_same p q (b + atoms e) f)
first_same p q b (star e) = first_same p q b e
first_same p q b (plus e) = first_same p q b e
first_same p q b (option e) = first_same p q b e

module _ {A X : Type 0} (reads : ℕ → A → X → Type 0) (x : X) (S Q : ℕ → Type 0) where
  -- Q holds of the atoms that read the letter.
  abbrev pub Tells : List A → ℕ → Type 0
  Tells cs b = (n : ℕ) (a : A) → Numbered cs b n a → Iff (Q n) (reads n a x)

  tells_left : (e f : Exp A) (b : ℕ) → Tells (leaves e ++ leaves f) b → Tells (leaves e) b
  tells_left e f b h n a k = h n a ((numbered_append (leaves e) (leaves f) b n a).1 (inl k))

  tells_right : (e f : Exp A) (b : ℕ) → Tells (leaves e ++ leaves f) b → Tells (leaves f) (b + atoms e)
  tells_right e f b h n a k =
      h n a ((numbered_append (leaves e) (leaves f) b n a).1 (inr (subst (λ m. Numbered (leaves f) (b + m) n a) (sym (length_leaves e)) k)))

  abbrev pub Ends : Exp A → ℕ → Type 0
  Ends e b = (p : ℕ) × S p × ((one p b e).ends ≡ true)

  abbrev pub First : Exp A → ℕ → ℕ → Type 0
  First e b n = Has (one 0 b e).first n × Q n

  abbrev pub Next : Exp A → ℕ → ℕ → Type 0
  Next e b n = ((p : ℕ) × S p × Has (one p b e).next n) × Q n

  abbrev pub Split : Exp A → ℕ → Type 0
  Split e b = Derives reads x S e b ((one 0 b e).nullable ≡ true) (Ends e b) (First e b) (Next e b)

  no_next : (n : ℕ) → Iff (((p : ℕ) × S p × Has 0 n) × Q n) ⊥
  no_next n = (λ h. has_none n h.0.2, λ h. absurd h)

  -- Going round once more.
  round_next : (e : Exp A) (b n : ℕ) → Iff (((p : ℕ) × S p × Has (bit_or (one p b e).next (guarded (one p b e).ends (one p b e).first)) n) × Q n) (Next e b n ⊎ (Ends e b × First e b n))
  round_next e b n = (
    λ h. let (p, s, g) = h.0 in elim ((iff_union (one p b e).next (guarded (one p b e).ends (one p b e).first) n).0 g) [
      | inl k ↦ inl ((p, s, k), h.1)
      | inr k ↦
          let m = (iff_guarded (one p b e).ends (one p b e).first n).0 k in
          inr ((p, s, m.0), (subst (λ t. Has t n) (first_same p 0 b e) m.1, h.1))
    ],
    elim [
      | inl h ↦ let (p, s, g) = h.0 in ((p, s, (iff_union (one p b e).next (guarded (one p b e).ends (one p b e).first) n).1 (inl g)), h.1)
      | inr h ↦
          let (p, s, m) = h.0 in
          ((p, s, (iff_union (one p b e).next (guarded (one p b e).ends (one p b e).first) n).1 (inr ((iff_guarded (one p b e).ends (one p b e).first n).1 (m, subst (λ t. Has t n) (first_same 0 p b e) h.1.0)))), h.1.1)
    ],
  )

  module _ (e f : Exp A) (b : ℕ) where
    seq_ends : Iff (Ends (seq e f) b) ((Ends e b × ((one 0 (b + atoms e) f).nullable ≡ true)) ⊎ Ends f (b + atoms e))
    seq_ends = (
      λ (p, s, m). elim ((iff_or ((one p b e).ends && (one p (b + atoms e) f).nullable) (one p (b + atoms e) f).ends).0 m) [
        | inl k ↦ let g = (iff_and (one p b e).ends (one p (b + atoms e) f).nullable).0 k in inl ((p, s, g.0), null_same 0 p (b + atoms e) f ∙ g.1)
        | inr k ↦ inr (p, s, k)
      ],
      elim [
        | inl h ↦
            let (p, s, m) = h.0 in
            (p, s, (iff_or ((one p b e).ends && (one p (b + atoms e) f).nullable) (one p (b + atoms e) f).ends).1 (inl ((iff_and (one p b e).ends (one p (b + atoms e) f).nullable).1 (m, null_same p 0 (b + atoms e) f ∙ h.1))))
        | inr h ↦ let (p, s, m) = h in (p, s, (iff_or ((one p b e).ends && (one p (b + atoms e) f).nullable) (one p (b + atoms e) f).ends).1 (inr m))
      ],
    )

    seq_first : (n : ℕ) → Iff (First (seq e f) b n) (First e b n ⊎ (((one 0 b e).nullable ≡ true) × First f (b + atoms e) n))
    seq_first n = (
      λ h. elim ((iff_union (one 0 b e).first (guarded (one 0 b e).nullable (one 0 (b + atoms e) f).first) n).0 h.0) [
        | inl k ↦ inl (k, h.1)
        | inr k ↦ let m = (iff_guarded (one 0 b e).nullable (one 0 (b + atoms e) f).first n).0 k in inr (m.0, (m.1, h.1))
      ],
      elim [
        | inl h ↦ ((iff_union (one 0 b e).first (guarded (one 0 b e).nullable (one 0 (b + atoms e) f).first) n).1 (inl h.0), h.1)
        | inr h ↦ ((iff_union (one 0 b e).first (guarded (one 0 b e).nullable (one 0 (b + atoms e) f).first) n).1 (inr ((iff_guarded (one 0 b e).nullable (one 0 (b + atoms e) f).first n).1 (h.0, h.1.0))), h.1.1)
      ],
    )

    seq_next : (n : ℕ) → Iff (Next (seq e f) b n) ((Next e b n ⊎ (Ends e b × First f (b + atoms e) n)) ⊎ Next f (b + atoms e) n)
    seq_next n = (
      λ h.
          let (p, s, g) = h.0 in
          let u = bit_or (one p b e).next (guarded (one p b e).ends (one p (b + atoms e) f).first) in
          elim ((iff_union u (one p (b + atoms e) f).next n).0 g) [
            | inl k ↦ elim ((iff_union (one p b e).next (guarded (one p b e).ends (one p (b + atoms e) f).first) n).0 k) [
              | inl m ↦ inl (inl ((p, s, m), h.1))
              | inr m ↦
                  let t = (iff_guarded (one p b e).ends (one p (b + atoms e) f).first n).0 m in
                  inl (inr ((p, s, t.0), (subst (λ v. Has v n) (first_same p 0 (b + atoms e) f) t.1, h.1)))
            ]
            | inr k ↦ inr ((p, s, k), h.1)
          ],
      elim [
        | inl h ↦ elim h [
          | inl k ↦
              let (p, s, g) = k.0 in
              let v = guarded (one p b e).ends (one p (b + atoms e) f).first in
              ((p, s, (iff_union (bit_or (one p b e).next v) (one p (b + atoms e) f).next n).1 (inl ((iff_union (one p b e).next v n).1 (inl g)))), k.1)
          | inr k ↦
              let (p, s, m) = k.0 in
              let v = guarded (one p b e).ends (one p (b + atoms e) f).first in
              let g = (iff_guarded (one p b e).ends (one p (b + atoms e) f).first n).1 (m, subst (λ t. Has t n) (first_same 0 p (b + atoms e) f) k.1.0) in
              ((p, s, (iff_union (bit_or (one p b e).next v) (one p (b + atoms e) f).next n).1 (inl ((iff_union (one p b e).next v n).1 (inr g)))), k.1.1)
        ]
        | inr h ↦
            let (p, s, g) = h.0 in
            let v = guarded (one p b e).ends (one p (b + atoms e) f).first in
            ((p, s, (iff_union (bit_or (one p b e).next v) (one p (b + atoms e) f).next n).1 (inr g)), h.1)
      ],
    )

    alt_ends : Iff (Ends (alt e f) b) (Ends e b ⊎ Ends f (b + atoms e))
    alt_ends = (
      λ (p, s, m). elim ((iff_or (one p b e).ends (one p (b + atoms e) f).ends).0 m) [ inl k ↦ inl (p, s, k) | inr k ↦ inr (p, s, k) ],
      elim [
        | inl h ↦ let (p, s, m) = h in (p, s, (iff_or (one p b e).ends (one p (b + atoms e) f).ends).1 (inl m))
        | inr h ↦ let (p, s, m) = h in (p, s, (iff_or (one p b e).ends (one p (b + atoms e) f).ends).1 (inr m))
      ],
    )

    alt_first : (n : ℕ) → Iff (First (alt e f) b n) (First e b n ⊎ First f (b + atoms e) n)
    alt_first n = (
      λ h. elim ((iff_union (one 0 b e).first (one 0 (b + atoms e) f).first n).0 h.0) [ inl k ↦ inl (k, h.1) | inr k ↦ inr (k, h.1) ],
      elim [
        | inl h ↦ ((iff_union (one 0 b e).first (one 0 (b + atoms e) f).first n).1 (inl h.0), h.1)
        | inr h ↦ ((iff_union (one 0 b e).first (one 0 (b + atoms e) f).first n).1 (inr h.0), h.1)
      ],
    )

    alt_next : (n : ℕ) → Iff (Next (alt e f) b n) (Next e b n ⊎ Next f (b + atoms e) n)
    alt_next n = (
      λ h. let (p, s, g) = h.0 in elim ((iff_union (one p b e).next (one p (b + atoms e) f).next n).0 g) [ inl k ↦ inl ((p, s, k), h.1) | inr k ↦ inr ((p, s, k), h.1) ],
      elim [
        | inl h ↦ let (p, s, g) = h.0 in ((p, s, (iff_union (one p b e).next (one p (b + atoms e) f).next n).1 (inl g)), h.1)
        | inr h ↦ let (p, s, g) = h.0 in ((p, s, (iff_union (one p b e).next (one p (b + atoms e) f).next n).1 (inr g)), h.1)
      ],
    )

  pub split : (e : Exp A) (b : ℕ) → b + atoms e ≤ 63 → Tells (leaves e) b → Split e b
  split empty b few is =
      derives_by reads x S empty b (derives_empty reads x S b) (λ h. tt, λ h. refl) (λ h. false_true h.2, λ h. absurd h) (λ n. (λ h. has_none n h.0, λ h. absurd h)) no_next
  split (atom a) b few is =
      derives_by reads x S (atom a) b (derives_atom reads x S a b) (λ h. false_true h, λ h. absurd h) (
        λ (p, s, m). subst S (sym (single_is p (b + 1) ((iff_member (singleton p) (b + 1)).0 m))) s,
        λ h. (b + 1, h, (iff_member (singleton (b + 1)) (b + 1)).1 (single_has (b + 1) (omega arith))),
      )
      (λ n. (
        λ h.
            let k = has_and (singleton (b + 1)) everything n h.0 in
            let e = has_single (b + 1) n (omega arith) k.0 in
            (e, (is (b + 1) a (inl (refl, refl))).0 (subst Q e h.1)),
        λ h.
            let q = (is (b + 1) a (inl (refl, refl))).1 h.1 in (
              subst (Has (bit_and (singleton (b + 1)) everything)) (sym h.0) (and_has (singleton (b + 1)) everything (b + 1) (single_has (b + 1) (omega arith)) (has_all (b + 1) (omega arith))),
              subst Q (sym h.0) q,
            ),
      ))
      no_next
  split (seq e f) b few is =
      derives_by reads x S (seq e f) b (derives_seq reads x S e f b (split e b (omega arith) (tells_left e f b is)) (split f (b + atoms e) (omega arith) (tells_right e f b is)))
      (iff_and (one 0 b e).nullable (one 0 (b + atoms e) f).nullable) (seq_ends e f b) (seq_first e f b) (seq_next e f b)
  split (alt e f) b few is =
      derives_by reads x S (alt e f) b (derives_alt reads x S e f b (split e b (omega arith) (tells_left e f b is)) (split f (b + atoms e) (omega arith) (tells_right e f b is)))
      (iff_or (one 0 b e).nullable (one 0 (b + atoms e) f).nullable) (alt_ends e f b) (alt_first e f b) (alt_next e f b)
  split (star e) b few is =
      derives_by reads x S (star e) b (derives_star reads x S e b (split e b few is)) (λ h. tt, λ h. refl) (λ h. h, λ h. h) (λ n. (λ h. h, λ h. h)) (round_next e b)
  split (plus e) b few is =
      derives_by reads x S (plus e) b (derives_plus reads x S e b (split e b few is)) (λ h. h, λ h. h) (λ h. h, λ h. h) (λ n. (λ h. h, λ h. h)) (round_next e b)
  split (option e) b few is =
      derives_by reads x S (option e) b (derives_option reads x S e b (split e b few is)) (λ h. tt, λ h. refl) (λ h. h, λ h. h) (λ n. (λ h. h, λ h. h)) (λ n. (λ h. h, λ h. h))
