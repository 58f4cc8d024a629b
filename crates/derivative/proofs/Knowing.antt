-- What the fold computes of an expression is what there is to know for a step.
use Rattle.std.proofs.Common.{◌≡◌, ℕ, ◌+◌, ◌/◌, ◌%◌, ◌^◌, ◌≤◌, Bool, true, false, ◌&&◌, ◌||◌, ◌⊎◌, List, [], ◌++◌, sym, refl, subst, inl, inr, arith, eq-eqb, eqb-true}
use lib.Bits.{bit_and, bit_or}
use Rattle.models.specs.Expressions.{Exp, empty, atom, seq, alt, star, plus, option, atoms, done, In}
use Rattle.models.specs.Folds.{value}
use Rattle.models.specs.Readers.{Numbered}
use Rattle.models.specs.Rests.{Rest}
use Rattle.bits.specs.Sets.{has, Has, singleton, guarded}
use Rattle.bits.proofs.Bits.{has_or, has_or_l, has_or_r, has_none, has_and, and_has, has_single, single_has, has_guarded, guarded_has}
use Rattle.models.proofs.Derivation.{Iff, Derives, derives_by, derives_empty, derives_atom, derives_seq, derives_alt, derives_star, derives_plus, derives_option}
use Rattle.models.proofs.Joins.{then_nil, then_skip}
use Rattle.models.proofs.Numbering.{leaves, length_leaves, numbered_append}
use Rattle.derivative.specs.Derivation.{derivation}
use Rattle.derivative.specs.declared.derive.Derived.{Derived}

false_true : {P : Type 0} → false ≡ true → P
false_true e = let z : ◌≡◌ {A = ℕ} 0 1 = cc in absurd (omega arith)

pub iff_same : {P : Type 0} → Iff P P
iff_same = (λ h. h, λ h. h)

pub iff_then : {P Q R : Type 0} → Iff P Q → Iff Q R → Iff P R
iff_then f g = (λ h. g.0 (f.0 h), λ h. f.1 (g.1 h))

pub iff_sum : {P P' Q Q' : Type 0} → Iff P P' → Iff Q Q' → Iff (P ⊎ Q) (P' ⊎ Q')
iff_sum f g = (elim [ inl h ↦ inl (f.0 h) | inr h ↦ inr (g.0 h) ], elim [ inl h ↦ inl (f.1 h) | inr h ↦ inr (g.1 h) ])

pub iff_both : {P P' Q Q' : Type 0} → Iff P P' → Iff Q Q' → Iff (P × Q) (P' × Q')
iff_both f g = (λ h. (f.0 h.0, g.0 h.1), λ h. (f.1 h.0, g.1 h.1))

iff_true : Iff (true ≡ true) (Unit {0})
iff_true = (λ h. tt, λ h. refl)

iff_false : Iff (false ≡ true) ⊥
iff_false = (false_true, λ h. absurd h)

iff_none : (n : ℕ) → Iff (Has 0 n) ⊥
iff_none n = (has_none n, λ h. absurd h)

pub iff_and : (a b : Bool) → Iff ((a && b) ≡ true) ((a ≡ true) × (b ≡ true))
iff_and true b = (λ h. (refl, h), λ h. h.1)
iff_and false b = (false_true, λ h. h.0)

pub iff_or : (a b : Bool) → Iff ((a || b) ≡ true) ((a ≡ true) ⊎ (b ≡ true))
iff_or true b = (λ h. inl refl, λ h. refl)
iff_or false b = (λ h. inr h, elim [ inl h ↦ false_true h | inr h ↦ h ])

pub iff_union : (s t n : ℕ) → Iff (Has (bit_or s t) n) (Has s n ⊎ Has t n)
iff_union s t n = (has_or s t n, elim [ inl h ↦ has_or_l s t n h | inr h ↦ has_or_r s t n h ])

pub iff_guarded : (t : Bool) (s n : ℕ) → Iff (Has (guarded t s) n) ((t ≡ true) × Has s n)
iff_guarded t s n = (has_guarded t s n, guarded_has t s n)

pub iff_member : (s n : ℕ) → Iff (has s n ≡ true) (Has s n)
iff_member s n = (eqb-true ((s / 2 ^ n) % 2) 1, eq-eqb ((s / 2 ^ n) % 2) 1)

module _ {A X : Type 0} (reads : ℕ → A → X → Type 0) (x : X) (from readers : ℕ) where
  -- What a value says of an expression.
  abbrev pub Knows : Exp A → ℕ → Derived → Type 0
  Knows e b d = Derives reads x (Has from) e b (d.nullable ≡ true) (d.ends ≡ true) (Has d.first) (Has d.next)

  -- The readers are those of the atoms that read the letter.
  abbrev pub Agrees : List A → ℕ → Type 0
  Agrees cs b = (n : ℕ) (a : A) → Numbered cs b n a → Iff (Has readers n) (reads n a x)

  agrees_left : (e f : Exp A) (b : ℕ) → Agrees (leaves e ++ leaves f) b → Agrees (leaves e) b
  agrees_left e f b h n a k = h n a ((numbered_append (leaves e) (leaves f) b n a).1 (inl k))

  agrees_right : (e f : Exp A) (b : ℕ) → Agrees (leaves e ++ leaves f) b → Agrees (leaves f) (b + atoms e)
  agrees_right e f b h n a k =
      h n a ((numbered_append (leaves e) (leaves f) b n a).1 (inr (subst (λ m. Numbered (leaves f) (b + m) n a) (sym (length_leaves e)) k)))

  first_single : (a : A) (b n : ℕ) → b + 1 ≤ 63 → Iff (Has readers (b + 1)) (reads (b + 1) a x) → Iff (Has (bit_and (singleton (b + 1)) readers) n) ((n ≡ b + 1) × reads (b + 1) a x)
  first_single a b n few is = (
    λ h. let k = has_and (singleton (b + 1)) readers n h in let e = has_single (b + 1) n (omega arith) k.0 in (e, is.0 (subst (Has readers) e k.1)),
    λ h. subst (Has (bit_and (singleton (b + 1)) readers)) (sym h.0) (and_has (singleton (b + 1)) readers (b + 1) (single_has (b + 1) (omega arith)) (is.1 h.1)),
  )

  pub computed : (e : Exp A) (b : ℕ) → b + atoms e ≤ 63 → Agrees (leaves e) b → Knows e b (value (derivation from readers) b e)
  computed empty b few is = derives_by reads x (Has from) empty b (derives_empty reads x (Has from) b) iff_true iff_false iff_none iff_none
  computed (atom a) b few is =
      derives_by reads x (Has from) (atom a) b (derives_atom reads x (Has from) a b) iff_false (iff_member from (b + 1)) (λ n. first_single a b n few (is (b + 1) a (inl (refl, refl)))) iff_none
  computed (seq e f) b few is =
      let l = computed e b (omega arith) (agrees_left e f b is) in
      let r = computed f (b + atoms e) (omega arith) (agrees_right e f b is) in
      let u = value (derivation from readers) b e in
      let v = value (derivation from readers) (b + atoms e) f in
      derives_by reads x (Has from) (seq e f) b (derives_seq reads x (Has from) e f b l r)
      (iff_and u.nullable v.nullable)
      (iff_then (iff_or (u.ends && v.nullable) v.ends) (iff_sum (iff_and u.ends v.nullable) iff_same))
      (λ n. iff_then (iff_union u.first (guarded u.nullable v.first) n) (iff_sum iff_same (iff_guarded u.nullable v.first n)))
      (λ n. iff_then (iff_union (bit_or u.next (guarded u.ends v.first)) v.next n) (iff_sum (iff_then (iff_union u.next (guarded u.ends v.first) n) (iff_sum iff_same (iff_guarded u.ends v.first n))) iff_same))
  computed (alt e f) b few is =
      let l = computed e b (omega arith) (agrees_left e f b is) in
      let r = computed f (b + atoms e) (omega arith) (agrees_right e f b is) in
      let u = value (derivation from readers) b e in
      let v = value (derivation from readers) (b + atoms e) f in
      derives_by reads x (Has from) (alt e f) b (derives_alt reads x (Has from) e f b l r)
      (iff_or u.nullable v.nullable)
      (iff_or u.ends v.ends)
      (iff_union u.first v.first)
      (iff_union u.next v.next)
  computed (star e) b few is =
      let i = value (derivation from readers) b e in
      derives_by reads x (Has from) (star e) b (derives_star reads x (Has from) e b (computed e b few is)) iff_true iff_same (λ n. iff_same)
      (λ n. iff_then (iff_union i.next (guarded i.ends i.first) n) (iff_sum iff_same (iff_guarded i.ends i.first n)))
  computed (plus e) b few is =
      let i = value (derivation from readers) b e in
      derives_by reads x (Has from) (plus e) b (derives_plus reads x (Has from) e b (computed e b few is)) iff_same iff_same (λ n. iff_same)
      (λ n. iff_then (iff_union i.next (guarded i.ends i.first) n) (iff_sum iff_same (iff_guarded i.ends i.first n)))
  computed (option e) b few is =
      derives_by reads x (Has from) (option e) b (derives_option reads x (Has from) e b (computed e b few is)) iff_true iff_same (λ n. iff_same) (λ n. iff_same)

-- Whether the empty word is left does not hang on a letter.
module _ {A X : Type 0} (reads : ℕ → A → X → Type 0) (from readers : ℕ) where
  pub nullable_computed : (e : Exp A) (b : ℕ) → Iff ((value (derivation from readers) b e).nullable ≡ true) (In reads e b [])
  nullable_computed empty b = (λ h. refl, λ h. refl)
  nullable_computed (atom a) b = (false_true, λ h. let e = h.2 in let z : ◌≡◌ {A = ℕ} 0 1 = cc in absurd (omega arith))
  nullable_computed (seq e f) b =
      let l = nullable_computed e b in
      let r = nullable_computed f (b + atoms e) in
      let u = (value (derivation from readers) b e).nullable in
      let v = (value (derivation from readers) (b + atoms e) f).nullable in (
        λ h. let k = (iff_and u v).0 h in then_skip [] (l.0 k.0) (r.0 k.1),
        λ h. let k = then_nil h in (iff_and u v).1 (l.1 k.0, r.1 k.1),
      )
  nullable_computed (alt e f) b =
      iff_then (iff_or (value (derivation from readers) b e).nullable (value (derivation from readers) (b + atoms e) f).nullable)
      (iff_sum (nullable_computed e b) (nullable_computed f (b + atoms e)))
  nullable_computed (star e) b = (λ h. done refl, λ h. refl)
  nullable_computed (plus e) b =
      let i = nullable_computed e b in (λ h. then_skip [] (i.0 h) (done refl), λ h. i.1 (then_nil h).0)
  nullable_computed (option e) b = (λ h. inl refl, λ h. refl)

  pub ends_computed : (e : Exp A) (b : ℕ) → Iff ((value (derivation from readers) b e).ends ≡ true) (Rest reads e b (Has from) [])
  ends_computed empty b = iff_false
  ends_computed (atom a) b = let m = iff_member from (b + 1) in (λ h. (m.0 h, refl), λ h. m.1 h.0)
  ends_computed (seq e f) b =
      let l = ends_computed e b in
      let n = nullable_computed f (b + atoms e) in
      let u = value (derivation from readers) b e in
      let v = value (derivation from readers) (b + atoms e) f in
      iff_then (iff_or (u.ends && v.nullable) v.ends)
      (iff_sum (
        λ h. let k = (iff_and u.ends v.nullable).0 h in then_skip [] (l.0 k.0) (n.0 k.1),
        λ h. let k = then_nil h in (iff_and u.ends v.nullable).1 (l.1 k.0, n.1 k.1),
      )
      (ends_computed f (b + atoms e)))
  ends_computed (alt e f) b =
      iff_then (iff_or (value (derivation from readers) b e).ends (value (derivation from readers) (b + atoms e) f).ends)
      (iff_sum (ends_computed e b) (ends_computed f (b + atoms e)))
  ends_computed (star e) b = let i = ends_computed e b in (λ h. then_skip [] (i.0 h) (done refl), λ h. i.1 (then_nil h).0)
  ends_computed (plus e) b = let i = ends_computed e b in (λ h. then_skip [] (i.0 h) (done refl), λ h. i.1 (then_nil h).0)
  ends_computed (option e) b = ends_computed e b
