-- Reading the follow table: its rows and atoms give the words that go on with a letter, and those that end.
use Rattle.std.proofs.Common.{◌≡◌, ℕ, zero, suc, ◌+◌, ◌-◌, ◌*◌, ◌/◌, ◌%◌, ◌^◌, ◌<◌, ◌≤◌, Bool, true, false, ◌&&◌, eqb, ◌≢◌, ◌⊎◌, List, [], ◌∷◌, get_or, Some, None, Option, MatchOption, not, sym, refl, ap, ◌∙◌, subst, inl, inr, add-zero, div-one, arith, eq-eqb, eqb-true}
use borrow.Author.Tests.{eqb-false}
use Rattle.std.specs.Bool.{then_some}
use Rattle.engine.specs.Languages.{Empty, Answers, Decides, residue}
use Rattle.models.specs.Expressions.{Exp, atoms, Words}
use Rattle.models.specs.Folds.{code}
use Rattle.models.specs.Readers.{atoms_of, Numbered}
use Rattle.models.specs.Rests.{Rest}
use Rattle.bits.specs.Sets.{Has, has, singleton, guarded}
use Rattle.models.specs.Tables.{Coded, Left, ModelWords, ModelRest}
use Rattle.models.specs.declared.node.Model.{Model}
use Rattle.models.specs.declared.node.Node.{Node}
use Rattle.models.specs.declared.node.Node.TheVariants as node
use Rattle.bits.proofs.Bits.{has_or, has_or_l, has_or_r, has_none, has_power, has_guarded, guarded_has, has_small, single_has, some_bit}
use Rattle.bits.proofs.Sets.{has_zero}
use Rattle.models.proofs.Derivation.{Iff}
use Rattle.models.proofs.ModelTables.{coded_or_not}
use Rattle.models.proofs.Numbering.{leaves, length_leaves, numbered_in, numbered_one, numbered_some, coded_leaves}
use Rattle.models.proofs.Rests.{rest_mono, rest_or, rest_some, rest_guard, rest_each, word}
use Rattle.derivative.specs.Derivation.{after_state, ends_in}
use Rattle.derivative.proofs.Knowing.{iff_member, iff_and, iff_or, iff_then, nullable_computed, ends_computed}
use Rattle.derivative.proofs.Stepping.{ends_decided, begin_some, step_none, step_some}
use Rattle.positions.specs.Following.{everything, row, Followed, Blank, Placed, Spare}
use Rattle.positions.specs.Walks.{Based, Reads, Kept, Union}
use Rattle.positions.proofs.Splitting.{one, single_is, first_same, Tells, First, Next, Split, split}

bit_zero : (u : ℕ) → Iff (eqb (u % 2) 1 ≡ true) (Has u 0)
bit_zero u = (
  λ h. ap (λ v. v % 2) (div-one u) ∙ eqb-true (u % 2) 1 h,
  λ h. eq-eqb (u % 2) 1 (ap (λ v. v % 2) (sym (div-one u)) ∙ h),
)

-- The bits of a row.
module _ {A : Type 0} (e : Exp A) (few : atoms e ≤ 63) where
  pub after_in : (p n : ℕ) → Has (after_state (singleton p) (one p 0 e)) n → (0 < n) × (n ≤ 0 + atoms e)
  after_in p n h =
      let d = split {A = A} {X = Unit {0}} (λ k a u. Unit {0}) tt (λ q. q ≡ p) (λ k. Unit {0}) e 0 (omega arith) (λ k a m. (λ u. tt, λ u. tt)) in
      elim (has_or (guarded (has (singleton p) 0) (one p 0 e).first) (one p 0 e).next n h) [
        | inl k ↦ d.first_in n (subst (λ t. Has t n) (first_same p 0 0 e) (has_guarded (has (singleton p) 0) (one p 0 e).first n k).1, tt)
        | inr k ↦ d.next_in n ((p, refl, k), tt)
      ]

  pub row_next : (p n : ℕ) → 0 < n → Has (row e p) n → Has (after_state (singleton p) (one p 0 e)) n
  row_next p n some h =
      elim (has_or (after_state (singleton p) (one p 0 e)) (guarded (ends_in (singleton p) (one p 0 e)) 1) n h) [
        | inl k ↦ k
        | inr k ↦ let z = has_power 0 n (has_guarded (ends_in (singleton p) (one p 0 e)) 1 n k).1 in absurd (omega arith)
      ]

  pub next_row : (p n : ℕ) → Has (after_state (singleton p) (one p 0 e)) n → Has (row e p) n
  next_row p n h = has_or_l (after_state (singleton p) (one p 0 e)) (guarded (ends_in (singleton p) (one p 0 e)) 1) n h

  pub row_end : (p : ℕ) → Iff (Has (row e p) 0) (ends_in (singleton p) (one p 0 e) ≡ true)
  row_end p = (
    λ h. elim (has_or (after_state (singleton p) (one p 0 e)) (guarded (ends_in (singleton p) (one p 0 e)) 1) 0 h) [
      | inl k ↦ let z = after_in p 0 k in absurd (omega arith)
      | inr k ↦ (has_guarded (ends_in (singleton p) (one p 0 e)) 1 0 k).0
    ],
    λ h. has_or_r (after_state (singleton p) (one p 0 e)) (guarded (ends_in (singleton p) (one p 0 e)) 1) 0 (guarded_has (ends_in (singleton p) (one p 0 e)) 1 0 (h, refl)),
  )

-- One number of the table, with its expression.
module _ {A X : Type 0} (stands : A → X → Type 0) (nodes : List (Node A)) (models : List Model) (rows : List ℕ) (places : List (Node A)) (number base : ℕ) (from_one : 1 ≤ number) (starts : base ≡ 64 * (number - 1)) (e : Exp A) (coded : Coded nodes models number e) where
  few : atoms e ≤ 63
  few = coded.codes.few

  at_place : (p : ℕ) → p < 64 → ((base + p) / 64 + 1 ≡ number) × ((base + p) % 64 ≡ p)
  at_place p lt = (omega arith, omega arith)

  coded_at : (p : ℕ) → p < 64 → Coded nodes models ((base + p) / 64 + 1) e
  coded_at p lt = subst (λ k. Coded nodes models k e) (sym (at_place p lt).0) coded

  module _ (followed : Followed nodes models rows) where
    pub row_is : (p : ℕ) → p < 64 → get_or rows (base + p) 0 ≡ row e p
    row_is p lt = followed (base + p) e (coded_at p lt) ∙ ap (row e) (at_place p lt).1

    -- Where a word may end.
    pub end_told : (s u : ℕ) → s < 2 ^ 64 → Union rows base s u → Iff (Has u 0) (Left stands e s [])
    end_told s u fits union = (
      λ h.
          let (p, sp, r) = (union 0).0 h in
          let k = (row_end e few p).0 (subst (λ t. Has t 0) (row_is p (has_small s p fits sp)) r) in
          elim ((iff_or (has (singleton p) 0 && (one p 0 e).nullable) (one p 0 e).ends).0 k) [
            | inl m ↦
                let g = (iff_and (has (singleton p) 0) (one p 0 e).nullable).0 m in
                let z = single_is p 0 ((iff_member (singleton p) 0).0 g.0) in
                inl (subst (Has s) (sym z) sp, (nullable_computed (λ n. stands) (singleton p) everything e 0).0 g.1)
            | inr m ↦
                let g = (ends_computed (λ n. stands) (singleton p) everything e 0).0 m in
                inr (rest_mono (λ n. stands) e 0 (λ n lo hi b. subst (Has s) (sym (single_is p n b)) sp) [] g)
          ],
      elim [
        | inl h ↦
            let m = (nullable_computed (λ n. stands) (singleton 0) everything e 0).1 h.1 in
            let t = (iff_or (has (singleton 0) 0 && (one 0 0 e).nullable) (one 0 0 e).ends).1 (inl ((iff_and (has (singleton 0) 0) (one 0 0 e).nullable).1 (refl, m))) in
            (union 0).1 (0, h.0, subst (λ r. Has r 0) (sym (row_is 0 (omega arith))) ((row_end e few 0).1 t))
        | inr h ↦
            let (p, sp, k) = rest_each (λ n. stands) e 0 [] h in
            let lt = has_small s p fits sp in
            let m = (ends_computed (λ n. stands) (singleton p) everything e 0).1 (rest_mono (λ n. stands) e 0 (λ n lo hi b. subst (Has (singleton p)) (sym b) (single_has p lt)) [] k) in
            let t = (iff_or (has (singleton p) 0 && (one p 0 e).nullable) (one p 0 e).ends).1 (inr m) in
            (union 0).1 (p, sp, subst (λ r. Has r 0) (sym (row_is p lt)) ((row_end e few p).1 t))
      ],
    )

    module _ (placed : Placed nodes models places) (spare : Spare nodes models places) (x : X) where
      -- The atom reads the letter.
      abbrev Q : ℕ → Type 0
      Q n = (a : A) × Numbered (leaves e) 0 n a × stands a x

      tells : Tells (λ n. stands) x (λ n. Unit {0}) Q (leaves e) 0
      tells n a k = (λ h. subst (λ c. stands c x) (numbered_one (leaves e) 0 n h.0 a h.1 k) h.2, λ h. (a, k, h))

      atom_is : (n : ℕ) (a : A) → n < 64 → Numbered (leaves e) 0 n a → get_or places (base + n) node.Unused ≡ node.Atom a
      atom_is n a lt k =
          placed (base + n) a (e, coded_at n lt, subst (λ m. Numbered (atoms_of (code e)) 0 m a) (sym (at_place n lt).1) (subst (λ cs. Numbered cs 0 n a) (sym (coded_leaves e)) k))

      no_zero : Reads stands (get_or places (base + 0) node.Unused) x → ⊥
      no_zero h =
          let none = spare (base + 0) e (coded_at 0 (omega arith), λ a k. let z = numbered_in (atoms_of (code e)) 0 ((base + 0) % 64) a k in let y = (at_place 0 (omega arith)).1 in omega arith) in
          let c = sym none ∙ h.1 in
          let z : ◌≡◌ {A = ℕ} 0 1 = cc in
          omega arith

      reads_q : (n : ℕ) → n ≤ atoms e → 0 < n → Reads stands (get_or places (base + n) node.Unused) x → Q n
      reads_q n hi lo h =
          let len = length_leaves e in
          let f = few in
          let (a, k) = numbered_some (leaves e) 0 n (omega arith) (omega arith) in
          let c = sym (atom_is n a (omega arith) k) ∙ h.1 in
          let same : h.0 ≡ a = cc in
          (a, k, subst (λ b. stands b x) same h.2)

      -- The atoms kept are those that may read the letter first, at the beginning, or next.
      module _ (s u k : ℕ) (fits : s < 2 ^ 64) (union : Union rows base s u) (kept : Kept stands places base x u k) where
        abbrev Reached : ℕ → Type 0
        Reached n = (Has s 0 × First (λ n. stands) x (Has s) Q e 0 n) ⊎ Next (λ n. stands) x (Has s) Q e 0 n

        kept_row : (n : ℕ) → Has k n → (p : ℕ) × Has s p × Has (row e p) n
        kept_row n h =
            let (p, sp, r) = (union n).0 ((kept n).0 h).0 in (p, sp, subst (λ t. Has t n) (row_is p (has_small s p fits sp)) r)

        kept_in : (n : ℕ) → Has k n → (0 < n) × (n ≤ 0 + atoms e)
        kept_in zero h = absurd (no_zero ((kept 0).0 h).1)
        kept_in (suc n) h = let (p, sp, r) = kept_row (suc n) h in after_in e few p (suc n) (row_next e few p (suc n) (omega arith) r)

        kept_reached : (n : ℕ) → Has k n → Reached n
        kept_reached n h =
            let inside = kept_in n h in
            let (p, sp, r) = kept_row n h in
            let q = reads_q n (omega (arith, inside.1)) inside.0 ((kept n).0 h).1 in
            elim (has_or (guarded (has (singleton p) 0) (one p 0 e).first) (one p 0 e).next n (row_next e few p n inside.0 r)) [
              | inl m ↦
                  let g = has_guarded (has (singleton p) 0) (one p 0 e).first n m in
                  let z = single_is p 0 ((iff_member (singleton p) 0).0 g.0) in
                  inl (subst (Has s) (sym z) sp, (subst (λ t. Has t n) (first_same p 0 0 e) g.1, q))
              | inr m ↦ inr ((p, sp, m), q)
            ]

        q_small : (n : ℕ) → Q n → n < 64
        q_small n q = let i = numbered_in (leaves e) 0 n q.0 q.1 in let l = length_leaves e in let f = few in omega arith

        keeps : (n p : ℕ) → Has s p → Has (after_state (singleton p) (one p 0 e)) n → Q n → Has k n
        keeps n p sp h q =
            (kept n).1 (
              (union n).1 (p, sp, subst (λ t. Has t n) (sym (row_is p (has_small s p fits sp))) (next_row e few p n h)),
              (q.0, atom_is n q.0 (q_small n q) q.1, q.2),
            )

        reached_kept : (n : ℕ) → Reached n → Has k n
        reached_kept n (inl h) = keeps n 0 h.0 (has_or_l (guarded (has (singleton 0) 0) (one 0 0 e).first) (one 0 0 e).next n h.1.0) h.1.1
        reached_kept n (inr h) =
            let (p, sp, m) = h.0 in
            keeps n p sp (has_or_r (guarded (has (singleton p) 0) (one p 0 e).first) (one p 0 e).next n m) h.1

        law : Split (λ n. stands) x (Has s) Q e 0
        law = let f = few in split (λ n. stands) x (Has s) Q e 0 (omega arith) tells

        pub step_told : (w : List X) → Iff (Left stands e s (x ∷ w)) (Rest (λ n. stands) e 0 (Has k) w)
        step_told w = (
          elim [
            | inl h ↦ rest_mono (λ n. stands) e 0 (λ n lo hi f. reached_kept n (inl (h.0, f))) w ((law.first_is w).1 h.1)
            | inr h ↦ rest_mono (λ n. stands) e 0 (λ n lo hi f. reached_kept n (inr f)) w ((law.next_is w).1 h)
          ],
          λ h.
              elim (rest_or (λ n. stands) e 0 (λ n. Has s 0 × First (λ n. stands) x (Has s) Q e 0 n) (Next (λ n. stands) x (Has s) Q e 0) w (rest_mono (λ n. stands) e 0 (λ n lo hi f. kept_reached n f) w h)) [
                | inl m ↦ let g = rest_guard (λ n. stands) e 0 (Has s 0) (First (λ n. stands) x (Has s) Q e 0) w m in inl (g.0, (law.first_is w).0 g.1)
                | inr m ↦ inr ((law.next_is w).0 m)
              ],
        )

        pub step_in : (n : ℕ) → Has k n → (0 < n) × (n ≤ 0 + atoms e)
        step_in = kept_in

    -- The row of the beginning is never empty.
    pub begins : (alive : (a : A) → (x : X) × stands a x) → get_or rows base 0 ≡ 0 → ⊥
    begins alive none =
        let zero_row : row e 0 ≡ 0 = sym (row_is 0 (omega arith)) ∙ ap (λ i. get_or rows i 0) (add-zero base) ∙ none in
        let (w, r) = word (λ n. stands) (λ n. alive) e 0 in
        go zero_row w r
      where
        go : row e 0 ≡ 0 → (w : List X) → Words stands e w → ⊥
        go z [] r =
            let m = (nullable_computed (λ n. stands) (singleton 0) everything e 0).1 r in
            let t = (iff_or (has (singleton 0) 0 && (one 0 0 e).nullable) (one 0 0 e).ends).1 (inl ((iff_and (has (singleton 0) 0) (one 0 0 e).nullable).1 (refl, m))) in
            has_none 0 (subst (λ v. Has v 0) z ((row_end e few 0).1 t))
        go z (x ∷ w) r =
            let small = few in
            let d = split (λ n. stands) x (λ n. ⊥) (λ n. (a : A) × Numbered (leaves e) 0 n a × stands a x) e 0 (omega arith) (λ n a k. (λ h. subst (λ c. stands c x) (numbered_one (leaves e) 0 n h.0 a h.1 k) h.2, λ h. (a, k, h))) in
            let (n, lo, hi, f) = rest_some (λ n. stands) e 0 w ((d.first_is w).1 r) in
            has_none n (subst (λ v. Has v n) z (next_row e few 0 n (has_or_l (guarded (has (singleton 0) 0) (one 0 0 e).first) (one 0 0 e).next n f.0)))

-- The answers of the engine, whether or not the number has an expression.
module _ {A X : Type 0} (stands : A → X → Type 0) (nodes : List (Node A)) (models : List Model) (rows : List ℕ) (number base : ℕ) (from_one : 1 ≤ number) (starts : base ≡ 64 * (number - 1)) (followed : Followed nodes models rows) (blank : Blank nodes models rows) where
  zero_row : ((e : Exp A) → Coded nodes models number e → ⊥) → (p : ℕ) → p < 64 → get_or rows (base + p) 0 ≡ 0
  zero_row never p lt =
      let same : (base + p) / 64 + 1 ≡ number = omega arith in
      blank (base + p) (λ e c. never e (subst (λ k. Coded nodes models k e) same c))

  no_union : ((e : Exp A) → Coded nodes models number e → ⊥) → (s u n : ℕ) → s < 2 ^ 64 → Union rows base s u → Has u n → ⊥
  no_union never s u n fits union h =
      let (p, sp, r) = (union n).0 h in has_none n (subst (λ t. Has t n) (zero_row never p (has_small s p fits sp)) r)

  pub ends_answer : (s u : ℕ) → s < 2 ^ 64 → Union rows base s u → Decides (eqb (u % 2) 1) (ModelRest stands nodes models number s [])
  ends_answer s u fits union =
      elim (coded_or_not nodes models number) [
        | inl (e, c) ↦ ends_decided stands nodes models number e c s (eqb (u % 2) 1) (iff_then (bit_zero u) (end_told stands nodes models rows [] number base from_one starts e c followed s u fits union))
        | inr never ↦ undecided (eqb (u % 2) 1) (λ t. no_union never s u 0 fits union ((bit_zero u).0 t)) never
      ]
    where
      undecided : (t : Bool) → (t ≡ true → ⊥) → ((e : Exp A) → Coded nodes models number e → ⊥) → Decides t (ModelRest stands nodes models number s [])
      undecided true not_so never = absurd (not_so refl)
      undecided false not_so never = λ h. never h.0 h.1

  module _ (alive : (a : A) → (x : X) × stands a x) where
    pub open_none : get_or rows base 0 ≡ 0 → Empty (ModelWords stands nodes models number)
    open_none none w h = begins stands nodes models rows [] number base from_one starts h.0 h.1 followed alive none

    pub open_some : get_or rows base 0 ≢ 0 → Answers (ModelWords stands nodes models number) (ModelRest stands nodes models number) (Some 1)
    open_some some =
        elim (coded_or_not nodes models number) [
          | inl (e, c) ↦ begin_some stands nodes models number e c alive
          | inr never ↦ absurd (some (ap (λ i. get_or rows i 0) (sym (add-zero base)) ∙ zero_row never 0 (omega arith)))
        ]

    -- The engine opens where the row of the beginning is not empty.
    pub open_answer : (r : Option ℕ) → r ≡ then_some (not (eqb (get_or rows base 0) 0)) 1 → Answers (ModelWords stands nodes models number) (ModelRest stands nodes models number) r
    open_answer r is = subst (Answers (ModelWords stands nodes models number) (ModelRest stands nodes models number)) (sym is) (told (eqb (get_or rows base 0) 0) refl)
      where
        told : (t : Bool) → eqb (get_or rows base 0) 0 ≡ t → Answers (ModelWords stands nodes models number) (ModelRest stands nodes models number) (then_some (not t) 1)
        told true e = open_none (eqb-true (get_or rows base 0) 0 e)
        told false e = open_some (eqb-false (get_or rows base 0) 0 e)

    module _ (places : List (Node A)) (placed : Placed nodes models places) (spare : Spare nodes models places) (x : X) (s u k : ℕ) (fits : s < 2 ^ 64) (union : Union rows base s u) (kept : Kept stands places base x u k) where
      pub step_nothing : k ≡ 0 → Empty (residue (ModelRest stands nodes models number s) (x ∷ []))
      step_nothing none w h =
          step_none stands nodes models number h.0 h.1 x s k (step_told stands nodes models rows places number base from_one starts h.0 h.1 followed placed spare x s u k fits union kept) none w h

      pub step_something : k < 2 ^ 64 → k ≢ 0 → Answers (residue (ModelRest stands nodes models number s) (x ∷ [])) (ModelRest stands nodes models number) (Some k)
      step_something small some =
          elim (coded_or_not nodes models number) [
            | inl (e, c) ↦
                step_some stands nodes models number e c alive x s k
                (step_told stands nodes models rows places number base from_one starts e c followed placed spare x s u k fits union kept)
                (step_in stands nodes models rows places number base from_one starts e c followed placed spare x s u k fits union kept)
                small some
            | inr never ↦ let (n, h) = some_bit 64 k small some in absurd (no_union never s u n fits union ((kept n).0 h).0)
          ]

      -- A step answers the atoms kept, where there are any.
      pub step_answer : k < 2 ^ 64 → (r : Option ℕ) → r ≡ then_some (not (eqb k 0)) k → Answers (residue (ModelRest stands nodes models number s) (x ∷ [])) (ModelRest stands nodes models number) r
      step_answer small r is = subst (Answers (residue (ModelRest stands nodes models number s) (x ∷ [])) (ModelRest stands nodes models number)) (sym is) (told (eqb k 0) refl)
        where
          told : (t : Bool) → eqb k 0 ≡ t → Answers (residue (ModelRest stands nodes models number s) (x ∷ [])) (ModelRest stands nodes models number) (then_some (not t) k)
          told true e = step_nothing (eqb-true k 0 e)
          told false e = step_something small (eqb-false k 0 e)

-- A word may end by the rows of a number that has a record, and by no other.
pub ends_found : {A X : Type 0} (stands : A → X → Type 0) (nodes : List (Node A)) (models : List Model) (rows : List ℕ) (number : ℕ) → Followed nodes models rows → Blank nodes models rows → (s : ℕ) → s < 2 ^ 64 → (o : Option ℕ) → Based models number o → (b : Bool) → MatchOption o (b ≡ false) (λ base. (u : ℕ) × Union rows base s u × (b ≡ has u 0)) → Decides b (ModelRest stands nodes models number s [])
ends_found stands nodes models rows number followed blank s fits None none b ended =
    rw ended (λ h. let c = h.1 in elim none [ inl low ↦ absurd (omega (arith, c.from_one)) | inr high ↦ absurd (omega (arith, c.listed)) ])
ends_found stands nodes models rows number followed blank s fits (Some base) based b (u, union, is) =
    rw (is ∙ has_zero u) (ends_answer stands nodes models rows number base based.0 based.2 followed blank s u fits union)
