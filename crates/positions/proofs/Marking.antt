-- The rows are what marked words say: which atom may come straight after which, and where a word may end.
use Rattle.std.proofs.Common.{◌≡◌, ℕ, ◌+◌, ◌-◌, ◌*◌, ◌<◌, ◌≤◌, true, ◌&&◌, ◌⊎◌, List, [], ◌∷◌, ◌++◌, get_or, sym, refl, ap, ◌∙◌, subst, inl, inr, append_assoc, append-nil, arith}
use Rattle.models.specs.Expressions.{Exp, empty, atom, seq, alt, star, plus, option, atoms, In, more}
use Rattle.models.specs.Marks.{Mark, ReadsMarked, UpTo, Follows, EndsAfter}
use Rattle.models.specs.Readers.{Numbered}
use Rattle.models.specs.Rests.{Rest}
use Rattle.bits.specs.Sets.{Has, has, singleton, guarded}
use Rattle.bits.proofs.Bits.{has_or, has_or_l, has_or_r, has_guarded, guarded_has, single_has}
use Rattle.models.proofs.Derivation.{Iff}
use Rattle.models.proofs.Numbering.{leaves, length_leaves, numbered_one, numbered_some}
use Rattle.models.proofs.Rests.{rest_mono, rest_some, rest_live, word}
use Rattle.derivative.specs.Derivation.{ends_in}
use Rattle.derivative.proofs.Knowing.{iff_member, iff_and, iff_or, nullable_computed, ends_computed}
use Rattle.models.specs.declared.node.Model.{Model}
use Rattle.models.specs.declared.node.Node.{Node}
use Rattle.positions.specs.Following.{everything, row, Followed, Blank, FollowRows}
use Rattle.positions.proofs.Reading.{after_in, row_next, next_row, row_end, row_is}
use Rattle.positions.proofs.Splitting.{one, single_is, first_same, First, Next, Split, split}

module _ {A X : Type 0} (stands : A → X → Type 0) (alive : (a : A) → (x : X) × stands a x) where
  pub live : (n : ℕ) (a : A) → (m : Mark X) × ReadsMarked stands n a m
  live n a = let (x, s) = alive a in ((x, n), (s, refl))

  -- Whatever may follow an atom is reached by some marked word that ends with it.
  reach : (e : Exp A) (b p : ℕ) (w : List (Mark X)) → Rest (ReadsMarked stands) e b (λ n. n ≡ p) w → (u : List (Mark X)) × (x : X) × In (ReadsMarked stands) e b (u ++ ((x, p) ∷ w))
  reach empty b p w h = absurd h
  reach (atom a) b p w (s, e) = let (x, k) = alive a in ([], x, ((x, p), (k, sym s), ap (λ t. (x, p) ∷ t) e))
  reach (seq e f) b p w (inl (u₁, v, s, l, m)) =
      let (u, x, k) = reach e b p u₁ l in
      (u, x, (u ++ ((x, p) ∷ u₁), v, ap (λ t. u ++ ((x, p) ∷ t)) s ∙ sym (append_assoc u ((x, p) ∷ u₁) v), k, m))
  reach (seq e f) b p w (inr h) =
      let (u, x, k) = reach f (b + atoms e) p w h in
      let (v, r) = word (ReadsMarked stands) live e b in
      (v ++ u, x, (v, u ++ ((x, p) ∷ w), append_assoc v u ((x, p) ∷ w), r, k))
  reach (alt e f) b p w (inl h) = let (u, x, k) = reach e b p w h in (u, x, inl k)
  reach (alt e f) b p w (inr h) = let (u, x, k) = reach f (b + atoms e) p w h in (u, x, inr k)
  reach (star e) b p w (u₁, v, s, l, m) =
      let (u, x, k) = reach e b p u₁ l in
      (u, x, more (u ++ ((x, p) ∷ u₁)) v (ap (λ t. u ++ ((x, p) ∷ t)) s ∙ sym (append_assoc u ((x, p) ∷ u₁) v)) k m)
  reach (plus e) b p w (u₁, v, s, l, m) =
      let (u, x, k) = reach e b p u₁ l in
      (u, x, (u ++ ((x, p) ∷ u₁), v, ap (λ t. u ++ ((x, p) ∷ t)) s ∙ sym (append_assoc u ((x, p) ∷ u₁) v), k, m))
  reach (option e) b p w h = let (u, x, k) = reach e b p w h in (u, x, inr k)

  module _ (e : Exp A) (few : atoms e ≤ 63) where
    -- The atom reads the marked letter.
    abbrev pub Q : Mark X → ℕ → Type 0
    Q m n = (a : A) × Numbered (leaves e) 0 n a × ReadsMarked stands n a m

    pub law : (S : ℕ → Type 0) (m : Mark X) → Split (ReadsMarked stands) m S (Q m) e 0
    law S m =
        split (ReadsMarked stands) m S (Q m) e 0 (omega arith)
        (λ n a k. (λ h. subst (λ c. ReadsMarked stands n c m) (numbered_one (leaves e) 0 n h.0 a h.1 k) h.2, λ h. (a, k, h)))

    -- What is left after reading on from the beginning or from a set.
    abbrev pub Going : Type 0 → (ℕ → Type 0) → List (Mark X) → Type 0
    Going B S w = (B × In (ReadsMarked stands) e 0 w) ⊎ Rest (ReadsMarked stands) e 0 S w

    abbrev pub On : Type 0 → (ℕ → Type 0) → Mark X → ℕ → Type 0
    On B S m n = (B × First (ReadsMarked stands) m S (Q m) e 0 n) ⊎ Next (ReadsMarked stands) m S (Q m) e 0 n

    pub go_on : (B : Type 0) (S : ℕ → Type 0) (m : Mark X) (w : List (Mark X)) → Going B S (m ∷ w) → Rest (ReadsMarked stands) e 0 (On B S m) w
    go_on B S m w (inl h) = rest_mono (ReadsMarked stands) e 0 (λ n lo hi k. inl (h.0, k)) w (((law S m).first_is w).1 h.1)
    go_on B S m w (inr h) = rest_mono (ReadsMarked stands) e 0 (λ n lo hi k. inr k) w (((law S m).next_is w).1 h)

    on_mark : (B : Type 0) (S : ℕ → Type 0) (m : Mark X) (n : ℕ) → On B S m n → n ≡ m.1
    on_mark B S m n (inl h) = sym h.1.1.2.1
    on_mark B S m n (inr h) = sym h.1.2.1

    read_marks : (B : Type 0) (S : ℕ → Type 0) (u : List (Mark X)) (m : Mark X) (w : List (Mark X)) → Going B S (u ++ (m ∷ w)) → Rest (ReadsMarked stands) e 0 (λ n. n ≡ m.1) w
    read_marks B S [] m w h = rest_mono (ReadsMarked stands) e 0 (λ n lo hi k. on_mark B S m n k) w (go_on B S m w h)
    read_marks B S (y ∷ u) m w h = read_marks ⊥ (On B S y) u m w (inr (go_on B S y (u ++ (m ∷ w)) h))

    -- After a marked word that was read up to p.
    pub up_to : (p : ℕ) (u w : List (Mark X)) → UpTo p u → In (ReadsMarked stands) e 0 (u ++ w) → Going (p ≡ 0) (λ n. n ≡ p) w
    up_to p u w (inl (z, none)) h = inl (z, subst (λ t. In (ReadsMarked stands) e 0 (t ++ w)) none h)
    up_to p u w (inr (u', x, is)) h =
        inr (read_marks (Unit {0}) (λ n. ⊥) u' (x, p) w (inl (tt, subst (In (ReadsMarked stands) e 0) (ap (λ t. t ++ w) is ∙ append_assoc u' ((x, p) ∷ []) w) h)))

    from_going : (p : ℕ) (w : List (Mark X)) → Going (p ≡ 0) (λ n. n ≡ p) w → (u : List (Mark X)) × UpTo p u × In (ReadsMarked stands) e 0 (u ++ w)
    from_going p w (inl (z, h)) = ([], inl (z, refl), h)
    from_going p w (inr h) =
        let (u, x, k) = reach e 0 p w h in
        (u ++ ((x, p) ∷ []), inr (u, x, refl), subst (In (ReadsMarked stands) e 0) (sym (append_assoc u ((x, p) ∷ []) w)) k)

    -- From an atom that may read a marked letter to a word that goes on with it.
    pub goes : (p : ℕ) (m : Mark X) (q : ℕ) → On (p ≡ 0) (λ n. n ≡ p) m q → 0 < q → q ≤ 0 + atoms e → (v : List (Mark X)) × Going (p ≡ 0) (λ n. n ≡ p) (m ∷ v)
    goes p m q (inl h) lo hi =
        let (v, r) = rest_live (ReadsMarked stands) live e 0 (First (ReadsMarked stands) m (λ n. n ≡ p) (Q m) e 0) q lo hi h.1 in
        (v, inl (h.0, ((law (λ n. n ≡ p) m).first_is v).0 r))
    goes p m q (inr h) lo hi =
        let (v, r) = rest_live (ReadsMarked stands) live e 0 (Next (ReadsMarked stands) m (λ n. n ≡ p) (Q m) e 0) q lo hi h in
        (v, inr (((law (λ n. n ≡ p) m).next_is v).0 r))

    pub bit : (p q : ℕ) (x : X) (n : ℕ) → p ≤ 63 → On (p ≡ 0) (λ k. k ≡ p) (x, q) n → Has (row e p) q
    bit p q x n small (inl h) =
        let same : n ≡ q = sym h.1.1.2.1 in
        let first = subst (λ v. Has v n) (first_same 0 p 0 e) h.1.0 in
        let begin : has (singleton p) 0 ≡ true = (iff_member (singleton p) 0).1 (subst (λ k. Has (singleton k) 0) (sym h.0) refl) in
        subst (Has (row e p)) same (next_row e few p n (has_or_l (guarded (has (singleton p) 0) (one p 0 e).first) (one p 0 e).next n (guarded_has (has (singleton p) 0) (one p 0 e).first n (begin, first))))
    bit p q x n small (inr h) =
        let same : n ≡ q = sym h.1.2.1 in
        let (r, is, g) = h.0 in
        subst (Has (row e p)) same (next_row e few p n (has_or_r (guarded (has (singleton p) 0) (one p 0 e).first) (one p 0 e).next n (subst (λ k. Has (one k 0 e).next n) is g)))

    pub back : (p q : ℕ) (x : X) (v : List (Mark X)) → p ≤ 63 → Going (p ≡ 0) (λ n. n ≡ p) ((x, q) ∷ v) → Has (row e p) q
    back p q x v small h =
        let (n, lo, hi, on) = rest_some (ReadsMarked stands) e 0 v (go_on (p ≡ 0) (λ n. n ≡ p) (x, q) v h) in
        bit p q x n small on

    -- An atom in a row that reads a marked letter with its number.
    pub on_row : (p q : ℕ) (x : X) → 0 < q → Has (row e p) q → Q (x, q) q → On (p ≡ 0) (λ n. n ≡ p) (x, q) q
    on_row p q x some h reads =
        elim (has_or (guarded (has (singleton p) 0) (one p 0 e).first) (one p 0 e).next q (row_next e few p q some h)) [
          | inl g ↦
              let t = has_guarded (has (singleton p) 0) (one p 0 e).first q g in
              inl (sym (single_is p 0 ((iff_member (singleton p) 0).0 t.0)), (subst (λ v. Has v q) (first_same p 0 0 e) t.1, reads))
          | inr g ↦ inr ((p, refl, g), reads)
        ]

    -- The bits of a row from 1 on.
    pub row_follows : (p q : ℕ) → p ≤ 63 → 0 < q → Iff (Has (row e p) q) (Follows stands e p q)
    row_follows p q small some = (
      λ h.
          let k = row_next e few p q some h in
          let inside = after_in e few p q k in
          let len = length_leaves e in
          let (a, num) = numbered_some (leaves e) 0 q (omega arith) (omega arith) in
          let (x, s) = alive a in
          let m : Mark X = (x, q) in
          let reads : Q m q = (a, num, (s, refl)) in
          let on = on_row p q x some h reads in
          let (v, going) = goes p m q on inside.0 inside.1 in
          let (u, up, r) = from_going p (m ∷ v) going in
          (u, x, v, up, r),
      λ h. let (u, x, v, up, r) = h in back p q x v small (up_to p u ((x, q) ∷ v) up r),
    )

    -- The bit 0 of a row.
    pub row_stops : (p : ℕ) → p ≤ 63 → Iff (Has (row e p) 0) (EndsAfter stands e p)
    row_stops p small = (
      λ h.
          let going : Going (p ≡ 0) (λ n. n ≡ p) [] =
          elim ((iff_or (has (singleton p) 0 && (one p 0 e).nullable) (one p 0 e).ends).0 ((row_end e few p).0 h)) [
            | inl m ↦
                let g = (iff_and (has (singleton p) 0) (one p 0 e).nullable).0 m in
                inl (sym (single_is p 0 ((iff_member (singleton p) 0).0 g.0)), (nullable_computed (ReadsMarked stands) (singleton p) everything e 0).0 g.1)
            | inr m ↦ inr (rest_mono (ReadsMarked stands) e 0 (λ n lo hi b. single_is p n b) [] ((ends_computed (ReadsMarked stands) (singleton p) everything e 0).0 m))
          ] in
          let (u, up, r) = from_going p [] going in
          (u, up, subst (In (ReadsMarked stands) e 0) (append-nil u) r),
      λ h.
          let (u, up, r) = h in
          (row_end e few p).1 (stop (up_to p u [] up (subst (In (ReadsMarked stands) e 0) (sym (append-nil u)) r))),
    )
      where
        stop : Going (p ≡ 0) (λ n. n ≡ p) [] → ends_in (singleton p) (one p 0 e) ≡ true
        stop (inl h) =
            let m = (nullable_computed (ReadsMarked stands) (singleton p) everything e 0).1 h.1 in
            let begin : has (singleton p) 0 ≡ true = (iff_member (singleton p) 0).1 (subst (λ k. Has (singleton k) 0) (sym h.0) refl) in
            (iff_or (has (singleton p) 0 && (one p 0 e).nullable) (one p 0 e).ends).1 (inl ((iff_and (has (singleton p) 0) (one p 0 e).nullable).1 (begin, m)))
        stop (inr h) =
            let m = (ends_computed (ReadsMarked stands) (singleton p) everything e 0).1 (rest_mono (ReadsMarked stands) e 0 (λ n lo hi b. subst (Has (singleton p)) (sym b) (single_has p (omega arith))) [] h) in
            (iff_or (has (singleton p) 0 && (one p 0 e).nullable) (one p 0 e).ends).1 (inr m)

  -- A table whose rows were written is a follow table.
  pub follow_rows : (nodes : List (Node A)) (models : List Model) (rows : List ℕ) → Followed nodes models rows → Blank nodes models rows → FollowRows stands nodes models rows
  follow_rows nodes models rows followed blank = record {
    entries = λ number p e c small.
        let is : get_or rows (64 * (number - 1) + p) 0 ≡ row e p = row_is stands nodes models rows [] number (64 * (number - 1)) c.from_one refl e c followed p (omega arith) in
        record {
          follows = λ q some. subst (λ r. Iff (Has r q) (Follows stands e p q)) (sym is) (row_follows e c.codes.few p q small some);
          ends = subst (λ r. Iff (Has r 0) (EndsAfter stands e p)) (sym is) (row_stops e c.codes.few p small);
        };
    zeros = blank;
  }
