-- The derivative law: how nullable, may-end, first and next of an expression come from those of its parts.
use Rattle.std.proofs.Common.{◌≡◌, ℕ, ◌+◌, ◌<◌, ◌≤◌, ◌⊎◌, List, [], ◌∷◌, refl, ap, subst, inl, inr, arith}
use Rattle.models.specs.Expressions.{Exp, empty, atom, seq, alt, star, plus, option, atoms, Then, Many, done, In}
use Rattle.models.specs.Rests.{Rest}
use Rattle.models.proofs.Joins.{then_map, then_nil, then_cons, then_skip, then_first, many_cons, many_first}
use Rattle.models.proofs.Rests.{rest_mono, rest_or, rest_guard}

abbrev pub Iff : Type 0 → Type 0 → Type 0
Iff P Q = (P → Q) × (Q → P)

-- What is to be known of an expression to step by the letter x from the set S: whether it has the empty
-- word, whether a word may end after S, the atoms that may read x first, and those that may read it after S.
pub record Derives {A X : Type 0} (reads : ℕ → A → X → Type 0) (x : X) (S : ℕ → Type 0) (e : Exp A) (b : ℕ) (nullable ends : Type 0) (first next : ℕ → Type 0) : Type 0 where
  pub nullable_is : Iff nullable (In reads e b [])
  pub ends_is : Iff ends (Rest reads e b S [])
  pub first_is : (w : List X) → Iff (Rest reads e b first w) (In reads e b (x ∷ w))
  pub next_is : (w : List X) → Iff (Rest reads e b next w) (Rest reads e b S (x ∷ w))
  pub first_in : (n : ℕ) → first n → (b < n) × (n ≤ b + atoms e)
  pub next_in : (n : ℕ) → next n → (b < n) × (n ≤ b + atoms e)

module _ {A X : Type 0} (reads : ℕ → A → X → Type 0) (x : X) (S : ℕ → Type 0) where
  -- The same facts under other names of them.
  pub derives_by : (e : Exp A) (b : ℕ) {N N' E E' : Type 0} {F F' G G' : ℕ → Type 0} → Derives reads x S e b N E F G → Iff N' N → Iff E' E → ((n : ℕ) → Iff (F' n) (F n)) → ((n : ℕ) → Iff (G' n) (G n)) → Derives reads x S e b N' E' F' G'
  derives_by e b d n' e' f' g' = record {
    nullable_is = (λ h. d.nullable_is.0 (n'.0 h), λ h. n'.1 (d.nullable_is.1 h));
    ends_is = (λ h. d.ends_is.0 (e'.0 h), λ h. e'.1 (d.ends_is.1 h));
    first_is = λ w. (
      λ h. (d.first_is w).0 (rest_mono reads e b (λ n l u s. (f' n).0 s) w h),
      λ h. rest_mono reads e b (λ n l u s. (f' n).1 s) w ((d.first_is w).1 h),
    );
    next_is = λ w. (
      λ h. (d.next_is w).0 (rest_mono reads e b (λ n l u s. (g' n).0 s) w h),
      λ h. rest_mono reads e b (λ n l u s. (g' n).1 s) w ((d.next_is w).1 h),
    );
    first_in = λ n h. d.first_in n ((f' n).0 h);
    next_in = λ n h. d.next_in n ((g' n).0 h);
  }

  pub derives_empty : (b : ℕ) → Derives reads x S empty b (Unit {0}) ⊥ (λ n. ⊥) (λ n. ⊥)
  derives_empty b = record {
    nullable_is = (λ h. refl, λ h. tt);
    ends_is = (λ h. h, λ h. h);
    first_is = λ w. (λ h. absurd h, λ h. let z : ◌≡◌ {A = ℕ} 0 1 = cc in absurd (omega arith));
    next_is = λ w. (λ h. h, λ h. h);
    first_in = λ n h. absurd h;
    next_in = λ n h. absurd h;
  }

  pub derives_atom : (a : A) (b : ℕ) → Derives reads x S (atom a) b ⊥ (S (b + 1)) (λ n. (n ≡ b + 1) × reads (b + 1) a x) (λ n. ⊥)
  derives_atom a b = record {
    nullable_is = (λ h. absurd h, λ h. let e = h.2 in let z : ◌≡◌ {A = ℕ} 0 1 = cc in omega arith);
    ends_is = (λ h. (h, refl), λ h. h.0);
    first_is = λ w. (
      λ h. (x, h.0.1, ap (λ t. x ∷ t) h.1),
      λ h. let e = h.2 in ((refl, subst (reads (b + 1) a) (cc) h.1), (cc)),
    );
    next_is = λ w. (λ h. absurd h.0, λ h. let e = h.1 in let z : ◌≡◌ {A = ℕ} 0 1 = cc in absurd (omega arith));
    first_in = λ n h. let e = h.0 in (omega arith, omega arith);
    next_in = λ n h. absurd h;
  }

  module _ (e f : Exp A) (b : ℕ) {NL EL NR ER : Type 0} {FL GL FR GR : ℕ → Type 0} (l : Derives reads x S e b NL EL FL GL) (r : Derives reads x S f (b + atoms e) NR ER FR GR) where
    -- A set of atoms of both parts, seen from one of them.
    only_left : (K M : ℕ → Type 0) → ((n : ℕ) → M n → b + atoms e < n) → (w : List X) → Rest reads e b (λ n. K n ⊎ M n) w → Rest reads e b K w
    only_left K M high w h = rest_mono reads e b (λ n lo hi s. elim s [ inl k ↦ k | inr m ↦ let far = high n m in absurd (omega arith) ]) w h

    only_right : (K M : ℕ → Type 0) → ((n : ℕ) → K n → n ≤ b + atoms e) → (w : List X) → Rest reads f (b + atoms e) (λ n. K n ⊎ M n) w → Rest reads f (b + atoms e) M w
    only_right K M low w h = rest_mono reads f (b + atoms e) (λ n lo hi s. elim s [ inl k ↦ let near = low n k in absurd (omega arith) | inr m ↦ m ]) w h

    pub derives_alt : Derives reads x S (alt e f) b (NL ⊎ NR) (EL ⊎ ER) (λ n. FL n ⊎ FR n) (λ n. GL n ⊎ GR n)
    derives_alt = record {
      nullable_is = (
        elim [ inl h ↦ inl (l.nullable_is.0 h) | inr h ↦ inr (r.nullable_is.0 h) ],
        elim [ inl h ↦ inl (l.nullable_is.1 h) | inr h ↦ inr (r.nullable_is.1 h) ],
      );
      ends_is = (
        elim [ inl h ↦ inl (l.ends_is.0 h) | inr h ↦ inr (r.ends_is.0 h) ],
        elim [ inl h ↦ inl (l.ends_is.1 h) | inr h ↦ inr (r.ends_is.1 h) ],
      );
      first_is = λ w. (
        elim [ inl h ↦ inl ((l.first_is w).0 (only_left FL FR (λ n m. (r.first_in n m).0) w h)) | inr h ↦ inr ((r.first_is w).0 (only_right FL FR (λ n k. (l.first_in n k).1) w h)) ],
        elim [ inl h ↦ inl (rest_mono reads e b (λ n lo hi s. inl s) w ((l.first_is w).1 h)) | inr h ↦ inr (rest_mono reads f (b + atoms e) (λ n lo hi s. inr s) w ((r.first_is w).1 h)) ],
      );
      next_is = λ w. (
        elim [ inl h ↦ inl ((l.next_is w).0 (only_left GL GR (λ n m. (r.next_in n m).0) w h)) | inr h ↦ inr ((r.next_is w).0 (only_right GL GR (λ n k. (l.next_in n k).1) w h)) ],
        elim [ inl h ↦ inl (rest_mono reads e b (λ n lo hi s. inl s) w ((l.next_is w).1 h)) | inr h ↦ inr (rest_mono reads f (b + atoms e) (λ n lo hi s. inr s) w ((r.next_is w).1 h)) ],
      );
      first_in = λ n. elim [ inl h ↦ let k = l.first_in n h in (omega arith, omega arith) | inr h ↦ let k = r.first_in n h in (omega arith, omega arith) ];
      next_in = λ n. elim [ inl h ↦ let k = l.next_in n h in (omega arith, omega arith) | inr h ↦ let k = r.next_in n h in (omega arith, omega arith) ];
    }

    pub derives_seq : Derives reads x S (seq e f) b (NL × NR) ((EL × NR) ⊎ ER) (λ n. FL n ⊎ (NL × FR n)) (λ n. (GL n ⊎ (EL × FR n)) ⊎ GR n)
    derives_seq = record {
      nullable_is = (
        λ h. then_skip [] (l.nullable_is.0 h.0) (r.nullable_is.0 h.1),
        λ h. let k = then_nil h in (l.nullable_is.1 k.0, r.nullable_is.1 k.1),
      );
      ends_is = (
        elim [ inl h ↦ inl (then_skip [] (l.ends_is.0 h.0) (r.nullable_is.0 h.1)) | inr h ↦ inr (r.ends_is.0 h) ],
        elim [ inl h ↦ let k = then_nil h in inl (l.ends_is.1 k.0, r.nullable_is.1 k.1) | inr h ↦ inr (r.ends_is.1 h) ],
      );
      first_is = λ w. (
        elim [
          | inl h ↦ then_first x w (then_map (λ u k. (l.first_is u).0 (only_left FL (λ n. NL × FR n) (λ n m. (r.first_in n m.1).0) u k)) (λ v m. m) w h)
          | inr h ↦
              let k = rest_guard reads f (b + atoms e) NL FR w (only_right FL (λ n. NL × FR n) (λ n k. (l.first_in n k).1) w h) in
              then_skip (x ∷ w) (l.nullable_is.0 k.0) ((r.first_is w).0 k.1)
        ],
        λ h. elim (then_cons x w h) [
          | inl k ↦ let some = l.nullable_is.1 k.0 in inr (rest_mono reads f (b + atoms e) (λ n lo hi s. inr (some, s)) w ((r.first_is w).1 k.1))
          | inr k ↦ inl (then_map (λ u m. rest_mono reads e b (λ n lo hi s. inl s) u ((l.first_is u).1 m)) (λ v m. m) w k)
        ],
      );
      next_is = λ w. (
        elim [
          | inl h ↦
              inl (then_first x w (then_map (λ u k. (l.next_is u).0 (only_left GL (λ n. EL × FR n) (λ n m. (r.first_in n m.1).0) u (only_left (λ n. GL n ⊎ (EL × FR n)) GR (λ n m. (r.next_in n m).0) u k))) (λ v m. m) w h))
          | inr h ↦
              elim (rest_or reads f (b + atoms e) (λ n. GL n ⊎ (EL × FR n)) GR w h) [
                | inl k ↦
                    let m = rest_guard reads f (b + atoms e) EL FR w (only_right GL (λ n. EL × FR n) (λ n k. (l.next_in n k).1) w k) in
                    inl (then_skip (x ∷ w) (l.ends_is.0 m.0) ((r.first_is w).0 m.1))
                | inr k ↦ inr ((r.next_is w).0 k)
              ]
        ],
        elim [
          | inl h ↦
              elim (then_cons x w h) [
                | inl k ↦ let some = l.ends_is.1 k.0 in inr (rest_mono reads f (b + atoms e) (λ n lo hi s. inl (inr (some, s))) w ((r.first_is w).1 k.1))
                | inr k ↦ inl (then_map (λ u m. rest_mono reads e b (λ n lo hi s. inl (inl s)) u ((l.next_is u).1 m)) (λ v m. m) w k)
              ]
          | inr h ↦ inr (rest_mono reads f (b + atoms e) (λ n lo hi s. inr s) w ((r.next_is w).1 h))
        ],
      );
      first_in = λ n. elim [
        | inl h ↦ let k = l.first_in n h in (omega arith, omega arith)
        | inr h ↦ let k = r.first_in n h.1 in (omega arith, omega arith)
      ];
      next_in = λ n. elim [
        | inl h ↦ elim h [
          | inl k ↦ let m = l.next_in n k in (omega arith, omega arith)
          | inr k ↦ let m = r.first_in n k.1 in (omega arith, omega arith)
        ]
        | inr h ↦ let k = r.next_in n h in (omega arith, omega arith)
      ];
    }

  module _ (e : Exp A) (b : ℕ) {N E : Type 0} {F G : ℕ → Type 0} (d : Derives reads x S e b N E F G) where
    many_first_is : (w : List X) → Iff (Then (Rest reads e b F) (Many (In reads e b)) w) (Many (In reads e b) (x ∷ w))
    many_first_is w = (
      λ h. many_first x w (then_map (λ u. (d.first_is u).0) (λ v m. m) w h),
      λ h. then_map (λ u. (d.first_is u).1) (λ v m. m) w (many_cons x w (x ∷ w) refl h),
    )

    -- After one round, the next atom is in the same round or begins another.
    many_next_is : (w : List X) → Iff (Then (Rest reads e b (λ n. G n ⊎ (E × F n))) (Many (In reads e b)) w) (Then (Rest reads e b S) (Many (In reads e b)) (x ∷ w))
    many_next_is w = (
      λ (u, v, s, l, m). elim (rest_or reads e b G (λ n. E × F n) u l) [
        | inl k ↦ then_first x w (u, v, s, (d.next_is u).0 k, m)
        | inr k ↦
            let g = rest_guard reads e b E F u k in
            then_skip (x ∷ w) (d.ends_is.0 g.0) ((many_first_is w).0 (u, v, s, g.1, m))
      ],
      λ h. elim (then_cons x w h) [
        | inl k ↦ let some = d.ends_is.1 k.0 in then_map (λ u. rest_mono reads e b (λ n lo hi s. inr (some, s)) u) (λ v m. m) w ((many_first_is w).1 k.1)
        | inr k ↦ then_map (λ u m. rest_mono reads e b (λ n lo hi s. inl s) u ((d.next_is u).1 m)) (λ v m. m) w k
      ],
    )

    many_ends_is : Iff E (Then (Rest reads e b S) (Many (In reads e b)) [])
    many_ends_is = (λ h. then_skip [] (d.ends_is.0 h) (done refl), λ h. d.ends_is.1 (then_nil h).0)

    many_next_in : (n : ℕ) → G n ⊎ (E × F n) → (b < n) × (n ≤ b + atoms e)
    many_next_in n (inl g) = d.next_in n g
    many_next_in n (inr f) = d.first_in n f.1

    pub derives_star : Derives reads x S (star e) b (Unit {0}) E F (λ n. G n ⊎ (E × F n))
    derives_star = record {
      nullable_is = (λ h. done refl, λ h. tt);
      ends_is = many_ends_is;
      first_is = many_first_is;
      next_is = many_next_is;
      first_in = d.first_in;
      next_in = many_next_in;
    }

    pub derives_plus : Derives reads x S (plus e) b N E F (λ n. G n ⊎ (E × F n))
    derives_plus = record {
      nullable_is = (λ h. then_skip [] (d.nullable_is.0 h) (done refl), λ h. d.nullable_is.1 (then_nil h).0);
      ends_is = many_ends_is;
      first_is = λ w. (
        λ h. then_first x w (then_map (λ u. (d.first_is u).0) (λ v m. m) w h),
        λ h. elim (then_cons x w h) [
          | inl k ↦ (many_first_is w).1 k.1
          | inr k ↦ then_map (λ u. (d.first_is u).1) (λ v m. m) w k
        ],
      );
      next_is = many_next_is;
      first_in = d.first_in;
      next_in = many_next_in;
    }

    pub derives_option : Derives reads x S (option e) b (Unit {0}) E F G
    derives_option = record {
      nullable_is = (λ h. inl refl, λ h. tt);
      ends_is = d.ends_is;
      first_is = λ w. (
        λ h. inr ((d.first_is w).0 h),
        elim [ inl h ↦ let z : ◌≡◌ {A = ℕ} 0 1 = cc in absurd (omega arith) | inr h ↦ (d.first_is w).1 h ],
      );
      next_is = d.next_is;
      first_in = d.first_in;
      next_in = d.next_in;
    }
