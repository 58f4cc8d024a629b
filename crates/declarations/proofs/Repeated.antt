-- Names that come again: the set of numbers so far tells whether a name came before.
use Rattle.std.proofs.Common.{◌≡◌, ℕ, suc, ◌+◌, ◌<◌, ◌≤◌, Bool, true, false, not, ◌&&◌, ◌||◌, eqb, List, [], ◌∷◌, ◌++◌, length, take, sym, refl, ap, ◌∙◌, subst, ap₂, inl, inr, arith, length-take}
use lib.Bits.{bit_or}
use Rattle.std.proofs.lemmas.Bool.{eqb-false, eq-eqb, ne_eqb, and_parts, false≢true, or_cases}
use Rattle.engine.specs.Languages.{Decides}
use Rattle.bits.specs.Sets.{Has, singleton}
use Rattle.bits.proofs.Bits.{has_or, has_or_l, has_or_r, has_none, has_single, single_has}
use Rattle.scan.specs.Lists.{same, number_of, listed, all_listed, distinct, names_at}
use Rattle.scan.specs.Names.{Name}
use Rattle.scan.specs.declared.entry.Entry.{Entry}
use Rattle.scan.proofs.Numbering.{same_decides}
use Rattle.declarations.specs.Answers.{numbered_names}
use Rattle.declarations.specs.Inner.{SeenIs}
use Rattle.declarations.specs.declared.mixed.Seen.{Seen}
use Rattle.declarations.proofs.Listing.{all_listed_append}

same_equal : (a b : Name) → same a b ≡ true → a ≡ b
same_equal a b e = (same_decides a b).0 e

same_self : (a : Name) → same a a ≡ true
same_self a = (same_decides a a).1 refl

same_flip : (a b : Name) → same a b ≡ same b a
same_flip a b = by (same a b) (same b a) refl refl
  where
    by : (x y : Bool) → same a b ≡ x → same b a ≡ y → same a b ≡ same b a
    by true true p q = p ∙ sym q
    by false false p q = p ∙ sym q
    by true false p q = absurd (false≢true (sym q ∙ ap (λ z. same b z) (same_equal a b p) ∙ same_self b))
    by false true p q = absurd (false≢true (sym p ∙ ap (λ z. same a z) (same_equal b a q) ∙ same_self a))

-- A name is in a longer list if it is the first or in the rest.
pub listed_cons : (n : Name) (ns : List Name) (y : Name) → listed (n ∷ ns) y ≡ (same n y || listed ns y)
unfolding number_of
listed_cons n ns y = by (same n y) (eqb (number_of ns y) 0) refl
  where
    by : (x z : Bool) → eqb (number_of ns y) 0 ≡ z → not (eqb (elim x [ true ↦ 1 | false ↦ elim z [ true ↦ 0 | false ↦ number_of ns y + 1 ] ]) 0) ≡ (x || not z)
    by true z e = refl
    by false true e = refl
    by false false e = ap not (ne_eqb (number_of ns y + 1) 0 (omega arith))

or_assoc : (a b c : Bool) → (a || (b || c)) ≡ ((a || b) || c)
or_assoc true b c = refl
or_assoc false b c = refl

or-false : (a : Bool) → (a || false) ≡ a
or-false true = refl
or-false false = refl

pub listed_push : (ns : List Name) (x y : Name) → listed (ns ++ (x ∷ [])) y ≡ (listed ns y || same x y)
unfolding number_of
listed_push [] x y = listed_cons x [] y ∙ or-false (same x y)
listed_push (n ∷ ns) x y =
    listed_cons n (ns ++ (x ∷ [])) y
    ∙ ap (λ b. same n y || b) (listed_push ns x y)
    ∙ or_assoc (same n y) (listed ns y) (same x y)
    ∙ ap (λ b. b || same x y) (sym (listed_cons n ns y))

shuffle : (l s d m : Bool) → (not (l || s) && (d && not m)) ≡ ((not l && d) && not (s || m))
shuffle true s d m = refl
shuffle false true true m = refl
shuffle false true false m = refl
shuffle false false true m = refl
shuffle false false false m = refl

-- No name twice, with one more at the end.
pub distinct_push : (ns : List Name) (x : Name) → distinct (ns ++ (x ∷ [])) ≡ (distinct ns && not (listed ns x))
unfolding number_of
distinct_push [] x = refl
distinct_push (n ∷ ns) x =
    ap₂ (λ a b. not a && b) (listed_push ns x n) (distinct_push ns x)
    ∙ ap (λ s. not (listed ns n || s) && (distinct ns && not (listed ns x))) (same_flip x n)
    ∙ shuffle (listed ns n) (same n x) (distinct ns) (listed ns x)
    ∙ ap (λ b. (not (listed ns n) && distinct ns) && not b) (sym (listed_cons n ns x))

-- Two names with one number are the same.
pub number_same : (names : List Name) (x y : Name) → number_of names x ≡ number_of names y → (number_of names x ≡ 0 → ⊥) → x ≡ y
unfolding number_of
number_same [] x y e some = absurd (some refl)
number_same (n ∷ ns) x y e some =
    by (number_same ns x y) (same n x) (same n y) (eqb (number_of ns x) 0) (eqb (number_of ns y) 0) refl refl refl refl e some
  where
    by : (number_of ns x ≡ number_of ns y → (number_of ns x ≡ 0 → ⊥) → x ≡ y) → (a b p q : Bool) → same n x ≡ a → same n y ≡ b → eqb (number_of ns x) 0 ≡ p → eqb (number_of ns y) 0 ≡ q → ◌≡◌ {A = ℕ} (elim a [ true ↦ 1 | false ↦ elim p [ true ↦ 0 | false ↦ number_of ns x + 1 ] ]) (elim b [ true ↦ 1 | false ↦ elim q [ true ↦ 0 | false ↦ number_of ns y + 1 ] ]) → (◌≡◌ {A = ℕ} (elim a [ true ↦ 1 | false ↦ elim p [ true ↦ 0 | false ↦ number_of ns x + 1 ] ]) 0 → ⊥) → x ≡ y
    by rest true true p q u v w z e some = sym (same_equal n x u) ∙ same_equal n y v
    by rest true false p true u v w z e some = absurd (omega arith)
    by rest true false p false u v w z e some = let h = eqb-false (number_of ns y) 0 z in absurd (h (omega arith))
    by rest false b true q u v w z e some = absurd (some refl)
    by rest false true false q u v w z e some = let h = eqb-false (number_of ns x) 0 w in absurd (h (omega arith))
    by rest false false false true u v w z e some = absurd (omega arith)
    by rest false false false false u v w z e some =
        rest (omega arith) (eqb-false (number_of ns x) 0 w)

-- Numbers do not pass the length of the list.
pub number_le : (names : List Name) (x : Name) → number_of names x ≤ length names
unfolding number_of
number_le [] x = omega arith
number_le (n ∷ ns) x = by (number_le ns x) (same n x) (eqb (number_of ns x) 0)
  where
    by : number_of ns x ≤ length ns → (a p : Bool) → (elim a [ true ↦ 1 | false ↦ elim p [ true ↦ 0 | false ↦ number_of ns x + 1 ] ]) ≤ suc (length ns)
    by h true p = omega arith
    by h false true = omega arith
    by h false false = omega arith

pub names_length : (text : List ℕ) (entries : List Entry) → length (names_at text entries) ≡ length entries
names_length text [] = refl
names_length text (e ∷ es) = ap suc (names_length text es)

pub few_names : (text : List ℕ) (entries : List Entry) → length (numbered_names text entries) ≤ 63
few_names text entries =
    let a = names_length text (take 63 entries) in
    let b = length-take 63 entries in
    omega arith

listed_number : (names : List Name) (x : Name) → listed names x ≡ true → number_of names x ≡ 0 → ⊥
listed_number names x e z = by (eqb (number_of names x) 0) (eq-eqb (number_of names x) 0 z) e
  where
    by : (b : Bool) → b ≡ true → not b ≡ true → ⊥
    by true p q = false≢true q
    by false p q = false≢true p

pub seen_none : (names : List Name) → SeenIs names [] (record { set = 0; distinct = true })
unfolding number_of
seen_none names = record { came = λ y known h. absurd (has_none (number_of names y) h); comes = λ y known h. absurd (false≢true h); differ = λ known. refl }

-- A set stays right where a name without a number is left out of it.
pub seen_unnumbered : (names ns : List Name) (seen : Seen) → SeenIs names ns seen → (x : Name) → number_of names x ≡ 0 → SeenIs names (ns ++ (x ∷ [])) seen
seen_unnumbered names ns seen s x none =
    record {
      came = λ y there h. listed_push ns x y ∙ ap (λ b. b || same x y) (s.came y there h);
      comes = λ y there h. elim (or_cases (listed ns y) (same x y) (sym (listed_push ns x y) ∙ h)) [
        | inl old ↦ s.comes y there old
        | inr new ↦ absurd (listed_number names y there (ap (number_of names) (sym (same_equal x y new)) ∙ none))
      ];
      differ = λ known.
          let p = and_parts (all_listed names ns) (all_listed names (x ∷ [])) (sym (all_listed_append names ns (x ∷ [])) ∙ known) in
          absurd (listed_number names x (and_parts (listed names x) true p.1).0 none);
    }

module _ (names : List Name) (few : length names ≤ 63) (ns : List Name) (seen : Seen) (s : SeenIs names ns seen) (x : Name) (number : ℕ) (number_is : number ≡ number_of names x) (held : Bool) (holds : Decides held (Has seen.set number)) (bits : ℕ) (bits_is : bits ≡ bit_or seen.set (singleton number)) where
  small : number < 64
  small = let h = number_le names x in omega arith

  both : all_listed names (ns ++ (x ∷ [])) ≡ true → (all_listed names ns ≡ true) × (listed names x ≡ true)
  both known =
      let p = and_parts (all_listed names ns) (all_listed names (x ∷ [])) (sym (all_listed_append names ns (x ∷ [])) ∙ known) in
      (p.0, (and_parts (listed names x) true p.1).0)

  after : (y : Name) → listed names y ≡ true → listed (ns ++ (x ∷ [])) y ≡ true → Has bits (number_of names y)
  after y there h =
      subst (λ b. Has b (number_of names y)) (sym bits_is)
      (elim (or_cases (listed ns y) (same x y) (sym (listed_push ns x y) ∙ h)) [
        | inl old ↦ has_or_l seen.set (singleton number) (number_of names y) (s.comes y there old)
        | inr new ↦
            has_or_r seen.set (singleton number) (number_of names y)
            (subst (λ k. Has (singleton number) k) (number_is ∙ ap (number_of names) (same_equal x y new)) (single_has number small))
      ])

  held_is : all_listed names (ns ++ (x ∷ [])) ≡ true → held ≡ listed ns x
  held_is known = by held (listed ns x) refl refl holds
    where
      there : listed names x ≡ true
      there = (both known).1

      by : (h l : Bool) → held ≡ h → listed ns x ≡ l → Decides h (Has seen.set number) → held ≡ listed ns x
      by true true p q d = p ∙ sym q
      by false false p q d = p ∙ sym q
      by true false p q d = p ∙ sym (s.came x there (subst (λ k. Has seen.set k) number_is d))
      by false true p q d = absurd (d (subst (λ k. Has seen.set k) (sym number_is) (s.comes x there q)))

  pub seen_more : SeenIs names (ns ++ (x ∷ [])) (record { set = bits; distinct = seen.distinct && not held })
  seen_more =
      record {
        came = λ y there h. before_any y there h;
        comes = after;
        differ = λ known. ap₂ (λ a b. a && not b) (s.differ (both known).0) (held_is known) ∙ sym (distinct_push ns x);
      }
    where
      before_any : (y : Name) → listed names y ≡ true → Has bits (number_of names y) → listed (ns ++ (x ∷ [])) y ≡ true
      before_any y there h =
          elim (has_or seen.set (singleton number) (number_of names y) (subst (λ b. Has b (number_of names y)) bits_is h)) [
            | inl old ↦ listed_push ns x y ∙ ap (λ b. b || same x y) (s.came y there old)
            | inr new ↦
                let k : number_of names y ≡ number = has_single number (number_of names y) small new in
                let equal : x ≡ y = number_same names x y (sym number_is ∙ sym k) (λ z. listed_number names y there (k ∙ number_is ∙ z)) in
                listed_push ns x y ∙ ap (λ b. listed ns y || b) (ap (same x) (sym equal) ∙ same_self x) ∙ or-true (listed ns y)
          ]
        where
          or-true : (b : Bool) → (b || true) ≡ true
          or-true true = refl
          or-true false = refl
