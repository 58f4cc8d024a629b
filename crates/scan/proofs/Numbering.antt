-- Names in tables.
use Rattle.std.proofs.Common.{◌≡◌, ℕ, ◌+◌, ◌<◌, ◌≤◌, Bool, true, false, cond, eqb, ◌⊎◌, List, [], ◌∷◌, length, take, position, Some, None, Option, Decides, sym, refl, ap, ◌∙◌, subst, inl, inr, arith, take_all}
use Rattle.std.proofs.lemmas.Slice.Eq.{compares_Decides}
use Rattle.std.proofs.lemmas.Bool.{both_ways, eqb-true, eq-eqb}
use Rattle.std.proofs.lemmas.Iterator.Adapters.{position_from-zero}
use Rattle.std.specs.List.{position_from}
use Rattle.scan.specs.Lists.{same, number_of, name_at, names_at}
use Rattle.scan.specs.Names.{Name}
use Rattle.scan.specs.declared.entry.Entry.{Entry}

-- Two names are the same exactly when they are equal.
pub same_decides : (a b : Name) → Decides (same a b) (a ≡ b)
unfolding same
same_decides a b = compares_Decides same (record { empty = refl; shorter = λ y ys. refl; longer = λ x xs. refl; heads = λ x y xs ys. refl }) a b

-- Of an entry's places those count that the text has.
take_same : (n m : ℕ) (l : List ℕ) → (n ≡ m) ⊎ ((length l ≤ n) × (length l ≤ m)) → take n l ≡ take m l
take_same n m l (inl e) = ap (λ k. take k l) e
take_same n m l (inr (p, q)) = take_all n l p ∙ sym (take_all m l q)

take_zero : (n : ℕ) (l : List ℕ) → n ≡ 0 → take n l ≡ []
take_zero n l e = ap (λ k. take k l) e

module _ (text : List ℕ) (name : Name) where
  -- Whether the entry has the name.
  abbrev pub named : Entry → Bool
  named entry = same (name_at text entry) name

  -- What the number is where the entries from this place on were searched.
  abbrev pub Found : ℕ → List Entry → ℕ → Option ℕ → Type 0
  Found i entries number None = number ≡ 0
  Found i entries number (Some k) = (number + i ≡ k + 1) × (0 < number) × (k < i + length entries)

  later : (i : ℕ) (entry : Entry) (entries : List Entry) (number : ℕ) (r : Option ℕ) → Found (i + 1) entries number r → (b : Bool) → eqb number 0 ≡ b → Found i (entry ∷ entries) (elim b [ true ↦ 0 | false ↦ number + 1 ]) r
  later i entry entries number None h true e = refl
  later i entry entries number None h false e = let z : number ≡ 0 = h in absurd (both_ways _ e (eq-eqb number 0 h))
  later i entry entries number (Some k) h true e = let z : number ≡ 0 = eqb-true number 0 e in absurd (omega arith)
  later i entry entries number (Some k) h false e = (omega arith, omega arith, omega arith)

  found : (entries : List Entry) (i : ℕ) → Found i entries (number_of (names_at text entries) name) (position_from named i entries)
  unfolding number_of
  found [] i = refl
  found (entry ∷ entries) i = by (named entry) (found entries (i + 1))
    where
      by : (b : Bool) → Found (i + 1) entries (number_of (names_at text entries) name) (position_from named (i + 1) entries) → Found i (entry ∷ entries) (elim b [ true ↦ 1 | false ↦ elim (eqb (number_of (names_at text entries) name) 0) [ true ↦ 0 | false ↦ number_of (names_at text entries) name + 1 ] ]) (cond b (Some i) (position_from named (i + 1) entries))
      by true h = (omega arith, omega arith, omega arith)
      by false h = later i entry entries (number_of (names_at text entries) name) (position_from named (i + 1) entries) h (eqb (number_of (names_at text entries) name) 0) refl

  -- The place of the first entry that has the name is one less than its number.
  pub placed : (entries : List Entry) (r : Option ℕ) → r ≡ position named entries → Found 0 entries (number_of (names_at text entries) name) r
  placed entries r e = subst (Found 0 entries (number_of (names_at text entries) name)) (sym (e ∙ position_from-zero named entries)) (found entries 0)
