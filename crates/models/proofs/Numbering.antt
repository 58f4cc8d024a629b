-- The atoms of nodes and of expressions have the same numbers; what is found of them, node by node.
use Rattle.std.proofs.Common.{◌≡◌, ℕ, zero, suc, Bool, Option, true, false, ltb, ltb-true, ◌^◌, ◌+◌, ◌<◌, ◌≤◌, ◌⊎◌, List, [], ◌∷◌, ◌++◌, length, sym, refl, ap, ◌∙◌, subst, ap₂, inl, inr, append_assoc, append-nil, add-zero, arith, length-append}
use native.Mathlib.Decide.{dec_le}
use lib.Bits.{bit_or}
use Rattle.models.specs.Expressions.{Exp, empty, atom, seq, alt, star, plus, option, atoms}
use Rattle.models.specs.Folds.{code}
use Rattle.models.specs.Readers.{atom_in, atom_of, atoms_of, Numbered, Readers}
use Rattle.bits.specs.Sets.{Has, singleton, guarded}
use Rattle.engine.specs.Languages.{Decides}
use Rattle.std.specs.List.{FoldsTo, filter_map, zip, range_with_len}
use Rattle.std.specs.Fn.{Called}
use Rattle.std.specs.Iterator.{Drains}
use denote.Param.Members.{Mut}
use Rattle.std.proofs.lemmas.Fn.{fold_over}
use Rattle.std.proofs.lemmas.Iterator.{YieldsList}
use Rattle.models.specs.declared.node.Node.{Node}
use Rattle.models.specs.declared.node.Node.TheVariants as node
use Rattle.bits.proofs.Bits.{has_or, has_or_l, has_or_r, has_none, has_power, single_has, has_guarded}
use Rattle.models.proofs.Derivation.{Iff}

pub atoms_of_append : {A : Type 0} (xs ys : List (Node A)) → atoms_of (xs ++ ys) ≡ atoms_of xs ++ atoms_of ys
atoms_of_append [] ys = refl
atoms_of_append (x ∷ xs) ys = ap (λ cs. atom_of x ++ cs) (atoms_of_append xs ys) ∙ sym (append_assoc (atom_of x) (atoms_of xs) (atoms_of ys))

atoms_of_push : {A : Type 0} (xs : List (Node A)) (x : Node A) → atoms_of (xs ++ (x ∷ [])) ≡ atoms_of xs ++ atom_of x
atoms_of_push xs x = atoms_of_append xs (x ∷ []) ∙ ap (λ cs. atoms_of xs ++ cs) (append-nil (atom_of x))

-- What stands in a joined list stands in one of the two, with its number.
pub numbered_append : {A : Type 0} (xs ys : List A) (b n : ℕ) (a : A) → Iff (Numbered (xs ++ ys) b n a) (Numbered xs b n a ⊎ Numbered ys (b + length xs) n a)
numbered_append [] ys b n a = (
  λ h. inr (subst (λ k. Numbered ys k n a) (sym (add-zero b)) h),
  elim [ inl h ↦ absurd h | inr h ↦ subst (λ k. Numbered ys k n a) (add-zero b) h ],
)
numbered_append (x ∷ xs) ys b n a =
    let e : b + 1 + length xs ≡ b + suc (length xs) = omega arith in
    let later = numbered_append xs ys (b + 1) n a in (
      elim [
        | inl h ↦ inl (inl h)
        | inr h ↦ elim (later.0 h) [ inl k ↦ inl (inr k) | inr k ↦ inr (subst (λ m. Numbered ys m n a) e k) ]
      ],
      elim [
        | inl h ↦ elim h [ inl k ↦ inl k | inr k ↦ inr (later.1 (inl k)) ]
        | inr h ↦ inr (later.1 (inr (subst (λ m. Numbered ys m n a) (sym e) h)))
      ],
    )

pub numbered_in : {A : Type 0} (xs : List A) (b n : ℕ) (a : A) → Numbered xs b n a → (b < n) × (n ≤ b + length xs)
numbered_in [] b n a h = absurd h
numbered_in (x ∷ xs) b n a (inl h) = let e = h.0 in (omega arith, omega arith)
numbered_in (x ∷ xs) b n a (inr h) = let k = numbered_in xs (b + 1) n a h in (omega arith, omega arith)

-- Every number up to the last has an atom.
pub numbered_some : {A : Type 0} (xs : List A) (b n : ℕ) → b < n → n ≤ b + length xs → (a : A) × Numbered xs b n a
numbered_some [] b n lo hi = absurd (omega arith)
numbered_some (x ∷ xs) b n lo hi =
    elim (dec_le n (b + 1)) [
      | yes le ↦ (x, inl (omega arith, refl))
      | no gt ↦ let (a, h) = numbered_some xs (b + 1) n (omega arith) (omega arith) in (a, inr h)
    ]

-- One atom at most has a number.
pub numbered_one : {A : Type 0} (xs : List A) (b n : ℕ) (a c : A) → Numbered xs b n a → Numbered xs b n c → a ≡ c
numbered_one [] b n a c h k = absurd h
numbered_one (x ∷ xs) b n a c (inl h) (inl k) = sym h.1 ∙ k.1
numbered_one (x ∷ xs) b n a c (inl h) (inr k) = let e = h.0 in let m = numbered_in xs (b + 1) n c k in absurd (omega arith)
numbered_one (x ∷ xs) b n a c (inr h) (inl k) = let e = k.0 in let m = numbered_in xs (b + 1) n a h in absurd (omega arith)
numbered_one (x ∷ xs) b n a c (inr h) (inr k) = numbered_one xs (b + 1) n a c h k

-- The atoms of an expression, in order.
abbrev pub leaves : {A : Type 0} → Exp A → List A
leaves empty = []
leaves (atom a) = a ∷ []
leaves (seq e f) = leaves e ++ leaves f
leaves (alt e f) = leaves e ++ leaves f
leaves (star e) = leaves e
leaves (plus e) = leaves e
leaves (option e) = leaves e

pub length_leaves : {A : Type 0} (e : Exp A) → length (leaves e) ≡ atoms e
length_leaves empty = refl
length_leaves (atom a) = refl
length_leaves (seq e f) = length-append (leaves e) (leaves f) ∙ ap₂ ◌+◌ (length_leaves e) (length_leaves f)
length_leaves (alt e f) = length-append (leaves e) (leaves f) ∙ ap₂ ◌+◌ (length_leaves e) (length_leaves f)
length_leaves (star e) = length_leaves e
length_leaves (plus e) = length_leaves e
length_leaves (option e) = length_leaves e

two_leaves : {A : Type 0} (e f : Exp A) (x : Node A) → atom_of x ≡ [] → atoms_of (code e) ≡ leaves e → atoms_of (code f) ≡ leaves f → atoms_of (code e ++ (code f ++ (x ∷ []))) ≡ leaves e ++ leaves f
two_leaves e f x none l r =
    atoms_of_append (code e) (code f ++ (x ∷ []))
    ∙ ap₂ ◌++◌ l (atoms_of_push (code f) x ∙ ap₂ ◌++◌ r none ∙ append-nil (leaves f))

one_leaves : {A : Type 0} (e : Exp A) (x : Node A) → atom_of x ≡ [] → atoms_of (code e) ≡ leaves e → atoms_of (code e ++ (x ∷ [])) ≡ leaves e
one_leaves e x none l = atoms_of_push (code e) x ∙ ap₂ ◌++◌ l none ∙ append-nil (leaves e)

-- The nodes of an expression have its atoms.
pub coded_leaves : {A : Type 0} (e : Exp A) → atoms_of (code e) ≡ leaves e
coded_leaves empty = refl
coded_leaves (atom a) = refl
coded_leaves (seq e f) = two_leaves e f node.Seq refl (coded_leaves e) (coded_leaves f)
coded_leaves (alt e f) = two_leaves e f node.Alt refl (coded_leaves e) (coded_leaves f)
coded_leaves (star e) = one_leaves e node.Star refl (coded_leaves e)
coded_leaves (plus e) = one_leaves e node.Plus refl (coded_leaves e)
coded_leaves (option e) = one_leaves e node.Opt refl (coded_leaves e)

-- The atoms among the nodes, one at a time.
pub atoms_found : {A : Type 0} (nodes : List (Node A)) → filter_map atom_in nodes ≡ atoms_of nodes
atoms_found [] = refl
atoms_found (node.Unused ∷ nodes) = atoms_found nodes
atoms_found (node.Empty ∷ nodes) = atoms_found nodes
atoms_found (node.Atom a ∷ nodes) = ap (λ cs. a ∷ cs) (atoms_found nodes)
atoms_found (node.Seq ∷ nodes) = atoms_found nodes
atoms_found (node.Alt ∷ nodes) = atoms_found nodes
atoms_found (node.Star ∷ nodes) = atoms_found nodes
atoms_found (node.Plus ∷ nodes) = atoms_found nodes
atoms_found (node.Opt ∷ nodes) = atoms_found nodes

-- The list has the atom with the number.
abbrev pub Paired : {A : Type 0} → List (A × ℕ) → ℕ → A → Type 0
Paired [] n a = ⊥
Paired (p ∷ ps) n a = ((p.0 ≡ a) × (p.1 ≡ n)) ⊎ Paired ps n a

paired_push : {A : Type 0} (ps : List (A × ℕ)) (p : A × ℕ) (n : ℕ) (a : A) → Iff (Paired (ps ++ (p ∷ [])) n a) (Paired ps n a ⊎ ((p.0 ≡ a) × (p.1 ≡ n)))
paired_push [] p n a = (elim [ inl h ↦ inr h | inr h ↦ absurd h ], elim [ inl h ↦ absurd h | inr h ↦ inl h ])
paired_push (q ∷ ps) p n a =
    let later = paired_push ps p n a in (
      elim [ inl h ↦ inl (inl h) | inr h ↦ elim (later.0 h) [ inl k ↦ inl (inr k) | inr k ↦ inr k ] ],
      elim [ inl h ↦ elim h [ inl k ↦ inl k | inr k ↦ inr (later.1 (inl k)) ] | inr h ↦ inr (later.1 (inr h)) ],
    )

-- The atoms beside the numbers from the first on, as far as these go.
pub paired_numbered : {A : Type 0} (cs : List A) (b k n : ℕ) (a : A) → Iff (Paired (zip cs (range_with_len (b + 1) k)) n a) ((n ≤ b + k) × Numbered cs b n a)
paired_numbered [] b k n a = (λ h. absurd h, λ h. absurd h.1)
paired_numbered (c ∷ cs) b zero n a = (λ h. absurd h, λ h. let inside = numbered_in (c ∷ cs) b n a h.1 in let few = h.0 in absurd (omega arith))
paired_numbered (c ∷ cs) b (suc k) n a =
    let later = paired_numbered cs (b + 1) k n a in (
      elim [
        | inl h ↦ let e = h.1 in (omega arith, inl (sym h.1, h.0))
        | inr h ↦ let few = (later.0 h).0 in (omega arith, inr (later.0 h).1)
      ],
      λ h. let few = h.0 in elim h.1 [
        | inl m ↦ inl (m.1, sym m.0)
        | inr m ↦ inr (later.1 (omega arith, m))
      ],
    )

has_singleton : (m n : ℕ) → Has (singleton m) n → (m < 64) × (n ≡ m)
has_singleton m n h = let (below, k) = has_guarded (ltb m 64) (2 ^ m) n h in (ltb-true m 64 below, has_power m n k)

module _ {A X : Type 0} (stands : A → X → Type 0) (x : X) where
  -- What the pairs of atoms and numbers say of a set of the numbers.
  abbrev pub Told : List (A × ℕ) → ℕ → Type 0
  Told ps set = (n : ℕ) → Iff (Has set n) ((n ≤ 63) × ((a : A) × Paired ps n a × stands a x))

  told_none : Told [] 0
  told_none n = (λ h. absurd (has_none n h), λ h. absurd h.1.1)

  told_before : (ps : List (A × ℕ)) (p : A × ℕ) (set n : ℕ) → Told ps set → Has set n → (n ≤ 63) × ((a : A) × Paired (ps ++ (p ∷ [])) n a × stands a x)
  told_before ps p set n told h =
      let (few, (a, paired, reads)) = (told n).0 h in
      (few, (a, (paired_push ps p n a).1 (inl paired), reads))

  told_more : (ps : List (A × ℕ)) (p : A × ℕ) (set : ℕ) (b : Bool) → Told ps set → Decides b (stands p.0 x) → Told (ps ++ (p ∷ [])) (bit_or set (guarded b (singleton p.1)))
  told_more ps p set true told decided n = (
    λ h. elim (has_or set (singleton p.1) n h) [
      | inl k ↦ told_before ps p set n told k
      | inr k ↦
          let (below, e) = has_singleton p.1 n k in
          (omega (arith, below, e), (p.0, (paired_push ps p n p.0).1 (inr (refl, sym e)), decided))
    ],
    λ (few, (a, paired, reads)). elim ((paired_push ps p n a).0 paired) [
      | inl k ↦ has_or_l set (singleton p.1) n ((told n).1 (few, (a, k, reads)))
      | inr k ↦ has_or_r set (singleton p.1) n (subst (Has (singleton p.1)) k.1 (single_has p.1 (let e = k.1 in omega arith)))
    ],
  )
  told_more ps p set false told differs n = (
    λ h. elim (has_or set 0 n h) [ inl k ↦ told_before ps p set n told k | inr k ↦ absurd (has_none n k) ],
    λ (few, (a, paired, reads)). elim ((paired_push ps p n a).0 paired) [
      | inl k ↦ has_or_l set 0 n ((told n).1 (few, (a, k, reads)))
      | inr k ↦ absurd (differs (subst (λ c. stands c x) (sym k.0) reads))
    ],
  )

  pub told_step : (ps : List (A × ℕ)) (p : A × ℕ) (set : ℕ) (b : Bool) (single chosen made : ℕ) → Told ps set → Decides b (stands p.0 x) → single ≡ singleton p.1 → chosen ≡ guarded b single → made ≡ bit_or set chosen → Told (ps ++ (p ∷ [])) made
  told_step ps p set b single chosen made told decided one when or =
      subst (Told (ps ++ (p ∷ []))) (sym (or ∙ ap (bit_or set) (when ∙ ap (guarded b) one))) (told_more ps p set b told decided)

  -- What a fold over the pairs answers, where each turn adds the pair's number if its atom reads the letter.
  pub told_fold : {S A' F : Type 0} {steps : S → Option A' → S → Type 0} {v : A' → A × ℕ} {g : Mut F (ℕ × (A' × Unit {0})) ℕ} {f : F} {s : S} {all : List (A × ℕ)} (r : ℕ) → (xs : List A') × (f' : F) × Drains steps s xs × FoldsTo {P = F × ℕ} (λ p x q. Called g p.0 (p.1, (x, tt)) q.1 q.0) (f, 0) xs (f', r) → YieldsList steps v s all → ((ps : List (A × ℕ)) (set : ℕ) (p : A') (made : ℕ) (f' : F) → Told ps set → Called g f (set, (p, tt)) made f' → Told (ps ++ (v p ∷ [])) made × (f' ≡ f)) → Told all r
  told_fold {steps = steps} {v = v} {g = g} {f = f} {s = s} {all = all} r ran chain step = fold_over steps v g Told f step s all 0 r chain.runs told_none ran

  pub told_readers : (nodes : List (Node A)) (set : ℕ) → Told (zip (filter_map atom_in nodes) (range_with_len 1 63)) set → Readers stands nodes x set
  told_readers nodes set told n = (
    λ h.
        let (few, (a, paired, reads)) = (told n).0 h in
        (few, (a, subst (λ cs. Numbered cs 0 n a) (atoms_found nodes) ((paired_numbered (filter_map atom_in nodes) 0 63 n a).0 paired).1, reads)),
    λ (few, (a, numbered, reads)). (told n).1 (few, (a, (paired_numbered (filter_map atom_in nodes) 0 63 n a).1 (few, subst (λ cs. Numbered cs 0 n a) (sym (atoms_found nodes)) numbered), reads)),
  )
