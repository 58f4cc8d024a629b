-- The turns over the nodes answer the value of the expression that they code, and none where they code none.
use Rattle.std.proofs.Common.{◌≡◌, ℕ, suc, ◌+◌, ◌<◌, ◌≤◌, max, Bool, true, false, ltb, ◌⊎◌, List, [], ◌∷◌, ◌++◌, length, get_or, drop, Some, None, Option, sym, refl, ap, ◌∙◌, subst, ap₂, inl, inr, append_assoc, append-nil, add-zero, add_assoc, arith, length-append, drop_of_length-le, ltb-true, lt-ltb}
use Rattle.std.specs.Bool.{then_some}
use Rattle.std.specs.Option.{MatchOption, is_none}
use Rattle.std.proofs.lemmas.List.{drop_more}
use Rattle.models.specs.Expressions.{Exp, empty, atom, seq, alt, star, plus, option, atoms}
use Rattle.models.specs.Folds.{code, depth, Operations, value, Codes, Folded}
use Rattle.models.specs.Turns.{Stack, pushed, joined, changed, turned}
use Rattle.models.specs.declared.node.Node.{Node}
use Rattle.models.specs.declared.node.Node.TheVariants as node
use Rattle.models.proofs.Stacks.{pushed_true, pushed_false}

-- The one value of a stack that holds one.
abbrev pub only : {V : Type 0} → List V → Option V
only [] = None
only (v ∷ []) = Some v
only (v ∷ (u ∷ vs)) = None

-- The turns over a list of nodes, one after the other.
abbrev pub run : {A V : Type 0} → Operations A V → ℕ → List (Node A) → Stack V → Option V
run o room [] s = only s.0
run o room (x ∷ ns) s = elim (turned o room x s) [ None ↦ None | Some t ↦ run o room ns t ]

-- The expressions that the values of a stack stand for, top first: their atoms, values and codes.
abbrev total : {A : Type 0} → List (Exp A) → ℕ
total [] = 0
total (e ∷ es) = total es + atoms e

abbrev values : {A V : Type 0} → Operations A V → List (Exp A) → List V
values o [] = []
values o (e ∷ es) = value o (total es) e ∷ values o es

abbrev codes : {A : Type 0} → List (Exp A) → List (Node A)
codes [] = []
codes (e ∷ es) = codes es ++ code e

abbrev Room : {A : Type 0} → ℕ → List (Exp A) → Type 0
Room room [] = Unit {0}
Room room (e ∷ es) = (length es + depth e ≤ room) × Room room es

record Stacked {A V : Type 0} (o : Operations A V) (room : ℕ) (es : List (Exp A)) (s : Stack V) : Type 0 where
  held : s.0 ≡ values o es
  counted : s.1 ≡ total es
  few : s.1 ≤ 63
  roomy : Room room es

some_is : {V : Type 0} {a b : V} → ◌≡◌ {A = Option V} (Some a) (Some b) → a ≡ b
some_is e = cc

none_some : {V : Type 0} {a : V} → ◌≡◌ {A = Option V} None (Some a) → ⊥
none_some e = let z : ◌≡◌ {A = ℕ} 0 1 = cc in omega arith

module _ {A V : Type 0} (o : Operations A V) (room : ℕ) where
  length_values : (es : List (Exp A)) → length (values o es) ≡ length es
  length_values [] = refl
  length_values (e ∷ es) = ap suc (length_values es)

  pub run_more : (x : Node A) (ns : List (Node A)) (s t : Stack V) → turned o room x s ≡ Some t → run o room (x ∷ ns) s ≡ run o room ns t
  run_more x ns s t e = rw (e, run)

  pub run_stop : (x : Node A) (ns : List (Node A)) (s : Stack V) → turned o room x s ≡ None → run o room (x ∷ ns) s ≡ None
  run_stop x ns s e = rw (e, run)

  pub turned_atom : (a : A) (s : Stack V) → s.1 < 63 → turned o room (node.Atom a) s ≡ pushed room (o.single (s.1 + 1) a) (s.0, s.1 + 1)
  turned_atom a s lt = rw (lt-ltb s.1 63 lt, turned)

  turned_many : (a : A) (s : Stack V) → ltb s.1 63 ≡ false → turned o room (node.Atom a) s ≡ None
  turned_many a s b = rw (b, turned)

  -- An expression whose code puts its value on top.
  abbrev Puts : Exp A → Type 0
  Puts e =
      (ns : List (Node A)) (vs : List V) (n : ℕ) →
      length vs + depth e ≤ room →
      n + atoms e ≤ 63 →
      run o room (code e ++ ns) (vs, n) ≡ run o room ns (value o n e ∷ vs, n + atoms e)

  join_puts : (x : Node A) (f : V → V → V) (e₁ e₂ : Exp A) (vs : List V) (n : ℕ) (ns : List (Node A)) → ((s : Stack V) → turned o room x s ≡ joined f s.0 s.1) → Puts e₁ → Puts e₂ → length vs + max (depth e₁) (depth e₂ + 1) ≤ room → n + (atoms e₁ + atoms e₂) ≤ 63 → run o room ((code e₁ ++ (code e₂ ++ (x ∷ []))) ++ ns) (vs, n) ≡ run o room ns (f (value o n e₁) (value o (n + atoms e₁) e₂) ∷ vs, n + (atoms e₁ + atoms e₂))
  join_puts x f e₁ e₂ vs n ns is puts₁ puts₂ fits few =
      ap (λ c. run o room c (vs, n)) (append_assoc (code e₁) (code e₂ ++ (x ∷ [])) ns ∙ ap (λ c. code e₁ ++ c) (append_assoc (code e₂) (x ∷ []) ns))
      ∙ puts₁ (code e₂ ++ (x ∷ ns)) vs n (omega arith) (omega arith)
      ∙ puts₂ (x ∷ ns) (value o n e₁ ∷ vs) (n + atoms e₁) (omega arith) (omega arith)
      ∙ run_more x ns _ (f (value o n e₁) (value o (n + atoms e₁) e₂) ∷ vs, (n + atoms e₁) + atoms e₂) (is _)
      ∙ ap (λ k. run o room ns (f (value o n e₁) (value o (n + atoms e₁) e₂) ∷ vs, k)) (add_assoc n (atoms e₁) (atoms e₂))

  change_puts : (x : Node A) (f : V → V) (e : Exp A) (vs : List V) (n : ℕ) (ns : List (Node A)) → ((s : Stack V) → turned o room x s ≡ changed f s.0 s.1) → Puts e → length vs + depth e ≤ room → n + atoms e ≤ 63 → run o room ((code e ++ (x ∷ [])) ++ ns) (vs, n) ≡ run o room ns (f (value o n e) ∷ vs, n + atoms e)
  change_puts x f e vs n ns is puts fits few =
      ap (λ c. run o room c (vs, n)) (append_assoc (code e) (x ∷ []) ns)
      ∙ puts (x ∷ ns) vs n fits few
      ∙ run_more x ns _ (f (value o n e) ∷ vs, n + atoms e) (is _)

  complete : (e : Exp A) → Puts e
  complete empty ns vs n fits few =
      run_more node.Empty ns (vs, n) (o.empty_word ∷ vs, n) (pushed_true room o.empty_word (vs, n) (lt-ltb _ _ (omega arith)))
      ∙ ap (λ k. run o room ns (o.empty_word ∷ vs, k)) (sym (add-zero n))
  complete (atom a) ns vs n fits few =
      run_more (node.Atom a) ns (vs, n) (o.single (n + 1) a ∷ vs, n + 1)
      (turned_atom a (vs, n) (omega arith) ∙ pushed_true room (o.single (n + 1) a) (vs, n + 1) (lt-ltb _ _ (omega arith)))
  complete (seq e f) ns vs n fits few = join_puts node.Seq o.both e f vs n ns (λ s. refl) (complete e) (complete f) fits few
  complete (alt e f) ns vs n fits few = join_puts node.Alt o.either e f vs n ns (λ s. refl) (complete e) (complete f) fits few
  complete (star e) ns vs n fits few = change_puts node.Star o.any e vs n ns (λ s. refl) (complete e) fits few
  complete (plus e) ns vs n fits few = change_puts node.Plus o.some e vs n ns (λ s. refl) (complete e) fits few
  complete (option e) ns vs n fits few = change_puts node.Opt o.maybe e vs n ns (λ s. refl) (complete e) fits few

  -- A turn goes from a stack of expressions to another whose codes have one node more.
  abbrev Onward : Node A → List (Exp A) → Stack V → Type 0
  Onward x es t = (es' : List (Exp A)) × Stacked o room es' t × (codes es' ≡ codes es ++ (x ∷ []))

  push_onward : (x : Node A) (e : Exp A) (v : V) (n : ℕ) (es : List (Exp A)) (s t : Stack V) → Stacked o room es s → code e ≡ x ∷ [] → depth e ≡ 1 → v ≡ value o (total es) e → n ≡ total es + atoms e → n ≤ 63 → pushed room v (s.0, n) ≡ Some t → Onward x es t
  push_onward x e v n es s t st is one made sum few h =
      go (ltb (length s.0) room) refl
    where
      go : (b : Bool) → ltb (length s.0) room ≡ b → Onward x es t
      go true b =
          let eq : (v ∷ s.0, n) ≡ t = some_is (sym (pushed_true room v (s.0, n) b) ∙ h) in
          let lt : length s.0 < room = ltb-true _ _ b in
          let len : length s.0 ≡ length es = ap length st.held ∙ length_values es in (
            e ∷ es,
            record {
              held = ap (λ (p : Stack V). p.0) (sym eq) ∙ ap (λ u. u ∷ s.0) made ∙ ap (λ vs. value o (total es) e ∷ vs) st.held;
              counted = ap (λ (p : Stack V). p.1) (sym eq) ∙ sum;
              few = subst (λ k. k ≤ 63) (ap (λ (p : Stack V). p.1) eq) few;
              roomy = (omega arith, st.roomy);
            },
            ap (λ c. codes es ++ c) is,
          )
      go false b = absurd (none_some (sym (pushed_false room v (s.0, n) b) ∙ h))

  join_onward : (x : Node A) (f : V → V → V) (mk : Exp A → Exp A → Exp A) (es : List (Exp A)) (s t : Stack V) → Stacked o room es s → ((e₁ e₂ : Exp A) → (code (mk e₁ e₂) ≡ code e₁ ++ (code e₂ ++ (x ∷ []))) × (depth (mk e₁ e₂) ≡ max (depth e₁) (depth e₂ + 1)) × (atoms (mk e₁ e₂) ≡ atoms e₁ + atoms e₂) × ((n : ℕ) → value o n (mk e₁ e₂) ≡ f (value o n e₁) (value o (n + atoms e₁) e₂))) → joined f s.0 s.1 ≡ Some t → Onward x es t
  join_onward x f mk [] s t st is h = absurd (none_some (ap (λ vs. joined f vs s.1) (sym st.held) ∙ h))
  join_onward x f mk (e ∷ []) s t st is h = absurd (none_some (ap (λ vs. joined f vs s.1) (sym st.held) ∙ h))
  join_onward x f mk (e₂ ∷ (e₁ ∷ es)) s t st is h =
      let eq : (f (value o (total es) e₁) (value o (total es + atoms e₁) e₂) ∷ values o es, s.1) ≡ t =
      some_is (ap (λ vs. joined f vs s.1) (sym st.held) ∙ h) in
      let made = is e₁ e₂ in (
        mk e₁ e₂ ∷ es,
        record {
          held = ap (λ (p : Stack V). p.0) (sym eq) ∙ ap (λ v. v ∷ values o es) (sym (made.3 (total es)));
          counted = ap (λ (p : Stack V). p.1) (sym eq) ∙ omega (arith, st.counted, made.2);
          few = subst (λ k. k ≤ 63) (ap (λ (p : Stack V). p.1) eq) st.few;
          roomy = (omega (arith, st.roomy.0, st.roomy.1.0, made.1), st.roomy.1.1);
        },
        ap (λ c. codes es ++ c) made.0
            ∙ sym (append_assoc (codes es) (code e₁) (code e₂ ++ (x ∷ [])))
            ∙ sym (append_assoc (codes es ++ code e₁) (code e₂) (x ∷ [])),
      )

  change_onward : (x : Node A) (f : V → V) (mk : Exp A → Exp A) (es : List (Exp A)) (s t : Stack V) → Stacked o room es s → ((e : Exp A) → (code (mk e) ≡ code e ++ (x ∷ [])) × (depth (mk e) ≡ depth e) × (atoms (mk e) ≡ atoms e) × ((n : ℕ) → value o n (mk e) ≡ f (value o n e))) → changed f s.0 s.1 ≡ Some t → Onward x es t
  change_onward x f mk [] s t st is h = absurd (none_some (ap (λ vs. changed f vs s.1) (sym st.held) ∙ h))
  change_onward x f mk (e ∷ es) s t st is h =
      let eq : (f (value o (total es) e) ∷ values o es, s.1) ≡ t = some_is (ap (λ vs. changed f vs s.1) (sym st.held) ∙ h) in
      let made = is e in (
        mk e ∷ es,
        record {
          held = ap (λ (p : Stack V). p.0) (sym eq) ∙ ap (λ v. v ∷ values o es) (sym (made.3 (total es)));
          counted = ap (λ (p : Stack V). p.1) (sym eq) ∙ omega (arith, st.counted, made.2);
          few = subst (λ k. k ≤ 63) (ap (λ (p : Stack V). p.1) eq) st.few;
          roomy = (omega (arith, st.roomy.0, made.1), st.roomy.1);
        },
        ap (λ c. codes es ++ c) made.0 ∙ sym (append_assoc (codes es) (code e) (x ∷ [])),
      )

  onward : (x : Node A) (es : List (Exp A)) (s t : Stack V) → Stacked o room es s → turned o room x s ≡ Some t → Onward x es t
  onward node.Unused es s t st h = absurd (none_some h)
  onward node.Empty es s t st h =
      push_onward node.Empty empty o.empty_word s.1 es s t st refl refl refl (omega (arith, st.counted)) st.few h
  onward (node.Atom a) es s t st h = go (ltb s.1 63) refl
    where
      go : (b : Bool) → ltb s.1 63 ≡ b → Onward (node.Atom a) es t
      go true b =
          let lt : s.1 < 63 = ltb-true _ _ b in
          push_onward (node.Atom a) (atom a) (o.single (s.1 + 1) a) (s.1 + 1) es s t st refl refl
          (ap (λ n. o.single (n + 1) a) st.counted) (ap (λ n. n + 1) st.counted) (omega arith) (sym (turned_atom a s lt) ∙ h)
      go false b = absurd (none_some (sym (turned_many a s b) ∙ h))
  onward node.Seq es s t st h = join_onward node.Seq o.both seq es s t st (λ e₁ e₂. (refl, refl, refl, λ n. refl)) h
  onward node.Alt es s t st h = join_onward node.Alt o.either alt es s t st (λ e₁ e₂. (refl, refl, refl, λ n. refl)) h
  onward node.Star es s t st h = change_onward node.Star o.any star es s t st (λ e. (refl, refl, refl, λ n. refl)) h
  onward node.Plus es s t st h = change_onward node.Plus o.some plus es s t st (λ e. (refl, refl, refl, λ n. refl)) h
  onward node.Opt es s t st h = change_onward node.Opt o.maybe option es s t st (λ e. (refl, refl, refl, λ n. refl)) h

  -- What the turns answer is the value of the expression whose code they went through.
  sound : (ns : List (Node A)) (es : List (Exp A)) (s : Stack V) (v : V) → Stacked o room es s → run o room ns s ≡ Some v → (e : Exp A) × Codes room (codes es ++ ns) e × (v ≡ value o 0 e)
  sound [] [] s v st h = absurd (none_some (ap only (sym st.held) ∙ h))
  sound [] (e ∷ []) s v st h = (
    e,
    record {
      coded = append-nil (code e);
      few = omega (arith, st.few, st.counted);
      fits = omega (arith, st.roomy.0);
    },
    sym (some_is (ap only (sym st.held) ∙ h)),
  )
  sound [] (e ∷ (f ∷ es)) s v st h = absurd (none_some (ap only (sym st.held) ∙ h))
  sound (x ∷ ns) es s v st h = go (sound ns) (turned o room x s) refl
    where
      go : ((fs : List (Exp A)) (t : Stack V) (u : V) → Stacked o room fs t → run o room ns t ≡ Some u → (e : Exp A) × Codes room (codes fs ++ ns) e × (u ≡ value o 0 e)) → (t : Option (Stack V)) → turned o room x s ≡ t → (e : Exp A) × Codes room (codes es ++ (x ∷ ns)) e × (v ≡ value o 0 e)
      go later None e = absurd (none_some (sym (run_stop x ns s e) ∙ h))
      go later (Some t) e =
          let went = onward x es s t st e in
          let got = later went.0 t v went.1 (sym (run_more x ns s t e) ∙ h) in (
            got.0,
            subst (λ c. Codes room c got.0) (ap (λ c. c ++ ns) went.2 ∙ append_assoc (codes es) (x ∷ []) ns) got.1,
            got.2,
          )

  -- The turns over all nodes, from the empty stack, answer as a fold has to.
  pub folded : (nodes : List (Node A)) (r : Option V) → run o room nodes ([], 0) ≡ r → Folded o room nodes r
  folded nodes None h =
      λ e c.
      none_some
      (sym h
      ∙ ap (λ ns. run o room ns ([], 0)) (c.coded ∙ sym (append-nil (code e)))
      ∙ complete e [] [] 0 (omega (arith, c.fits)) (omega (arith, c.few)))
  folded nodes (Some v) h = sound nodes [] ([], 0) v (record { held = refl; counted = refl; few = omega arith; roomy = tt }) h

  -- One turn of the loop, at the place i.
  pub turn_more : (nodes : List (Node A)) (i : ℕ) (x : Node A) (s t : Stack V) → i < length nodes → x ≡ get_or nodes i x → turned o room x s ≡ Some t → run o room (drop (i + 1) nodes) t ≡ run o room (drop i nodes) s
  turn_more nodes i x s t lt is h =
      sym (ap (λ ns. run o room ns s) (drop_more nodes i x lt ∙ ap (λ y. y ∷ drop (i + 1) nodes) (sym is)) ∙ run_more x (drop (i + 1) nodes) s t h)

  pub turn_stop : (nodes : List (Node A)) (i : ℕ) (x : Node A) (s : Stack V) → i < length nodes → x ≡ get_or nodes i x → turned o room x s ≡ None → run o room (drop i nodes) s ≡ None
  turn_stop nodes i x s lt is h =
      ap (λ ns. run o room ns s) (drop_more nodes i x lt ∙ ap (λ y. y ∷ drop (i + 1) nodes) (sym is)) ∙ run_stop x (drop (i + 1) nodes) s h

  -- After the last turn the one value left is the answer.
  pub last : (nodes : List (Node A)) (i : ℕ) (vs : List V) (n : ℕ) → length nodes ≤ i → run o room (drop i nodes) (vs, n) ≡ only vs
  last nodes i vs n all = ap (λ ns. run o room ns (vs, n)) (drop_of_length-le nodes all)

pub only_one : {V : Type 0} (v : V) (vs us : List V) (next : Option V) → MatchOption next (vs ≡ []) (λ u. vs ≡ u ∷ us) → only (v ∷ vs) ≡ then_some (is_none next) v
only_one v vs us None is = ap (λ ws. only (v ∷ ws)) is
only_one v vs us (Some u) is = ap (λ ws. only (v ∷ ws)) is

-- The expressions themselves as an algebra.
abbrev free : {A : Type 0} → Operations A (Exp A)
free = record {
  empty_word = empty;
  single = λ n a. atom a;
  both = seq;
  either = alt;
  any = star;
  some = plus;
  maybe = option;
}

free_value : {A : Type 0} (n : ℕ) (e : Exp A) → value free n e ≡ e
free_value n empty = refl
free_value n (atom a) = refl
free_value n (seq e f) = ap₂ seq (free_value n e) (free_value (n + atoms e) f)
free_value n (alt e f) = ap₂ alt (free_value n e) (free_value (n + atoms e) f)
free_value n (star e) = ap star (free_value n e)
free_value n (plus e) = ap plus (free_value n e)
free_value n (option e) = ap option (free_value n e)

-- Nodes code at most one expression.
pub codes_one : {A : Type 0} (room : ℕ) (nodes : List (Node A)) (e f : Exp A) → Codes room nodes e → Codes room nodes f → e ≡ f
codes_one {A} room nodes e f c d = sym (free_value 0 e) ∙ some_is (sym (evaluated e c) ∙ evaluated f d) ∙ free_value 0 f
  where
    evaluated : (e : Exp A) → Codes room nodes e → run free room nodes ([], 0) ≡ Some (value free 0 e)
    evaluated e c =
        ap (λ ns. run free room ns ([], 0)) (c.coded ∙ sym (append-nil (code e)))
        ∙ complete free room e [] [] 0 (omega (arith, c.fits)) (omega (arith, c.few))

code_some : {A : Type 0} (e : Exp A) → 1 ≤ length (code e)
code_some empty = omega arith
code_some (atom a) = omega arith
code_some (seq e f) = let h = code_some e in let k = length-append (code e) (code f ++ (node.Seq ∷ [])) in omega arith
code_some (alt e f) = let h = code_some e in let k = length-append (code e) (code f ++ (node.Alt ∷ [])) in omega arith
code_some (star e) = let h = code_some e in let k = length-append (code e) (node.Star ∷ []) in omega arith
code_some (plus e) = let h = code_some e in let k = length-append (code e) (node.Plus ∷ []) in omega arith
code_some (option e) = let h = code_some e in let k = length-append (code e) (node.Opt ∷ []) in omega arith

-- No nodes code no expression.
pub no_code : {A : Type 0} (room : ℕ) (e : Exp A) → Codes room [] e → ⊥
no_code room e c = let h = code_some e in let k = ap length c.coded in omega arith

-- Whether nodes code an expression is decided.
pub code_or_not : {A : Type 0} (room : ℕ) (nodes : List (Node A)) → ((e : Exp A) × Codes room nodes e) ⊎ ((e : Exp A) → Codes room nodes e → ⊥)
code_or_not {A} room nodes = go (run free room nodes ([], 0)) refl
  where
    go : (r : Option (Exp A)) → run free room nodes ([], 0) ≡ r → ((e : Exp A) × Codes room nodes e) ⊎ ((e : Exp A) → Codes room nodes e → ⊥)
    go None h = inr (folded free room nodes None h)
    go (Some v) h = let got = folded free room nodes (Some v) h in inl (got.0, got.1)

-- The empty words of an expression.
abbrev pub empties : {A : Type 0} → Exp A → ℕ
empties empty = 1
empties (atom a) = 0
empties (seq e f) = empties e + empties f
empties (alt e f) = empties e + empties f
empties (star e) = empties e
empties (plus e) = empties e
empties (option e) = empties e

leaf_some : {A : Type 0} (e : Exp A) → 1 ≤ atoms e + empties e
leaf_some empty = omega arith
leaf_some (atom a) = omega arith
leaf_some (seq e f) = let h = leaf_some e in omega arith
leaf_some (alt e f) = let h = leaf_some e in omega arith
leaf_some (star e) = leaf_some e
leaf_some (plus e) = leaf_some e
leaf_some (option e) = leaf_some e

-- An expression needs at most one working value for each of its atoms and empty words.
pub depth_few : {A : Type 0} (e : Exp A) → depth e ≤ atoms e + empties e
depth_few empty = omega arith
depth_few (atom a) = omega arith
depth_few (seq e f) = let h = depth_few e in let k = depth_few f in let l = leaf_some e in let m = leaf_some f in omega arith
depth_few (alt e f) = let h = depth_few e in let k = depth_few f in let l = leaf_some e in let m = leaf_some f in omega arith
depth_few (star e) = depth_few e
depth_few (plus e) = depth_few e
depth_few (option e) = depth_few e
