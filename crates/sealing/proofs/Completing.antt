-- Elements that can be completed have trees, and elements with trees are in every set that lacks none.
use Rattle.std.proofs.Common.{◌≡◌, ℕ, ◌+◌, ◌≤◌, Bool, true, false, List, [], ◌∷◌, ◌++◌, length, Option, Some, None, unwrap_or, MatchOption, ◌<◌, sym, refl, ap, ◌∙◌, subst, inl, inr, arith}
use borrow.Author.Tests.{both_ways}
use Rattle.std.proofs.lemmas.Bool.{cases_eq}
use Rattle.bits.specs.Sets.{has}
use Rattle.engine.specs.Atoms.{StandsFor}
use Rattle.engine.specs.Languages.{Language, Each, Decides}
use Rattle.engine.specs.Trees.{Forest, none, piece, child, letters, AllValid, Valid, no_values}
use Rattle.engine.specs.declared.alphabet.ContentAtom.{ContentAtom}
use Rattle.engine.specs.declared.alphabet.ContentAtom.TheVariants as content
use Rattle.engine.specs.declared.alphabet.Letter.{Letter}
use Rattle.engine.specs.declared.alphabet.Letter.TheVariants.{Text, Element}
use Rattle.models.specs.Expressions.{Exp, empty, atom, seq, alt, star, plus, option, atoms, done, In}
use Rattle.models.specs.Folds.{value, Folded}
use Rattle.models.specs.Tables.{Coded, ModelWords, NodesOf}
use Rattle.models.specs.declared.node.Model.{Model}
use Rattle.models.specs.declared.node.Node.{Node}
use Rattle.models.proofs.ModelTables.{coded_one}
use Rattle.derivative.proofs.Knowing.{iff_and, iff_or}
use Rattle.sealing.specs.Completion.{Within, completion, single_completes, Completes, Lacking}
use Rattle.sealing.specs.Questions.{HasTree}

-- Of each letter of a word, and of each letter of its two parts.
module _ {X : Type 0} (P : X → Type 0) where
  pub each_both : (u v : List X) → Each P u → Each P v → Each P (u ++ v)
  each_both [] v h k = k
  each_both (x ∷ u) v h k = (h.0, each_both u v h.1 k)

  pub each_front : (u v : List X) → Each P (u ++ v) → Each P u
  each_front [] v h = tt
  each_front (x ∷ u) v h = (h.0, each_front u v h.1)

  pub each_back : (u v : List X) → Each P (u ++ v) → Each P v
  each_back [] v h = h
  each_back (x ∷ u) v h = each_back u v h.1

module _ (set : ℕ) where
  -- An expression that can be completed has a word of text and elements of the set.
  word_within : (e : Exp ContentAtom) (b : ℕ) → value (completion set) b e ≡ true → (w : List Letter) × In (λ n. StandsFor) e b w × Each (Within set) w
  word_within empty b h = ([], refl, tt)
  word_within (atom content.Text) b h = (Text ∷ [], (Text, tt, refl), (tt, tt))
  word_within (atom (content.Element m)) b h = (Element m ∷ [], (Element m, refl, refl), (h, tt))
  word_within (atom (content.All last)) b h = (Text ∷ [], (Text, tt, refl), (tt, tt))
  word_within (seq e f) b h =
      let k = (iff_and (value (completion set) b e) (value (completion set) (b + atoms e) f)).0 h in
      let (u, l, p) = word_within e b k.0 in
      let (v, m, q) = word_within f (b + atoms e) k.1 in
      (u ++ v, (u, v, refl, l, m), each_both (Within set) u v p q)
  word_within (alt e f) b h =
      elim ((iff_or (value (completion set) b e) (value (completion set) (b + atoms e) f)).0 h) [
        | inl k ↦ let (u, l, p) = word_within e b k in (u, inl l, p)
        | inr k ↦ let (v, m, q) = word_within f (b + atoms e) k in (v, inr m, q)
      ]
  word_within (star e) b h = ([], done refl, tt)
  word_within (plus e) b h =
      let (u, l, p) = word_within e b h in (u ++ [], (u, [], refl, l, done refl), each_both (Within set) u [] p tt)
  word_within (option e) b h = ([], inl refl, tt)

  within_single : (a : ContentAtom) (x : Letter) → StandsFor a x → Within set x → single_completes set a ≡ true
  within_single content.Text x r p = refl
  within_single (content.Element m) Text r p = absurd r
  within_single (content.Element m) (Element n) r p = subst (λ k. has set k ≡ true) (sym r) p
  within_single (content.All last) x r p = refl

  -- An expression with such a word can be completed.
  within_completes : (e : Exp ContentAtom) (b : ℕ) (w : List Letter) → In (λ n. StandsFor) e b w → Each (Within set) w → value (completion set) b e ≡ true
  within_completes empty b w h p = refl
  within_completes (atom a) b w (x, r, s) p = within_single a x r (subst (Each (Within set)) s p).0
  within_completes (seq e f) b w (u, v, s, l, m) p =
      let q = subst (Each (Within set)) s p in
      (iff_and (value (completion set) b e) (value (completion set) (b + atoms e) f)).1
      (within_completes e b u l (each_front (Within set) u v q), within_completes f (b + atoms e) v m (each_back (Within set) u v q))
  within_completes (alt e f) b w (inl h) p =
      (iff_or (value (completion set) b e) (value (completion set) (b + atoms e) f)).1 (inl (within_completes e b w h p))
  within_completes (alt e f) b w (inr h) p =
      (iff_or (value (completion set) b e) (value (completion set) (b + atoms e) f)).1 (inr (within_completes f (b + atoms e) w h p))
  within_completes (star e) b w h p = refl
  within_completes (plus e) b w (u, v, s, l, m) p =
      within_completes e b u l (each_front (Within set) u v (subst (Each (Within set)) s p))
  within_completes (option e) b w h p = refl

module _ (nodes : List (Node ContentAtom)) (models : List Model) (number set : ℕ) where
  -- What the fold computes decides whether the number can be completed.
  pub completes_told : (e : Exp ContentAtom) → Coded nodes models number e → (v : Bool) → v ≡ value (completion set) 0 e → Decides v (Completes nodes models set number)
  completes_told e c true is = let (w, l, p) = word_within set e 0 (sym is) in (w, (e, c, l), p)
  completes_told e c false is =
      λ (w, (f, d, l), p).
      let k = within_completes set e 0 w (subst (λ g. In (λ n. StandsFor) g 0 w) (coded_one nodes models number f e d c) l) p in
      both_ways (value (completion set) 0 e) (sym is) k

  pub completes_found : (slice : List (Node ContentAtom)) → NodesOf nodes models number slice → (o : Option Bool) → Folded (completion set) 64 slice o → Decides (unwrap_or o false) (Completes nodes models set number)
  completes_found slice is None never = λ (w, (e, c, l), p). never e ((is e).1 c)
  completes_found slice is (Some v) (e, c, told) = completes_told e ((is e).0 c) v told

module _ (C : ℕ → Language Letter) where
  -- Text, or an element that has a tree.
  abbrev Grown : Letter → Type 0
  Grown Text = Unit {0}
  Grown (Element n) = (children : Forest) × Valid C no_values n children

  -- A word of such letters is that of some children.
  children_of : (w : List Letter) → Each Grown w → (f : Forest) × (letters f ≡ w) × AllValid C no_values f
  children_of [] h = (none, refl, tt)
  children_of (Text ∷ w) (t, h) =
      let (f, e, v) = children_of w h in (piece 0 [] f, ap (λ u. Text ∷ u) e, ((omega arith, tt), v))
  children_of (Element n ∷ w) ((g, t), h) =
      let (f, e, v) = children_of w h in (child n g f, ap (λ u. Element n ∷ u) e, (t, v))

  pub tree_of : (n : ℕ) (w : List Letter) → C n w → Each Grown w → (f : Forest) × Valid C no_values n f
  tree_of n w c h =
      let (f, e, v) = children_of w h in
      (f, (record { content = subst (C n) (sym e) c; value = λ i. absurd i.1 }, v))

  -- Children that are valid lie in a set that is closed.
  module _ (set : ℕ) (closed : (n : ℕ) (w : List Letter) → C n w → Each (Within set) w → has set n ≡ true) where
    pub children_within : (f : Forest) → AllValid C no_values f → Each (Within set) (letters f)
    children_within none v = tt
    children_within (piece b bs f) v = (tt, children_within f v.1)
    children_within (child n g f) ((fits, below), after) =
        (closed n (letters g) fits.content (children_within g below), children_within f after)

    pub tree_within : (n : ℕ) (f : Forest) → Valid C no_values n f → has set n ≡ true
    tree_within n f (fits, below) = closed n (letters f) fits.content (children_within f below)

module _ (nodes : List (Node ContentAtom)) (models : List Model) (set : ℕ) where
  grown_within : ((n : ℕ) → has set n ≡ true → HasTree nodes models n) → (w : List Letter) → Each (Within set) w → Each (Grown (ModelWords StandsFor nodes models)) w
  grown_within known [] h = tt
  grown_within known (Text ∷ w) (t, h) = (tt, grown_within known w h)
  grown_within known (Element n ∷ w) (m, h) = (known n m, grown_within known w h)

  -- A number that can be completed when those of the set have trees has a tree.
  pub completed_tree : ((n : ℕ) → has set n ≡ true → HasTree nodes models n) → (n : ℕ) → Completes nodes models set n → HasTree nodes models n
  completed_tree known n (w, c, p) = tree_of (ModelWords StandsFor nodes models) n w c (grown_within known w p)

  -- A set of numbers with trees that lacks none is the set of the numbers with trees.
  pub completed_all : length models ≤ 63 → ((n : ℕ) → has set n ≡ true → HasTree nodes models n) → ((n : ℕ) → 1 ≤ n → n ≤ 63 → Completes nodes models set n → has set n ≡ true) → (n : ℕ) → Decides (has set n) (HasTree nodes models n)
  completed_all few known none_left n = by (has set n) refl
    where
      closed : (m : ℕ) (w : List Letter) → ModelWords StandsFor nodes models m w → Each (Within set) w → has set m ≡ true
      closed m w c p = let d = c.1 in none_left m d.from_one (omega (arith, d.listed)) (w, c, p)

      by : (t : Bool) → has set n ≡ t → Decides t (HasTree nodes models n)
      by true e = known n e
      by false e = λ (f, v). both_ways (has set n) e (tree_within (ModelWords StandsFor nodes models) set closed n f v)

-- A set with one number more, which has a tree.
pub more_trees : (nodes : List (Node ContentAtom)) (models : List Model) (set more k : ℕ) → ((n : ℕ) → has set n ≡ true → HasTree nodes models n) → HasTree nodes models k → ((q : ℕ) → (q ≡ k → ⊥) → has more q ≡ has set q) → (n : ℕ) → has more n ≡ true → HasTree nodes models n
more_trees nodes models set more k known tree others n h =
    elim (cases_eq n k) [ inl e ↦ subst (HasTree nodes models) (sym e) tree | inr ne ↦ known n (sym (others n ne) ∙ h) ]

-- The first number that a set lacks, of those from 1 to 63.
pub lacking_found : (nodes : List (Node ContentAtom)) (models : List Model) (set : ℕ) (r : Option ℕ) → MatchOption r ((k : ℕ) → 1 ≤ k → k < 64 → Completes nodes models set k → has set k ≡ true) (λ i. (1 ≤ i) × (i < 64) × ((has set i ≡ false) × Completes nodes models set i) × ((k : ℕ) → 1 ≤ k → k < i → Completes nodes models set k → has set k ≡ true)) → Lacking nodes models set r
lacking_found nodes models set None h = λ n low high. h n low (omega arith)
lacking_found nodes models set (Some n) (low, high, out, before) = (omega arith, out.0, out.1)
