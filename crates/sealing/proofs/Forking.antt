-- What the code finds of forks and ambiguity is what the definitions say.
use Rattle.std.proofs.Common.{◌≡◌, ℕ, ◌+◌, ◌<◌, ◌≤◌, Bool, true, false, ◌⊎◌, List, [], ◌∷◌, length, get_or, Option, Some, None, is_some, MatchOption, sym, refl, ap, ◌∙◌, subst, inl, inr, arith}
use borrow.Author.Tests.{both_ways}
use Rattle.std.specs.Iterator.{SkipsThenYields}
use Rattle.std.specs.List.{filter_map}
use Rattle.std.proofs.lemmas.Bool.{cases_eq}
use Rattle.bits.specs.Sets.{has, TakesLowest}
use Rattle.bits.specs.declared.Members.{Members}
use Rattle.bits.proofs.Sets as sets
use Rattle.engine.specs.Atoms.{StandsFor, content_sample}
use Rattle.engine.specs.Languages.{Each, Decides}
use Rattle.engine.specs.declared.alphabet.ContentAtom.{ContentAtom}
use Rattle.engine.specs.declared.alphabet.ContentAtom.TheVariants as content
use Rattle.engine.specs.declared.alphabet.Letter.{Letter}
use Rattle.engine.specs.declared.alphabet.Letter.TheVariants.{Text, Element}
use Rattle.models.specs.Expressions.{Exp}
use Rattle.models.specs.Folds.{Codes, Folded, value}
use Rattle.models.specs.Marks.{Mark}
use Rattle.models.specs.Readers.{Numbered, Readers, atom_in, atoms_of}
use Rattle.bits.specs.Sets.{Has, singleton}
use Rattle.models.specs.declared.node.Node.{Node}
use Rattle.models.proofs.Folding.{codes_one}
use Rattle.models.proofs.Numbering.{atoms_found, leaves, coded_leaves}
use Rattle.derivative.specs.Derivation.{derivation, after_state}
use Rattle.derivative.specs.declared.derive.Derived.{Derived}
use Rattle.derivative.proofs.Knowing.{iff_member, Agrees}
use Rattle.derivative.proofs.Stepping.{readers_agree}
use Rattle.sealing.specs.Forks.{After, Forks, ForksIn, ForksBy, AmbiguousIn, Several}
use Rattle.sealing.proofs.Firsts.{each_of}
use Rattle.sealing.proofs.Marking.{reads_next, fork_ambiguous, ambiguous_fork}

-- Two atoms with a letter in common have the sample of one of them in common.
common_sample : (a c : ContentAtom) (x : Letter) → StandsFor a x → StandsFor c x → StandsFor c (content_sample a) ⊎ StandsFor a (content_sample c)
common_sample content.Text content.Text x h k = inl tt
common_sample content.Text (content.Element n) Text h k = absurd k
common_sample content.Text (content.Element n) (Element m) h k = absurd h
common_sample content.Text (content.All last) x h k = inl tt
common_sample (content.Element m) content.Text Text h k = absurd h
common_sample (content.Element m) content.Text (Element i) h k = absurd k
common_sample (content.Element m) (content.Element n) Text h k = absurd h
common_sample (content.Element m) (content.Element n) (Element i) h k = inl (k ∙ sym h)
common_sample (content.Element m) (content.All last) Text h k = absurd h
common_sample (content.Element m) (content.All last) (Element i) h k = inl (subst (λ j. (1 ≤ j) × (j ≤ last)) (sym h) k)
common_sample (content.All last) content.Text x h k = inl tt
common_sample (content.All last) (content.Element n) Text h k = absurd k
common_sample (content.All last) (content.Element n) (Element i) h k = inr (subst (λ j. (1 ≤ j) × (j ≤ last)) (sym k) h)
common_sample (content.All last) (content.All other) x h k = inl tt

pub content_sampled : (a : ContentAtom) → StandsFor a (content_sample a)
content_sampled content.Text = tt
content_sampled (content.Element n) = refl
content_sampled (content.All last) = tt

pub content_alive : (a : ContentAtom) → (x : Letter) × StandsFor a x
content_alive a = (content_sample a, content_sampled a)

-- A second number that is taken out of a set differs from the first, and both are in it; where there is no
-- second one, all that is in the set is the first.
pub several_second : (s : Members) (r : Option ℕ) (u : Members) → SkipsThenYields (λ a p b. TakesLowest a.left p b.left) s 1 r u → Decides (is_some r) (Several s.left)
several_second s None u ([], (t, is, none), few) = λ (i, j, ne, hi, hj). both_ways (has 0 i) (sets.empty i) (subst (λ m. has m i ≡ true) (ap (λ (v : Members). v.left) is ∙ none.0) hi)
several_second s None u (p ∷ [], (t, (k, first, is), none), few) = λ (i, j, ne, hi, hj).
    let rest : (q : ℕ) → has s.left q ≡ true → q ≡ p = λ q h.
    elim (cases_eq q p) [
      | inl e ↦ e
      | inr n ↦ absurd (both_ways (has 0 q) (sets.empty q) (subst (λ m. has m q ≡ true) (ap (λ (v : Members). v.left) is ∙ none.0) (first.4 q n ∙ h)))
    ] in
    ne (rest i hi ∙ sym (rest j hj))
several_second s None u (p ∷ (q ∷ xs), (t, y, none), few) = absurd (omega arith)
several_second s (Some q) u ([], (t, y, second), one) = absurd (omega arith)
several_second s (Some q) u (p ∷ [], (t, (k, first, is), second), one) =
    let there : has k.left q ≡ true = subst (λ (v : Members). has v.left q ≡ true) (sym is) second.1 in
    let ne : q ≡ p → ⊥ = λ e. both_ways (has k.left p) first.3 (subst (λ m. has k.left m ≡ true) e there) in
    (q, p, ne, sym (first.4 q ne) ∙ there, first.1)
several_second s (Some q) u (p ∷ (i ∷ xs), (t, y, second), one) = absurd (omega arith)

-- Several atoms are reached exactly when there is a fork.
pub forks_told : (nodes : List (Node ContentAtom)) (x : Letter) (p : ℕ) → p ≤ 63 → (r : ℕ) → Readers StandsFor nodes x r → (s : ℕ) → s ≡ singleton p → (d : Derived) (e : Exp ContentAtom) → Codes 64 nodes e → d ≡ value (derivation s r) 0 e → (t : ℕ) → t ≡ after_state s d → (b : Bool) → Decides b (Several t) → Decides b (ForksIn nodes x p)
forks_told nodes x p low r told s at d e codes is t reached b decided = by b decided
  where
    agrees : Agrees (λ n. StandsFor) x (singleton p) r (leaves e) 0
    agrees = readers_agree StandsFor 64 nodes x r e codes told

    t_is : t ≡ after_state (singleton p) (value (derivation (singleton p) r) 0 e)
    t_is = reached ∙ ap (after_state s) is ∙ ap (λ k. after_state k (value (derivation k r) 0 e)) at

    way : (q : ℕ) → has t q ≡ true → (v : List (Mark Letter)) × After StandsFor e p ((x, q) ∷ v)
    way q h = (reads_next StandsFor content_alive e codes.few p low x r agrees q).0 (subst (λ k. Has k q) t_is ((iff_member t q).0 h))

    back : (q : ℕ) (v : List (Mark Letter)) → After StandsFor e p ((x, q) ∷ v) → has t q ≡ true
    back q v h = (iff_member t q).1 (subst (λ k. Has k q) (sym t_is) ((reads_next StandsFor content_alive e codes.few p low x r agrees q).1 (v, h)))

    by : (b : Bool) → Decides b (Several t) → Decides b (ForksIn nodes x p)
    by true (i, j, ne, hi, hj) =
        let (v, h) = way i hi in
        let (w, k) = way j hj in
        (e, codes, record { one = i; other = j; differ = ne; after_one = v; after_other = w; first_way = h; second_way = k })
    by false never = λ (f, c, fork).
        let fork' = subst (λ g. Forks StandsFor g x p) (codes_one 64 nodes f e c codes) fork in
        never (fork'.one, fork'.other, fork'.differ, back fork'.one fork'.after_one fork'.first_way, back fork'.other fork'.after_other fork'.second_way)

-- Where the nodes code nothing, nothing forks.
pub forks_found : (nodes : List (Node ContentAtom)) (x : Letter) (p : ℕ) → p ≤ 63 → (r : ℕ) → Readers StandsFor nodes x r → (s : ℕ) → s ≡ singleton p → (o : Option Derived) → Folded (derivation s r) 64 nodes o → (b : Bool) → MatchOption o (b ≡ false) (λ d. Decides b (Several (after_state s d))) → Decides b (ForksIn nodes x p)
forks_found nodes x p low r told s at None none b found = rw found (λ h. none h.0 h.1)
forks_found nodes x p low r told s at (Some d) (e, codes, is) b found = forks_told nodes x p low r told s at d e codes is (after_state s d) refl b found

-- A fork by any letter after any atom is an ambiguity.
pub found_ambiguous : (nodes : List (Node ContentAtom)) (x : Letter) (p : ℕ) → ForksIn nodes x p → AmbiguousIn nodes
found_ambiguous nodes x p (e, c, f) = (e, c, fork_ambiguous StandsFor content_alive e x p f)

pub each_numbered : {A : Type 0} (P : A → Type 0) (cs : List A) (b n : ℕ) (a : A) → Each P cs → Numbered cs b n a → P a
each_numbered P [] b n a h k = absurd k
each_numbered P (c ∷ cs) b n a (h, hs) (inl k) = subst P k.1 h
each_numbered P (c ∷ cs) b n a (h, hs) (inr k) = each_numbered P cs (b + 1) n a hs k

-- Nodes with no fork by the sample of an atom are not ambiguous.
pub found_none : (nodes : List (Node ContentAtom)) → Each (λ a. (p : ℕ) → p ≤ 63 → ForksIn nodes (content_sample a) p → ⊥) (atoms_of nodes) → AmbiguousIn nodes → ⊥
found_none nodes none (e, c, m) =
    let (n, a, k, p, low, f) = ambiguous_fork StandsFor content_sample content_sampled common_sample e c.few m in
    each_numbered (λ a. (p : ℕ) → p ≤ 63 → ForksIn nodes (content_sample a) p → ⊥) (atoms_of nodes) 0 n a none
    (subst (λ cs. Numbered cs 0 n a) (sym (ap atoms_of c.coded ∙ coded_leaves e)) k) p low (e, c, f)

-- Nodes are ambiguous exactly when something forks by the sample of one of their atoms.
pub ambiguous_told : (nodes : List (Node ContentAtom)) (b : Bool) → Decides b ((k : ℕ) × (k < length (filter_map atom_in nodes)) × ForksBy nodes (get_or (filter_map atom_in nodes) k content.Text)) → Decides b (AmbiguousIn nodes)
ambiguous_told nodes true (k, lt, (p, low, f)) = found_ambiguous nodes (content_sample (get_or (filter_map atom_in nodes) k content.Text)) p f
ambiguous_told nodes false never =
    let none : (a : ContentAtom) → Type 0 = λ a. (p : ℕ) → p ≤ 63 → ForksIn nodes (content_sample a) p → ⊥ in
    found_none nodes
    (subst (Each none) (atoms_found nodes) (each_of none content.Text (filter_map atom_in nodes) (λ k lt p low f. never (k, lt, (p, low, f)))))
