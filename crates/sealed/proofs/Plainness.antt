-- When a number is plain.
use Rattle.std.proofs.Common.{◌≡◌, ℕ, zero, suc, ◌+◌, ◌<◌, ◌≤◌, Bool, true, false, List, [], ◌∷◌, ◌++◌, sym, refl, ap, ◌∙◌, subst, inl, inr, arith}
use Rattle.engine.specs.Atoms.{StandsFor}
use Rattle.engine.specs.Languages.{Each, Decides}
use Rattle.engine.specs.Trees.{IsText, Plain}
use Rattle.engine.specs.declared.alphabet.ContentAtom.{ContentAtom}
use Rattle.engine.specs.declared.alphabet.ContentAtom.TheVariants as content
use Rattle.engine.specs.declared.alphabet.Letter.{Letter}
use Rattle.engine.specs.declared.alphabet.Letter.TheVariants.{Text, Element}
use Rattle.models.specs.Expressions.{Exp, empty, atom, seq, alt, star, plus, option, atoms, Many, done, more, In, Words}
use Rattle.models.specs.Folds.{Codes}
use Rattle.models.specs.Marks.{Mark, MarkedWords, ReadsMarked}
use Rattle.models.specs.Readers.{Numbered, atoms_of}
use Rattle.models.specs.Tables.{Coded, ModelWords, NodesOf}
use Rattle.models.specs.declared.node.Model.{Model}
use Rattle.models.specs.declared.node.Node.{Node}
use Rattle.models.proofs.ModelTables.{coded_one}
use Rattle.models.proofs.Numbering.{leaves, length_leaves, coded_leaves, numbered_in, numbered_one}
use Rattle.models.proofs.Rests.{rest_live}
use Rattle.sealing.proofs.Completing.{each_back}
use Rattle.sealing.proofs.Forking.{content_alive, each_numbered}
use Rattle.sealing.proofs.Marking.{in_leaves, reach, marks_alive, mark_atom, after_place, after_beginning, other_letter, before}
use Rattle.sealed.specs.Texts.{TextOnly, AllTexts}

-- The letters of a marked word.
module _ {X : Type 0} where
  abbrev bare : List (Mark X) → List X
  bare [] = []
  bare (m ∷ w) = m.0 ∷ bare w

  bare_append : (u v : List (Mark X)) → bare (u ++ v) ≡ bare u ++ bare v
  bare_append [] v = refl
  bare_append (m ∷ u) v = ap (λ t. m.0 ∷ t) (bare_append u v)

module _ {A X : Type 0} (stands : A → X → Type 0) where
  -- They are a word of the expression.
  unmarked_many : {L : List (Mark X) → Type 0} {M : List X → Type 0} → ((w : List (Mark X)) → L w → M (bare w)) → (w : List (Mark X)) → Many L w → Many M (bare w)
  unmarked_many f w (done e) = done (ap bare e)
  unmarked_many f w (more u v e l m) = more (bare u) (bare v) (ap bare e ∙ bare_append u v) (f u l) (unmarked_many f v m)

  unmarked : (e : Exp A) (b : ℕ) (w : List (Mark X)) → In (ReadsMarked stands) e b w → In (λ n. stands) e b (bare w)
  unmarked empty b w h = ap bare h
  unmarked (atom a) b w (m, r, s) = (m.0, r.0, ap bare s)
  unmarked (seq e f) b w (u, v, s, l, m) = (bare u, bare v, ap bare s ∙ bare_append u v, unmarked e b u l, unmarked f (b + atoms e) v m)
  unmarked (alt e f) b w (inl h) = inl (unmarked e b w h)
  unmarked (alt e f) b w (inr h) = inr (unmarked f (b + atoms e) w h)
  unmarked (star e) b w h = unmarked_many (unmarked e b) w h
  unmarked (plus e) b w (u, v, s, l, m) = (bare u, bare v, ap bare s ∙ bare_append u v, unmarked e b u l, unmarked_many (unmarked e b) v m)
  unmarked (option e) b w (inl h) = inl (ap bare h)
  unmarked (option e) b w (inr h) = inr (unmarked e b w h)

-- Every letter that an atom stands for occurs in some word.
occurs : (e : Exp ContentAtom) → atoms e ≤ 63 → (q : ℕ) (a : ContentAtom) → Numbered (leaves e) 0 q a → (x : Letter) → StandsFor a x → (u : List (Mark Letter)) × (v : List (Mark Letter)) × MarkedWords StandsFor e (u ++ ((x, q) ∷ v))
occurs e few q a at x st =
    let inside = numbered_in (leaves e) 0 q a at in
    let len = length_leaves e in
    let lo : 0 < q = omega arith in
    let hi : q ≤ 0 + atoms e = omega arith in
    let (u, y, go) = reach StandsFor content_alive e 0 q lo hi in
    let (z, r) = rest_live (ReadsMarked StandsFor) (marks_alive StandsFor content_alive) e 0 (λ n. n ≡ q) q lo hi refl in
    let h = go z r in
    let (c, kc, sc) = mark_atom StandsFor e u z y q h in
    let sy = subst (λ d. StandsFor d y) (numbered_one (leaves e) 0 q c a kc at) sc in
    let (p, after) = after_beginning StandsFor e u in
    let way = after ((y, q) ∷ z) h in
    let low = after_place StandsFor e few p ((y, q) ∷ z) way in
    let (w, other) = other_letter StandsFor content_alive e few p low q a at y x sy st z way in
    let (v, back) = before StandsFor content_alive e p ((x, q) ∷ w) other in
    (v, w, back ((x, q) ∷ w) other)

text_reads : (a : ContentAtom) (x : Letter) → TextOnly a → StandsFor a x → IsText x
text_reads a Text h k = tt
text_reads content.Text (Element n) h k = absurd k
text_reads (content.Element m) (Element n) h k = absurd h
text_reads (content.All last) (Element n) h k = absurd (omega (arith, k.0, k.1))

-- An atom that stands for no element stands for text alone.
only_by : (a : ContentAtom) → ((n : ℕ) → StandsFor a (Element n) → ⊥) → TextOnly a
only_by content.Text h = tt
only_by (content.Element m) h = h m refl
only_by (content.All zero) h = refl
only_by (content.All (suc k)) h = absurd (h 1 (omega arith, omega arith))

each_by : {A : Type 0} (P : A → Type 0) (cs : List A) (b : ℕ) → ((n : ℕ) (a : A) → Numbered cs b n a → P a) → Each P cs
each_by P [] b h = tt
each_by P (c ∷ cs) b h = (h (b + 1) c (inl (refl, refl)), each_by P cs (b + 1) (λ n a k. h n a (inr k)))

module _ (nodes : List (Node ContentAtom)) (models : List Model) (number : ℕ) (slice : List (Node ContentAtom)) (is : NodesOf nodes models number slice) where
  abbrev C : ℕ → List Letter → Type 0
  C = ModelWords StandsFor nodes models

  leaves_of : (e : Exp ContentAtom) → Codes 64 slice e → atoms_of slice ≡ leaves e
  leaves_of e c = ap atoms_of c.coded ∙ coded_leaves e

  pub plain_yes : Each TextOnly (atoms_of slice) → AllTexts slice → Plain C number
  plain_yes only (e, c, all) w = (
    λ (f, d, h).
        in_leaves (λ n. StandsFor) IsText e 0
        (λ n a x k st. text_reads a x (each_numbered TextOnly (leaves e) 0 n a (subst (Each TextOnly) (leaves_of e c) only) k) st)
        w (subst (λ g. Words StandsFor g w) (coded_one nodes models number f e d ((is e).0 c)) h),
    λ h. (e, (is e).0 c, all w h),
  )

  pub plain_texts : Plain C number → AllTexts slice
  plain_texts p =
      let (e, c, h) = (p []).1 tt in
      (e, (is e).1 c, λ w k. let (f, d, l) = (p w).1 k in subst (λ g. Words StandsFor g w) (coded_one nodes models number f e d c) l)

  pub plain_only : Plain C number → Each TextOnly (atoms_of slice)
  plain_only p =
      let (e, c, h) = (p []).1 tt in
      let codes = (is e).1 c in
      subst (Each TextOnly) (sym (leaves_of e codes)) (each_by TextOnly (leaves e) 0 (λ n a k. only_by a (λ m st. no_element e c n a k m st)))
    where
      no_element : (e : Exp ContentAtom) → Coded nodes models number e → (n : ℕ) (a : ContentAtom) → Numbered (leaves e) 0 n a → (m : ℕ) → StandsFor a (Element m) → ⊥
      no_element e c n a k m st =
          let (u, v, h) = occurs e c.codes.few n a k (Element m) st in
          let w = u ++ ((Element m, n) ∷ v) in
          let all = (p (bare w)).0 (e, c, unmarked StandsFor e 0 w h) in
          (each_back IsText (bare u) (Element m ∷ bare v) (subst (Each IsText) (bare_append u ((Element m, n) ∷ v)) all)).0

  pub plain_told : Each TextOnly (atoms_of slice) → (b : Bool) → Decides b (AllTexts slice) → Decides b (Plain C number)
  plain_told only true all = plain_yes only all
  plain_told only false none = λ p. none (plain_texts p)

-- Every letter of content is one.
pub all_real : (w : List Letter) → Each (λ (a : Letter). Unit {0}) w
all_real [] = tt
all_real (a ∷ w) = (tt, all_real w)
