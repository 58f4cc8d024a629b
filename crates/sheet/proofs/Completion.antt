-- Open elements that are alive can be completed, and stay alive by the events that go on.
use Rattle.std.proofs.Common.{◌≡◌, ℕ, ◌⊎◌, List, [], ◌∷◌, ◌++◌, sym, refl, ap, ◌∙◌, subst, inl, inr, append_assoc, append-nil, arith}
use Rattle.engine.specs.Languages.{Language, Empty, Inhabited, residue, Each}
use Rattle.engine.specs.Trees.{Forest, none, piece, child, letters, joined, visits, AllValid, Valid, no_values, Declared, Plain, IsText, IsKnown, IsByte, Event, start, text, end, traversal}
use Rattle.engine.specs.declared.alphabet.Letter.{Letter}
use Rattle.engine.specs.declared.alphabet.Letter.TheVariants.{Text, Element}
use Rattle.frames.specs.Agreements.{Agreed}
use Rattle.sheet.specs.Levels.{Level, opened, Outermost, AliveLevel, Alive}
use Rattle.sheet.specs.Questions.{BeginsDocument}
use Rattle.sheet.proofs.Forests.{join, letters_join, joined_join, visits_join, join_valid}
use Rattle.sheet.proofs.Letters.{each_front, each_back, each_both}

-- A value as children: one piece, or none where it is empty.
abbrev spelled : List ℕ → Forest
spelled [] = none
spelled (b ∷ bs) = piece b bs none

spelled_text : (w : List ℕ) → Each IsText (letters (spelled w))
spelled_text [] = tt
spelled_text (b ∷ bs) = (tt, tt)

spelled_joined : (w : List ℕ) → joined (spelled w) ≡ w
spelled_joined [] = refl
spelled_joined (b ∷ bs) = append-nil (b ∷ bs)

-- The letters of complete, pending and further children.
letters_three : (d g k : Forest) → letters (join d (join g k)) ≡ (letters d ++ letters g) ++ letters k
letters_three d g k = simp (letters_join, append_assoc)

-- The events of the open elements after one more event.
pub opened_start : (m : ℕ) (ls : List Level) → opened (record { number = m; done = none } ∷ ls) ≡ opened ls ++ (start m ∷ [])
opened_start m ls = refl

pub opened_text : (l : Level) (ls : List Level) (b : ℕ) (bs : List ℕ) →
    opened (record { number = l.number; done = join l.done (piece b bs none) } ∷ ls) ≡ opened (l ∷ ls) ++ (text (b ∷ bs) ∷ [])
opened_text l ls b bs = simp (visits_join, append_assoc)

pub opened_end : (l m : Level) (ls : List Level) →
    opened (record { number = m.number; done = join m.done (child l.number l.done none) } ∷ ls) ≡ opened (l ∷ (m ∷ ls)) ++ (end l.number ∷ [])
opened_end l m ls = simp (visits_join, append_assoc)

-- The last of the open elements ends, and that is the whole document.
pub opened_whole : (l : Level) → traversal l.number l.done ≡ opened (l ∷ []) ++ (end l.number ∷ [])
opened_whole l = refl

-- The events of an element with complete, pending and further children, cut behind the complete ones.
spread : (x : List Event) (n : ℕ) (d g k : Forest) (y : List Event) →
    x ++ (start n ∷ (visits (join d (join g k)) ++ y)) ≡ (x ++ (start n ∷ visits d)) ++ (visits g ++ (visits k ++ y))
spread x n d g k y = simp (visits_join, append_assoc)

module _ (C : ℕ → Language Letter) (V : ℕ → Language ℕ) where
  spelled_valid : (w : List ℕ) → Each IsByte w → AllValid C V (spelled w)
  spelled_valid [] h = tt
  spelled_valid (b ∷ bs) h = (h, tt)

  pub alive_text : (l : Level) (ls : List Level) (b : ℕ) (bs : List ℕ) → Each IsByte (b ∷ bs) → Alive C V [] (l ∷ ls) →
      Inhabited (residue (C l.number) (letters l.done ++ (Text ∷ []))) →
      Empty (V l.number) ⊎ Inhabited (residue (V l.number) (joined l.done ++ (b ∷ bs))) →
      Alive C V [] (record { number = l.number; done = join l.done (piece b bs none) } ∷ ls)
  alive_text l ls b bs bytes (here, outer) c v = (
    record {
      content = simp (letters_join, append-nil) c;
      value = simp (joined_join, append-nil) v;
      below = join_valid C V l.done (piece b bs none) here.below (bytes, tt);
    },
    outer,
  )

  pub alive_end : (l m : Level) (ls : List Level) → Alive C V [] (l ∷ (m ∷ ls)) → C l.number (letters l.done) →
      (Inhabited (V l.number) → V l.number (joined l.done)) →
      Alive C V [] (record { number = m.number; done = join m.done (child l.number l.done none) } ∷ ls)
  alive_end l m ls (here, (next, outer)) c v = (
    record {
      content = simp (letters_join, append-nil) next.content;
      value = simp (joined_join, append-nil) next.value;
      below = join_valid C V m.done (child l.number l.done none) next.below ((record { content = c; value = v }, here.below), tt);
    },
    outer,
  )

  module _ (a : Agreed C V) where
    -- A declared number has no value language, or has one and is plain.
    decided : (n : ℕ) → Declared C n → Empty (V n) ⊎ (Inhabited (V n) × Plain C n)
    decided n d = let (low, high) = a.law.numbers n d in a.values n low high

    -- An element with a value language is completed by the rest of a value, behind children that are pending.
    by_value : (l : Level) (g : Forest) → AllValid C V g → joined g ≡ [] → AliveLevel C V (letters g) l → (w : List ℕ) → V l.number (joined l.done ++ w) →
        (k : Forest) × Valid C V l.number (join l.done (join g k))
    by_value l g u wordless here w v =
        let before = letters l.done ++ letters g in
        let (rest, c) = here.content in
        let (low, high) = a.law.numbers l.number (before ++ rest, c) in
        let plain : Plain C l.number = elim (a.values l.number low high) [ inl never ↦ absurd (never (joined l.done ++ w) v) | inr p ↦ p.1 ] in
        let texts = each_both IsText before (letters (spelled w)) (each_front IsText before rest ((plain (before ++ rest)).0 c)) (spelled_text w) in
        let same : joined (join l.done (join g (spelled w))) ≡ joined l.done ++ w = simp (joined_join, wordless, spelled_joined) in
        let bytes = each_back IsByte (joined l.done) w (a.bytes l.number low high (joined l.done ++ w) v) in (
          spelled w,
          (
            record {
              content = (plain (letters (join l.done (join g (spelled w))))).1 (subst (Each IsText) (sym (letters_three l.done g (spelled w))) texts);
              value = λ i. subst (V l.number) (sym same) v;
            },
            join_valid C V l.done (join g (spelled w)) here.below (join_valid C V g (spelled w) u (spelled_valid w bytes)),
          ),
        )

    -- Children that the content language allows can be had so that they suit the value language.
    suited : (n : ℕ) (f : Forest) → C n (letters f) → AllValid C V f → (g : Forest) × Valid C V n g
    suited n f c u = elim (decided n (letters f, c)) [
      | inl never ↦ (f, (record { content = c; value = λ i. absurd (never i.0 i.1) }, u))
      | inr p ↦ by_value (record { number = n; done = none }) none tt refl (record { content = (letters f, c); value = inr p.0; below = tt }) p.0.0 p.0.1
    ]

    -- Children that are valid without values have others with the same letters that are valid with them.
    valued : (f : Forest) → AllValid C no_values f → (g : Forest) × (letters g ≡ letters f) × AllValid C V g
    valued none u = (none, refl, tt)
    valued (piece b bs f) (bytes, u) =
        let (g, same, v) = valued f u in
        (piece b bs g, ap (λ w. Text ∷ w) same, (bytes, v))
    valued (child n h f) ((fits, below), u) =
        let (k, same-below, w) = valued h below in
        let (g, same, v) = valued f u in
        let (j, suits) = suited n k (subst (C n) (sym same-below) fits.content) w in
        (child n j g, ap (λ w. Element n ∷ w) same, (suits, v))

    -- Every declared element can be completed with values too.
    pub tree_of : (n : ℕ) → Declared C n → (f : Forest) × Valid C V n f
    tree_of n d =
        let (f, (fits, below)) = a.law.trees n d in
        let (g, same, v) = valued f below in
        suited n g (subst (C n) (sym same) fits.content) v

    -- Every word of known letters has valid children.
    children_of : (w : List Letter) → Each (IsKnown C) w → (f : Forest) × (letters f ≡ w) × AllValid C V f
    children_of [] h = (none, refl, tt)
    children_of (Text ∷ w) (p, h) =
        let (f, same, v) = children_of w h in
        (piece 0 [] f, ap (λ w. Text ∷ w) same, ((omega arith, tt), v))
    children_of (Element n ∷ w) (p, h) =
        let (f, same, v) = children_of w h in
        let (below, u) = tree_of n p in
        (child n below f, ap (λ w. Element n ∷ w) same, (u, v))

    -- An element without a value language is completed by children for the rest of a content word.
    by_content : (l : Level) (g : Forest) → AllValid C V g → AliveLevel C V (letters g) l → Empty (V l.number) →
        (k : Forest) × Valid C V l.number (join l.done (join g k))
    by_content l g u here never =
        let before = letters l.done ++ letters g in
        let (w, c) = here.content in
        let (k, same, v) = children_of w (each_back (IsKnown C) before w (a.law.words l.number (before ++ w) c)) in (
          k,
          (
            record {
              content = subst (C l.number) (ap (λ x. before ++ x) (sym same) ∙ sym (letters_three l.done g k)) c;
              value = λ i. absurd (never i.0 i.1);
            },
            join_valid C V l.done (join g k) here.below (join_valid C V g k u v),
          ),
        )

    -- An element that is alive can be completed behind children that are pending.
    completed : (l : Level) (g : Forest) → AllValid C V g → joined g ≡ [] → AliveLevel C V (letters g) l →
        (k : Forest) × Valid C V l.number (join l.done (join g k))
    completed l g u wordless here = elim here.value [ inl never ↦ by_content l g u here never | inr p ↦ by_value l g u wordless here p.0 p.1 ]

    pub alive_root : (r : ℕ) → Declared C r → Alive C V [] (record { number = r; done = none } ∷ [])
    alive_root r d = (record { content = d; value = elim (decided r d) [ inl never ↦ inl never | inr p ↦ inr p.0 ]; below = tt }, tt)

    pub alive_start : (l : Level) (ls : List Level) (m : ℕ) → Alive C V [] (l ∷ ls) → Declared C m →
        Inhabited (residue (C l.number) (letters l.done ++ (Element m ∷ []))) → Alive C V [] (record { number = m; done = none } ∷ (l ∷ ls))
    alive_start l ls m (here, outer) d c = ((alive_root m d).0, (record { content = c; value = here.value; below = here.below }, outer))

    -- Open elements that are alive can be completed behind pending children of the innermost.
    completes_behind : (r : ℕ) (ls : List Level) (g : Forest) → Outermost r ls → AllValid C V g → joined g ≡ [] → Alive C V (letters g) ls →
        (f : Forest) × (rest : List Event) × Valid C V r f × (traversal r f ≡ opened ls ++ (visits g ++ rest))
    completes_behind r [] g o u wordless alive = absurd o
    completes_behind r (l ∷ []) g o u wordless (here, outer) =
        let (k, v) = completed l g u wordless here in
        let whole = join l.done (join g k) in
        let is = ap (λ n. traversal n whole) (sym o) ∙ spread [] l.number l.done g k (end l.number ∷ []) in
        (whole, visits k ++ (end l.number ∷ []), subst (λ n. Valid C V n whole) o v, is)
    completes_behind r (l ∷ (m ∷ ls)) g o u wordless (here, outer) =
        let (k, v) = completed l g u wordless here in
        let whole = join l.done (join g k) in
        let (f, rest, w, is) = completes_behind r (m ∷ ls) (child l.number whole none) o (v, tt) refl outer in
        let next = ap (λ es. opened (m ∷ ls) ++ (start l.number ∷ es)) (append_assoc (visits whole) (end l.number ∷ []) rest) in
        (f, visits k ++ (end l.number ∷ rest), w, is ∙ next ∙ spread (opened (m ∷ ls)) l.number l.done g k (end l.number ∷ rest))

    pub completes : (r : ℕ) (ls : List Level) → Outermost r ls → Alive C V [] ls → BeginsDocument C V r (opened ls)
    completes r ls o alive = completes_behind r ls none o tt refl alive
