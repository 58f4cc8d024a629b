-- How the content engine opens and ends, which numbers are plain, and the law of contents.
use Rattle.std.proofs.Common.{◌≡◌, ℕ, zero, suc, ◌≤◌, Bool, true, false, eqb, ◌⊎◌, List, [], ◌∷◌, ◌++◌, get_or, replicate, Some, sym, refl, ap, subst, inl, inr, arith, eqb-true}
use mathlib.Core.List.{cons≢nil, nil≢cons}
use borrow.Author.Tests.{eqb-false}
use Rattle.engine.specs.Languages.{Answers, Decides, Each}
use Rattle.engine.specs.Trees.{Forest, none, child, Valid, Plain, IsText, IsKnown, Contents, no_values}
use Rattle.engine.specs.declared.alphabet.Letter.{Letter}
use Rattle.engine.specs.declared.alphabet.Letter.TheVariants.{Text, Element}
use Rattle.bakery.specs.Contents.{Holds, sheet, shift, correction, lock, hours, closing}
use Rattle.bakery.specs.Rests.{ContentLeft, whole, shifts, corrections, entry, texts, nothing}
use Rattle.bakery.proofs.ContentMoves.{placed}
use Rattle.bakery.proofs.Words.{no_child}

-- Every letter of content is one.
pub all_real : (w : List Letter) → Each (λ (a : Letter). Unit {0}) w
all_real [] = tt
all_real (a ∷ w) = (tt, all_real w)

-- The state that each element opens with.
abbrev first : ℕ → ℕ
first n = get_or (0 ∷ 1 ∷ 4 ∷ 4 ∷ 6 ∷ 5 ∷ []) n 0

opened : (n : ℕ) (w : List Letter) → Holds n w → ContentLeft (first n) w
opened n w (sheet is h) = whole (ap first is) h
opened n w (shift is h) = entry (ap first is) h
opened n w (correction is h) = entry (ap first is) h
opened n w (lock is h) = nothing (ap first is) h
opened n w (hours is h) = texts (ap first is) h

-- Each element opens with a state that leaves what the element may hold.
pub open_sheet : (n : ℕ) → n ≡ 1 → Answers (Holds n) ContentLeft (Some 1)
open_sheet n is = (
  (Element 2 ∷ closing 0, sheet is (0, 0, refl)),
  λ w. (λ h. sheet is (placed 1 w h), λ h. subst (λ x. ContentLeft x w) (ap first is) (opened n w h)),
)

-- The two numbers from 2 to 3.
pub two_or_three : (n : ℕ) → 2 ≤ n → n ≤ 3 → (n ≡ 2) ⊎ (n ≡ 3)
two_or_three zero low high = absurd (omega arith)
two_or_three (suc zero) low high = absurd (omega arith)
two_or_three (suc (suc zero)) low high = inl refl
two_or_three (suc (suc (suc zero))) low high = inr refl
two_or_three (suc (suc (suc (suc n)))) low high = absurd (omega arith)

pub open_entry : (n : ℕ) → (n ≡ 2) ⊎ (n ≡ 3) → Answers (Holds n) ContentLeft (Some 4)
open_entry n (inl is) = (
  (Element 5 ∷ [], shift is refl),
  λ w. (λ h. shift is (placed 4 w h), λ h. subst (λ x. ContentLeft x w) (ap first is) (opened n w h)),
)
open_entry n (inr is) = (
  (Element 5 ∷ [], correction is refl),
  λ w. (λ h. correction is (placed 4 w h), λ h. subst (λ x. ContentLeft x w) (ap first is) (opened n w h)),
)

pub open_hours : (n : ℕ) → n ≡ 5 → Answers (Holds n) ContentLeft (Some 5)
open_hours n is = (
  ([], hours is tt),
  λ w. (λ h. hours is (placed 5 w h), λ h. subst (λ x. ContentLeft x w) (ap first is) (opened n w h)),
)

no_lock : (more : ℕ) → ◌≡◌ {A = List Letter} [] (closing more) → ⊥
no_lock zero e = nil≢cons e
no_lock (suc more) e = nil≢cons e

-- The word may end where text or nothing more is left, and nowhere else.
pub last : (s : ℕ) → ContentLeft s [] → (s ≡ 5) ⊎ (s ≡ 6)
last s (whole at (more, rest, e)) = absurd (nil≢cons e)
last s (shifts zero rest at e) = absurd (no_lock rest e)
last s (shifts (suc more) rest at e) = absurd (nil≢cons e)
last s (corrections more at e) = absurd (no_lock more e)
last s (entry at e) = absurd (nil≢cons e)
last s (texts at e) = inl at
last s (nothing at e) = inr at

-- Text comes only where text is left.
pub no_text : (s : ℕ) (w : List Letter) → (s ≡ 5 → ⊥) → ContentLeft s (Text ∷ w) → ⊥
no_text s w other (whole at (more, rest, e)) = no_child e
no_text s w other (shifts zero zero at e) = no_child e
no_text s w other (shifts zero (suc rest) at e) = no_child e
no_text s w other (shifts (suc more) rest at e) = no_child e
no_text s w other (corrections zero at e) = no_child e
no_text s w other (corrections (suc more) at e) = no_child e
no_text s w other (entry at e) = no_child e
no_text s w other (texts at e) = other at
no_text s w other (nothing at e) = cons≢nil e

-- Only hours are plain.
pub plain_told : (n : ℕ) → Decides (eqb n 5) (Plain Holds n)
plain_told n = by (eqb n 5) refl
  where
    text_only : n ≡ 5 → (w : List Letter) → Holds n w → Each IsText w
    text_only is w (sheet at h) = absurd (omega arith)
    text_only is w (shift at h) = absurd (omega arith)
    text_only is w (correction at h) = absurd (omega arith)
    text_only is w (lock at h) = absurd (omega arith)
    text_only is w (hours at h) = h

    other : (n ≡ 5 → ⊥) → Holds n (Text ∷ []) → ⊥
    other never (sheet at (more, rest, e)) = no_child e
    other never (shift at e) = no_child e
    other never (correction at e) = no_child e
    other never (lock at e) = cons≢nil e
    other never (hours at e) = never at

    by : (b : Bool) → eqb n 5 ≡ b → Decides b (Plain Holds n)
    by true e = λ w. (text_only (eqb-true n 5 e) w, λ h. hours (eqb-true n 5 e) h)
    by false e = λ p. other (eqb-false n 5 e) ((p (Text ∷ [])).1 (tt, tt))

-- Where text is not left, the word may end exactly where nothing is.
pub ends_told : (s : ℕ) → (s ≡ 5 → ⊥) → Decides (eqb s 6) (ContentLeft s [])
ends_told s other = by (eqb s 6) refl
  where
    by : (b : Bool) → eqb s 6 ≡ b → Decides b (ContentLeft s [])
    by true e = nothing (eqb-true s 6 e) refl
    by false e = λ h. elim (last s h) [ inl p ↦ other p | inr p ↦ eqb-false s 6 e p ]

known_closing : (more : ℕ) → Each (IsKnown Holds) (closing more)
known_closing zero = (([], lock refl refl), tt)
known_closing (suc more) = ((Element 5 ∷ [], correction refl refl), known_closing more)

known_sheet : (more rest : ℕ) → Each (IsKnown Holds) (replicate more (Element 2) ++ closing rest)
known_sheet zero rest = known_closing rest
known_sheet (suc more) rest = ((Element 5 ∷ [], shift refl refl), known_sheet more rest)

known_text : (w : List Letter) → Each IsText w → Each (IsKnown Holds) w
known_text [] h = tt
known_text (Text ∷ w) (t, h) = (tt, known_text w h)
known_text (Element n ∷ w) (t, h) = absurd t

known : (n : ℕ) (w : List Letter) → Holds n w → Each (IsKnown Holds) w
known n w (sheet at (more, rest, e)) = subst (Each (IsKnown Holds)) (sym e) (known_sheet (suc more) rest)
known n w (shift at e) = subst (Each (IsKnown Holds)) (sym e) (([], hours refl tt), tt)
known n w (correction at e) = subst (Each (IsKnown Holds)) (sym e) (([], hours refl tt), tt)
known n w (lock at e) = subst (Each (IsKnown Holds)) (sym e) tt
known n w (hours at h) = known_text w h

-- The smallest tree of each element.
hours_tree : (n : ℕ) → n ≡ 5 → Valid Holds no_values n none
hours_tree n is = (record { content = hours is tt; value = λ i. i.1 }, tt)

shift_tree : (n : ℕ) → n ≡ 2 → Valid Holds no_values n (child 5 none none)
shift_tree n is = (record { content = shift is refl; value = λ i. i.1 }, (hours_tree 5 refl, tt))

lock_tree : (n : ℕ) → n ≡ 4 → Valid Holds no_values n none
lock_tree n is = (record { content = lock is refl; value = λ i. i.1 }, tt)

tree : (n : ℕ) (w : List Letter) → Holds n w → (children : Forest) × Valid Holds no_values n children
tree n w (sheet is h) = (
  child 2 (child 5 none none) (child 4 none none),
  (
    record { content = sheet is (0, 0, refl); value = λ i. i.1 },
    (shift_tree 2 refl, (lock_tree 4 refl, tt)),
  ),
)
tree n w (shift is h) = (child 5 none none, shift_tree n is)
tree n w (correction is h) = (
  child 5 none none,
  (record { content = correction is refl; value = λ i. i.1 }, (hours_tree 5 refl, tt)),
)
tree n w (lock is h) = (none, lock_tree n is)
tree n w (hours is h) = (none, hours_tree n is)

bounds : (n : ℕ) (w : List Letter) → Holds n w → (1 ≤ n) × (n ≤ 63)
bounds n w (sheet is h) = (omega arith, omega arith)
bounds n w (shift is h) = (omega arith, omega arith)
bounds n w (correction is h) = (omega arith, omega arith)
bounds n w (lock is h) = (omega arith, omega arith)
bounds n w (hours is h) = (omega arith, omega arith)

-- The law of contents.
pub contents_law : Contents Holds
contents_law = record {
  numbers = λ n d. bounds n d.0 d.1;
  words = known;
  trees = λ n d. tree n d.0 d.1;
}
