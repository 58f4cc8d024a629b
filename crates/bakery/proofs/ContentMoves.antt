-- Which children each state of the content engine admits, and what is left after them.
use Rattle.std.proofs.Common.{◌≡◌, ℕ, zero, suc, ◌⊎◌, List, [], ◌∷◌, ◌++◌, get_or, replicate, Some, sym, refl, ap, subst, inl, inr}
use mathlib.Core.List.{cons≢nil}
use Rattle.engine.specs.Languages.{Language, Answers, Empty, Inhabited, Each, residue}
use Rattle.engine.specs.Trees.{IsText}
use Rattle.engine.specs.declared.alphabet.Letter.{Letter}
use Rattle.engine.specs.declared.alphabet.Letter.TheVariants.{Element}
use Rattle.bakery.specs.Contents.{closing, SheetWord, OneHours}
use Rattle.bakery.specs.Rests.{ContentLeft, whole, shifts, corrections, entry, texts, nothing}
use Rattle.bakery.proofs.Words.{tail, longer, child_is}

-- The words that each state leaves, by its place in a list.
pub data Place : Type 0 where
  stray : Place
  at_whole : Place
  at_shifts : Place
  at_corrections : Place
  at_entry : Place
  at_texts : Place
  at_nothing : Place

abbrev pub place : ℕ → Place
place s = get_or (stray ∷ at_whole ∷ at_shifts ∷ at_corrections ∷ at_entry ∷ at_texts ∷ at_nothing ∷ []) s stray

abbrev pub Left : Place → Language Letter
Left stray w = ⊥
Left at_whole w = SheetWord w
Left at_shifts w = (more last : ℕ) × (w ≡ replicate more (Element 2) ++ closing last)
Left at_corrections w = (more : ℕ) × (w ≡ closing more)
Left at_entry w = OneHours w
Left at_texts w = Each IsText w
Left at_nothing w = w ≡ []

-- At a known state the words that are left are those of its place.
pub placed : (s : ℕ) (w : List Letter) → ContentLeft s w → Left (place s) w
placed s w (whole at h) = subst (λ x. Left (place x) w) (sym at) h
placed s w (shifts more last at h) = subst (λ x. Left (place x) w) (sym at) (more, last, h)
placed s w (corrections more at h) = subst (λ x. Left (place x) w) (sym at) (more, h)
placed s w (entry at h) = subst (λ x. Left (place x) w) (sym at) h
placed s w (texts at h) = subst (λ x. Left (place x) w) (sym at) h
placed s w (nothing at h) = subst (λ x. Left (place x) w) (sym at) h

left_at : (s t : ℕ) (w : List Letter) → s ≡ t → ContentLeft s w → Left (place t) w
left_at s t w at h = placed t w (subst (λ x. ContentLeft x w) at h)

-- The state that a child leads to does not depend on where it comes.
abbrev target : ℕ → ℕ
target child = get_or (0 ∷ 0 ∷ 2 ∷ 3 ∷ 6 ∷ 6 ∷ []) child 0

-- Which children a state admits.
data Admits (s n : ℕ) : Type 0 where
  by_shift : (s ≡ 1) ⊎ (s ≡ 2) → n ≡ 2 → Admits s n
  by_correction : (s ≡ 2) ⊎ (s ≡ 3) → n ≡ 3 → Admits s n
  by_lock : (s ≡ 2) ⊎ (s ≡ 3) → n ≡ 4 → Admits s n
  by_hours : s ≡ 4 → n ≡ 5 → Admits s n

read_closing : (s more n : ℕ) (w : List Letter) → (s ≡ 2) ⊎ (s ≡ 3) → Element n ∷ w ≡ closing more → Admits s n × ContentLeft (target n) w
read_closing s zero n w at e = (by_lock at (child_is e), nothing (ap target (child_is e)) (tail e))
read_closing s (suc more) n w at e = (by_correction at (child_is e), corrections more (ap target (child_is e)) (tail e))

-- A word that begins with a child begins with one that the state admits, and goes on with what is left
-- after it.
read : (s n : ℕ) (w : List Letter) → ContentLeft s (Element n ∷ w) → Admits s n × ContentLeft (target n) w
read s n w (whole at (more, last, e)) = (by_shift (inl at) (child_is e), shifts more last (ap target (child_is e)) (tail e))
read s n w (shifts zero last at e) = read_closing s last n w (inl at) e
read s n w (shifts (suc more) last at e) = (by_shift (inr at) (child_is e), shifts more last (ap target (child_is e)) (tail e))
read s n w (corrections more at e) = read_closing s more n w (inr at) e
read s n w (entry at e) = (by_hours at (child_is e), nothing (ap target (child_is e)) (tail e))
read s n w (texts at (t, ts)) = absurd t
read s n w (nothing at e) = absurd (cons≢nil e)

write_shift : (s n : ℕ) (w : List Letter) → (s ≡ 1) ⊎ (s ≡ 2) → n ≡ 2 → Left at_shifts w → ContentLeft s (Element n ∷ w)
write_shift s n w (inl at) is (more, last, e) = whole at (more, last, longer (ap Element is) e)
write_shift s n w (inr at) is (more, last, e) = shifts (suc more) last at (longer (ap Element is) e)

write_closing : (s more : ℕ) (w : List Letter) → (s ≡ 2) ⊎ (s ≡ 3) → w ≡ closing more → ContentLeft s w
write_closing s more w (inl at) e = shifts 0 more at e
write_closing s more w (inr at) e = corrections more at e

-- What is left after a child that the state admits was left before it, behind that child.
write : (s n : ℕ) (w : List Letter) → Admits s n → ContentLeft (target n) w → ContentLeft s (Element n ∷ w)
write s n w (by_shift at is) h = write_shift s n w at is (left_at (target n) 2 w (ap target is) h)
write s n w (by_correction at is) h =
    let k = left_at (target n) 3 w (ap target is) h in write_closing s (suc k.0) (Element n ∷ w) at (longer (ap Element is) k.1)
write s n w (by_lock at is) h = write_closing s 0 (Element n ∷ w) at (longer (ap Element is) (left_at (target n) 6 w (ap target is) h))
write s n w (by_hours at is) h = entry at (longer (ap Element is) (left_at (target n) 6 w (ap target is) h))

-- After a child that a state admits some word is left.
lives : (s n : ℕ) → Admits s n → Inhabited (ContentLeft (target n))
lives s n (by_shift at is) = (closing 0, shifts 0 0 (ap target is) refl)
lives s n (by_correction at is) = (closing 0, corrections 0 (ap target is) refl)
lives s n (by_lock at is) = ([], nothing (ap target is) refl)
lives s n (by_hours at is) = ([], nothing (ap target is) refl)

goes : (s n t : ℕ) → t ≡ target n → Admits s n → Answers (residue (ContentLeft s) (Element n ∷ [])) ContentLeft (Some t)
goes s n t to can =
    let l = lives s n can in (
      (l.0, write s n l.0 can l.1),
      λ w. (
        λ h. write s n w can (subst (λ x. ContentLeft x w) to h),
        λ h. subst (λ x. ContentLeft x w) (sym to) (read s n w h).1,
      ),
    )

-- A child that the state admits is answered by the state that it leads to.
pub on_shift : (s n : ℕ) → (s ≡ 1) ⊎ (s ≡ 2) → n ≡ 2 → Answers (residue (ContentLeft s) (Element n ∷ [])) ContentLeft (Some 2)
on_shift s n at is = goes s n 2 (ap target (sym is)) (by_shift at is)

pub on_correction : (s n : ℕ) → (s ≡ 2) ⊎ (s ≡ 3) → n ≡ 3 → Answers (residue (ContentLeft s) (Element n ∷ [])) ContentLeft (Some 3)
on_correction s n at is = goes s n 3 (ap target (sym is)) (by_correction at is)

pub on_lock : (s n : ℕ) → (s ≡ 2) ⊎ (s ≡ 3) → n ≡ 4 → Answers (residue (ContentLeft s) (Element n ∷ [])) ContentLeft (Some 6)
on_lock s n at is = goes s n 6 (ap target (sym is)) (by_lock at is)

stays : (s n : ℕ) → (Admits s n → ⊥) → Empty (residue (ContentLeft s) (Element n ∷ []))
stays s n never w h = never (read s n w h).0

-- No word goes on with a child that the state does not admit.
pub refuses :
    (s n : ℕ) →
    (s ≡ 1 → n ≡ 2 → ⊥) →
    (s ≡ 2 → n ≡ 2 → ⊥) →
    (s ≡ 2 → n ≡ 3 → ⊥) →
    (s ≡ 3 → n ≡ 3 → ⊥) →
    (s ≡ 2 → n ≡ 4 → ⊥) →
    (s ≡ 3 → n ≡ 4 → ⊥) →
    (s ≡ 4 → n ≡ 5 → ⊥) →
    Empty (residue (ContentLeft s) (Element n ∷ []))
refuses s n w1 s2 c2 c3 l2 l3 h4 = stays s n (
    elim [
      | by_shift at is ↦ elim at [ inl p ↦ w1 p is | inr p ↦ s2 p is ]
      | by_correction at is ↦ elim at [ inl p ↦ c2 p is | inr p ↦ c3 p is ]
      | by_lock at is ↦ elim at [ inl p ↦ l2 p is | inr p ↦ l3 p is ]
      | by_hours at is ↦ h4 at is
    ]
    )
