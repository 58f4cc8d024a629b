-- Which bytes each state of the value engine admits, what is left after them, and how it opens.
use Rattle.std.proofs.Common.{◌≡◌, ℕ, ◌<◌, ◌≤◌, ◌⊎◌, List, [], ◌∷◌, ◌++◌, get_or, Some, Bool, true, false, sym, refl, ap, ◌∙◌, subst, inl, inr, arith}
use Rattle.std.specs.Bool.{Decides, then_some}
use mathlib.Core.Bool.{true≢false}
use mathlib.Core.List.{cons≢nil}
use Rattle.engine.specs.Languages.{Language, Answers, Empty, Inhabited, Each, residue}
use Rattle.bakery.specs.Values.{IsDigit, Hundredths, left_out, written, HoursText, Reads}
use Rattle.bakery.specs.Rests.{DigitsOn, ValueLeft, whole, digits, two, one, nothing}
use Rattle.bakery.proofs.Words.{head, tail, longer}

-- The state after a digit.
abbrev after : ℕ → ℕ
after s = get_or (0 ∷ 2 ∷ 2 ∷ 4 ∷ 5 ∷ []) s 0

-- The states that admit a digit.
data DigitAt (s : ℕ) : Type 0 where
  first : s ≡ 1 → DigitAt s
  further : s ≡ 2 → DigitAt s
  tenths : s ≡ 3 → DigitAt s
  last : s ≡ 4 → DigitAt s

-- What a word that is left begins with: a digit where the state admits one, or the point.
abbrev Read : ℕ → ℕ → List ℕ → Type 0
Read s b w = (IsDigit b × DigitAt s × ValueLeft (after s) w) ⊎ ((b ≡ 46) × (s ≡ 2) × ValueLeft 3 w)

read_on : (s b : ℕ) (w ds part : List ℕ) → s ≡ 2 → b ∷ w ≡ ds ++ part → Each IsDigit ds → Hundredths part → Read s b w
read_on s b w [] part at e each (left_out q) = absurd (cons≢nil (e ∙ q))
read_on s b w [] part at e each (written t l dt dl q) =
    inr (head (e ∙ q), at, two t l refl dt dl (tail (e ∙ q)))
read_on s b w (d ∷ ds) part at e (dd, each) h =
    inl (subst IsDigit (sym (head e)) dd, further at, digits (ap after at) (ds, part, tail e, each, h))

read : (s b : ℕ) (w : List ℕ) → ValueLeft s (b ∷ w) → Read s b w
read s b w (whole at (d, ds, part, e, (dd, each), h)) =
    inl (subst IsDigit (sym (head e)) dd, first at, digits (ap after at) (ds, part, tail e, each, h))
read s b w (digits at (ds, part, e, each, h)) = read_on s b w ds part at e each h
read s b w (two t l at dt dl e) = inl (subst IsDigit (sym (head e)) dt, tenths at, one l (ap after at) dl (tail e))
read s b w (one l at dl e) = inl (subst IsDigit (sym (head e)) dl, last at, nothing (ap after at) (tail e))
read s b w (nothing at e) = absurd (cons≢nil e)

-- The words that each state leaves, by its place in a list.
pub data Place : Type 0 where
  stray : Place
  at_whole : Place
  at_digits : Place
  at_two : Place
  at_one : Place
  at_nothing : Place

abbrev pub place : ℕ → Place
place s = get_or (stray ∷ at_whole ∷ at_digits ∷ at_two ∷ at_one ∷ at_nothing ∷ []) s stray

abbrev pub Left : Place → Language ℕ
Left stray w = ⊥
Left at_whole w = HoursText w
Left at_digits w = DigitsOn w
Left at_two w = (t l : ℕ) × IsDigit t × IsDigit l × (w ≡ t ∷ l ∷ [])
Left at_one w = (l : ℕ) × IsDigit l × (w ≡ l ∷ [])
Left at_nothing w = w ≡ []

-- At a known state the words that are left are those of its place.
pub placed : (s : ℕ) (w : List ℕ) → ValueLeft s w → Left (place s) w
placed s w (whole at h) = subst (λ x. Left (place x) w) (sym at) h
placed s w (digits at h) = subst (λ x. Left (place x) w) (sym at) h
placed s w (two t l at dt dl e) = subst (λ x. Left (place x) w) (sym at) (t, l, dt, dl, e)
placed s w (one l at dl e) = subst (λ x. Left (place x) w) (sym at) (l, dl, e)
placed s w (nothing at e) = subst (λ x. Left (place x) w) (sym at) e

left_at : (s t : ℕ) (w : List ℕ) → s ≡ t → ValueLeft s w → Left (place t) w
left_at s t w at h = placed t w (subst (λ x. ValueLeft x w) at h)

-- What is left after a digit was left before it, behind that digit.
write : (s b : ℕ) (w : List ℕ) → DigitAt s → IsDigit b → ValueLeft (after s) w → ValueLeft s (b ∷ w)
write s b w (first at) db h =
    let k = left_at (after s) 2 w (ap after at) h in whole at (b, k.0, k.1, longer refl k.2, (db, k.3), k.4)
write s b w (further at) db h =
    let k = left_at (after s) 2 w (ap after at) h in digits at (b ∷ k.0, k.1, longer refl k.2, (db, k.3), k.4)
write s b w (tenths at) db h =
    let k = left_at (after s) 4 w (ap after at) h in two b k.0 at db k.1 (longer refl k.2)
write s b w (last at) db h = one b at db (longer refl (left_at (after s) 5 w (ap after at) h))

-- After a digit some word is left.
lives : (s : ℕ) → DigitAt s → Inhabited (ValueLeft (after s))
lives s (first at) = ([], digits (ap after at) ([], [], refl, tt, left_out refl))
lives s (further at) = ([], digits (ap after at) ([], [], refl, tt, left_out refl))
lives s (tenths at) = (48 ∷ [], one 48 (ap after at) (omega arith, omega arith) refl)
lives s (last at) = ([], nothing (ap after at) refl)

digit_left : (s b : ℕ) (w : List ℕ) → IsDigit b → Read s b w → ValueLeft (after s) w
digit_left s b w db (inl (d, at, h)) = h
digit_left s b w db (inr (is, at, h)) = absurd (omega (arith, db.0, db.1))

goes : (s b t : ℕ) → t ≡ after s → DigitAt s → IsDigit b → Answers (residue (ValueLeft s) (b ∷ [])) ValueLeft (Some t)
goes s b t to can db =
    let l = lives s can in (
      (l.0, write s b l.0 can db l.1),
      λ w. (
        λ h. write s b w can db (subst (λ x. ValueLeft x w) to h),
        λ h. subst (λ x. ValueLeft x w) (sym to) (digit_left s b w db (read s b w h)),
      ),
    )

-- A digit is answered by the state that leaves what follows it.
pub on_digit : (s b : ℕ) → (s ≡ 1) ⊎ (s ≡ 2) → 48 ≤ b → b ≤ 57 → Answers (residue (ValueLeft s) (b ∷ [])) ValueLeft (Some 2)
on_digit s b (inl at) low high = goes s b 2 (ap after (sym at)) (first at) (low, high)
on_digit s b (inr at) low high = goes s b 2 (ap after (sym at)) (further at) (low, high)

pub on_tenths : (s b : ℕ) → s ≡ 3 → 48 ≤ b → b ≤ 57 → Answers (residue (ValueLeft s) (b ∷ [])) ValueLeft (Some 4)
on_tenths s b at low high = goes s b 4 (ap after (sym at)) (tenths at) (low, high)

pub on_last : (s b : ℕ) → s ≡ 4 → 48 ≤ b → b ≤ 57 → Answers (residue (ValueLeft s) (b ∷ [])) ValueLeft (Some 5)
on_last s b at low high = goes s b 5 (ap after (sym at)) (last at) (low, high)

point_back : (s b : ℕ) (w : List ℕ) → s ≡ 2 → b ≡ 46 → Left at_two w → ValueLeft s (b ∷ w)
point_back s b w at is (t, l, dt, dl, e) = digits at ([], b ∷ w, refl, tt, written t l dt dl (longer is e))

point_left : (s b : ℕ) (w : List ℕ) → b ≡ 46 → Read s b w → ValueLeft 3 w
point_left s b w is (inl ((low, high), at, h)) = absurd (omega arith)
point_left s b w is (inr (_, at, h)) = h

-- The point is answered by the state that leaves two digits.
pub on_point : (s b : ℕ) → s ≡ 2 → b ≡ 46 → Answers (residue (ValueLeft s) (b ∷ [])) ValueLeft (Some 3)
on_point s b at is = (
  (48 ∷ 48 ∷ [], point_back s b (48 ∷ 48 ∷ []) at is (48, 48, (omega arith, omega arith), (omega arith, omega arith), refl)),
  λ w. (λ h. point_back s b w at is (placed 3 w h), λ h. point_left s b w is (read s b w h)),
)

-- No other byte goes on.
pub refuses : (s b : ℕ) → (48 ≤ b → b ≤ 57 → ⊥) → (b ≡ 46 → ⊥) → Empty (residue (ValueLeft s) (b ∷ []))
refuses s b no_digit no_point w h =
    elim (read s b w h) [ inl k ↦ no_digit k.0.0 k.0.1 | inr k ↦ no_point k.0 ]

digits_real : (ds part : List ℕ) → Each IsDigit ds → Hundredths part → Each (λ b. b < 256) (ds ++ part)
digits_real [] part each (left_out q) = subst (Each (λ b. b < 256)) (sym q) tt
digits_real [] part each (written t l dt dl q) =
    subst (Each (λ b. b < 256)) (sym q) (omega arith, (omega (arith, dt.1), (omega (arith, dl.1), tt)))
digits_real (d ∷ ds) part (dd, each) h = (omega (arith, dd.1), digits_real ds part each h)

-- Hours are written in bytes.
pub all_real : (n : ℕ) (w : List ℕ) → Reads n w → Each (λ b. b < 256) w
all_real n w (is, (d, ds, part, e, each, h)) = subst (Each (λ b. b < 256)) (sym e) (digits_real (d ∷ ds) part each h)

-- Hours open with the state that leaves all of them.
pub opens : (n : ℕ) → n ≡ 5 → Answers (Reads n) ValueLeft (Some 1)
opens n is = (
  (48 ∷ [], (is, (48, [], [], refl, ((omega arith, omega arith), tt), left_out refl))),
  λ w. (λ h. (is, placed 1 w h), λ h. whole refl h.1),
)

-- No other number opens.
pub opened : (n : ℕ) (b : Bool) → Decides b (n ≡ 5) → Answers (Reads n) ValueLeft (then_some b 1)
opened n true told = opens n (told.0 refl)
opened n false told = λ w h. absurd (true≢false (sym (told.1 h.0)))
