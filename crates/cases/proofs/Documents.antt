-- The documents of the lists and their languages: what is valid, what is plain, and what no document has.
use Rattle.std.proofs.Common.{◌≡◌, ℕ, zero, suc, ◌⊎◌, List, [], ◌∷◌, ◌++◌, replicate, sym, refl, subst, inl, inr, arith}
use mathlib.Core.List.{nil≢cons}
use Rattle.engine.specs.Languages.{Language, Inhabited, Each}
use Rattle.engine.specs.Trees.{Forest, none, piece, child, Fits, Valid, AllValid, Declared, Plain, IsKnown, Contents, no_values}
use Rattle.engine.specs.declared.alphabet.Letter.{Letter}
use Rattle.engine.specs.declared.alphabet.Letter.TheVariants.{Element}
use Rattle.sheet.specs.Questions.{ValuesPlain}
use Rattle.bakery.specs.Contents.{Holds, sheet, shift, correction, lock, hours, SheetWord, closing}
use Rattle.bakery.specs.Values.{IsDigit, Hundredths, Reads, left_out, written}
use Rattle.bakery.specs.Week.{hours as entry_of}
use Rattle.bakery.proofs.ContentLaws.{plain_told}
use Rattle.bakery.proofs.Weeks.{silent, entry, decimal}
use Rattle.cases.specs.Refusals.{SheetReads, Nests}

-- Numbers from 1 to 5 are declared, and 6 is not.
pub declared_sheet : Declared Holds 1
declared_sheet = (Element 2 ∷ closing 0, sheet refl (0, 0, refl))

pub declared_shift : Declared Holds 2
declared_shift = (Element 5 ∷ [], shift refl refl)

pub declared_correction : Declared Holds 3
declared_correction = (Element 5 ∷ [], correction refl refl)

pub declared_lock : Declared Holds 4
declared_lock = ([], lock refl refl)

pub declared_hours : Declared Holds 5
declared_hours = ([], hours refl tt)

undeclared : (w : List Letter) → Holds 6 w → ⊥
undeclared w (sheet at h) = omega arith
undeclared w (shift at h) = omega arith
undeclared w (correction at h) = omega arith
undeclared w (lock at h) = omega arith
undeclared w (hours at h) = omega arith

pub not_declared : Declared Holds 6 → ⊥
not_declared d = undeclared d.0 d.1

-- The hours are plain; a value of the sheet would not be.
pub hours_plain : ValuesPlain Holds Reads
hours_plain n low high i = subst (Plain Holds) (sym i.1.0) (plain_told 5)

pub free_plain : (C : ℕ → Language Letter) → ValuesPlain C no_values
free_plain C n low high i = absurd i.1

pub sheet_not_plain : ValuesPlain Holds SheetReads → ⊥
sheet_not_plain p = plain_told 1 (p 1 (omega arith) (omega arith) ([], (refl, refl)))

-- What is valid with some values is valid with none.
module _ (C : ℕ → Language Letter) (V : ℕ → Language ℕ) where
  free_fits : (n : ℕ) (f : Forest) → Fits C V n f → Fits C no_values n f
  free_fits n f fits = record { content = fits.content; value = λ i. absurd i.1 }

  free_all : (f : Forest) → AllValid C V f → AllValid C no_values f
  free_all none v = tt
  free_all (piece b bs f) (bytes, v) = (bytes, free_all f v)
  free_all (child n g f) ((fits, below), v) = ((free_fits n g fits, free_all g below), free_all f v)

  pub free_valid : (n : ℕ) (f : Forest) → Valid C V n f → Valid C no_values n f
  free_valid n f (fits, v) = (free_fits n f fits, free_all f v)

-- The sheet with the comma, valid with no values.
abbrev pub comma_sheet : Forest
comma_sheet = child 2 (entry_of 55 (44 ∷ 53 ∷ [])) (child 4 none none)

pub comma_valid : Valid Holds no_values 1 comma_sheet
comma_valid = (
  record { content = sheet refl (0, 0, refl); value = λ i. absurd i.1 },
  (
    (
      record { content = shift refl refl; value = λ i. absurd i.1 },
      ((record { content = hours refl (tt, tt); value = λ i. absurd i.1 }, ((omega arith, (omega arith, (omega arith, tt))), tt)), tt),
    ),
    ((record { content = lock refl refl; value = λ i. absurd i.1 }, tt), tt),
  ),
)

-- The week without its correction.
abbrev pub late_sheet : Forest
late_sheet = child 2 (entry_of 56 []) (child 2 (entry_of 55 (46 ∷ 53 ∷ 48 ∷ [])) (child 4 none none))

pub late_valid : Valid Holds Reads 1 late_sheet
late_valid = (
  record { content = sheet refl (1, 0, refl); value = silent 1 [] (λ e. omega arith) },
  (
    (
      record { content = shift refl refl; value = silent 2 [] (λ e. omega arith) },
      (entry 56 [] (refl, (56, [], [], refl, ((omega arith, omega arith), tt), left_out refl)), tt),
    ),
    (
      (
        record { content = shift refl refl; value = silent 2 [] (λ e. omega arith) },
        (entry 55 _ (decimal 55 53 48 (omega arith, omega arith) (omega arith, omega arith) (omega arith, omega arith)), tt),
      ),
      ((record { content = lock refl refl; value = silent 4 [] (λ e. omega arith) }, tt), tt),
    ),
  ),
)

-- Some text reads as hours; none does that is empty or begins with `7,`.
pub some_hours : Inhabited (Reads 5)
some_hours = (56 ∷ [], (refl, (56, [], [], refl, ((omega arith, omega arith), tt), left_out refl)))

pub empty_hours : Reads 5 [] → ⊥
empty_hours (is, (first, digits, part, e, each, h)) = nil≢cons e

no_point : (w part : List ℕ) → ◌≡◌ {A = List ℕ} (44 ∷ w) part → Hundredths part → ⊥
no_point w part e (left_out q) = let z : ◌≡◌ {A = ℕ} 0 1 = cc in omega arith
no_point w part e (written t l dt dl q) = let z : ◌≡◌ {A = ℕ} 44 46 = cc in omega arith

comma_in : (w : List ℕ) (first : ℕ) (digits part : List ℕ) → ◌≡◌ {A = List ℕ} (55 ∷ 44 ∷ w) ((first ∷ digits) ++ part) → Each IsDigit (first ∷ digits) → Hundredths part → ⊥
comma_in w first [] part e each h = no_point w part (cc) h
comma_in w first (d ∷ digits) part e (_, ((low, high), each)) h = let z : ◌≡◌ {A = ℕ} 44 d = cc in omega arith

pub comma_hours : (w : List ℕ) → Reads 5 (55 ∷ 44 ∷ w) → ⊥
comma_hours w (is, (first, digits, part, e, each, h)) = comma_in w first digits part e each h

-- Hours hold no element.
pub childless_hours : (n : ℕ) (w : List Letter) → Holds 5 (Element n ∷ w) → ⊥
childless_hours n w (sheet at h) = omega arith
childless_hours n w (shift at h) = omega arith
childless_hours n w (correction at h) = omega arith
childless_hours n w (lock at h) = omega arith
childless_hours n w (hours at (no_text, rest)) = no_text

sheet_word : (w : List Letter) → Holds 1 w → SheetWord w
sheet_word w (sheet at h) = h
sheet_word w (shift at h) = absurd (omega arith)
sheet_word w (correction at h) = absurd (omega arith)
sheet_word w (lock at h) = absurd (omega arith)
sheet_word w (hours at h) = absurd (omega arith)

-- A sheet does not begin with its lock.
pub no_early_lock : (w : List Letter) → Holds 1 (Element 4 ∷ w) → ⊥
no_early_lock w h =
    let (more, corrections, e) = sheet_word (Element 4 ∷ w) h in
    let z : ◌≡◌ {A = ℕ} 4 2 = cc in
    omega arith

late_word : (w : List Letter) (more corrections : ℕ) → ◌≡◌ {A = List Letter} (Element 2 ∷ Element 2 ∷ Element 4 ∷ Element 3 ∷ w) (replicate (suc more) (Element 2) ++ closing corrections) → ⊥
late_word w zero zero e = let z : ◌≡◌ {A = ℕ} 2 4 = cc in omega arith
late_word w zero (suc c) e = let z : ◌≡◌ {A = ℕ} 2 3 = cc in omega arith
late_word w (suc zero) zero e = let z : ◌≡◌ {A = ℕ} 0 1 = cc in omega arith
late_word w (suc zero) (suc c) e = let z : ◌≡◌ {A = ℕ} 4 3 = cc in omega arith
late_word w (suc (suc more)) c e = let z : ◌≡◌ {A = ℕ} 4 2 = cc in omega arith

-- Behind the lock there is no correction.
pub no_late_correction : (w : List Letter) → Holds 1 (Element 2 ∷ Element 2 ∷ Element 4 ∷ Element 3 ∷ w) → ⊥
no_late_correction w h =
    let (more, corrections, e) = sheet_word (Element 2 ∷ Element 2 ∷ Element 4 ∷ Element 3 ∷ w) h in
    late_word w more corrections e

-- One element in another, so many deep.
abbrev pub nest : ℕ → Forest
nest zero = none
nest (suc deep) = child 1 (nest deep) none

pub nest_valid : (deep : ℕ) → Valid Nests no_values 1 (nest deep)
nest_valid zero = (record { content = (refl, inl refl); value = λ i. absurd i.1 }, tt)
nest_valid (suc deep) = (record { content = (refl, inr refl); value = λ i. absurd i.1 }, (nest_valid deep, tt))

nests_known : (w : List Letter) → (w ≡ []) ⊎ (w ≡ Element 1 ∷ []) → Each (IsKnown Nests) w
nests_known w (inl e) = subst (Each (IsKnown Nests)) (sym e) tt
nests_known w (inr e) = subst (Each (IsKnown Nests)) (sym e) (([], (refl, inl refl)), tt)

pub nests_law : Contents Nests
nests_law = record {
  numbers = λ n d. let is = d.1.0 in (omega arith, omega arith);
  words = λ n w h. nests_known w h.1;
  trees = λ n d. (none, subst (λ m. Valid Nests no_values m none) (sym d.1.0) (nest_valid 0));
}
