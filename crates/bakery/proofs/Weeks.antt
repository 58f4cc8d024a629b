-- The week is a valid document of the agreement.
use Rattle.std.proofs.Common.{◌≡◌, ℕ, List, [], ◌∷◌, sym, refl, subst, append-nil, arith}
use Rattle.engine.specs.Languages.{Inhabited}
use Rattle.engine.specs.Trees.{none, piece, Valid}
use Rattle.bakery.specs.Contents.{Holds, sheet, shift, correction, lock, hours}
use Rattle.bakery.specs.Values.{IsDigit, Reads, left_out, written}
use Rattle.bakery.specs.Week.{WeekValid}
use Rattle.bakery.proofs.ValueMoves.{all_real}

-- Text counts only in hours.
pub silent : (n : ℕ) (w : List ℕ) → (n ≡ 5 → ⊥) → Inhabited (Reads n) → Reads n w
silent n w other i = absurd (other i.1.0)

-- Hours are valid when their text reads as hours.
pub entry : (first : ℕ) (further : List ℕ) → Reads 5 (first ∷ further) → Valid Holds Reads 5 (piece first further none)
entry first further reads = (
  record {
    content = hours refl (tt, tt);
    value = λ i. subst (Reads 5) (sym (append-nil (first ∷ further))) reads;
  },
  (all_real 5 (first ∷ further) reads, tt),
)

-- A digit and hundredths.
pub decimal : (units tenths last : ℕ) → IsDigit units → IsDigit tenths → IsDigit last → Reads 5 (units ∷ 46 ∷ tenths ∷ last ∷ [])
decimal units tenths last d t l =
    (refl, (units, [], 46 ∷ tenths ∷ last ∷ [], refl, (d, tt), written tenths last t l refl))

pub week_valid : WeekValid
week_valid = (
  record { content = sheet refl (1, 1, refl); value = silent 1 [] (λ e. omega arith) },
  (
    (
      record { content = shift refl refl; value = silent 2 [] (λ e. omega arith) },
      (entry 56 [] (refl, (56, [], [], refl, ((omega arith, omega arith), tt), left_out refl)), tt),
    ),
    (
      (
        record { content = shift refl refl; value = silent 2 [] (λ e. omega arith) },
        (entry 55 _ (decimal 55 53 48 (omega arith, omega arith) (omega arith, omega arith) (omega arith, omega arith)), tt),
      ),
      (
        (
          record { content = correction refl refl; value = silent 3 [] (λ e. omega arith) },
          (entry 48 _ (decimal 48 50 53 (omega arith, omega arith) (omega arith, omega arith) (omega arith, omega arith)), tt),
        ),
        ((record { content = lock refl refl; value = silent 4 [] (λ e. omega arith) }, tt), tt),
      ),
    ),
  ),
)
