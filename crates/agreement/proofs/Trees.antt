-- Validity depends on the words of the languages only.
use Rattle.std.proofs.Common.{ℕ, List}
use Rattle.engine.specs.Languages.{Language}
use Rattle.engine.specs.Trees.{Forest, none, piece, child, letters, Fits, AllValid, Valid, no_values}
use Rattle.engine.specs.declared.alphabet.Letter.{Letter}

module _ (C D : ℕ → Language Letter) (goes : (n : ℕ) (w : List Letter) → C n w → D n w) where
  fits_too : (n : ℕ) (f : Forest) → Fits C no_values n f → Fits D no_values n f
  fits_too n f h = record { content = goes n (letters f) h.content; value = h.value }

  all_valid_too : (f : Forest) → AllValid C no_values f → AllValid D no_values f
  all_valid_too none h = tt
  all_valid_too (piece b bs after) h = (h.0, all_valid_too after h.1)
  all_valid_too (child n below after) h = ((fits_too n below h.0.0, all_valid_too below h.0.1), all_valid_too after h.1)

  pub valid_too : (n : ℕ) (f : Forest) → Valid C no_values n f → Valid D no_values n f
  valid_too n f h = (fits_too n f h.0, all_valid_too f h.1)
