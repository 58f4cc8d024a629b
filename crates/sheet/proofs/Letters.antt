-- What holds of each letter of a word, of its front and of its back.
use Rattle.std.proofs.Common.{ℕ, suc, ◌<◌, List, [], ◌∷◌, ◌++◌, length, get_or, ◌≡◌, Bool, true, false, ◌==◌, sym, ◌∙◌}
use Rattle.engine.specs.Languages.{Each}
use Rattle.engine.specs.Trees.{IsByte}
use Rattle.sheet.specs.Questions.{HasByte}

module _ {A : Type 0} (P : A → Type 0) where
  pub each_front : (u w : List A) → Each P (u ++ w) → Each P u
  each_front [] w h = tt
  each_front (a ∷ u) w (p, h) = (p, each_front u w h)

  pub each_back : (u w : List A) → Each P (u ++ w) → Each P w
  each_back [] w h = h
  each_back (a ∷ u) w (p, h) = each_back u w h

  pub each_both : (u w : List A) → Each P u → Each P w → Each P (u ++ w)
  each_both [] w h k = k
  each_both (a ∷ u) w (p, h) k = (p, each_both u w h k)

-- What a slice of bytes holds are bytes.
pub each_byte : (w : List ℕ) → ((i : ℕ) → get_or w i 0 < 256) → Each IsByte w
each_byte [] h = tt
each_byte (b ∷ w) h = (h 0, each_byte w (λ i. h (suc i)))

-- A text that is not empty has a byte.
pub has_byte : (w : List ℕ) (empty : Bool) → empty ≡ (length w == 0) → empty ≡ false → HasByte w
has_byte [] empty is not-empty = let z : true ≡ false = sym is ∙ not-empty in cc
has_byte (b ∷ w) empty is not-empty = tt
