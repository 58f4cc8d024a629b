-- There are as many models and entries as declarations.
use Rattle.std.proofs.Common.{◌≡◌, ℕ, suc, List, [], ◌∷◌, length, refl, ap}
use Rattle.scan.specs.Names.{Name}
use Rattle.declarations.specs.Contents.{Placed}
use Rattle.drafts.specs.Tables.{entries_of, models_in}

pub length_models : (names : List Name) (found : List Placed) → length (models_in names found) ≡ length found
length_models names [] = refl
length_models names (p ∷ ps) = ap suc (length_models names ps)

pub length_entries : (text : List ℕ) (found : List Placed) → length (entries_of text found) ≡ length found
length_entries text [] = refl
length_entries text (p ∷ ps) = ap suc (length_entries text ps)
