-- Asking the declarations one after the other.
use Rattle.std.proofs.Common.{◌≡◌, ℕ, zero, suc, ◌+◌, ◌<◌, ◌≤◌, true, false, List, [], ◌∷◌, ◌++◌, length, get_or, take, drop, Some, None, sym, refl, ap, ◌∙◌, subst, arith, take-append-drop, take_all}
use Rattle.std.proofs.lemmas.List.{take_more}
use Rattle.scan.specs.Lists.{zero_entry}
use Rattle.scan.specs.Readings.{got}
use Rattle.declarations.specs.Contents.{Placed}
use Rattle.declarations.specs.Readers.{read_declaration}
use Rattle.drafts.specs.Noted.{AllRead}
use Rattle.drafts.specs.Questions.{Asked, first_no, declared_names}
use Rattle.drafts.specs.Tables.{entry_of, entries_of}
use Rattle.drafts.proofs.Asking.{first_no_push, first_no_stays, first_no_more, first_no_at}

module _ (asked : Asked) (found : List Placed) (k : ℕ) (p : Placed) (there : k < length found) (is : get_or found k p ≡ p) where
  more : take (k + 1) found ≡ take k found ++ (p ∷ [])
  more = take_more found k p there ∙ ap (λ x. take k found ++ (x ∷ [])) is

  pub loop_yes : asked (take k found) p ≡ true → first_no asked [] (take k found) ≡ None → first_no asked [] (take (k + 1) found) ≡ None
  unfolding first_no
  loop_yes yes-here before =
      ap (first_no asked []) more
      ∙ first_no_push asked [] (take k found) p None before (first_no_more asked (take k found) p [] yes-here)

  pub loop_no : asked (take k found) p ≡ false → first_no asked [] (take k found) ≡ None → first_no asked [] found ≡ Some p.place
  loop_no no-here before =
      let here = ap (first_no asked []) more ∙ first_no_push asked [] (take k found) p (Some p.place) before (first_no_at asked (take k found) p [] no-here) in
      ap (first_no asked []) (sym (take-append-drop (k + 1) found)) ∙ first_no_stays asked [] (take (k + 1) found) (drop (k + 1) found) p.place here

pub loop_all : (asked : Asked) (found : List Placed) (k : ℕ) → length found ≤ k → first_no asked [] (take k found) ≡ None → first_no asked [] found ≡ None
loop_all asked found k h e = ap (first_no asked []) (sym (take_all k found h)) ∙ e

-- What stands at a place of the lists.
pub at_place : (text : List ℕ) (found : List Placed) (k : ℕ) → k < length found → (p : Placed) × (get_or found k p ≡ p) × (get_or (entries_of text found) k zero_entry ≡ entry_of text p)
at_place text [] k h = absurd (omega arith)
at_place text (q ∷ found) zero h = (q, refl, refl)
at_place text (q ∷ found) (suc k) h = at_place text found k (omega arith)

pub read_at : (text : List ℕ) (found : List Placed) (k : ℕ) (p : Placed) → AllRead text found → k < length found → get_or found k p ≡ p → (rest : List ℕ) × (read_declaration (drop p.place text) ≡ got p.declaration rest)
read_at text [] k p all h e = absurd (omega arith)
read_at text (q ∷ found) zero p all h e = subst (λ (x : Placed). (rest : List ℕ) × (read_declaration (drop x.place text) ≡ got x.declaration rest)) e all.0
read_at text (q ∷ found) (suc k) p all h e = read_at text found k p all.1 (omega arith) e

-- The names declared before it, its own, and those behind it.
pub names_around : (found : List Placed) (k : ℕ) (p : Placed) → k < length found → get_or found k p ≡ p → declared_names found ≡ declared_names (take k found) ++ (p.declaration.name ∷ declared_names (drop (k + 1) found))
names_around [] k p h e = absurd (omega arith)
names_around (q ∷ found) zero p h e = ap (λ (x : Placed). x.declaration.name ∷ declared_names found) e
names_around (q ∷ found) (suc k) p h e =
    ap (λ ns. q.declaration.name ∷ ns) (names_around found k p (omega arith) e)
    ∙ ap (λ i. q.declaration.name ∷ (declared_names (take k found) ++ (p.declaration.name ∷ declared_names (drop i (q ∷ found))))) (let i : suc (k + 1) ≡ suc k + 1 = omega arith in i)

pub length_names : (found : List Placed) → length (declared_names found) ≡ length found
length_names [] = refl
length_names (p ∷ found) = ap suc (length_names found)
