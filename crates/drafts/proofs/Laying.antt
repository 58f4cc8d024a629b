-- One model more behind the others.
use Rattle.std.proofs.Common.{◌≡◌, ℕ, ◌+◌, List, [], ◌∷◌, ◌++◌, length, sym, refl, ap, ◌∙◌, append_assoc, arith, length-append}
use Rattle.models.specs.Expressions.{Exp}
use Rattle.models.specs.Folds.{code}
use Rattle.scan.specs.Names.{Name}
use Rattle.declarations.specs.Contents.{Placed}
use Rattle.drafts.specs.Layouts.{all_code, runs_from}
use Rattle.drafts.specs.Questions.{model_of, nodes_of}
use Rattle.drafts.specs.Tables.{models_in}

append-nil : {A : Type 0} (xs : List A) → xs ++ [] ≡ xs
append-nil [] = refl
append-nil (x ∷ xs) = ap (λ t. x ∷ t) (append-nil xs)

pub models_append : (names : List Name) (found : List Placed) (p : Placed) → models_in names (found ++ (p ∷ [])) ≡ models_in names found ++ (model_of names p ∷ [])
models_append names [] p = refl
models_append names (q ∷ found) p = ap (λ t. model_of names q ∷ t) (models_append names found p)

pub code_append : {A : Type 0} (es : List (Exp A)) (e : Exp A) → all_code (es ++ (e ∷ [])) ≡ all_code es ++ code e
code_append [] e = append-nil (code e)
code_append (f ∷ es) e = ap (λ t. code f ++ t) (code_append es e) ∙ sym (append_assoc (code f) (all_code es) (code e))

pub runs_append : {A : Type 0} (u : ℕ) (es : List (Exp A)) (e : Exp A) (start : ℕ) → start ≡ u + length (all_code es) → runs_from u (es ++ (e ∷ [])) ≡ runs_from u es ++ (record { start = start; end = start + length (code e) } ∷ [])
runs_append u [] e start is = ap (λ s. record { start = s; end = s + length (code e) } ∷ []) (let s : u ≡ start = omega arith in s)
runs_append u (f ∷ es) e start is =
    let l = length-append (code f) (all_code es) in
    ap (λ t. record { start = u; end = u + length (code f) } ∷ t) (runs_append (u + length (code f)) es e start (omega arith))

-- The number of nodes is that of the code.
pub nodes_counted : (names : List Name) (found : List Placed) → nodes_of names found ≡ length (all_code (models_in names found))
nodes_counted names [] = refl
nodes_counted names (p ∷ found) =
    let l = length-append (code (model_of names p)) (all_code (models_in names found)) in
    let h = nodes_counted names found in
    omega arith

pub nodes_append : (names : List Name) (found : List Placed) (p : Placed) → nodes_of names (found ++ (p ∷ [])) ≡ nodes_of names found + length (code (model_of names p))
nodes_append names [] p = omega arith
nodes_append names (q ∷ found) p = let h = nodes_append names found p in omega arith
