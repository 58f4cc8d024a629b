-- Expressions that stand one after the other in a node table are coded at their records.
use Rattle.std.proofs.Common.{◌≡◌, ℕ, suc, ◌+◌, ◌-◌, ◌≤◌, List, [], ◌∷◌, ◌++◌, length, get_or, take, drop, sym, refl, ap, ◌∙◌, subst, inl, inr, append_assoc, arith, length-append}
use lib.Seq.{take-append_seam, drop-append_seam}
use Rattle.models.specs.Expressions.{Exp, atoms}
use Rattle.models.specs.Folds.{code, depth}
use Rattle.models.specs.Readers.{Numbered}
use Rattle.models.specs.Tables.{Coded, part}
use Rattle.models.specs.declared.node.Model.{Model}
use Rattle.models.specs.declared.node.Node.{Node}
use Rattle.models.proofs.Numbering.{numbered_in}
use Rattle.drafts.specs.Layouts.{all_code, runs_from}
use Rattle.drafts.specs.Tables.{zero_model}

-- The nodes between the places of an expression that stands behind others are its code.
seam : {A : Type 0} (before : List A) (xs after : List A) (used : ℕ) → length before ≡ used → take ((used + length xs) - used) (drop used (before ++ (xs ++ after))) ≡ xs
seam before xs after used e =
    let k : (used + length xs) - used ≡ length xs = omega arith in
    let d : drop used (before ++ (xs ++ after)) ≡ xs ++ after = subst (λ u. drop u (before ++ (xs ++ after)) ≡ xs ++ after) e (drop-append_seam before (xs ++ after)) in
    ap (λ n. take n (drop used (before ++ (xs ++ after)))) k ∙ ap (take (length xs)) d ∙ take-append_seam xs after

-- The record of the n-th expression, its nodes, and where they end.
pub record LaidOut {A : Type 0} (nodes : List (Node A)) (models : List Model) (i : ℕ) (e : Exp A) : Type 0 where
  pub nodes_are : part nodes (get_or models i zero_model) ≡ code e
  pub inside : (get_or models i zero_model).end ≤ length nodes

pub laid_out : {A : Type 0} (es : List (Exp A)) (b n used : ℕ) (e : Exp A) (before after : List (Node A)) → length before ≡ used → Numbered es b n e → LaidOut (before ++ (all_code es ++ after)) (runs_from used es) (n - (b + 1)) e
laid_out [] b n used e before after l h = absurd h
laid_out (f ∷ es) b n used e before after l (inl (at, is)) =
    let i : n - (b + 1) ≡ 0 = omega arith in
    let whole : before ++ ((code f ++ all_code es) ++ after) ≡ before ++ (code f ++ (all_code es ++ after)) = simp append_assoc in
    let len : used + length (code f) ≤ length (before ++ (code f ++ (all_code es ++ after))) = simp length-append (omega arith) in
    let first : LaidOut (before ++ (code f ++ (all_code es ++ after))) (runs_from used (f ∷ es)) 0 f = record { nodes_are = seam before (code f) (all_code es ++ after) used l; inside = len } in
    let moved = subst (λ ns. LaidOut ns (runs_from used (f ∷ es)) 0 f) (sym whole) first in
    let named = subst (LaidOut (before ++ ((code f ++ all_code es) ++ after)) (runs_from used (f ∷ es)) 0) is moved in
    subst (λ k. LaidOut (before ++ ((code f ++ all_code es) ++ after)) (runs_from used (f ∷ es)) k e) (sym i) named
laid_out (f ∷ es) b n used e before after l (inr h) =
    let there = numbered_in es (b + 1) n e h in
    let i : n - (b + 1) ≡ suc (n - ((b + 1) + 1)) = omega (arith, there.0) in
    let more : length (before ++ code f) ≡ used + length (code f) = simp length-append (omega arith) in
    let below = laid_out es (b + 1) n (used + length (code f)) e (before ++ code f) after more h in
    let whole : (before ++ code f) ++ (all_code es ++ after) ≡ before ++ ((code f ++ all_code es) ++ after) = simp append_assoc in
    let moved = subst (λ ns. LaidOut ns (runs_from (used + length (code f)) es) (n - ((b + 1) + 1)) e) whole below in
    let same : LaidOut (before ++ ((code f ++ all_code es) ++ after)) (runs_from used (f ∷ es)) (suc (n - ((b + 1) + 1))) e = record { nodes_are = moved.nodes_are; inside = moved.inside } in
    subst (λ k. LaidOut (before ++ ((code f ++ all_code es) ++ after)) (runs_from used (f ∷ es)) k e) (sym i) same

pub length_runs : {A : Type 0} (used : ℕ) (es : List (Exp A)) → length (runs_from used es) ≡ length es
length_runs used [] = refl
length_runs used (e ∷ es) = ap suc (length_runs (used + length (code e)) es)

-- The n-th of several expressions is what the table codes for n.
pub coded_at : {A : Type 0} (es : List (Exp A)) (n : ℕ) (e : Exp A) (after : List (Node A)) → Numbered es 0 n e → atoms e ≤ 63 → depth e ≤ 64 → Coded (all_code es ++ after) (runs_from 0 es) n e
coded_at es n e after h few deep =
    let there = numbered_in es 0 n e h in
    let at = laid_out es 0 n 0 e [] after refl h in
    let i : n - (0 + 1) ≡ n - 1 = omega arith in
    let placed = subst (λ k. LaidOut (all_code es ++ after) (runs_from 0 es) k e) i at in
    record {
      from_one = omega (arith, there.0);
      listed = omega (arith, there.1, length_runs 0 es);
      within = placed.inside;
      codes = record { coded = placed.nodes_are; few = few; fits = deep };
    }
