-- What is asked number by number and node by node: a set from which one member is taken, nodes by which
-- nothing forks, and what the nodes of a number say of the number.
use Rattle.std.proofs.Common.{◌≡◌, ℕ, ◌+◌, ◌^◌, ◌<◌, ◌≤◌, Bool, true, false, not, eqb, List, [], ◌∷◌, ◌++◌, sym, refl, ap, ◌∙◌, subst, inl, inr, append-nil, eqb-true, arith}
use borrow.Author.Tests.{both_ways, eqb-false}
use Rattle.std.proofs.lemmas.Bool.{cases_eq}
use Rattle.bits.specs.Sets.{has}
use Rattle.bits.proofs.Exclusive.{some_member}
use Rattle.bits.proofs.Sets as sets
use Rattle.engine.specs.Atoms.{content_sample}
use Rattle.engine.specs.Languages.{Each, Decides}
use Rattle.engine.specs.declared.alphabet.ContentAtom.{ContentAtom}
use Rattle.models.specs.Expressions.{Exp}
use Rattle.models.specs.Folds.{Codes}
use Rattle.models.specs.Readers.{atom_of, atoms_of}
use Rattle.models.specs.Tables.{NodesOf}
use Rattle.models.specs.declared.node.Model.{Model}
use Rattle.models.specs.declared.node.Node.{Node}
use Rattle.models.specs.declared.node.Node.TheVariants as node
use Rattle.models.proofs.Numbering.{atoms_of_append}
use Rattle.sealing.specs.Completion.{Completes}
use Rattle.sealing.specs.Forks.{ForksIn, ForksBy, AmbiguousIn, Several}
use Rattle.sealing.specs.Questions.{IsAmbiguous, Unambiguous}
use Rattle.sealing.proofs.Completing.{each_both}

-- What holds of the numbers below one, and of that one, holds of the numbers below the next.
pub below_next : (Yes : ℕ → Type 0) (k : ℕ) → ((n : ℕ) → 1 ≤ n → n < k → Yes n) → Yes k → (n : ℕ) → 1 ≤ n → n < k + 1 → Yes n
below_next Yes k before here n low high =
    elim (cases_eq n k) [ inl e ↦ subst Yes (sym e) here | inr ne ↦ before n low (omega arith) ]

-- A set from which one of its members is taken has several members exactly when something is left.
pub several_left : (set rest p : ℕ) → rest < 2 ^ 64 → has set p ≡ true → has rest p ≡ false → ((q : ℕ) → (q ≡ p → ⊥) → has rest q ≡ has set q) → (rest ≡ 0 → ⊥) → Several set
several_left set rest p fits here gone others some =
    let (q, lt, m) = some_member rest fits some in
    let ne : q ≡ p → ⊥ = λ e. both_ways (has rest p) gone (subst (λ k. has rest k ≡ true) e m) in
    (q, p, ne, sym (others q ne) ∙ m, here)

pub several_none : (set rest p : ℕ) → ((q : ℕ) → (q ≡ p → ⊥) → has rest q ≡ has set q) → rest ≡ 0 → Several set → ⊥
several_none set rest p others none (i, j, ne, hi, hj) =
    elim (cases_eq i p) [
      | inl e ↦ empty j (λ f. ne (e ∙ sym f)) hj
      | inr n ↦ empty i n hi
    ]
  where
    empty : (k : ℕ) → (k ≡ p → ⊥) → has set k ≡ true → ⊥
    empty k n h = both_ways (has 0 k) (sets.empty k) (subst (λ s. has s k ≡ true) none (others k n ∙ h))

pub several_empty : Several 0 → ⊥
several_empty (i, j, ne, hi, hj) = both_ways (has 0 i) (sets.empty i) hi

pub several_told : (set rest p : ℕ) → rest < 2 ^ 64 → has set p ≡ true → has rest p ≡ false → ((q : ℕ) → (q ≡ p → ⊥) → has rest q ≡ has set q) → Decides (not (eqb rest 0)) (Several set)
several_told set rest p fits here gone others = by (eqb rest 0) refl
  where
    by : (t : Bool) → eqb rest 0 ≡ t → Decides (not t) (Several set)
    by true e = several_none set rest p others (eqb-true rest 0 e)
    by false e = several_left set rest p fits here gone others (eqb-false rest 0 e)

-- One node more, by which nothing forks.
module _ (nodes : List (Node ContentAtom)) where
  abbrev pub NoFork : ContentAtom → Type 0
  NoFork a = (p : ℕ) → p ≤ 63 → ForksIn nodes (content_sample a) p → ⊥

  no_fork_at : (x : Node ContentAtom) → ((a : ContentAtom) → x ≡ node.Atom a → ForksBy nodes a → ⊥) → Each NoFork (atom_of x)
  no_fork_at node.Unused never = tt
  no_fork_at node.Empty never = tt
  no_fork_at (node.Atom a) never = (λ p low f. never a refl (p, low, f), tt)
  no_fork_at node.Seq never = tt
  no_fork_at node.Alt never = tt
  no_fork_at node.Star never = tt
  no_fork_at node.Plus never = tt
  no_fork_at node.Opt never = tt

  pub no_fork_more : (seen : List (Node ContentAtom)) (x : Node ContentAtom) → Each NoFork (atoms_of seen) → ((a : ContentAtom) → x ≡ node.Atom a → ForksBy nodes a → ⊥) → Each NoFork (atoms_of (seen ++ (x ∷ [])))
  no_fork_more seen x h never =
      subst (Each NoFork) (sym (atoms_of_append seen (x ∷ []) ∙ ap (λ cs. atoms_of seen ++ cs) (append-nil (atom_of x))))
      (each_both NoFork (atoms_of seen) (atom_of x) h (no_fork_at x never))

-- From the nodes of a number to the number.
module _ (nodes : List (Node ContentAtom)) (models : List Model) (n : ℕ) (slice : List (Node ContentAtom)) (is : NodesOf nodes models n slice) where
  pub ambiguous_number : AmbiguousIn slice → IsAmbiguous nodes models n
  ambiguous_number (e, c, m) = (e, (is e).0 c, m)

  pub unambiguous_number : (AmbiguousIn slice → ⊥) → Unambiguous nodes models n
  unambiguous_number never (e, c, m) = never (e, (is e).1 c, m)

-- Nodes that code nothing complete no element.
pub completes_none : (nodes : List (Node ContentAtom)) (models : List Model) (number set : ℕ) (slice : List (Node ContentAtom)) → NodesOf nodes models number slice → ((e : Exp ContentAtom) → Codes 64 slice e → ⊥) → Completes nodes models set number → ⊥
completes_none nodes models number set slice is never (w, (e, c, l), p) = never e ((is e).1 c)
