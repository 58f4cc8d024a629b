-- Nodes that are written one behind the other.
use Rattle.std.proofs.Common.{◌≡◌, ℕ, ◌+◌, ◌-◌, ◌^◌, ◌≤◌, List, [], ◌∷◌, ◌++◌, length, set, sym, refl, ap, ◌∙◌, inl, inr, arith, length-append, length-set}
use Rattle.std.proofs.lemmas.Bool.{cases_lt}
use Rattle.models.specs.Expressions.{Exp, empty, atom, seq, alt, star, plus, option, atoms}
use Rattle.models.specs.Folds.{code}
use Rattle.models.specs.declared.node.Node.{Node}
use Rattle.models.specs.declared.node.Node.TheVariants as node
use Rattle.scan.specs.Lists.{puts}
use Rattle.scan.proofs.Writing.{puts_append, puts_past}
use Rattle.writing.specs.Wrote.{atoms_in, Counts, Wrote}
use Rattle.writing.specs.declared.writer.Writer.{Writer}

pub atoms_in_append : {A : Type 0} (xs ys : List (Node A)) → atoms_in (xs ++ ys) ≡ atoms_in xs + atoms_in ys
atoms_in_append [] ys = omega arith
atoms_in_append (node.Atom a ∷ xs) ys = omega (arith, atoms_in_append xs ys)
atoms_in_append (node.Unused ∷ xs) ys = atoms_in_append xs ys
atoms_in_append (node.Empty ∷ xs) ys = atoms_in_append xs ys
atoms_in_append (node.Seq ∷ xs) ys = atoms_in_append xs ys
atoms_in_append (node.Alt ∷ xs) ys = atoms_in_append xs ys
atoms_in_append (node.Star ∷ xs) ys = atoms_in_append xs ys
atoms_in_append (node.Plus ∷ xs) ys = atoms_in_append xs ys
atoms_in_append (node.Opt ∷ xs) ys = atoms_in_append xs ys

-- The nodes of an expression have its atoms, and it has no more of these than nodes.
pub atoms_in_code : {A : Type 0} (e : Exp A) → atoms_in (code e) ≡ atoms e
atoms_in_code empty = refl
atoms_in_code (atom a) = refl
atoms_in_code (seq e f) =
    omega (arith, atoms_in_append (code e) (code f ++ (node.Seq ∷ [])), atoms_in_append (code f) (node.Seq ∷ []), atoms_in_code e, atoms_in_code f)
atoms_in_code (alt e f) =
    omega (arith, atoms_in_append (code e) (code f ++ (node.Alt ∷ [])), atoms_in_append (code f) (node.Alt ∷ []), atoms_in_code e, atoms_in_code f)
atoms_in_code (star e) = omega (arith, atoms_in_append (code e) (node.Star ∷ []), atoms_in_code e)
atoms_in_code (plus e) = omega (arith, atoms_in_append (code e) (node.Plus ∷ []), atoms_in_code e)
atoms_in_code (option e) = omega (arith, atoms_in_append (code e) (node.Opt ∷ []), atoms_in_code e)

pub atoms_in_le : {A : Type 0} (xs : List (Node A)) → atoms_in xs ≤ length xs
atoms_in_le [] = omega arith
atoms_in_le (node.Atom a ∷ xs) = omega (arith, atoms_in_le xs)
atoms_in_le (node.Unused ∷ xs) = omega (arith, atoms_in_le xs)
atoms_in_le (node.Empty ∷ xs) = omega (arith, atoms_in_le xs)
atoms_in_le (node.Seq ∷ xs) = omega (arith, atoms_in_le xs)
atoms_in_le (node.Alt ∷ xs) = omega (arith, atoms_in_le xs)
atoms_in_le (node.Star ∷ xs) = omega (arith, atoms_in_le xs)
atoms_in_le (node.Plus ∷ xs) = omega (arith, atoms_in_le xs)
atoms_in_le (node.Opt ∷ xs) = omega (arith, atoms_in_le xs)

pub length_puts : {A : Type 0} (t : List A) (at : ℕ) (xs : List A) → length (puts t at xs) ≡ length t
unfolding puts
length_puts t at [] = refl
length_puts t at (x ∷ xs) = length_puts (set t at x) (at + 1) xs ∙ simp length-set

counts_sum : (a m n b c k : ℕ) → k ≡ m + n → Counts a m b → Counts b n c → Counts a k c
counts_sum a m n b c k e p q =
    record { exact = λ h. omega (arith, p.exact (omega arith), q.exact); full = λ h. past h }
  where
    past : 2 ^ 64 ≤ a + k → c ≡ 2 ^ 64 - 1
    past h =
        elim (cases_lt (a + m) (2 ^ 64)) [
          | inl lt ↦ omega (arith, p.exact lt, q.full)
          | inr le ↦
              elim (cases_lt (b + n) (2 ^ 64)) [ inl lt ↦ omega (arith, p.full le, q.exact lt) | inr more ↦ q.full more ]
        ]

-- Nodes behind nodes.
pub wrote_append : {A T : Type 0} (before mid after : Writer A T) (xs ys : List (Node A)) → Wrote before xs mid → Wrote mid ys after → Wrote before (xs ++ ys) after
wrote_append {A} before mid after xs ys p q =
    record {
      written = q.written ∙ ap (λ t. puts t mid.used ys) p.written ∙ by ∙ sym (puts_append before.nodes.now before.used xs ys);
      short = p.short;
      used = counts_sum before.used (length xs) (length ys) mid.used after.used (length (xs ++ ys)) (length-append xs ys) p.used q.used;
      atoms = counts_sum before.atoms (atoms_in xs) (atoms_in ys) mid.atoms after.atoms (atoms_in (xs ++ ys)) (atoms_in_append xs ys) p.atoms q.atoms;
    }
  where
    first : List (Node A)
    first = puts before.nodes.now before.used xs

    long : length first ≡ length before.nodes.now
    long = length_puts before.nodes.now before.used xs

    by : puts first mid.used ys ≡ puts first (before.used + length xs) ys
    by =
        elim (cases_lt (before.used + length xs) (2 ^ 64)) [
          | inl lt ↦ ap (λ i. puts first i ys) (p.used.exact lt)
          | inr le ↦
              puts_past first mid.used ys (omega (arith, p.used.full le, p.short, long))
              ∙ sym (puts_past first (before.used + length xs) ys (omega (arith, p.short, long)))
        ]
