-- An expression has no more atoms than nodes, and at least one node.
use Rattle.std.proofs.Common.{◌≤◌, length, arith, length-append}
use Rattle.models.specs.Expressions.{Exp, empty, atom, seq, alt, star, plus, option, atoms}
use Rattle.models.specs.Folds.{code}

pub atoms_le : {A : Type 0} (m : Exp A) → (atoms m ≤ length (code m)) × (1 ≤ length (code m))
atoms_le empty = (omega arith, omega arith)
atoms_le (atom a) = (omega arith, omega arith)
atoms_le (seq e f) =
    let h = atoms_le e in
    let k = atoms_le f in
    (simp length-append (omega arith), simp length-append (omega arith))
atoms_le (alt e f) =
    let h = atoms_le e in
    let k = atoms_le f in
    (simp length-append (omega arith), simp length-append (omega arith))
atoms_le (star e) = let h = atoms_le e in (simp length-append (omega arith), simp length-append (omega arith))
atoms_le (plus e) = let h = atoms_le e in (simp length-append (omega arith), simp length-append (omega arith))
atoms_le (option e) = let h = atoms_le e in (simp length-append (omega arith), simp length-append (omega arith))
