-- How many atoms the models of declarations have.
use Rattle.std.proofs.Common.{◌≡◌, ℕ, ◌+◌, List, [], ◌∷◌, length, refl, ap, ◌∙◌, arith}
use Rattle.engine.specs.declared.alphabet.ContentAtom.{ContentAtom}
use Rattle.engine.specs.declared.alphabet.ContentAtom.TheVariants.{Element}
use Rattle.models.specs.Expressions.{Exp, atom, alt, atoms}
use Rattle.models.specs.Folds.{code}
use Rattle.scan.specs.Lists.{number_of}
use Rattle.scan.specs.Names.{Name}
use Rattle.writing.specs.Signs.{mark_node}
use Rattle.writing.specs.Wrote.{atoms_in}
use Rattle.writing.specs.declared.signs.Joint as joint
use Rattle.writing.specs.declared.signs.Joint.TheVariants.{Sequence, Alternatives}
use Rattle.writing.specs.declared.signs.Mark.{Mark}
use Rattle.writing.specs.declared.signs.Mark.TheVariants.{AnyNumber, AtLeastOne, Perhaps}
use Rattle.writing.proofs.Writing.{atoms_in_append, atoms_in_code}
use Rattle.declarations.specs.Grammar.{join}
use Rattle.declarations.specs.Inner.{joint_of}
use Rattle.declarations.specs.Models.{numbered, or_names}
use Rattle.declarations.proofs.Parts.{Marks}

pub or_atoms : (names : List Name) (m : Exp ContentAtom) (ns : List Name) → atoms (or_names names m ns) ≡ atoms m + length ns
or_atoms names m [] = omega arith
or_atoms names m (n ∷ ns) = or_atoms names (alt m (atom (Element (number_of names n)))) ns ∙ omega arith

pub join_atoms : (j : joint.Joint) (names : List Name) (e f : Exp Name) → atoms (numbered names (join (joint_of j) e f)) ≡ atoms (numbered names e) + atoms (numbered names f)
join_atoms Sequence names e f = refl
join_atoms Alternatives names e f = refl

-- A mark is no atom.
no_more : (x : Mark) → atoms_in {A = ContentAtom} (mark_node x ∷ []) ≡ 0
no_more AnyNumber = refl
no_more AtLeastOne = refl
no_more Perhaps = refl

pub same_atoms : (names : List Name) (e : Exp Name) (t : List ℕ) (x : Mark) (m : Marks names e t x) → atoms (numbered names m.made) ≡ atoms (numbered names e)
same_atoms names e t x m =
    omega (arith, atoms_in_code (numbered names m.made), atoms_in_code (numbered names e), ap atoms_in m.codes, atoms_in_append (code (numbered names e)) (mark_node x ∷ []), no_more x)
