-- The models of declarations whose names are all declared name elements that have a record.
use Rattle.std.proofs.Common.{◌≡◌, ℕ, suc, ◌+◌, ◌≤◌, Bool, true, false, ◌&&◌, eqb, List, [], ◌∷◌, ◌++◌, length, refl, arith}
use borrow.Author.Tests.{eqb-false, not-true}
use Rattle.engine.specs.Languages.{Each}
use Rattle.engine.specs.declared.alphabet.ContentAtom.{ContentAtom}
use Rattle.engine.specs.declared.alphabet.ContentAtom.TheVariants.{Text, Element}
use Rattle.models.specs.Expressions.{Exp, empty, atom, seq, alt, star, plus, option}
use Rattle.models.proofs.Numbering.{leaves}
use Rattle.scan.specs.Lists.{same, number_of, listed, all_listed}
use Rattle.scan.specs.Names.{Name}
use Rattle.declarations.specs.Contents.{Content, nothing, anything, mixed, children}
use Rattle.declarations.specs.Models.{names_in, content_names, numbered, or_names, model}
use Rattle.sealed.specs.Checks.{Names}

-- A number is at most as large as the list of names is long.
number_small : (names : List Name) (n : Name) → number_of names n ≤ length names
unfolding number_of
number_small [] n = omega arith
number_small (m ∷ names) n = by (same m n) (eqb (number_of names n) 0) (number_small names n)
  where
    by : (b c : Bool) → number_of names n ≤ length names → elim b [ true ↦ 1 | false ↦ elim c [ true ↦ 0 | false ↦ number_of names n + 1 ] ] ≤ suc (length names)
    by true c h = omega arith
    by false true h = omega arith
    by false false h = omega arith

listed_positive : (names : List Name) (n : Name) → listed names n ≡ true → 1 ≤ number_of names n
listed_positive names n e = let z = eqb-false (number_of names n) 0 (not-true (eqb (number_of names n) 0) e) in omega (arith, z)

and_left : (a b : Bool) → (a && b) ≡ true → a ≡ true
and_left true b e = refl
and_left false b e = e

and_right : (a b : Bool) → (a && b) ≡ true → b ≡ true
and_right true b e = e
and_right false b e = let k : ◌≡◌ {A = ℕ} 0 1 = cc in absurd (omega arith)

all_append : (names xs ys : List Name) → all_listed names (xs ++ ys) ≡ true → (all_listed names xs ≡ true) × (all_listed names ys ≡ true)
all_append names [] ys e = (refl, e)
all_append names (x ∷ xs) ys e =
    let rest = all_append names xs ys (and_right (listed names x) (all_listed names (xs ++ ys)) e) in
    let head = and_left (listed names x) (all_listed names (xs ++ ys)) e in
    (rw head rest.0, rest.1)

each_append : {X : Type 0} (P : X → Type 0) (u v : List X) → Each P u → Each P v → Each P (u ++ v)
each_append P [] v h k = k
each_append P (x ∷ u) v h k = (h.0, each_append P u v h.1 k)

-- The names of the elements that a model names lie within the declared ones.
module _ (names : List Name) where
  Good : ContentAtom → Type 0
  Good = Names (length names)

  name_good : (n : Name) → listed names n ≡ true → Names (length names) (Element (number_of names n))
  name_good n e = (listed_positive names n e, number_small names n)

  numbered_good : (e : Exp Name) → all_listed names (names_in e) ≡ true → Each (Names (length names)) (leaves (numbered names e))
  numbered_good empty h = tt
  numbered_good (atom n) h = (name_good n (and_left (listed names n) true h), tt)
  numbered_good (seq e f) h =
      let both = all_append names (names_in e) (names_in f) h in
      each_append (Names (length names)) (leaves (numbered names e)) (leaves (numbered names f)) (numbered_good e both.0) (numbered_good f both.1)
  numbered_good (alt e f) h =
      let both = all_append names (names_in e) (names_in f) h in
      each_append (Names (length names)) (leaves (numbered names e)) (leaves (numbered names f)) (numbered_good e both.0) (numbered_good f both.1)
  numbered_good (star e) h = numbered_good e h
  numbered_good (plus e) h = numbered_good e h
  numbered_good (option e) h = numbered_good e h

  or_names_good : (e : Exp ContentAtom) (ns : List Name) → all_listed names ns ≡ true → Each (Names (length names)) (leaves e) → Each (Names (length names)) (leaves (or_names names e ns))
  or_names_good e [] h k = k
  or_names_good e (n ∷ ns) h k =
      or_names_good (alt e (atom (Element (number_of names n)))) ns (and_right (listed names n) (all_listed names ns) h)
      (each_append (Names (length names)) (leaves e) (Element (number_of names n) ∷ []) k (name_good n (and_left (listed names n) (all_listed names ns) h), tt))

  pub model_good : (c : Content) → all_listed names (content_names c) ≡ true → Each (Names (length names)) (leaves (model names c))
  model_good nothing h = tt
  model_good anything h = (omega arith, tt)
  model_good (mixed ns) h = or_names_good (atom Text) ns h (tt, tt)
  model_good (children e) h = numbered_good e h
