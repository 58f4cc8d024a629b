-- The models of declarations fit the working values of a fold: the empty word is in none of them but alone.
use Rattle.std.proofs.Common.{◌≡◌, ℕ, zero, suc, ◌≤◌, List, [], ◌∷◌, sym, refl, ap, ◌∙◌, inl, inr, arith}
use Rattle.engine.specs.declared.alphabet.ContentAtom.{ContentAtom}
use Rattle.engine.specs.declared.alphabet.ContentAtom.TheVariants.{Text, Element}
use Rattle.models.specs.Expressions.{Exp, empty, atom, seq, alt, star, plus, option, atoms}
use Rattle.models.specs.Folds.{depth}
use Rattle.models.proofs.Folding.{empties, depth_few}
use Rattle.scan.specs.Lists.{number_of}
use Rattle.scan.specs.Names.{Name}
use Rattle.scan.specs.Readings.{Repeats, none, more}
use Rattle.declarations.specs.Contents.{Content, nothing, anything, mixed, children}
use Rattle.declarations.specs.Grammar.{Joint, by_comma, by_bar, join, Mark, UnitOf, Cp, Member, Choice, Seq, Group, ContentSpec, deepest}
use Rattle.declarations.specs.Models.{numbered, or_names, model}

-- No empty word is in it.
abbrev Full : {A : Type 0} → Exp A → Type 0
Full e = empties e ≡ 0

module _ (G : List ℕ → Exp Name → List ℕ → Type 0) (full : (t : List ℕ) (e : Exp Name) (r : List ℕ) → G t e r → Full e) where
  marked_full : (e : Exp Name) (t : List ℕ) (m : Exp Name) (r : List ℕ) → Full e → Mark e t m r → Full m
  marked_full e t m r f (inl (a, b)) = ap empties b ∙ f
  marked_full e t m r f (inr (inl (a, b))) = ap empties b ∙ f
  marked_full e t m r f (inr (inr (inl (a, b)))) = ap empties b ∙ f
  marked_full e t m r f (inr (inr (inr (a, b, c)))) = ap empties c ∙ f

  unit_full : (t : List ℕ) (e : Exp Name) (r : List ℕ) → UnitOf G t e r → Full e
  unit_full t e r (inl (name, h, is)) = ap empties is
  unit_full t e r (inr h) = full t e r h

  cp_full : (t : List ℕ) (e : Exp Name) (r : List ℕ) → Cp G t e r → Full e
  cp_full t e r (inner, mid, u, m) = marked_full inner mid e r (unit_full t inner mid u) m

  join_full : (j : Joint) (e f : Exp Name) → Full e → Full f → Full (join j e f)
  join_full by_comma e f h k = omega arith
  join_full by_bar e f h k = omega arith

  member_full : (j : Joint) (e : Exp Name) (t : List ℕ) (f : Exp Name) (r : List ℕ) → Full e → Member G j e t f r → Full f
  member_full j e t f r h (mid, g, sign, cp, is) = ap empties is ∙ join_full j e g h (cp_full _ g r cp)

  members_full : (j : Joint) (e : Exp Name) (t : List ℕ) (f : Exp Name) (r : List ℕ) → Full e → Repeats (Member G j) e t f r → Full f
  members_full j e t f r h (none a b) = ap empties (sym a) ∙ h
  members_full j e t f r h (more s u step rest) = members_full j s u f r (member_full j e t s u h step) rest

  choice_full : (t : List ℕ) (e : Exp Name) (r : List ℕ) → Choice G t e r → Full e
  choice_full t e r (inside, first, after, second, later, end, op, cp, m, ms, cl) =
      members_full by_bar second later e end (member_full by_bar first after second later (cp_full _ first after cp) m) ms

  seq_full : (t : List ℕ) (e : Exp Name) (r : List ℕ) → Seq G t e r → Full e
  seq_full t e r (inside, first, after, end, op, cp, ms, cl) = members_full by_comma first after e end (cp_full _ first after cp) ms

group_full : (n : ℕ) (t : List ℕ) (e : Exp Name) (r : List ℕ) → Group n t e r → Full e
group_full zero t e r h = absurd h
group_full (suc n) t e r (inl h) = choice_full (Group n) (group_full n) t e r h
group_full (suc n) t e r (inr h) = seq_full (Group n) (group_full n) t e r h

-- Numbers in place of names change nothing of that.
numbered_empties : (names : List Name) (e : Exp Name) → empties (numbered names e) ≡ empties e
numbered_empties names empty = refl
numbered_empties names (atom n) = refl
numbered_empties names (seq e f) = let h = numbered_empties names e in let k = numbered_empties names f in omega arith
numbered_empties names (alt e f) = let h = numbered_empties names e in let k = numbered_empties names f in omega arith
numbered_empties names (star e) = numbered_empties names e
numbered_empties names (plus e) = numbered_empties names e
numbered_empties names (option e) = numbered_empties names e

or_names_empties : (names : List Name) (e : Exp ContentAtom) (ns : List Name) → empties (or_names names e ns) ≡ empties e
or_names_empties names e [] = refl
or_names_empties names e (n ∷ ns) =
    let h = or_names_empties names (alt e (atom (Element (number_of names n)))) ns in omega arith

-- At most one empty word is in the model of a content that was read.
few_empties : (names : List Name) (t : List ℕ) (c : Content) (r : List ℕ) → ContentSpec t c r → empties (model names c) ≤ 1
few_empties names t nothing r h = omega arith
few_empties names t anything r h = omega arith
few_empties names t (mixed ns) r h = omega (arith, or_names_empties names (atom Text) ns)
few_empties names t (children e) r (inner, mid, g, m) =
    omega (arith, numbered_empties names e, marked_full (Group deepest) (group_full deepest) inner mid e r (group_full deepest t inner mid g) m)

pub model_fits : (names : List Name) (t : List ℕ) (c : Content) (r : List ℕ) → ContentSpec t c r → atoms (model names c) ≤ 63 → depth (model names c) ≤ 64
model_fits names t c r h few = omega (arith, depth_few (model names c), few_empties names t c r h)
