-- The stages of a reading, by the byte that comes next.
use Rattle.std.proofs.lemmas.Bool.Decides.{nat_tests}
use Rattle.std.proofs.Common.{◌≡◌, ℕ, ◌+◌, ◌<◌, Bool, true, false, eqb, List, [], ◌∷◌, length, drop, refl, ap, ◌∙◌, arith}
use Rattle.std.proofs.lemmas.List.{drop_more}
use Rattle.std.proofs.lemmas.Bool.{false≢true}
use Rattle.models.specs.Expressions.{Exp}
use Rattle.scan.specs.Bytes.{first_is, skip}
use Rattle.scan.proofs.Fronts.{first_there}
use Rattle.scan.specs.Names.{Name}
use Rattle.scan.specs.Readings.{Front, bad, got, over, stuck, next}
use Rattle.declarations.specs.Grammar.{Joint, sign, join}
use Rattle.declarations.specs.Readers.{read_cp, joined_by, member_at, member, behind, in_brackets, members_of}

pub flip : (a b : ℕ) → eqb a b ≡ eqb b a
flip a b = grind (arith, nat_tests)

-- Whether this byte comes next.
abbrev pub comes : ℕ → List ℕ → Bool
comes k t = first_is (eqb k) t

pub behind_drop : (text : List ℕ) (at : ℕ) → at < length text → behind (drop at text) ≡ drop (at + 1) text
behind_drop text at h = ap behind (drop_more text at 0 h)

-- Where a byte comes next the text has a byte there.
pub inside : (k : ℕ) (text : List ℕ) (at : ℕ) → comes k (drop at text) ≡ true → at < length text
inside k text at there = first_there (eqb k) text at there

module _ (group : List ℕ → Front (Exp Name)) where
  pub brackets_yes : (t : List ℕ) → comes 40 t ≡ true → in_brackets group t ≡ members_of group (read_cp group (skip (behind t)))
  unfolding in_brackets
  brackets_yes [] e = absurd (false≢true e)
  brackets_yes (b ∷ t) e = rw (flip b 40, e, in_brackets)

  pub brackets_no : (t : List ℕ) → comes 40 t ≡ false → in_brackets group t ≡ bad
  unfolding in_brackets
  brackets_no [] e = refl
  brackets_no (b ∷ t) e = rw (flip b 40, e, in_brackets)

  at_over : (joint : Joint) (e : Exp Name) (t : List ℕ) → comes 41 t ≡ true → member_at group joint e t ≡ over
  unfolding member_at
  at_over joint e [] h = absurd (false≢true h)
  at_over joint e (b ∷ t) h = rw (flip b 41, h, member_at)

  at_stuck : (joint : Joint) (e : Exp Name) (t : List ℕ) → comes 41 t ≡ false → comes (sign joint) t ≡ false → member_at group joint e t ≡ stuck
  unfolding member_at
  at_stuck joint e [] h k = refl
  at_stuck joint e (b ∷ t) h k = rw (flip b 41, h, flip b (sign joint), k, member_at)

  at_sign : (joint : Joint) (e : Exp Name) (t : List ℕ) → comes 41 t ≡ false → comes (sign joint) t ≡ true → member_at group joint e t ≡ joined_by joint e (read_cp group (skip (behind t)))
  unfolding member_at
  at_sign joint e [] h k = absurd (false≢true k)
  at_sign joint e (b ∷ t) h k = rw (flip b 41, h, flip b (sign joint), k, member_at)

  pub member_over : (joint : Joint) (e : Exp Name) (t : List ℕ) → comes 41 (skip t) ≡ true → member group joint e t ≡ over
  member_over joint e t h = at_over joint e (skip t) h

  pub member_stuck : (joint : Joint) (e : Exp Name) (t : List ℕ) → comes 41 (skip t) ≡ false → comes (sign joint) (skip t) ≡ false → member group joint e t ≡ stuck
  member_stuck joint e t h k = at_stuck joint e (skip t) h k

  pub member_bad : (joint : Joint) (e : Exp Name) (t : List ℕ) → comes 41 (skip t) ≡ false → comes (sign joint) (skip t) ≡ true → read_cp group (skip (behind (skip t))) ≡ bad → member group joint e t ≡ stuck
  unfolding joined_by
  member_bad joint e t h k b = at_sign joint e (skip t) h k ∙ ap (joined_by joint e) b

  pub member_next : (joint : Joint) (e f : Exp Name) (t rest : List ℕ) → comes 41 (skip t) ≡ false → comes (sign joint) (skip t) ≡ true → read_cp group (skip (behind (skip t))) ≡ got f rest → member group joint e t ≡ next (join joint e f) rest
  unfolding joined_by
  member_next joint e f t rest h k g = at_sign joint e (skip t) h k ∙ ap (joined_by joint e) g
