-- Particles, over any reader of groups that agrees with a relation, reads only at a bracket and leaves a shorter text.
use Rattle.std.proofs.Common.{◌≡◌, ℕ, true, false, eqb, List, ◌∷◌, sym, refl, ap, ◌∙◌, inl, inr, arith}
use Rattle.std.proofs.lemmas.Bool.{both_ways}
use Rattle.models.specs.Expressions.{Exp, atom}
use Rattle.scan.specs.Bytes.{is_initial, first_is}
use Rattle.scan.specs.Names.{Name, read_name}
use Rattle.scan.specs.Readings.{Front, bad, got, Agree}
use Rattle.scan.proofs.Agreements.{bad_got, got_value, got_rest, chosen, chosen_true, chosen_false, Shortens, name_agrees, name_initial, name_shortens}
use Rattle.declarations.specs.Grammar.{UnitOf, Cp}
use Rattle.declarations.specs.Readers.{named, read_cp}
use Rattle.declarations.proofs.MarkGrammar.{marked_from, marked_by, mark_le}

-- A reader of groups.
pub record Grouping (read : List ℕ → Front (Exp Name)) (Group : List ℕ → Exp Name → List ℕ → Type 0) : Type 0 where
  pub agree : Agree read Group
  pub opening : (t : List ℕ) (e : Exp Name) (rest : List ℕ) → Group t e rest → (inside : List ℕ) × (t ≡ 40 ∷ inside)
  pub shortens : Shortens read

named_from : (x : Front Name) (e : Exp Name) (rest : List ℕ) → named x ≡ got e rest → (name : Name) × (x ≡ got name rest) × (e ≡ atom name)
unfolding named
named_from bad e rest h = absurd (bad_got h)
named_from (got name r) e rest h = (name, ap (got name) (got_rest h), sym (got_value h))

module _ (read : List ℕ → Front (Exp Name)) (Group : List ℕ → Exp Name → List ℕ → Type 0) (grouping : Grouping read Group) where
  abbrev read_unit : List ℕ → Front (Exp Name)
  read_unit t = elim (first_is is_initial t) [ true ↦ named (read_name t) | false ↦ read t ]

  unit_sound : (t : List ℕ) (e : Exp Name) (rest : List ℕ) → read_unit t ≡ got e rest → UnitOf Group t e rest
  unit_sound t e rest h =
      chosen (first_is is_initial t) h
      (λ test k. let (name, r, is) = named_from (read_name t) e rest k in inl (name, name_agrees.sound t name rest r, is))
      (λ test k. inr (grouping.agree.sound t e rest k))

  unit_complete : (t : List ℕ) (e : Exp Name) (rest : List ℕ) → UnitOf Group t e rest → read_unit t ≡ got e rest
  unfolding named
  unit_complete t e rest (inl (name, r, is)) =
      chosen_true (first_is is_initial t) (named (read_name t)) (read t) (name_initial t name rest r)
      ∙ (ap named (name_agrees.complete t name rest r) ∙ ap (λ y. got y rest) (sym is))
  unit_complete t e rest (inr h) =
      chosen_false (first_is is_initial t) (named (read_name t)) (read t) (ap (first_is is_initial) (grouping.opening t e rest h).1)
      ∙ grouping.agree.complete t e rest h

  unit_shortens : Shortens read_unit
  unit_shortens t e rest h =
      chosen (first_is is_initial t) h
      (λ test k. let (name, r, is) = named_from (read_name t) e rest k in name_shortens t name rest r)
      (λ test k. grouping.shortens t e rest k)

  pub cp_agrees : Agree (read_cp read) (Cp Group)
  cp_agrees =
      record {
        sound = λ t e rest h. (let (inner, mid, r, mark) = marked_from (read_unit t) e rest h in (inner, mid, unit_sound t inner mid r, mark));
        complete = λ t e rest h. marked_by (read_unit t) h.0 h.1 e rest (unit_complete t h.0 h.1 h.2) h.3;
      }

  pub cp_shortens : Shortens (read_cp read)
  cp_shortens t e rest h =
      let (inner, mid, r, mark) = marked_from (read_unit t) e rest h in
      omega (arith, unit_shortens t inner mid r, mark_le inner mid e rest mark)

  -- No particle begins with `#`.
  pub cp_no_hash : (t : List ℕ) (e : Exp Name) (rest more : List ℕ) → Cp Group t e rest → t ≡ 35 ∷ more → ⊥
  cp_no_hash t e rest more (inner, mid, inl (name, r, is), mark) h =
      both_ways false refl (sym (ap (first_is is_initial) h) ∙ name_initial t name mid r)
  cp_no_hash t e rest more (inner, mid, inr group, mark) h =
      both_ways false refl (sym (ap (first_is (eqb 40)) h) ∙ ap (first_is (eqb 40)) (grouping.opening t inner mid group).1)
