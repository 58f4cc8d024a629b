-- Groups: from any reader of the groups inside them to all groups, by the number of brackets open at once.
use Rattle.std.proofs.Common.{◌≡◌, ℕ, zero, suc, Bool, true, false, eqb, ◌⊎◌, List, [], ◌∷◌, length, sym, refl, ap, ◌∙◌, subst, inl, inr, arith}
use Rattle.std.proofs.lemmas.Bool.{eqb-true, both_ways}
use Rattle.models.specs.Expressions.{Exp}
use Rattle.scan.specs.Bytes.{first_is, skip}
use Rattle.scan.specs.Names.{Name}
use Rattle.scan.specs.Readings.{Front, bad, got, Agree, over, next, run, Shrinks, Repeats, none, more}
use Rattle.scan.proofs.Agreements.{bad_got, chosen, chosen_true, chosen_false, Shortens, skip_le}
use Rattle.scan.proofs.Repeating.{Steps, over_next, stuck_next, stuck_over}
use Rattle.declarations.specs.Grammar.{Joint, by_comma, by_bar, sign, join, Cp, Member, Choice, Seq, Group}
use Rattle.declarations.specs.Readers.{read_cp, joined_by, member_at, member, shut, joint_at, members_of, in_brackets, read_group}
use Rattle.declarations.proofs.ParticleGrammar.{Grouping, cp_agrees, cp_shortens, cp_no_hash}
use Rattle.declarations.proofs.Shutting.{shut_sound, shut_complete, shut_shortens}

joined_from : (joint : Joint) (s s' : Exp Name) (x : Front (Exp Name)) (t : List ℕ) → joined_by joint s x ≡ next s' t → (e : Exp Name) × (x ≡ got e t) × (s' ≡ join joint s e)
unfolding joined_by
joined_from joint s s' bad t h = absurd (stuck_next h)
joined_from joint s s' (got e r) t h = (e, (let k : r ≡ t = cc in ap (got e) k), let k : join joint s e ≡ s' = cc in sym k)

tail_same : {b : ℕ} {t u : List ℕ} → b ∷ t ≡ b ∷ u → t ≡ u
tail_same e = cc

-- The sign behind the first member.
at_bar : (t mid : List ℕ) → skip t ≡ 124 ∷ mid → joint_at t ≡ by_bar
at_bar t mid e =
    chosen_true (first_is (λ b. eqb b 124) (skip t)) by_bar by_comma (ap (first_is (λ b. eqb b 124)) e)

at_comma : (t mid : List ℕ) → skip t ≡ 44 ∷ mid → joint_at t ≡ by_comma
at_comma t mid e =
    chosen_false (first_is (λ b. eqb b 124) (skip t)) by_bar by_comma (ap (first_is (λ b. eqb b 124)) e)

at_end : (t rest : List ℕ) → skip t ≡ 41 ∷ rest → joint_at t ≡ by_comma
at_end t rest e =
    chosen_false (first_is (λ b. eqb b 124) (skip t)) by_bar by_comma (ap (first_is (λ b. eqb b 124)) e)

module _ (read : List ℕ → Front (Exp Name)) (Inner : List ℕ → Exp Name → List ℕ → Type 0) (grouping : Grouping read Inner) where
  member_next : (joint : Joint) (s s' : Exp Name) (x t : List ℕ) → member_at read joint s x ≡ next s' t → (mid : List ℕ) × (e : Exp Name) × (x ≡ sign joint ∷ mid) × (read_cp read (skip mid) ≡ got e t) × (s' ≡ join joint s e)
  unfolding member_at
  member_next joint s s' [] t h = absurd (stuck_next h)
  member_next joint s s' (b ∷ x) t h =
      chosen (eqb b 41) h
      (λ test k. absurd (over_next k))
      (λ test k. chosen (eqb b (sign joint)) k
      (λ is l. let (e, r, j) = joined_from joint s s' (read_cp read (skip x)) t l in (x, e, ap (λ c. c ∷ x) (eqb-true b (sign joint) is), r, j))
      (λ is l. absurd (stuck_next l)))

  joined_over : (joint : Joint) (s : Exp Name) (x : Front (Exp Name)) → joined_by joint s x ≡ over → ⊥
  unfolding joined_by
  joined_over joint s bad h = stuck_over h
  joined_over joint s (got e r) h = over_next (sym h)

  member_over : (joint : Joint) (s : Exp Name) (x : List ℕ) → member_at read joint s x ≡ over → (rest : List ℕ) × (x ≡ 41 ∷ rest)
  unfolding member_at
  member_over joint s [] h = absurd (stuck_over h)
  member_over joint s (b ∷ x) h =
      chosen (eqb b 41) h
      (λ test k. (x, ap (λ c. c ∷ x) (eqb-true b 41 test)))
      (λ test k. absurd (chosen (eqb b (sign joint)) k (λ is l. joined_over joint s (read_cp read (skip x)) l) (λ is l. stuck_over l)))

  member_ended : (joint : Joint) (s : Exp Name) (t rest : List ℕ) → skip t ≡ 41 ∷ rest → member read joint s t ≡ over
  unfolding member_at
  member_ended joint s t rest e = ap (member_at read joint s) e

  at_sign : (joint : Joint) (s : Exp Name) (mid : List ℕ) → member_at read joint s (sign joint ∷ mid) ≡ joined_by joint s (read_cp read (skip mid))
  unfolding member_at
  at_sign by_comma s mid = refl
  at_sign by_bar s mid = refl

  -- A turn of a group's members is one more member.
  pub member_steps : (joint : Joint) → Steps (member read joint) (Member Inner joint)
  unfolding joined_by
  member_steps joint =
      record {
        sound = λ s s' t t' h. (
            let (mid, e, is, r, j) = member_next joint s s' (skip t) t' h in
            (mid, e, is, (cp_agrees read Inner grouping).sound (skip mid) e t' r, j)
            );
        complete = λ s s' t t' m. (
            let (mid, e, is, cp, j) = m in
            ap (member_at read joint s) is
            ∙ (at_sign joint s mid
            ∙ (ap (joined_by joint s) ((cp_agrees read Inner grouping).complete (skip mid) e t' cp) ∙ ap (λ y. next y t') (sym j)))
            );
        shrinks = λ s s' t t' h. (
            let (mid, e, is, r, j) = member_next joint s s' (skip t) t' h in
            omega (arith, cp_shortens read Inner grouping (skip mid) e t' r, skip_le mid, skip_le t, ap length is)
            );
      }

  abbrev Bracketed : List ℕ → Exp Name → List ℕ → Type 0
  Bracketed t e rest = Choice Inner t e rest ⊎ Seq Inner t e rest

  members_from : (x : Front (Exp Name)) (e : Exp Name) (rest : List ℕ) → members_of read x ≡ got e rest → (first : Exp Name) × (after : List ℕ) × (x ≡ got first after) × (shut (run (member read (joint_at after)) first after) ≡ got e rest)
  unfolding members_of
  members_from bad e rest h = absurd (bad_got h)
  members_from (got first after) e rest h = (first, after, refl, h)

  bracket_from : (t : List ℕ) (e : Exp Name) (rest : List ℕ) → in_brackets read t ≡ got e rest → (inside : List ℕ) × (t ≡ 40 ∷ inside) × (members_of read (read_cp read (skip inside)) ≡ got e rest)
  unfolding in_brackets
  bracket_from [] e rest h = absurd (bad_got h)
  bracket_from (b ∷ t) e rest h =
      chosen (eqb b 40) h
      (λ is k. (t, ap (λ c. c ∷ t) (eqb-true b 40 is), k))
      (λ is k. absurd (bad_got k))

  choice_sound : (inside : List ℕ) (first : Exp Name) (after : List ℕ) (e : Exp Name) (end rest : List ℕ) → Cp Inner (skip inside) first after → first_is (λ b. eqb b 124) (skip after) ≡ true → Repeats (Member Inner by_bar) first after e end → skip end ≡ 41 ∷ rest → Choice Inner (40 ∷ inside) e rest
  choice_sound inside first after e end rest cp test (none es et) c =
      absurd (both_ways false refl (sym (ap (first_is (λ b. eqb b 124)) (ap skip et ∙ c)) ∙ test))
  choice_sound inside first after e end rest cp test (more second after_second member members) c =
      (inside, first, after, second, after_second, end, refl, cp, member, members, c)

  joint_sound : (inside : List ℕ) (first : Exp Name) (after : List ℕ) (e : Exp Name) (rest : List ℕ) → Cp Inner (skip inside) first after → shut (run (member read (joint_at after)) first after) ≡ got e rest → Bracketed (40 ∷ inside) e rest
  joint_sound inside first after e rest cp h = go (first_is (λ b. eqb b 124) (skip after)) refl h
    where
      go : (x : Bool) → first_is (λ b. eqb b 124) (skip after) ≡ x → shut (run (member read (elim x as (λ y. Joint) [ true ↦ by_bar | false ↦ by_comma ])) first after) ≡ got e rest → Bracketed (40 ∷ inside) e rest
      go true test k =
          let (end, members, c) = shut_sound (member read by_bar) (Member Inner by_bar) (member_steps by_bar) (λ s t. member_over by_bar s (skip t)) (member_ended by_bar) first e after rest k in
          inl (choice_sound inside first after e end rest cp test members c)
      go false test k =
          let (end, members, c) = shut_sound (member read by_comma) (Member Inner by_comma) (member_steps by_comma) (λ s t. member_over by_comma s (skip t)) (member_ended by_comma) first e after rest k in
          inr (inside, first, after, end, refl, cp, members, c)

  bracketed_sound : (t : List ℕ) (e : Exp Name) (rest : List ℕ) → in_brackets read t ≡ got e rest → Bracketed t e rest
  bracketed_sound t e rest h =
      let (inside, opening, k) = bracket_from t e rest h in
      let (first, after, r, l) = members_from (read_cp read (skip inside)) e rest k in
      subst (λ y. Bracketed y e rest) (sym opening) (joint_sound inside first after e rest ((cp_agrees read Inner grouping).sound (skip inside) first after r) l)

  members_read : (joint : Joint) (inside : List ℕ) (first : Exp Name) (after : List ℕ) (e : Exp Name) (end rest : List ℕ) → Cp Inner (skip inside) first after → joint_at after ≡ joint → Repeats (Member Inner joint) first after e end → skip end ≡ 41 ∷ rest → in_brackets read (40 ∷ inside) ≡ got e rest
  unfolding in_brackets members_of
  members_read joint inside first after e end rest cp is members c =
      ap (members_of read) ((cp_agrees read Inner grouping).complete (skip inside) first after cp)
      ∙ (ap (λ j. shut (run (member read j) first after)) is
      ∙ shut_complete (member read joint) (Member Inner joint) (member_steps joint) (λ s t. member_over joint s (skip t)) (member_ended joint) first e after end rest members c)

  comma_joint : (first : Exp Name) (after : List ℕ) (e : Exp Name) (end rest : List ℕ) → Repeats (Member Inner by_comma) first after e end → skip end ≡ 41 ∷ rest → joint_at after ≡ by_comma
  comma_joint first after e end rest (none es et) c = at_end after rest (ap skip et ∙ c)
  comma_joint first after e end rest (more s t (mid, f, is, cp, j) members) c = at_comma after mid is

  bracketed_complete : (t : List ℕ) (e : Exp Name) (rest : List ℕ) → Bracketed t e rest → in_brackets read t ≡ got e rest
  bracketed_complete t e rest (inl (inside, first, after, second, after_second, end, opening, cp, member, members, c)) =
      ap (in_brackets read) opening
      ∙ members_read by_bar inside first after e end rest cp (at_bar after member.0 member.2) (more second after_second member members) c
  bracketed_complete t e rest (inr (inside, first, after, end, opening, cp, members, c)) =
      ap (in_brackets read) opening
      ∙ members_read by_comma inside first after e end rest cp (comma_joint first after e end rest members c) members c

  bracketed_opening : (t : List ℕ) (e : Exp Name) (rest : List ℕ) → Bracketed t e rest → (inside : List ℕ) × (t ≡ 40 ∷ inside)
  bracketed_opening t e rest (inl h) = (h.0, h.6)
  bracketed_opening t e rest (inr h) = (h.0, h.4)

  bracketed_shortens : Shortens (in_brackets read)
  bracketed_shortens t e rest h =
      let (inside, opening, k) = bracket_from t e rest h in
      let (first, after, r, l) = members_from (read_cp read (skip inside)) e rest k in
      let joint = joint_at after in
      omega (arith, ap length opening, skip_le inside, cp_shortens read Inner grouping (skip inside) first after r, shut_shortens (member read joint) (Member Inner joint) (member_steps joint) (λ s t. member_over joint s (skip t)) (member_ended joint) first e after rest l)

  -- One more bracket.
  pub one_deeper : Grouping (in_brackets read) Bracketed
  one_deeper =
      record {
        agree = record { sound = bracketed_sound; complete = bracketed_complete };
        opening = bracketed_opening;
        shortens = bracketed_shortens;
      }

  -- No group begins with `#` behind its bracket.
  pub bracketed_no_hash : (t : List ℕ) (e : Exp Name) (rest inside behind : List ℕ) → Bracketed t e rest → t ≡ 40 ∷ inside → skip inside ≡ 35 ∷ behind → ⊥
  bracketed_no_hash t e rest inside behind (inl h) is hash =
      cp_no_hash read Inner grouping (skip h.0) h.1 h.2 behind h.7 (ap skip (tail_same (sym h.6 ∙ is)) ∙ hash)
  bracketed_no_hash t e rest inside behind (inr h) is hash =
      cp_no_hash read Inner grouping (skip h.0) h.1 h.2 behind h.5 (ap skip (tail_same (sym h.4 ∙ is)) ∙ hash)

-- Groups are read as the grammar says, however deep they nest.
pub groups : (n : ℕ) → Grouping (read_group n) (Group n)
unfolding read_group
groups zero =
    record {
      agree = record { sound = λ t e rest h. absurd (bad_got h); complete = λ t e rest h. absurd h };
      opening = λ t e rest h. absurd h;
      shortens = λ t e rest h. absurd (bad_got h);
    }
groups (suc n) = one_deeper (read_group n) (Group n) (groups n)

pub group_agrees : (n : ℕ) → Agree (read_group n) (Group n)
group_agrees n = (groups n).agree

pub particle_agrees : (n : ℕ) → Agree (read_cp (read_group n)) (Cp (Group n))
particle_agrees n = cp_agrees (read_group n) (Group n) (groups n)

pub member_shrinks : (n : ℕ) (joint : Joint) → Shrinks (member (read_group n) joint)
member_shrinks n joint = (member_steps (read_group n) (Group n) (groups n) joint).shrinks

pub group_no_hash : (n : ℕ) (t : List ℕ) (e : Exp Name) (rest inside behind : List ℕ) → Group n t e rest → t ≡ 40 ∷ inside → skip inside ≡ 35 ∷ behind → ⊥
group_no_hash zero t e rest inside behind h is hash = h
group_no_hash (suc n) t e rest inside behind h is hash =
    bracketed_no_hash (read_group n) (Group n) (groups n) t e rest inside behind h is hash
