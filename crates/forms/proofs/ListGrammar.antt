-- Lists of two members or more, from behind their opening word on, over any reading of what stands inside.
use Rattle.std.proofs.Common.{◌≡◌, ℕ, ◌<◌, eqb, List, [], ◌∷◌, length, codes, sym, refl, ap, ◌∙◌, arith}
use Rattle.std.proofs.lemmas.Bool.{eqb-true}
use Rattle.engine.specs.declared.range.ByteRange.{ByteRange}
use Rattle.models.specs.Expressions.{Exp}
use Rattle.scan.specs.Readings.{Front, bad, got, word, Agree, over, next, Run, finished, stopped, run, Repeats}
use Rattle.scan.proofs.Agreements.{bad_got, got_value, got_rest, chosen, staged, word_sound, Shortens}
use Rattle.scan.proofs.Repeating.{Steps, over_next, stuck_next, stuck_over, repeats_le, finished_by, led}
use Rattle.forms.specs.Grammar.{Joint, join, Member}
use Rattle.forms.specs.Readers.{joined_by, member, shut, ended, with_second, behind_first, with_first, read_members}

-- A reading that says what a relation says, and leaves a shorter text.
pub record Reading (read : List ℕ → Front (Exp ByteRange)) (Inner : List ℕ → Exp ByteRange → List ℕ → Type 0) : Type 0 where
  pub agree : Agree read Inner
  pub shortens : Shortens read

-- What is read up to a closing bracket.
pub shut_from : (e : Exp ByteRange) (end : List ℕ) (v : Exp ByteRange) (rest : List ℕ) → shut e (word (codes "]") end) ≡ got v rest → (end ≡ 93 ∷ rest) × (e ≡ v)
unfolding shut
shut_from e end v rest h =
    let (u, mid, closed, k) = staged (shut e) refl (word (codes "]") end) v rest h in
    (word_sound (codes "]") end u mid closed ∙ ap (λ y. 93 ∷ y) (got_rest k), got_value k)

pub shut_there : (e : Exp ByteRange) (end rest : List ℕ) → end ≡ 93 ∷ rest → shut e (word (codes "]") end) ≡ got e rest
unfolding shut word
shut_there e end rest closed = ap (λ y. shut e (word (codes "]") y)) closed

ended_from : (r : Run (Exp ByteRange)) (e : Exp ByteRange) (rest : List ℕ) → ended r ≡ got e rest → (end : List ℕ) × (r ≡ finished e end) × (end ≡ 93 ∷ rest)
unfolding ended
ended_from (finished s end) e rest h =
    let (closed, is) = shut_from s end e rest h in
    (end, ap (λ y. finished y end) is, closed)
ended_from (stopped s end) e rest h = absurd (bad_got h)

joined_from : (joint : Joint) (s s' : Exp ByteRange) (x : Front (Exp ByteRange)) (t : List ℕ) → joined_by joint s x ≡ next s' t → (e : Exp ByteRange) × (x ≡ got e t) × (s' ≡ join joint s e)
unfolding joined_by
joined_from joint s s' bad t h = absurd (stuck_next h)
joined_from joint s s' (got e r) t h = (e, (let k : r ≡ t = cc in ap (got e) k), let k : join joint s e ≡ s' = cc in sym k)

joined_over : (joint : Joint) (s : Exp ByteRange) (x : Front (Exp ByteRange)) → joined_by joint s x ≡ over → ⊥
unfolding joined_by
joined_over joint s bad h = stuck_over h
joined_over joint s (got e r) h = over_next (sym h)

-- The members of a list from behind its opening word on.
abbrev pub Listed : (List ℕ → Exp ByteRange → List ℕ → Type 0) → Joint → List ℕ → Exp ByteRange → List ℕ → Type 0
Listed Inner joint t e rest =
    (first : Exp ByteRange) × (after_first : List ℕ) × (second : Exp ByteRange) × (after_second : List ℕ) × (end : List ℕ)
    × Inner t first after_first × Member Inner joint first after_first second after_second
    × Repeats (Member Inner joint) second after_second e end × (end ≡ 93 ∷ rest)

module _ (read : List ℕ → Front (Exp ByteRange)) (Inner : List ℕ → Exp ByteRange → List ℕ → Type 0) (reading : Reading read Inner) (joint : Joint) where
  member_next : (s s' : Exp ByteRange) (x t : List ℕ) → member read joint s x ≡ next s' t → (mid : List ℕ) × (e : Exp ByteRange) × (x ≡ 32 ∷ mid) × (read mid ≡ got e t) × (s' ≡ join joint s e)
  unfolding member
  member_next s s' [] t h = absurd (stuck_next h)
  member_next s s' (b ∷ x) t h =
      chosen (eqb b 93) h
      (λ test k. absurd (over_next k))
      (λ test k. chosen (eqb b 32) k
      (λ is l. let (e, r, j) = joined_from joint s s' (read x) t l in (x, e, ap (λ c. c ∷ x) (eqb-true b 32 is), r, j))
      (λ is l. absurd (stuck_next l)))

  member_over : (s : Exp ByteRange) (x : List ℕ) → member read joint s x ≡ over → (rest : List ℕ) × (x ≡ 93 ∷ rest)
  unfolding member
  member_over s [] h = absurd (stuck_over h)
  member_over s (b ∷ x) h =
      chosen (eqb b 93) h
      (λ test k. (x, ap (λ c. c ∷ x) (eqb-true b 93 test)))
      (λ test k. absurd (chosen (eqb b 32) k (λ is l. joined_over joint s (read x) l) (λ is l. stuck_over l)))

  member_ended : (s : Exp ByteRange) (t rest : List ℕ) → t ≡ 93 ∷ rest → member read joint s t ≡ over
  unfolding member
  member_ended s t rest e = ap (member read joint s) e

  -- A turn of a list's members is one more member.
  pub member_steps : Steps (member read joint) (Member Inner joint)
  unfolding member joined_by
  member_steps =
      record {
        sound = λ s s' t t' h. (
            let (mid, e, is, r, j) = member_next s s' t t' h in
            (mid, e, is, reading.agree.sound mid e t' r, j)
            );
        complete = λ s s' t t' m. (
            let (mid, e, is, inner, j) = m in
            ap (member read joint s) is
            ∙ (ap (joined_by joint s) (reading.agree.complete mid e t' inner) ∙ ap (λ y. next y t') (sym j))
            );
        shrinks = λ s s' t t' h. (
            let (mid, e, is, r, j) = member_next s s' t t' h in
            omega (arith, reading.shortens mid e t' r, ap length is)
            );
      }

  members_sound : (t : List ℕ) (e : Exp ByteRange) (rest : List ℕ) → read_members read joint t ≡ got e rest → Listed Inner joint t e rest
  unfolding with_first behind_first with_second
  members_sound t e rest h =
      let (first, after_first, r, h₁) = staged (with_first read joint) refl (read t) e rest h in
      let (v, mid, space, h₂) = staged (behind_first read joint first) refl (word (codes " ") after_first) e rest h₁ in
      let (f, after_second, r', h₃) = staged (with_second read joint first) refl (read mid) e rest h₂ in
      let (end, finishes, closed) = ended_from (run (member read joint) (join joint first f) after_second) e rest h₃ in (
        first,
        after_first,
        join joint first f,
        after_second,
        end,
        reading.agree.sound t first after_first r,
        (mid, f, word_sound (codes " ") after_first v mid space, reading.agree.sound mid f after_second r', refl),
        (led (member read joint) (Member Inner joint) member_steps (join joint first f) after_second (finished e end) finishes).0,
        closed,
      )

  members_complete : (t : List ℕ) (e : Exp ByteRange) (rest : List ℕ) → Listed Inner joint t e rest → read_members read joint t ≡ got e rest
  unfolding word with_first behind_first with_second ended
  members_complete t e rest (first, after_first, second, after_second, end, inner, (mid, f, space, inner', j), members, closed) =
      ap (with_first read joint) (reading.agree.complete t first after_first inner)
      ∙ (ap (λ y. behind_first read joint first (word (codes " ") y)) space
      ∙ (ap (with_second read joint first) (reading.agree.complete mid f after_second inner')
      ∙ (ap (λ y. ended (run (member read joint) y after_second)) (sym j)
      ∙ (ap ended (finished_by (member read joint) (Member Inner joint) member_steps second e after_second end members (member_ended e end rest closed))
      ∙ shut_there e end rest closed))))

  pub members_agree : Agree (read_members read joint) (Listed Inner joint)
  members_agree = record { sound = members_sound; complete = members_complete }

  pub members_shorten : (t : List ℕ) (e : Exp ByteRange) (rest : List ℕ) → Listed Inner joint t e rest → length rest < length t
  members_shorten t e rest (first, after_first, second, after_second, end, inner, m, members, closed) =
      omega (arith, reading.shortens t first after_first (reading.agree.complete t first after_first inner), member_steps.shrinks first second after_first after_second (member_steps.complete first second after_first after_second m), repeats_le (member read joint) (Member Inner joint) member_steps second e after_second end members, ap length closed)
