-- Expressions: their opening word tells which kind they are; from those inside to all, by the number of brackets open at once.
use Rattle.std.proofs.Common.{◌≡◌, ℕ, zero, suc, ◌<◌, ◌⊎◌, List, ◌++◌, length, codes, refl, ap, ◌∙◌, inl, inr, arith}
use Rattle.std.proofs.lemmas.List.{length-append}
use Rattle.engine.specs.declared.range.ByteRange.{ByteRange}
use Rattle.models.specs.Expressions.{Exp}
use Rattle.scan.specs.Readings.{Front, bad, got, word, Agree, Shrinks}
use Rattle.scan.proofs.Agreements.{bad_got, word_sound, Shortens}
use Rattle.forms.specs.Grammar.{Range, Joint, in_sequence, as_alternatives, opening, Mark, any_number, at_least_one, perhaps, mark_opening, Members, Marked, Expression}
use Rattle.forms.specs.Readers.{read_range, member, read_members, read_marked, or_else, read_by_word, read_expression}
use Rattle.forms.proofs.RangeGrammar.{range_agrees, range_shortens}
use Rattle.forms.proofs.ListGrammar.{Reading, member_steps, members_agree, members_shorten}
use Rattle.forms.proofs.MarkGrammar.{marked_agrees, marked_shortens}

-- The word stood there and what is behind it was read, or something other was.
told : {P : Type 0} (go : List ℕ → Front (Exp ByteRange)) (other : Front (Exp ByteRange)) (cs t : List ℕ) (e : Exp ByteRange) (rest : List ℕ) → or_else go other (word cs t) ≡ got e rest → ((mid : List ℕ) → t ≡ cs ++ mid → go mid ≡ got e rest → P) → (other ≡ got e rest → P) → P
unfolding or_else
told {P} go other cs t e rest h there not_there = by (word cs t) refl h
  where
    by : (x : Front (Unit {0})) → word cs t ≡ x → or_else go other x ≡ got e rest → P
    by bad w k = not_there k
    by (got v mid) w k = there mid (word_sound cs t v mid w) k

module _ (read : List ℕ → Front (Exp ByteRange)) (Inner : List ℕ → Exp ByteRange → List ℕ → Type 0) (reading : Reading read Inner) where
  abbrev One : List ℕ → Exp ByteRange → List ℕ → Type 0
  One t e rest =
      Range t e rest ⊎ (((joint : Joint) × Members Inner joint t e rest) ⊎ ((mark : Mark) × Marked Inner mark t e rest))

  from_range : (t mid : List ℕ) (e : Exp ByteRange) (rest : List ℕ) → t ≡ codes "[range " ++ mid → read_range mid ≡ got e rest → One t e rest
  from_range t mid e rest opened h =
      let (range, after_low, before_high, after_high, low, space, high, closed, is) = range_agrees.sound mid e rest h in
      inl (mid, range, after_low, before_high, after_high, opened, low, space, high, closed, is)

  from_members : (joint : Joint) (t mid : List ℕ) (e : Exp ByteRange) (rest : List ℕ) → t ≡ opening joint ++ mid → read_members read joint mid ≡ got e rest → One t e rest
  from_members joint t mid e rest opened h =
      let (first, after_first, second, after_second, end, inner, m, members, closed) = (members_agree read Inner reading joint).sound mid e rest h in
      inr (inl (joint, (mid, first, after_first, second, after_second, end, opened, inner, m, members, closed)))

  from_marked : (mark : Mark) (t mid : List ℕ) (e : Exp ByteRange) (rest : List ℕ) → t ≡ mark_opening mark ++ mid → read_marked read mark mid ≡ got e rest → One t e rest
  from_marked mark t mid e rest opened h =
      let (inner, end, inside, closed, is) = (marked_agrees read Inner reading mark).sound mid e rest h in
      inr (inr (mark, (mid, inner, end, opened, inside, closed, is)))

  by_word_sound : (t : List ℕ) (e : Exp ByteRange) (rest : List ℕ) → read_by_word read t ≡ got e rest → One t e rest
  by_word_sound t e rest h =
      told read_range _ (codes "[range ") t e rest h (λ mid. from_range t mid e rest)
      (λ h₁. told (read_members read in_sequence) _ (opening in_sequence) t e rest h₁ (λ mid. from_members in_sequence t mid e rest)
      (λ h₂. told (read_members read as_alternatives) _ (opening as_alternatives) t e rest h₂ (λ mid. from_members as_alternatives t mid e rest)
      (λ h₃. told (read_marked read any_number) _ (mark_opening any_number) t e rest h₃ (λ mid. from_marked any_number t mid e rest)
      (λ h₄. told (read_marked read at_least_one) _ (mark_opening at_least_one) t e rest h₄ (λ mid. from_marked at_least_one t mid e rest)
      (λ h₅. told (read_marked read perhaps) bad (mark_opening perhaps) t e rest h₅ (λ mid. from_marked perhaps t mid e rest)
      (λ h₆. absurd (bad_got h₆)))))))

  -- No opening word begins another one.
  at_range : (mid : List ℕ) → read_by_word read (codes "[range " ++ mid) ≡ read_range mid
  unfolding word or_else
  at_range mid = refl

  at_members : (joint : Joint) (mid : List ℕ) → read_by_word read (opening joint ++ mid) ≡ read_members read joint mid
  unfolding word or_else
  at_members in_sequence mid = refl
  at_members as_alternatives mid = refl

  at_marked : (mark : Mark) (mid : List ℕ) → read_by_word read (mark_opening mark ++ mid) ≡ read_marked read mark mid
  unfolding word or_else
  at_marked any_number mid = refl
  at_marked at_least_one mid = refl
  at_marked perhaps mid = refl

  by_word_complete : (t : List ℕ) (e : Exp ByteRange) (rest : List ℕ) → One t e rest → read_by_word read t ≡ got e rest
  by_word_complete t e rest (inl (mid, range, after_low, before_high, after_high, opened, low, space, high, closed, is)) =
      ap (read_by_word read) opened
      ∙ (at_range mid ∙ range_agrees.complete mid e rest (range, after_low, before_high, after_high, low, space, high, closed, is))
  by_word_complete t e rest (inr (inl (joint, (mid, first, after_first, second, after_second, end, opened, inner, m, members, closed)))) =
      ap (read_by_word read) opened
      ∙ (at_members joint mid ∙ (members_agree read Inner reading joint).complete mid e rest (first, after_first, second, after_second, end, inner, m, members, closed))
  by_word_complete t e rest (inr (inr (mark, (mid, inner, end, opened, inside, closed, is)))) =
      ap (read_by_word read) opened
      ∙ (at_marked mark mid ∙ (marked_agrees read Inner reading mark).complete mid e rest (inner, end, inside, closed, is))

  one_shortens : (t : List ℕ) (e : Exp ByteRange) (rest : List ℕ) → One t e rest → length rest < length t
  one_shortens t e rest (inl (mid, range, after_low, before_high, after_high, opened, low, space, high, closed, is)) =
      omega (arith, ap length opened, length-append (codes "[range ") mid, range_shortens mid e rest (range, after_low, before_high, after_high, low, space, high, closed, is))
  one_shortens t e rest (inr (inl (joint, (mid, first, after_first, second, after_second, end, opened, inner, m, members, closed)))) =
      omega (arith, ap length opened, length-append (opening joint) mid, members_shorten read Inner reading joint mid e rest (first, after_first, second, after_second, end, inner, m, members, closed))
  one_shortens t e rest (inr (inr (mark, (mid, inner, end, opened, inside, closed, is)))) =
      omega (arith, ap length opened, length-append (mark_opening mark) mid, marked_shortens read Inner reading mark mid e rest (inner, end, inside, closed, is))

  one_deeper : Reading (read_by_word read) One
  one_deeper =
      record {
        agree = record { sound = by_word_sound; complete = by_word_complete };
        shortens = λ t e rest h. one_shortens t e rest (by_word_sound t e rest h);
      }

-- Expressions are read as the grammar says, however deep they nest.
pub expressions : (n : ℕ) → Reading (read_expression n) (Expression n)
unfolding read_expression
expressions zero =
    record {
      agree = record { sound = λ t e rest h. absurd (bad_got h); complete = λ t e rest h. absurd h };
      shortens = λ t e rest h. absurd (bad_got h);
    }
expressions (suc n) = one_deeper (read_expression n) (Expression n) (expressions n)

pub expression_agrees : (n : ℕ) → Agree (read_expression n) (Expression n)
expression_agrees n = (expressions n).agree

pub expression_shortens : (n : ℕ) → Shortens (read_expression n)
expression_shortens n = (expressions n).shortens

pub member_shrinks : (n : ℕ) (joint : Joint) → Shrinks (member (read_expression n) joint)
member_shrinks n joint = (member_steps (read_expression n) (Expression n) (expressions n) joint).shrinks
