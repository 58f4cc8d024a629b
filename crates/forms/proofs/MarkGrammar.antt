-- What is put under a mark, from behind its opening word on, over any reading of what stands inside.
use Rattle.std.proofs.Common.{◌≡◌, ℕ, ◌<◌, List, ◌∷◌, length, sym, refl, ap, ◌∙◌, arith}
use Rattle.engine.specs.declared.range.ByteRange.{ByteRange}
use Rattle.models.specs.Expressions.{Exp}
use Rattle.scan.specs.Readings.{Front, got, Agree}
use Rattle.scan.proofs.Agreements.{staged}
use Rattle.forms.specs.Grammar.{Mark, marked}
use Rattle.forms.specs.Readers.{with_inside, read_marked}
use Rattle.forms.proofs.ListGrammar.{Reading, shut_from, shut_there}

-- What a mark is put on, from behind its opening word on.
abbrev pub Under : (List ℕ → Exp ByteRange → List ℕ → Type 0) → Mark → List ℕ → Exp ByteRange → List ℕ → Type 0
Under Inner mark t e rest =
    (inner : Exp ByteRange) × (end : List ℕ) × Inner t inner end × (end ≡ 93 ∷ rest) × (e ≡ marked mark inner)

module _ (read : List ℕ → Front (Exp ByteRange)) (Inner : List ℕ → Exp ByteRange → List ℕ → Type 0) (reading : Reading read Inner) (mark : Mark) where
  marked_sound : (t : List ℕ) (e : Exp ByteRange) (rest : List ℕ) → read_marked read mark t ≡ got e rest → Under Inner mark t e rest
  unfolding with_inside
  marked_sound t e rest h =
      let (inner, end, r, h₁) = staged (with_inside mark) refl (read t) e rest h in
      let (closed, is) = shut_from (marked mark inner) end e rest h₁ in
      (inner, end, reading.agree.sound t inner end r, closed, sym is)

  marked_complete : (t : List ℕ) (e : Exp ByteRange) (rest : List ℕ) → Under Inner mark t e rest → read_marked read mark t ≡ got e rest
  unfolding with_inside
  marked_complete t e rest (inner, end, inside, closed, is) =
      ap (with_inside mark) (reading.agree.complete t inner end inside)
      ∙ (shut_there (marked mark inner) end rest closed ∙ ap (λ y. got y rest) (sym is))

  pub marked_agrees : Agree (read_marked read mark) (Under Inner mark)
  marked_agrees = record { sound = marked_sound; complete = marked_complete }

  pub marked_shortens : (t : List ℕ) (e : Exp ByteRange) (rest : List ℕ) → Under Inner mark t e rest → length rest < length t
  marked_shortens t e rest (inner, end, inside, closed, is) =
      omega (arith, reading.shortens t inner end (reading.agree.complete t inner end inside), ap length closed)
