-- Repeated readings up to a closing bracket.
use Rattle.std.proofs.Common.{◌≡◌, ℕ, ◌<◌, List, ◌∷◌, length, sym, ap, ◌∙◌, arith}
use Rattle.scan.specs.Bytes.{skip}
use Rattle.scan.specs.Readings.{got, Turn, over, Run, finished, stopped, run, Repeats}
use Rattle.scan.proofs.Agreements.{bad_got, got_value, got_rest, skip_le}
use Rattle.scan.proofs.Repeating.{Steps, repeats_le, finished_by, led}
use Rattle.declarations.specs.Readers.{behind, shut}

shut_from : {S : Type 0} (r : Run S) (e : S) (rest : List ℕ) → shut r ≡ got e rest → (end : List ℕ) × (r ≡ finished e end) × (behind (skip end) ≡ rest)
unfolding shut
shut_from (finished s end) e rest h = (end, ap (λ y. finished y end) (got_value h), got_rest h)
shut_from (stopped s end) e rest h = absurd (bad_got h)

module _ {S : Type 0} (turn : S → List ℕ → Turn S) (Step : S → List ℕ → S → List ℕ → Type 0) (steps : Steps turn Step)
    (ends : (s : S) (t : List ℕ) → turn s t ≡ over → (rest : List ℕ) × (skip t ≡ 41 ∷ rest))
    (ended : (s : S) (t rest : List ℕ) → skip t ≡ 41 ∷ rest → turn s t ≡ over) where
  -- What was read up to a closing bracket.
  pub shut_sound : (s e : S) (t rest : List ℕ) → shut (run turn s t) ≡ got e rest → (end : List ℕ) × Repeats Step s t e end × (skip end ≡ 41 ∷ rest)
  shut_sound s e t rest h =
      let (end, r, b) = shut_from (run turn s t) e rest h in
      let l = led turn Step steps s t (finished e end) r in
      let (rest', c) = ends e end l.1 in
      (end, l.0, c ∙ ap (λ y. 41 ∷ y) (sym (ap behind c) ∙ b))

  pub shut_complete : (s e : S) (t end rest : List ℕ) → Repeats Step s t e end → skip end ≡ 41 ∷ rest → shut (run turn s t) ≡ got e rest
  unfolding shut
  shut_complete s e t end rest repeats c =
      ap shut (finished_by turn Step steps s e t end repeats (ended e end rest c)) ∙ ap (got e) (ap behind c)

  pub shut_shortens : (s e : S) (t rest : List ℕ) → shut (run turn s t) ≡ got e rest → length rest < length t
  shut_shortens s e t rest h =
      let (end, repeats, c) = shut_sound s e t rest h in
      omega (arith, repeats_le turn Step steps s e t end repeats, skip_le end, ap length c)
