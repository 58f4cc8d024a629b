-- Repeated readings, turn by turn: how many turns are allowed does not matter, as long as there are more than bytes.
use Rattle.std.proofs.Common.{◌≡◌, ℕ, zero, suc, ◌<◌, List, length, sym, refl, ◌∙◌, arith}
use Rattle.scan.specs.Readings.{Turn, over, stuck, next, finished, stopped, turns, run, Shrinks}

module _ {S : Type 0} (turn : S → List ℕ → Turn S) where
  -- One turn of as many as are left.
  pub turns_over : (n : ℕ) (s : S) (t : List ℕ) → turn s t ≡ over → turns (suc n) turn s t ≡ finished s t
  unfolding turns
  turns_over n s t e = rw (e, turns)

  pub turns_stuck : (n : ℕ) (s : S) (t : List ℕ) → turn s t ≡ stuck → turns (suc n) turn s t ≡ stopped s t
  unfolding turns
  turns_stuck n s t e = rw (e, turns)

  pub turns_next : (n : ℕ) (s s' : S) (t t' : List ℕ) → turn s t ≡ next s' t' → turns (suc n) turn s t ≡ turns n turn s' t'
  unfolding turns
  turns_next n s s' t t' e = rw (e, turns)

  module _ (shrinks : Shrinks turn) where
    by_turn : (n m : ℕ) (s : S) (t : List ℕ) (r : Turn S) → turn s t ≡ r → ((s' : S) (t' : List ℕ) → length t' < length t → turns n turn s' t' ≡ turns m turn s' t') → turns (suc n) turn s t ≡ turns (suc m) turn s t
    by_turn n m s t over e same = turns_over n s t e ∙ sym (turns_over m s t e)
    by_turn n m s t stuck e same = turns_stuck n s t e ∙ sym (turns_stuck m s t e)
    by_turn n m s t (next s' t') e same =
        turns_next n s s' t t' e ∙ same s' t' (shrinks s s' t t' e) ∙ sym (turns_next m s s' t t' e)

    -- Any two numbers of turns above the number of bytes do the same.
    pub turns_enough : (n m : ℕ) (s : S) (t : List ℕ) → length t < n → length t < m → turns n turn s t ≡ turns m turn s t
    turns_enough zero m s t h k = absurd (omega arith)
    turns_enough (suc n) zero s t h k = absurd (omega arith)
    turns_enough (suc n) (suc m) s t h k =
        by_turn n m s t (turn s t) refl
        (λ s' t' less. turns_enough n m s' t' (omega arith) (omega arith))

    -- A run goes on as the run from behind its first turn.
    pub run_next : (s s' : S) (t t' : List ℕ) → turn s t ≡ next s' t' → run turn s t ≡ run turn s' t'
    run_next s s' t t' e =
        let less : length t' < length t = shrinks s s' t t' e in
        turns_next (length t) s s' t t' e ∙ turns_enough (length t) (suc (length t')) s' t' less (omega arith)

  -- A run whose first turn is over, or stuck, ends there.
  pub run_over : (s : S) (t : List ℕ) → turn s t ≡ over → run turn s t ≡ finished s t
  run_over s t e = turns_over (length t) s t e

  pub run_stuck : (s : S) (t : List ℕ) → turn s t ≡ stuck → run turn s t ≡ stopped s t
  run_stuck s t e = turns_stuck (length t) s t e
