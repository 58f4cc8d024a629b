-- A run of turns that agree with a step ends exactly where repeated steps lead and the turn is over or stuck.
use Rattle.std.proofs.Common.{◌≡◌, ℕ, zero, suc, ◌<◌, ◌≤◌, List, length, sym, refl, ap, ◌∙◌, subst, arith}
use Rattle.scan.specs.Readings.{Turn, over, stuck, next, Run, finished, stopped, run, Shrinks, Repeats, none, more}
use Rattle.scan.proofs.Runs.{run_over, run_stuck, run_next}

-- A turn does one thing only.
pub over_next : {S : Type 0} {s : S} {t : List ℕ} → ◌≡◌ {A = Turn S} over (next s t) → ⊥
over_next e = let z : ◌≡◌ {A = ℕ} 0 1 = cc in omega arith

pub stuck_next : {S : Type 0} {s : S} {t : List ℕ} → ◌≡◌ {A = Turn S} stuck (next s t) → ⊥
stuck_next e = let z : ◌≡◌ {A = ℕ} 0 1 = cc in omega arith

pub stuck_over : {S : Type 0} → ◌≡◌ {A = Turn S} stuck over → ⊥
stuck_over e = let z : ◌≡◌ {A = ℕ} 0 1 = cc in omega arith

-- A turn goes on exactly as the step says, and then leaves a shorter text.
pub record Steps {S : Type 0} (turn : S → List ℕ → Turn S) (Step : S → List ℕ → S → List ℕ → Type 0) : Type 0 where
  pub sound : (s s' : S) (t t' : List ℕ) → turn s t ≡ next s' t' → Step s t s' t'
  pub complete : (s s' : S) (t t' : List ℕ) → Step s t s' t' → turn s t ≡ next s' t'
  pub shrinks : Shrinks turn

-- How a run stands to the steps: where it ends, they lead, and the turn there says how it ended.
abbrev pub LedTo : {S : Type 0} → (S → List ℕ → Turn S) → (S → List ℕ → S → List ℕ → Type 0) → S → List ℕ → Run S → Type 0
LedTo turn Step s t (finished s' t') = Repeats Step s t s' t' × (turn s' t' ≡ over)
LedTo turn Step s t (stopped s' t') = Repeats Step s t s' t' × (turn s' t' ≡ stuck)

module _ {S : Type 0} (turn : S → List ℕ → Turn S) (Step : S → List ℕ → S → List ℕ → Type 0) (steps : Steps turn Step) where
  -- Repeated steps leave no longer a text.
  pub repeats_le : (s s' : S) (t t' : List ℕ) → Repeats Step s t s' t' → length t' ≤ length t
  repeats_le s s' t t' (none e d) = omega (arith, ap length d)
  repeats_le s s' t t' (more s'' t'' step rest) =
      omega (arith, steps.shrinks s s'' t t'' (steps.complete s s'' t t'' step), repeats_le s'' s' t'' t' rest)

  run_along : (s s' : S) (t t' : List ℕ) → Repeats Step s t s' t' → run turn s t ≡ run turn s' t'
  run_along s s' t t' (none e d) = ap (λ x. run turn x t) e ∙ ap (run turn s') d
  run_along s s' t t' (more s'' t'' step rest) =
      run_next turn steps.shrinks s s'' t t'' (steps.complete s s'' t t'' step) ∙ run_along s'' s' t'' t' rest

  -- Steps lead to a state where the turn is over: there the run is finished.
  pub finished_by : (s s' : S) (t t' : List ℕ) → Repeats Step s t s' t' → turn s' t' ≡ over → run turn s t ≡ finished s' t'
  finished_by s s' t t' repeats e = run_along s s' t t' repeats ∙ run_over turn s' t' e

  -- Steps lead to a state where the turn is stuck: there the run stopped.
  pub stopped_by : (s s' : S) (t t' : List ℕ) → Repeats Step s t s' t' → turn s' t' ≡ stuck → run turn s t ≡ stopped s' t'
  stopped_by s s' t t' repeats e = run_along s s' t t' repeats ∙ run_stuck turn s' t' e

  one_more : (s s' : S) (t t' : List ℕ) (r : Run S) → Step s t s' t' → LedTo turn Step s' t' r → LedTo turn Step s t r
  one_more s s' t t' (finished s'' t'') step led = (more s' t' step led.0, led.1)
  one_more s s' t t' (stopped s'' t'') step led = (more s' t' step led.0, led.1)

  led_within : (n : ℕ) (s : S) (t : List ℕ) → length t < n → LedTo turn Step s t (run turn s t)
  led_within zero s t h = absurd (omega arith)
  led_within (suc n) s t h = go (led_within n) (turn s t) refl
    where
      go : ((s' : S) (t' : List ℕ) → length t' < n → LedTo turn Step s' t' (run turn s' t')) → (x : Turn S) → turn s t ≡ x → LedTo turn Step s t (run turn s t)
      go rec over e = subst (LedTo turn Step s t) (sym (run_over turn s t e)) (none refl refl, e)
      go rec stuck e = subst (LedTo turn Step s t) (sym (run_stuck turn s t e)) (none refl refl, e)
      go rec (next s' t') e =
          let l : length t' < length t = steps.shrinks s s' t t' e in
          subst (LedTo turn Step s t) (sym (run_next turn steps.shrinks s s' t t' e)) (one_more s s' t t' (run turn s' t') (steps.sound s s' t t' e) (rec s' t' (omega arith)))

  -- Where the run ends, the steps lead.
  pub led : (s : S) (t : List ℕ) (r : Run S) → run turn s t ≡ r → LedTo turn Step s t r
  led s t r e = subst (LedTo turn Step s t) e (led_within (suc (length t)) s t (omega arith))
