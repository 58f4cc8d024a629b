-- A run in the middle of its turns.
use Rattle.std.proofs.Common.{◌≡◌, ℕ, suc, ◌-◌, ◌<◌, ◌≤◌, List, length, sym, refl, ap, ◌∙◌, arith}
use Rattle.scan.specs.Readings.{Turn, over, stuck, next, Run, finished, stopped, turns, run}
use Rattle.scan.proofs.Runs.{turns_over, turns_stuck, turns_next}

-- A run that still has more turns than bytes are left.
pub record Turning {S : Type 0} (turn : S → List ℕ → Turn S) (s : S) (t : List ℕ) (all : Run S) : Type 0 where
  pub spare : ℕ
  pub enough : length t ≤ spare
  pub same : turns (suc spare) turn s t ≡ all

-- Its next turn ends it, or goes on.
module _ {S : Type 0} (turn : S → List ℕ → Turn S) (all : Run S) where
  pub turning_over : (s : S) (t : List ℕ) → Turning turn s t all → turn s t ≡ over → all ≡ finished s t
  turning_over s t g e = sym g.same ∙ turns_over turn g.spare s t e

  pub turning_stuck : (s : S) (t : List ℕ) → Turning turn s t all → turn s t ≡ stuck → all ≡ stopped s t
  turning_stuck s t g e = sym g.same ∙ turns_stuck turn g.spare s t e

  pub turning_next : (s s' : S) (t t' : List ℕ) → Turning turn s t all → turn s t ≡ next s' t' → length t' < length t → Turning turn s' t' all
  turning_next s s' t t' g e less =
      let more : suc (g.spare - 1) ≡ g.spare = omega (arith, g.enough) in
      record { spare = g.spare - 1; enough = omega (arith, g.enough); same = ap (λ n. turns n turn s' t') more ∙ sym (turns_next turn g.spare s s' t t' e) ∙ g.same }

pub turning_start : {S : Type 0} (turn : S → List ℕ → Turn S) (s : S) (t : List ℕ) → Turning turn s t (run turn s t)
turning_start turn s t = record { spare = length t; enough = omega arith; same = refl }
