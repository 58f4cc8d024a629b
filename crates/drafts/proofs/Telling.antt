-- Question by question: what is answered tells the verdict.
use Rattle.std.proofs.Common.{◌≡◌, ℕ, min, List, [], ◌∷◌, Some, None, Ok, Err, Option, Result, sym, refl, ap, ◌∙◌, subst, arith}
use Rattle.declarations.specs.Contents.{Placed}
use Rattle.drafts.specs.Asks.{fit_in}
use Rattle.drafts.specs.Questions.{Room, Asked, accepted, first_no, or_ask, ask_all, declared_names, nodes_fit}
use Rattle.drafts.specs.Reading.{Tells, refuse_at}
use Rattle.drafts.specs.Refusals.{number}
use Rattle.drafts.specs.declared.refusal.Question.{Question}
use Rattle.drafts.specs.declared.refusal.Question.TheVariants.{Nodes}
use Rattle.drafts.specs.declared.refusal.Refusal.{Refusal}

module _ (question : Question) (asked : Asked) (qs : List (ℕ × Asked)) (found : List Placed) (answer : Option ℕ) (is : answer ≡ first_no asked [] found) where
  -- A no is the answer, whatever comes later.
  pub told_no : (r : Refusal) → refuse_at question answer ≡ Err r → Tells (ask_all ((number question, asked) ∷ qs) found) (Err r)
  unfolding ask_all or_ask
  told_no r h = by answer is h
    where
      by : (a : Option ℕ) → a ≡ first_no asked [] found → refuse_at question a ≡ Err r → Tells (or_ask (number question) (first_no asked [] found) (ask_all qs found)) (Err r)
      by None e k = let z : ◌≡◌ {A = ℕ} 0 1 = cc in absurd (omega arith)
      by (Some place) e k =
          subst (λ x. Tells (or_ask (number question) x (ask_all qs found)) (Err r)) e
          (let same : ◌≡◌ {A = Refusal} (record { question = question; place = place }) r = cc in
          (ap (λ (x : Refusal). number x.question) (sym same), ap (λ (x : Refusal). x.place) (sym same)))

  -- After a yes the next question is asked.
  pub told_yes : (v : Unit {0}) → refuse_at question answer ≡ Ok v → (r : Result (Unit {0}) Refusal) → Tells (ask_all qs found) r → Tells (ask_all ((number question, asked) ∷ qs) found) r
  unfolding ask_all or_ask
  told_yes v h r later = by answer is h
    where
      by : (a : Option ℕ) → a ≡ first_no asked [] found → refuse_at question a ≡ Ok v → Tells (or_ask (number question) (first_no asked [] found) (ask_all qs found)) r
      by None e k = subst (λ x. Tells (or_ask (number question) x (ask_all qs found)) r) e later
      by (Some place) e k = let z : ◌≡◌ {A = ℕ} 0 1 = cc in absurd (omega arith)

  pub yes_none : (v : Unit {0}) → refuse_at question answer ≡ Ok v → first_no asked [] found ≡ None
  yes_none v h = by answer is h
    where
      by : (a : Option ℕ) → a ≡ first_no asked [] found → refuse_at question a ≡ Ok v → first_no asked [] found ≡ None
      by None e k = sym e
      by (Some place) e k = let z : ◌≡◌ {A = ℕ} 0 1 = cc in absurd (omega arith)

-- The last question alone.
pub last_told : (room : Room) (found : List Placed) (answer : Option ℕ) (r : Result (Unit {0}) Refusal) (limit : ℕ) → limit ≡ min 2048 room.nodes → answer ≡ first_no (fit_in limit (declared_names found)) [] found → r ≡ refuse_at Nodes answer → Tells (ask_all ((18, nodes_fit room (declared_names found)) ∷ []) found) r
unfolding ask_all or_ask
last_told room found answer r limit is told e =
    subst (Tells (or_ask 18 (first_no (nodes_fit room (declared_names found)) [] found) (accepted found))) (sym e)
    (subst (λ x. Tells (or_ask 18 x (accepted found)) (refuse_at Nodes answer)) (told ∙ ap (λ k. first_no (fit_in k (declared_names found)) [] found) is) (by answer))
  where
    by : (a : Option ℕ) → Tells (or_ask 18 a (accepted found)) (refuse_at Nodes a)
    by None = tt
    by (Some place) = (refl, refl)
