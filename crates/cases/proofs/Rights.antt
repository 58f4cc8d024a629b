-- Right replies: a stretch of a valid document is accepted event by event, and what goes on with none offends.
use Rattle.std.proofs.Common.{◌≡◌, ℕ, ◌+◌, ◌<◌, ◌≤◌, false, List, [], ◌∷◌, ◌++◌, length, Some, sym, refl, ap, ◌∙◌, subst, inl, inr, append_assoc, append-nil, arith, length-append}
use Rattle.engine.specs.Languages.{Language}
use Rattle.engine.specs.Trees.{Forest, Valid, Declared, Event, start, text, end, traversal}
use Rattle.engine.specs.declared.alphabet.Letter.{Letter}
use Rattle.calls.specs.Replies.{accepted, refused}
use Rattle.sheet.specs.Histories.{Call, begin, send, Turn, root, events, passed, starts}
use Rattle.sheet.specs.Questions.{BeginsDocument, Known, Underway, Admitted, ValuesPlain, Right}
use Rattle.sheet.specs.Theorem.{RightAfter}
use Rattle.sheet.proofs.Balance.{begins_known}
use Rattle.sheet.proofs.Calls.{root_more, events_more, passed_more}
use Rattle.cases.specs.Histories.{sends, accepting}

few_starts : (es : List Event) → starts es ≤ length es
few_starts [] = omega arith
few_starts (start n ∷ es) = omega (arith, few_starts es)
few_starts (text bs ∷ es) = omega (arith, few_starts es)
few_starts (end n ∷ es) = omega (arith, few_starts es)

module _ (C : ℕ → Language Letter) (V : ℕ → Language ℕ) where
  pub begins : (r : ℕ) → Declared C r → ValuesPlain C V → Right C V [] (begin r) accepted
  begins r declared plain = inr (refl, inr (declared, inr (plain, refl)))

  -- An admitted event is accepted while there is room.
  roomy : (calls : List Call) (e : Event) → Underway calls → Known C e → Admitted C V calls e → length (events calls) < 64 → Right C V calls (send e) accepted
  roomy calls (start n) underway known admitted fits =
      inr (underway, inr (known, inr (admitted, inr (omega (arith, few_starts (events calls)), inr (omega arith, refl)))))
  roomy calls (text bs) underway known admitted fits = inr (underway, inr (known, inr (admitted, inr (omega arith, refl))))
  roomy calls (end n) underway known admitted fits = inr (underway, inr (known, inr (admitted, inr (omega arith, refl))))

  -- The events that a valid document goes on with are accepted one after the other.
  pub stretch : (r : ℕ) (f : Forest) → Valid C V r f → (calls : List Call) (es rest : List Event) (later : List Turn) →
      root calls ≡ Some r → passed calls ≡ false → traversal r f ≡ events calls ++ (es ++ rest) → length (events calls) + length es ≤ 64 →
      RightAfter C V (calls ++ sends es) later → RightAfter C V calls (accepting (sends es) ++ later)
  stretch r f v calls [] rest later is unpassed on fits h = subst (λ cs. RightAfter C V cs later) (append-nil calls) h
  stretch r f v calls (e ∷ es) rest later is unpassed on fits h =
      let begun : BeginsDocument C V r (events calls ++ (e ∷ [])) = (f, es ++ rest, v, on ∙ sym (append_assoc (events calls) (e ∷ []) (es ++ rest))) in
      let more = events_more calls e in
      let longer : length (events (calls ++ (send e ∷ []))) ≡ length (events calls) + 1 = ap length more ∙ length-append (events calls) (e ∷ []) in (
        roomy calls e ((r, is), unpassed) (begins_known C V r (events calls) e begun) (r, is, begun) (omega arith),
        stretch r f v (calls ++ (send e ∷ [])) es rest later (root_more calls e ∙ is) (passed_more calls e ∙ unpassed)
            (on ∙ sym (append_assoc (events calls) (e ∷ []) (es ++ rest)) ∙ ap (λ xs. xs ++ (es ++ rest)) (sym more))
            (omega arith)
            (subst (λ cs. RightAfter C V cs later) (sym (append_assoc calls (send e ∷ []) (sends es))) h),
      )

  -- A known event that no valid document goes on with is refused with 36.
  pub offends : (calls : List Call) (e : Event) (r : ℕ) → root calls ≡ Some r → passed calls ≡ false → Known C e →
      (BeginsDocument C V r (events calls ++ (e ∷ [])) → ⊥) → Right C V calls (send e) (refused 36)
  offends calls e r is unpassed known never =
      inr (
        ((r, is), unpassed),
        inr (
          known,
          inl (
            λ a. let same : a.0 ≡ r = cc (a.1, is) in never (subst (λ s. BeginsDocument C V s (events calls ++ (e ∷ []))) same a.2),
            refl,
          ),
        ),
      )
