-- The mark behind an expression: the reading that is worked out says what the relation says.
use Rattle.std.proofs.Common.{◌≡◌, ℕ, ◌≤◌, true, ◌||◌, eqb, List, [], ◌∷◌, length, sym, refl, ap, ◌∙◌, inl, inr, arith}
use Rattle.std.proofs.lemmas.Bool.{eqb-true, or_from, or_parts}
use Rattle.models.specs.Expressions.{Exp}
use Rattle.scan.specs.Names.{Name}
use Rattle.scan.specs.Readings.{Front, bad, got}
use Rattle.scan.proofs.Agreements.{bad_got, got_value, got_rest, chosen, chosen_false}
use Rattle.declarations.specs.Grammar.{Mark, Unmarked}
use Rattle.declarations.specs.Readers.{with_mark, marked}

mark_plain : (e : Exp Name) (t : List ℕ) → Unmarked t → with_mark e t ≡ got e t
unfolding with_mark
mark_plain e [] h = refl
mark_plain e (b ∷ t) h =
    let p = or_parts (eqb b 63) (eqb b 42 || eqb b 43) h in
    let q = or_parts (eqb b 42) (eqb b 43) p.1 in
    chosen_false (eqb b 63) _ _ p.0 ∙ (chosen_false (eqb b 42) _ _ q.0 ∙ chosen_false (eqb b 43) _ _ q.1)

pub mark_complete : (e : Exp Name) (t : List ℕ) (m : Exp Name) (rest : List ℕ) → Mark e t m rest → with_mark e t ≡ got m rest
unfolding with_mark
mark_complete e t m rest (inl (h, k)) = ap (with_mark e) h ∙ ap (λ y. got y rest) (sym k)
mark_complete e t m rest (inr (inl (h, k))) = ap (with_mark e) h ∙ ap (λ y. got y rest) (sym k)
mark_complete e t m rest (inr (inr (inl (h, k)))) = ap (with_mark e) h ∙ ap (λ y. got y rest) (sym k)
mark_complete e t m rest (inr (inr (inr (bare, h, k)))) =
    mark_plain e t bare ∙ (ap (got e) h ∙ ap (λ y. got y rest) (sym k))

signed : (c b : ℕ) (t rest : List ℕ) → eqb b c ≡ true → t ≡ rest → b ∷ t ≡ c ∷ rest
signed c b t rest test e = let s = eqb-true b c test in cc

pub mark_sound : (e : Exp Name) (t : List ℕ) (m : Exp Name) (rest : List ℕ) → with_mark e t ≡ got m rest → Mark e t m rest
unfolding with_mark
mark_sound e [] m rest h = inr (inr (inr (refl, got_rest h, sym (got_value h))))
mark_sound e (b ∷ t) m rest h =
    chosen (eqb b 63) h
    (λ test k. inl (signed 63 b t rest test (got_rest k), sym (got_value k)))
    (λ no-option h₁. chosen (eqb b 42) h₁
    (λ test k. inr (inl (signed 42 b t rest test (got_rest k), sym (got_value k))))
    (λ no_star h₂. chosen (eqb b 43) h₂
    (λ test k. inr (inr (inl (signed 43 b t rest test (got_rest k), sym (got_value k)))))
    (λ no_plus k. inr (inr (inr (or_from (eqb b 63) (eqb b 42 || eqb b 43) no-option (or_from (eqb b 42) (eqb b 43) no_star no_plus), got_rest k, sym (got_value k)))))))

pub mark_le : (e : Exp Name) (t : List ℕ) (m : Exp Name) (rest : List ℕ) → Mark e t m rest → length rest ≤ length t
mark_le e t m rest (inl (h, k)) = omega (arith, ap length h)
mark_le e t m rest (inr (inl (h, k))) = omega (arith, ap length h)
mark_le e t m rest (inr (inr (inl (h, k)))) = omega (arith, ap length h)
mark_le e t m rest (inr (inr (inr (bare, h, k)))) = omega (arith, ap length h)

-- What was marked.
pub marked_from : (x : Front (Exp Name)) (m : Exp Name) (rest : List ℕ) → marked x ≡ got m rest → (e : Exp Name) × (mid : List ℕ) × (x ≡ got e mid) × Mark e mid m rest
unfolding marked
marked_from bad m rest h = absurd (bad_got h)
marked_from (got e mid) m rest h = (e, mid, refl, mark_sound e mid m rest h)

pub marked_by : (x : Front (Exp Name)) (e : Exp Name) (mid : List ℕ) (m : Exp Name) (rest : List ℕ) → x ≡ got e mid → Mark e mid m rest → marked x ≡ got m rest
unfolding marked
marked_by x e mid m rest h mark = ap marked h ∙ mark_complete e mid m rest mark
