-- A number has at most one expression, and what that says of its record and its languages.
use denote.Ref.{Bor}
use Rattle.std.proofs.lemmas.List.{get_or_read}
use Rattle.std.proofs.lemmas.Option.{none-some}
use Rattle.std.specs.Option.{SomeIff, MatchOption, unwrap_or}
use Rattle.std.specs.Slice.{IsItemAt, IsGetRangeResult}
use Rattle.std.proofs.Common.{Some, None, Option, ◌≡◌, ℕ, ◌+◌, ◌-◌, ◌≤◌, ◌⊎◌, List, [], ◌∷◌, ◌++◌, length, get_or, take, drop, refl, sym, ◌∙◌, ◌<◌, ap, subst, inl, inr, arith}
use native.Mathlib.Decide.{dec_le}
use Rattle.engine.specs.Languages.{Each}
use Rattle.models.specs.Expressions.{Exp, empty, atom, seq, alt, star, plus, option, atoms, Many, done, more, In}
use Rattle.models.specs.Folds.{Codes}
use Rattle.models.specs.Tables.{Coded, NodesOf, model_at, part}
use Rattle.models.specs.declared.node.Model.{Model}
use Rattle.models.specs.declared.node.Node.{Node}
use Rattle.models.proofs.Folding.{codes_one, no_code, code_or_not}

pub coded_one : {A : Type 0} (nodes : List (Node A)) (models : List Model) (number : ℕ) (e f : Exp A) → Coded nodes models number e → Coded nodes models number f → e ≡ f
coded_one nodes models number e f c d = codes_one 64 (part nodes (model_at models number)) e f c.codes d.codes

pub coded_ordered : {A : Type 0} (nodes : List (Node A)) (models : List Model) (number : ℕ) (e : Exp A) → Coded nodes models number e → (model_at models number).start ≤ (model_at models number).end
coded_ordered nodes models number e c =
    let m = model_at models number in
    elim (dec_le m.start m.end) [
      | yes le ↦ le
      | no gt ↦
          let none : m.end - m.start ≡ 0 = omega arith in
          absurd (no_code 64 e (subst (λ ns. Codes 64 ns e) (ap (λ k. take k (drop m.start nodes)) none) c.codes))
    ]

-- Whether a number has an expression is decided.
pub coded_or_not : {A : Type 0} (nodes : List (Node A)) (models : List Model) (number : ℕ) → ((e : Exp A) × Coded nodes models number e) ⊎ ((e : Exp A) → Coded nodes models number e → ⊥)
coded_or_not nodes models number =
    elim (dec_le 1 number) [
      | yes from ↦
          elim (dec_le number (length models)) [
            | yes listed ↦
                elim (dec_le (model_at models number).end (length nodes)) [
                  | yes within ↦
                      elim (code_or_not 64 (part nodes (model_at models number))) [
                        | inl k ↦ inl (k.0, record { from_one = from; listed = listed; within = within; codes = k.1 })
                        | inr k ↦ inr (λ e c. k e c.codes)
                      ]
                  | no out ↦ inr (λ e c. out c.within)
                ]
            | no out ↦ inr (λ e c. out c.listed)
          ]
      | no out ↦ inr (λ e c. out c.from_one)
    ]

each_append : {X : Type 0} (P : X → Type 0) (u v : List X) → Each P u → Each P v → Each P (u ++ v)
each_append P [] v h k = k
each_append P (x ∷ u) v h k = (h.0, each_append P u v h.1 k)

-- Each letter of a word is one that an atom reads.
module _ {A X : Type 0} (reads : ℕ → A → X → Type 0) (P : X → Type 0) (good : (n : ℕ) (a : A) (x : X) → reads n a x → P x) where
  many_each : {L : List X → Type 0} → ((w : List X) → L w → Each P w) → (w : List X) → Many L w → Each P w
  many_each all w (done e) = subst (Each P) (sym e) tt
  many_each all w (more u v e l m) = subst (Each P) (sym e) (each_append P u v (all u l) (many_each all v m))

  pub in_each : (e : Exp A) (b : ℕ) (w : List X) → In reads e b w → Each P w
  in_each empty b w h = subst (Each P) (sym h) tt
  in_each (atom a) b w (x, r, h) = subst (Each P) (sym h) (good (b + 1) a x r, tt)
  in_each (seq e f) b w (u, v, s, l, m) = subst (Each P) (sym s) (each_append P u v (in_each e b u l) (in_each f (b + atoms e) v m))
  in_each (alt e f) b w (inl h) = in_each e b w h
  in_each (alt e f) b w (inr h) = in_each f (b + atoms e) w h
  in_each (star e) b w h = many_each (in_each e b) w h
  in_each (plus e) b w (u, v, s, l, m) = subst (Each P) (sym s) (each_append P u v (in_each e b u l) (many_each (in_each e b) v m))
  in_each (option e) b w (inl h) = subst (Each P) (sym h) tt
  in_each (option e) b w (inr h) = in_each e b w h

-- The nodes that are found by the place of a number's record and by the record's ends.
module _ {A : Type 0} (nodes : List (Node A)) (models : List Model) (number : ℕ) (none : Bor (List (Node A))) (is : none.now ≡ []) where
  missing : (slice : Option (Bor (List (Node A)))) → slice ≡ None → ((e : Exp A) → Coded nodes models number e → ⊥) → NodesOf nodes models number (unwrap_or slice none).now
  missing slice gone never e = (
    λ h. absurd (no_code 64 e (subst (λ ns. Codes 64 ns e) (ap (λ s. (unwrap_or s none).now) gone ∙ is) h)),
    λ h. absurd (never e h),
  )

  record_is : (p : ℕ) (m : Model) → 1 ≤ number → p ≡ number - 1 → p < length models → m ≡ get_or models p m → m ≡ model_at models number
  record_is p m from at listed read =
      get_or_read models p m listed read (record { start = 0; end = 0 }) ∙ ap (λ k. get_or models k (record { start = 0; end = 0 })) at

  pub found_nodes : (place : Option ℕ) (model : Option (Bor Model)) (slice : Option (Bor (List (Node A)))) → SomeIff place (1 ≤ number) (number - 1) → MatchOption place (model ≡ None) (λ p. IsItemAt models p model) → MatchOption model (slice ≡ None) (λ m. IsGetRangeResult nodes m.now.start m.now.end slice) → NodesOf nodes models number (unwrap_or slice none).now
  found_nodes None None slice here at part_at = missing slice part_at (λ e c. here c.from_one)
  found_nodes None (Some m) slice here at part_at = absurd (none-some m (sym at))
  found_nodes (Some p) None slice here at part_at = missing slice part_at (λ e c. omega (arith, at.3, here.0, here.1, c.listed))
  found_nodes (Some p) (Some m) None here at part_at =
      let same = record_is p m.now here.0 here.1 at.3.0 at.1 in
      missing None refl (λ e c. elim part_at.0 [
        | inl back ↦ let k = subst (λ (r : Model). r.end < r.start) same back in let o = coded_ordered nodes models number e c in omega arith
        | inr out ↦ let k = subst (λ (r : Model). length nodes < r.end) same out in let w = c.within in omega arith
      ])
  found_nodes (Some p) (Some m) (Some s) here at part_at =
      let same = record_is p m.now here.0 here.1 at.3.0 at.1 in
      let found : s.now ≡ part nodes (model_at models number) = part_at.0.2 ∙ ap (part nodes) same in
      λ e. (
        λ h. record {
          from_one = here.0;
          listed = (let lt = at.3.0 in omega (arith, lt, here.1));
          within = subst (λ (r : Model). r.end ≤ length nodes) same part_at.0.1;
          codes = subst (λ ns. Codes 64 ns e) found h;
        },
        λ h. subst (λ ns. Codes 64 ns e) (sym found) h.codes,
      )
