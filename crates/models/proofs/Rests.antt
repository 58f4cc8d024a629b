-- What may follow a set of atoms depends on the set's own atoms alone, and goes on to a word from each of them.
use Rattle.std.proofs.Common.{◌≡◌, ℕ, ◌+◌, ◌<◌, ◌≤◌, ◌⊎◌, List, [], ◌∷◌, ◌++◌, refl, subst, inl, inr, arith}
use native.Mathlib.Decide.{dec_le}
use Rattle.engine.specs.Languages.{Inhabited}
use Rattle.models.specs.Expressions.{Exp, empty, atom, seq, alt, star, plus, option, atoms, done, In}
use Rattle.models.specs.Rests.{Rest}
use Rattle.models.proofs.Joins.{then_map}

module _ {A X : Type 0} (reads : ℕ → A → X → Type 0) where
  -- Only the atoms of the expression count.
  pub rest_mono : (e : Exp A) (b : ℕ) {S T : ℕ → Type 0} → ((n : ℕ) → b < n → n ≤ b + atoms e → S n → T n) → (w : List X) → Rest reads e b S w → Rest reads e b T w
  rest_mono empty b f w h = h
  rest_mono (atom a) b f w (s, e) = (f (b + 1) (omega arith) (omega arith) s, e)
  rest_mono (seq e g) b f w (inl h) = inl (then_map (rest_mono e b (λ n l u s. f n l (omega arith) s)) (λ v m. m) w h)
  rest_mono (seq e g) b f w (inr h) = inr (rest_mono g (b + atoms e) (λ n l u s. f n (omega arith) (omega arith) s) w h)
  rest_mono (alt e g) b f w (inl h) = inl (rest_mono e b (λ n l u s. f n l (omega arith) s) w h)
  rest_mono (alt e g) b f w (inr h) = inr (rest_mono g (b + atoms e) (λ n l u s. f n (omega arith) (omega arith) s) w h)
  rest_mono (star e) b f w h = then_map (rest_mono e b f) (λ v m. m) w h
  rest_mono (plus e) b f w h = then_map (rest_mono e b f) (λ v m. m) w h
  rest_mono (option e) b f w h = rest_mono e b f w h

  -- What follows one of two sets follows the one or the other.
  pub rest_or : (e : Exp A) (b : ℕ) (S T : ℕ → Type 0) (w : List X) → Rest reads e b (λ n. S n ⊎ T n) w → Rest reads e b S w ⊎ Rest reads e b T w
  rest_or empty b S T w h = absurd h
  rest_or (atom a) b S T w (inl s, e) = inl (s, e)
  rest_or (atom a) b S T w (inr t, e) = inr (t, e)
  rest_or (seq e g) b S T w (inl (u, v, s, l, m)) = elim (rest_or e b S T u l) [ inl k ↦ inl (inl (u, v, s, k, m)) | inr k ↦ inr (inl (u, v, s, k, m)) ]
  rest_or (seq e g) b S T w (inr h) = elim (rest_or g (b + atoms e) S T w h) [ inl k ↦ inl (inr k) | inr k ↦ inr (inr k) ]
  rest_or (alt e g) b S T w (inl h) = elim (rest_or e b S T w h) [ inl k ↦ inl (inl k) | inr k ↦ inr (inl k) ]
  rest_or (alt e g) b S T w (inr h) = elim (rest_or g (b + atoms e) S T w h) [ inl k ↦ inl (inr k) | inr k ↦ inr (inr k) ]
  rest_or (star e) b S T w (u, v, s, l, m) = elim (rest_or e b S T u l) [ inl k ↦ inl (u, v, s, k, m) | inr k ↦ inr (u, v, s, k, m) ]
  rest_or (plus e) b S T w (u, v, s, l, m) = elim (rest_or e b S T u l) [ inl k ↦ inl (u, v, s, k, m) | inr k ↦ inr (u, v, s, k, m) ]
  rest_or (option e) b S T w h = rest_or e b S T w h

  -- Something follows only a set with an atom of the expression.
  pub rest_some : (e : Exp A) (b : ℕ) {S : ℕ → Type 0} (w : List X) → Rest reads e b S w → (n : ℕ) × (b < n) × (n ≤ b + atoms e) × S n
  rest_some empty b w h = absurd h
  rest_some (atom a) b w (s, e) = (b + 1, omega arith, omega arith, s)
  rest_some (seq e g) b w (inl (u, v, t, l, m)) = let (n, lo, hi, s) = rest_some e b u l in (n, lo, omega arith, s)
  rest_some (seq e g) b w (inr h) = let (n, lo, hi, s) = rest_some g (b + atoms e) w h in (n, omega arith, omega arith, s)
  rest_some (alt e g) b w (inl h) = let (n, lo, hi, s) = rest_some e b w h in (n, lo, omega arith, s)
  rest_some (alt e g) b w (inr h) = let (n, lo, hi, s) = rest_some g (b + atoms e) w h in (n, omega arith, omega arith, s)
  rest_some (star e) b w (u, v, t, l, m) = rest_some e b u l
  rest_some (plus e) b w (u, v, t, l, m) = rest_some e b u l
  rest_some (option e) b w h = rest_some e b w h

  -- What follows a set follows one of its atoms.
  pub rest_each : (e : Exp A) (b : ℕ) {S : ℕ → Type 0} (w : List X) → Rest reads e b S w → (p : ℕ) × S p × Rest reads e b (λ n. n ≡ p) w
  rest_each empty b w h = absurd h
  rest_each (atom a) b w (s, e) = (b + 1, s, (refl, e))
  rest_each (seq e g) b w (inl (u, v, t, l, m)) = let (p, s, k) = rest_each e b u l in (p, s, inl (u, v, t, k, m))
  rest_each (seq e g) b w (inr h) = let (p, s, k) = rest_each g (b + atoms e) w h in (p, s, inr k)
  rest_each (alt e g) b w (inl h) = let (p, s, k) = rest_each e b w h in (p, s, inl k)
  rest_each (alt e g) b w (inr h) = let (p, s, k) = rest_each g (b + atoms e) w h in (p, s, inr k)
  rest_each (star e) b w (u, v, t, l, m) = let (p, s, k) = rest_each e b u l in (p, s, (u, v, t, k, m))
  rest_each (plus e) b w (u, v, t, l, m) = let (p, s, k) = rest_each e b u l in (p, s, (u, v, t, k, m))
  rest_each (option e) b w h = rest_each e b w h

  pub rest_guard : (e : Exp A) (b : ℕ) (P : Type 0) (S : ℕ → Type 0) (w : List X) → Rest reads e b (λ n. P × S n) w → P × Rest reads e b S w
  rest_guard e b P S w h = ((rest_some e b w h).3.0, rest_mono e b (λ n l u s. s.1) w h)

  module _ (alive : (n : ℕ) (a : A) → (x : X) × reads n a x) where
    -- Every expression has a word.
    pub word : (e : Exp A) (b : ℕ) → Inhabited (In reads e b)
    word empty b = ([], refl)
    word (atom a) b = let (x, r) = alive (b + 1) a in (x ∷ [], (x, r, refl))
    word (seq e g) b = let (u, l) = word e b in let (v, m) = word g (b + atoms e) in (u ++ v, (u, v, refl, l, m))
    word (alt e g) b = let (u, l) = word e b in (u, inl l)
    word (star e) b = ([], done refl)
    word (plus e) b = let (u, l) = word e b in (u ++ [], (u, [], refl, l, done refl))
    word (option e) b = ([], inl refl)

    -- Every atom of the expression is followed by some word.
    pub rest_live : (e : Exp A) (b : ℕ) (S : ℕ → Type 0) (n : ℕ) → b < n → n ≤ b + atoms e → S n → Inhabited (Rest reads e b S)
    rest_live empty b S n lo hi s = absurd (omega arith)
    rest_live (atom a) b S n lo hi s = let e : n ≡ b + 1 = omega arith in ([], (subst S e s, refl))
    rest_live (seq e g) b S n lo hi s =
        elim (dec_le n (b + atoms e)) [
          | yes below ↦ let (u, l) = rest_live e b S n lo below s in let (v, m) = word g (b + atoms e) in (u ++ v, inl (u, v, refl, l, m))
          | no above ↦ let (u, l) = rest_live g (b + atoms e) S n (omega arith) (omega arith) s in (u, inr l)
        ]
    rest_live (alt e g) b S n lo hi s =
        elim (dec_le n (b + atoms e)) [
          | yes below ↦ let (u, l) = rest_live e b S n lo below s in (u, inl l)
          | no above ↦ let (u, l) = rest_live g (b + atoms e) S n (omega arith) (omega arith) s in (u, inr l)
        ]
    rest_live (star e) b S n lo hi s = let (u, l) = rest_live e b S n lo hi s in (u ++ [], (u, [], refl, l, done refl))
    rest_live (plus e) b S n lo hi s = let (u, l) = rest_live e b S n lo hi s in (u ++ [], (u, [], refl, l, done refl))
    rest_live (option e) b S n lo hi s = rest_live e b S n lo hi s
