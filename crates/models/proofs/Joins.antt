-- Words of one language after words of another, and any number of them: what a first letter says.
use Rattle.std.proofs.Common.{◌≡◌, ℕ, ◌⊎◌, List, [], ◌∷◌, sym, refl, ap, ◌∙◌, subst, inl, inr, arith}
use Rattle.engine.specs.Languages.{Language}
use Rattle.models.specs.Expressions.{Then, Many, done, more}

module _ {X : Type 0} where
  cons_nil : {x : X} {w : List X} → x ∷ w ≡ [] → ⊥
  cons_nil e = let z : ◌≡◌ {A = ℕ} 0 1 = cc in omega arith

  pub then_map : {L L' M M' : Language X} → ((w : List X) → L w → L' w) → ((w : List X) → M w → M' w) → (w : List X) → Then L M w → Then L' M' w
  then_map f g w (u, v, e, l, m) = (u, v, e, f u l, g v m)

  -- The empty word is in a sequence when it is in both parts.
  pub then_nil : {L M : Language X} → Then L M [] → L [] × M []
  then_nil {L} {M} ([], v, e, l, m) = (l, subst M (sym e) m)
  then_nil {L} {M} (x ∷ u, v, e, l, m) = absurd (cons_nil (sym e))

  -- A first letter is the first of the first part, or that part is empty.
  pub then_cons : {L M : Language X} (x : X) (w : List X) → Then L M (x ∷ w) → (L [] × M (x ∷ w)) ⊎ Then (λ u. L (x ∷ u)) M w
  then_cons {L} {M} x w ([], v, e, l, m) = inl (l, subst M (sym e) m)
  then_cons {L} {M} x w (y ∷ u, v, e, l, m) = inr (u, v, (cc), subst (λ z. L (z ∷ u)) (cc) l, m)

  pub then_skip : {L M : Language X} (w : List X) → L [] → M w → Then L M w
  then_skip w l m = ([], w, refl, l, m)

  pub then_first : {L M : Language X} (x : X) (w : List X) → Then (λ u. L (x ∷ u)) M w → Then L M (x ∷ w)
  then_first x w (u, v, e, l, m) = (x ∷ u, v, ap (λ t. x ∷ t) e, l, m)

  -- A first letter of many words is the first of one that is not empty.
  pub many_cons : {L : Language X} (x : X) (w t : List X) → t ≡ x ∷ w → Many L t → Then (λ u. L (x ∷ u)) (Many L) w
  many_cons x w t e (done n) = absurd (cons_nil (sym e ∙ n))
  many_cons x w t e (more [] v s l m) = many_cons x w v (sym s ∙ e) m
  many_cons {L} x w t e (more (y ∷ u) v s l m) = (u, v, (cc), subst (λ z. L (z ∷ u)) (cc) l, m)

  pub many_first : {L : Language X} (x : X) (w : List X) → Then (λ u. L (x ∷ u)) (Many L) w → Many L (x ∷ w)
  many_first x w (u, v, e, l, m) = more (x ∷ u) v (ap (λ t. x ∷ t) e) l m
