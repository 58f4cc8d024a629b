-- What a document whose traversal begins with the events of the open elements says about the innermost.
use Rattle.std.proofs.Common.{◌≡◌, ℕ, List, [], ◌∷◌, ◌++◌, sym, refl, ap, ◌∙◌, subst, append_assoc, arith}
use Rattle.engine.specs.Languages.{Language, Inhabited, residue}
use Rattle.engine.specs.Trees.{Forest, none, piece, child, letters, joined, visits, Valid, Event, start, text, end, traversal}
use Rattle.engine.specs.declared.alphabet.Letter.{Letter}
use Rattle.engine.specs.declared.alphabet.Letter.TheVariants.{Text, Element}
use Rattle.sheet.specs.Levels.{Level, opened, Outermost}
use Rattle.sheet.specs.Questions.{BeginsDocument}
use Rattle.sheet.proofs.Forests.{join, letters_join, joined_join, join_none, valid_back, ended, peel, closes}

-- Where a start comes first, the first of the children is an element.
entered : (g : Forest) (n m : ℕ) (later rest : List Event) → visits g ++ (end n ∷ later) ≡ start m ∷ rest →
    (below : Forest) × (after : Forest) × (g ≡ child m below after) × (visits below ++ (end m ∷ (visits after ++ (end n ∷ later))) ≡ rest)
entered none n m later rest h = let z : ◌≡◌ {A = ℕ} 0 1 = cc in absurd (omega arith)
entered (piece b bs g) n m later rest h = let z : ◌≡◌ {A = ℕ} 0 1 = cc in absurd (omega arith)
entered (child k f g) n m later rest h =
    let a = append_assoc (visits f) (end k ∷ visits g) (end n ∷ later) in
    let same : k ≡ m = cc in
    (f, g, cc, cc)

-- Where a text comes first, the first of the children is that piece.
written : (g : Forest) (n : ℕ) (bs : List ℕ) (later rest : List Event) → visits g ++ (end n ∷ later) ≡ text bs ∷ rest →
    (after : Forest) × (letters g ≡ Text ∷ letters after) × (joined g ≡ bs ++ joined after)
written none n bs later rest h = let z : ◌≡◌ {A = ℕ} 0 1 = cc in absurd (omega arith)
written (piece c cs g) n bs later rest h = let is : c ∷ cs ≡ bs = cc in (g, refl, ap (λ w. w ++ joined g) is)
written (child k f g) n bs later rest h = let z : ◌≡◌ {A = ℕ} 0 1 = cc in absurd (omega arith)

-- A word of the language goes on after what it begins with.
goes_on : {A : Type 0} (L : Language A) (u v w x : List A) → x ≡ u ++ (v ++ w) → L x → Inhabited (residue L (u ++ v))
goes_on L u v w x e h = (w, subst L (e ∙ sym (append_assoc u v w)) h)

module _ (C : ℕ → Language Letter) (V : ℕ → Language ℕ) where
  -- The innermost open element is valid with its complete children and some more, whose events and
  -- then its end are how the traversal goes on.
  pub inside : (r : ℕ) (l : Level) (ls : List Level) (f : Forest) (e : Event) (rest : List Event) →
      Outermost r (l ∷ ls) → Valid C V r f → traversal r f ≡ opened (l ∷ ls) ++ (e ∷ rest) →
      (g : Forest) × (later : List Event) × Valid C V l.number (join l.done g) × (visits g ++ (end l.number ∷ later) ≡ e ∷ rest)
  inside r l [] f e rest o v h =
      let (g, is, left) = peel l.done f r e [] rest (cc) in
      (g, [], subst (λ n. Valid C V n (join l.done g)) (sym o) (subst (Valid C V r) is v), subst (λ n. visits g ++ (end n ∷ []) ≡ e ∷ rest) (sym o) left)
  inside r l (m ∷ ls) f e rest o v h =
      let (g, later, u, left) = inside r m ls f (start l.number) (visits l.done ++ (e ∷ rest)) o v
      (h ∙ append_assoc (opened (m ∷ ls)) (start l.number ∷ visits l.done) (e ∷ rest)) in
      let (below, after, is, left₁) = entered g m.number l.number later (visits l.done ++ (e ∷ rest)) left in
      let (g₁, is₁, left₂) = peel l.done below l.number e (visits after ++ (end m.number ∷ later)) rest left₁ in
      (g₁, visits after ++ (end m.number ∷ later), rw (← is₁) (valid_back C V m.done (child l.number below after) (rw (← is) u.1)).0, left₂)

  -- The same of the list with one more event.
  begun : (r : ℕ) (l : Level) (ls : List Level) (e : Event) → Outermost r (l ∷ ls) → BeginsDocument C V r (opened (l ∷ ls) ++ (e ∷ [])) →
      (g : Forest) × (later : List Event) × (rest : List Event) × Valid C V l.number (join l.done g) × (visits g ++ (end l.number ∷ later) ≡ e ∷ rest)
  begun r l ls e o (f, rest, v, h) =
      let (g, later, u, left) = inside r l ls f e rest o v (h ∙ append_assoc (opened (l ∷ ls)) (e ∷ []) rest) in
      (g, later, rest, u, left)

  -- A start that a document goes on with.
  pub starts_inside : (r : ℕ) (l : Level) (ls : List Level) (m : ℕ) → Outermost r (l ∷ ls) →
      BeginsDocument C V r (opened (l ∷ ls) ++ (start m ∷ [])) → Inhabited (residue (C l.number) (letters l.done ++ (Element m ∷ [])))
  starts_inside r l ls m o d =
      let (g, later, rest, v, left) = begun r l ls (start m) o d in
      let (below, after, is, left₁) = entered g l.number m later rest left in
      goes_on (C l.number) (letters l.done) (Element m ∷ []) (letters after) (letters (join l.done g))
      (letters_join l.done g ∙ ap (λ f. letters l.done ++ letters f) is) v.0.content

  -- A text that a document goes on with.
  pub texts_inside : (r : ℕ) (l : Level) (ls : List Level) (bs : List ℕ) → Outermost r (l ∷ ls) →
      BeginsDocument C V r (opened (l ∷ ls) ++ (text bs ∷ [])) →
      Inhabited (residue (C l.number) (letters l.done ++ (Text ∷ []))) × (Inhabited (V l.number) → Inhabited (residue (V l.number) (joined l.done ++ bs)))
  texts_inside r l ls bs o d =
      let (g, later, rest, v, left) = begun r l ls (text bs) o d in
      let (after, is-text, is-joined) = written g l.number bs later rest left in (
        goes_on (C l.number) (letters l.done) (Text ∷ []) (letters after) (letters (join l.done g))
            (letters_join l.done g ∙ ap (λ w. letters l.done ++ w) is-text) v.0.content,
        λ i. goes_on (V l.number) (joined l.done) bs (joined after) (joined (join l.done g))
            (joined_join l.done g ∙ ap (λ w. joined l.done ++ w) is-joined) (v.0.value i),
      )

  -- An end that a document goes on with.
  pub ends_inside : (r : ℕ) (l : Level) (ls : List Level) (m : ℕ) → Outermost r (l ∷ ls) →
      BeginsDocument C V r (opened (l ∷ ls) ++ (end m ∷ [])) → (m ≡ l.number) × C l.number (letters l.done) × (Inhabited (V l.number) → V l.number (joined l.done))
  ends_inside r l ls m o d =
      let (g, later, rest, v, left) = begun r l ls (end m) o d in
      let (is, same, left₁) = ended g l.number m later rest left in
      let whole : join l.done g ≡ l.done = ap (join l.done) is ∙ join_none l.done in
      let u : Valid C V l.number l.done = rw whole at v in
      (same, u.0.content, u.0.value)

  -- At the very beginning only the start of the root goes on.
  pub first_event : (r : ℕ) (e : Event) → BeginsDocument C V r (e ∷ []) → e ≡ start r
  first_event r e (f, rest, v, h) = cc

  -- Behind a whole document nothing goes on.
  pub nothing_after : (r : ℕ) (f : Forest) (e : Event) → BeginsDocument C V r (traversal r f ++ (e ∷ [])) → ⊥
  nothing_after r f e (g, rest, v, h) =
      let a = append_assoc (visits f ++ (end r ∷ [])) (e ∷ []) rest in
      let b = append_assoc (visits f) (end r ∷ []) (e ∷ rest) in
      let never = (closes g f r [] (e ∷ rest) (cc)).1 in
      let z : ◌≡◌ {A = ℕ} 0 1 = cc in
      omega arith
