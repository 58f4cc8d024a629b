-- The events of a document: they are known, as many elements start as end, and no beginning but the whole has that.
use Rattle.std.proofs.Common.{◌≡◌, ℕ, ◌+◌, ◌<◌, ◌≤◌, List, [], ◌∷◌, ◌++◌, length, refl, ◌∙◌, subst, append_assoc, append-nil, arith}
use Rattle.engine.specs.Languages.{Language, Each}
use Rattle.engine.specs.Trees.{Forest, none, piece, child, letters, AllValid, Valid, Declared, Event, start, text, end, visits, traversal}
use Rattle.engine.specs.declared.alphabet.Letter.{Letter}
use Rattle.sheet.specs.Histories.{starts, ends}
use Rattle.sheet.specs.Levels.{Level, opened}
use Rattle.sheet.specs.Questions.{BeginsDocument, IsDocument, Known}
use Rattle.sheet.proofs.Letters.{each_back, each_both}

pub starts_append : (es later : List Event) → starts (es ++ later) ≡ starts es + starts later
starts_append [] later = omega arith
starts_append (start n ∷ es) later = omega (arith, starts_append es later)
starts_append (text bs ∷ es) later = starts_append es later
starts_append (end n ∷ es) later = starts_append es later

pub ends_append : (es later : List Event) → ends (es ++ later) ≡ ends es + ends later
ends_append [] later = omega arith
ends_append (start n ∷ es) later = ends_append es later
ends_append (text bs ∷ es) later = ends_append es later
ends_append (end n ∷ es) later = omega (arith, ends_append es later)

-- As many elements start as end.
abbrev pub Balanced : List Event → Type 0
Balanced es = starts es ≡ ends es

pub visits_balanced : (f : Forest) → Balanced (visits f)
visits_balanced none = refl
visits_balanced (piece b bs after) = visits_balanced after
visits_balanced (child n below after) =
    omega (
      arith,
      starts_append (visits below) (end n ∷ visits after),
      ends_append (visits below) (end n ∷ visits after),
      visits_balanced below,
      visits_balanced after,
    )

-- As many elements are open as have started and not ended.
pub open_count : (ls : List Level) → starts (opened ls) ≡ ends (opened ls) + length ls
open_count [] = refl
open_count (l ∷ ls) =
    let more = start l.number ∷ visits l.done in
    omega (arith, starts_append (opened ls) more, ends_append (opened ls) more, open_count ls, visits_balanced l.done)

traversal_balanced : (r : ℕ) (f : Forest) → (0 < starts (traversal r f)) × Balanced (traversal r f)
traversal_balanced r f =
    omega (arith, starts_append (visits f) (end r ∷ []), ends_append (visits f) (end r ∷ []), visits_balanced f)

-- In each beginning but the whole, at most k more elements end than start.
abbrev Covers : ℕ → List Event → Type 0
Covers k es = (front : List Event) (e : Event) (back : List Event) → es ≡ front ++ (e ∷ back) → ends front ≤ starts front + k

-- The bound with one event more in front, where that event changes it so.
cons_covers : (j k : ℕ) (x : Event) (es : List Event) → ((front : List Event) → ends front ≤ starts front + j → ends (x ∷ front) ≤ starts (x ∷ front) + k) → Covers j es → Covers k (x ∷ es)
cons_covers j k x es grows h [] e back eq = omega arith
cons_covers j k x es grows h (y ∷ front) e back eq =
    let same : x ≡ y = cc in
    let tail : es ≡ front ++ (e ∷ back) = cc in
    subst (λ z. ends (z ∷ front) ≤ starts (z ∷ front) + k) same (grows front (h front e back tail))

visits_cover : (f : Forest) (k : ℕ) (later : List Event) → Covers k later → Covers k (visits f ++ later)
visits_cover none k later h = h
visits_cover (piece b bs after) k later h =
    cons_covers k k (text (b ∷ bs)) (visits after ++ later) (λ front i. i) (visits_cover after k later h)
visits_cover (child n below after) k later h =
    let rest : Covers (k + 1) (end n ∷ (visits after ++ later)) = cons_covers k (k + 1) (end n) (visits after ++ later) (λ front i. omega arith) (visits_cover after k later h) in
    cons_covers (k + 1) k (start n) ((visits below ++ (end n ∷ visits after)) ++ later) (λ front i. omega arith) (
    rw append_assoc (visits_cover below (k + 1) (end n ∷ (visits after ++ later)) rest)
    )

-- One event alone has no beginning but the whole and the empty one.
last_covers : (k : ℕ) (x : Event) → Covers k (x ∷ [])
last_covers k x [] e back eq = omega arith
last_covers k x (y ∷ []) e back eq = let z : ◌≡◌ {A = ℕ} 0 1 = cc in omega arith
last_covers k x (y ∷ (z ∷ front)) e back eq = let z : ◌≡◌ {A = ℕ} 0 1 = cc in omega arith

-- A beginning of a document that is not the whole is not balanced, if some element starts in it.
open_inside : (r : ℕ) (f : Forest) (es : List Event) (e : Event) (back : List Event) → traversal r f ≡ es ++ (e ∷ back) → 0 < starts es → Balanced es → ⊥
open_inside r f [] e back eq some even = omega arith
open_inside r f (start n ∷ es) e back eq some even =
    let tail : visits f ++ (end r ∷ []) ≡ es ++ (e ∷ back) = cc in
    omega (arith, visits_cover f 0 (end r ∷ []) (last_covers 0 (end r)) es e back tail)
open_inside r f (text bs ∷ es) e back eq some even = let z : ◌≡◌ {A = ℕ} 0 1 = cc in omega arith
open_inside r f (end n ∷ es) e back eq some even = let z : ◌≡◌ {A = ℕ} 0 1 = cc in omega arith

-- A balanced beginning of a document in which some element starts is the whole.
whole : (r : ℕ) (f : Forest) (es rest : List Event) → traversal r f ≡ es ++ rest → 0 < starts es → Balanced es → traversal r f ≡ es
whole r f es [] eq some even = eq ∙ append-nil es
whole r f es (e ∷ back) eq some even = absurd (open_inside r f es e back eq some even)

module _ (C : ℕ → Language Letter) (V : ℕ → Language ℕ) where
  -- The events of a valid document are known: its texts have a byte, its numbers are declared.
  visits_known : (f : Forest) → AllValid C V f → Each (Known C) (visits f)
  visits_known none v = tt
  visits_known (piece b bs after) (bytes, v) = (tt, visits_known after v)
  visits_known (child n below after) ((fits, v), w) =
      let declared : Declared C n = (letters below, fits.content) in
      (declared, each_both (Known C) (visits below) (end n ∷ visits after) (visits_known below v) (declared, visits_known after w))

  traversal_known : (r : ℕ) (f : Forest) → Valid C V r f → Each (Known C) (traversal r f)
  traversal_known r f (fits, v) =
      let declared : Declared C r = (letters f, fits.content) in
      (declared, each_both (Known C) (visits f) (end r ∷ []) (visits_known f v) (declared, tt))

  pub begins_known : (r : ℕ) (es : List Event) (e : Event) → BeginsDocument C V r (es ++ (e ∷ [])) → Known C e
  begins_known r es e (f, rest, v, eq) =
      (each_back (Known C) es (e ∷ rest) (subst (Each (Known C)) (eq ∙ append_assoc es (e ∷ []) rest) (traversal_known r f v))).0

  -- A balanced list in which some element starts is a document when it begins one.
  pub begins_whole : (r : ℕ) (es : List Event) → BeginsDocument C V r es → 0 < starts es → Balanced es → IsDocument C V r es
  begins_whole r es (f, rest, v, eq) some even = (f, v, whole r f es rest eq some even)

  pub document_balanced : (r : ℕ) (es : List Event) → IsDocument C V r es → (0 < starts es) × Balanced es
  document_balanced r es (f, v, eq) = subst (λ l. (0 < starts l) × Balanced l) eq (traversal_balanced r f)
