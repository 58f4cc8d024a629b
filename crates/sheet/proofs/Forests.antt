-- Lists of children joined, and a traversal read back: its children are determined by its events.
use Rattle.std.proofs.Common.{◌≡◌, ℕ, List, [], ◌∷◌, ◌++◌, refl, ap, ◌∙◌, append_assoc, arith}
use Rattle.engine.specs.Languages.{Language}
use Rattle.engine.specs.Trees.{Forest, none, piece, child, letters, joined, visits, AllValid, Event, text, end}
use Rattle.engine.specs.declared.alphabet.Letter.{Letter}
use Rattle.engine.specs.declared.alphabet.Letter.TheVariants.{Text, Element}
use Rattle.sheet.specs.Theorem.{OneDocument}

-- The children of the first, then those of the second.
abbrev pub join : Forest → Forest → Forest
join none g = g
join (piece b bs f) g = piece b bs (join f g)
join (child n h f) g = child n h (join f g)

pub letters_join : (f g : Forest) → letters (join f g) ≡ letters f ++ letters g
letters_join none g = refl
letters_join (piece b bs f) g = ap (λ w. Text ∷ w) (letters_join f g)
letters_join (child n h f) g = ap (λ w. Element n ∷ w) (letters_join f g)

pub joined_join : (f g : Forest) → joined (join f g) ≡ joined f ++ joined g
joined_join none g = refl
joined_join (piece b bs f) g = rw (joined_join f g, append_assoc)
joined_join (child n h f) g = joined_join f g

pub visits_join : (f g : Forest) → visits (join f g) ≡ visits f ++ visits g
visits_join none g = refl
visits_join (piece b bs f) g = ap (λ es. text (b ∷ bs) ∷ es) (visits_join f g)
visits_join (child n h f) g = rw (visits_join f g, append_assoc)

pub join_none : (f : Forest) → join f none ≡ f
join_none none = refl
join_none (piece b bs f) = ap (piece b bs) (join_none f)
join_none (child n h f) = ap (child n h) (join_none f)

-- Where the children are followed by an end and an end comes first, there are no children.
pub ended : (g : Forest) (n m : ℕ) (later rest : List Event) → visits g ++ (end n ∷ later) ≡ end m ∷ rest → (g ≡ none) × (m ≡ n) × (later ≡ rest)
ended none n m later rest h = (refl, cc, cc)
ended (piece b bs g) n m later rest h = let z : ◌≡◌ {A = ℕ} 0 1 = cc in absurd (omega arith)
ended (child k f g) n m later rest h = let z : ◌≡◌ {A = ℕ} 0 1 = cc in absurd (omega arith)

-- What stands in a traversal behind complete children are further children.
pub peel : (done f : Forest) (n : ℕ) (e : Event) (later rest : List Event) →
    visits f ++ (end n ∷ later) ≡ visits done ++ (e ∷ rest) →
    (g : Forest) × (f ≡ join done g) × (visits g ++ (end n ∷ later) ≡ e ∷ rest)
peel none f n e later rest h = (f, refl, h)
peel (piece b bs d) none n e later rest h = let z : ◌≡◌ {A = ℕ} 0 1 = cc in absurd (omega arith)
peel (piece b bs d) (piece c cs f) n e later rest h =
    let (g, is, left) = peel d f n e later rest (cc) in
    (g, cc, left)
peel (piece b bs d) (child m f₁ f₂) n e later rest h = let z : ◌≡◌ {A = ℕ} 0 1 = cc in absurd (omega arith)
peel (child m d₁ d₂) none n e later rest h = let z : ◌≡◌ {A = ℕ} 0 1 = cc in absurd (omega arith)
peel (child m d₁ d₂) (piece c cs f) n e later rest h = let z : ◌≡◌ {A = ℕ} 0 1 = cc in absurd (omega arith)
peel (child m d₁ d₂) (child k f₁ f₂) n e later rest h =
    let a = append_assoc (visits f₁) (end k ∷ visits f₂) (end n ∷ later) in
    let b = append_assoc (visits d₁) (end m ∷ visits d₂) (e ∷ rest) in
    let (g₁, is₁, left₁) = peel d₁ f₁ k (end m) (visits f₂ ++ (end n ∷ later)) (visits d₂ ++ (e ∷ rest)) (cc) in
    let (no₁, same, left₂) = ended g₁ k m (visits f₂ ++ (end n ∷ later)) (visits d₂ ++ (e ∷ rest)) left₁ in
    let (g, is₂, left) = peel d₂ f₂ n e later rest left₂ in
    let all : f₁ ≡ d₁ = is₁ ∙ ap (join d₁) no₁ ∙ join_none d₁ in
    (g, cc, left)

-- Two children lists followed by the same end are equal.
pub closes : (f g : Forest) (n : ℕ) (x y : List Event) → visits f ++ (end n ∷ x) ≡ visits g ++ (end n ∷ y) → (f ≡ g) × (x ≡ y)
closes f g n x y h =
    let (k, is, left) = peel g f n (end n) x y h in
    let (is_none, same, rest) = ended k n n x y left in
    (is ∙ ap (join g) is_none ∙ join_none g, rest)

module _ (C : ℕ → Language Letter) (V : ℕ → Language ℕ) where
  pub join_valid : (f g : Forest) → AllValid C V f → AllValid C V g → AllValid C V (join f g)
  join_valid none g u v = v
  join_valid (piece b bs f) g (bytes, u) v = (bytes, join_valid f g u v)
  join_valid (child n h f) g (below, u) v = (below, join_valid f g u v)

  pub valid_front : (f g : Forest) → AllValid C V (join f g) → AllValid C V f
  valid_front none g v = tt
  valid_front (piece b bs f) g (bytes, v) = (bytes, valid_front f g v)
  valid_front (child n h f) g (below, v) = (below, valid_front f g v)

  pub valid_back : (f g : Forest) → AllValid C V (join f g) → AllValid C V g
  valid_back none g v = v
  valid_back (piece b bs f) g (bytes, v) = valid_back f g v
  valid_back (child n h f) g (below, v) = valid_back f g v

  pub one_document : OneDocument C V
  one_document r s f g u v h =
      let same : r ≡ s = cc in
      (same, (closes f g r [] [] (cc)).0)
