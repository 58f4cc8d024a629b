-- Open elements: what has been read of each, and when there is still a way to a valid document.
use Rattle.std.specs.Prelude.{◌≡◌, ℕ, ◌⊎◌, List, [], ◌∷◌, ◌++◌}
use Rattle.engine.specs.Languages.{Language, Empty, Inhabited, residue}
use Rattle.engine.specs.Trees.{Forest, letters, joined, visits, AllValid, Event, start}
use Rattle.engine.specs.declared.alphabet.Letter.{Letter}
use Rattle.engine.specs.declared.alphabet.Letter.TheVariants.{Element}

-- An open element: its number, and its children that are complete.
pub record Level : Type 0 where
  pub number : ℕ
  pub done : Forest

-- The events that lead into these open elements, of which the innermost stands first.
abbrev pub opened : List Level → List Event
opened [] = []
opened (l ∷ ls) = opened ls ++ (start l.number ∷ visits l.done)

-- The outermost of the open elements has this number.
abbrev pub Outermost : ℕ → List Level → Type 0
Outermost r [] = ⊥
Outermost r (l ∷ []) = l.number ≡ r
Outermost r (l ∷ (m ∷ ls)) = Outermost r (m ∷ ls)

-- The element can still be completed: some content word goes on after the letters read, some value
-- goes on after the text read (or there is no value language), and what is complete is valid. The
-- letters read are those of the complete children and then the pending ones: a child that is open.
pub record AliveLevel (C : ℕ → Language Letter) (V : ℕ → Language ℕ) (pending : List Letter) (l : Level) : Type 0 where
  pub content : Inhabited (residue (C l.number) (letters l.done ++ pending))
  pub value : Empty (V l.number) ⊎ Inhabited (residue (V l.number) (joined l.done))
  pub below : AllValid C V l.done

abbrev pub Alive : (ℕ → Language Letter) → (ℕ → Language ℕ) → List Letter → List Level → Type 0
Alive C V pending [] = Unit {0}
Alive C V pending (l ∷ ls) = AliveLevel C V pending l × Alive C V (Element l.number ∷ []) ls
