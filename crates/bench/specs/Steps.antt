-- How far a word is read from a state.
use Rattle.std.specs.Prelude.{ℕ, ◌+◌, ◌<◌, ◌≤◌, List, length, take, Some, None}
use Rattle.engine.specs.Languages.{Language, Advanced}

-- The state is advanced by the first n letters of the word, and by no more of them.
abbrev pub ReadsUpTo : {A : Type 0} → (ℕ → Language A) → ℕ → List A → ℕ → Type 0
ReadsUpTo rest state word n =
    (n ≤ length word)
    × ((last : ℕ) × Advanced rest state (take n word) (Some last))
    × (n < length word → Advanced rest state (take (n + 1) word) None)
