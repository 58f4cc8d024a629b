-- Questions as they are asked of the declarations one after the other, by what is told of each.
use Rattle.std.specs.Prelude.{◌≡◌, ℕ, ◌+◌, ◌<◌, ◌≤◌, Bool, List, [], length, slice_index_or, take, Option, nat_le}
use Rattle.models.specs.Folds.{code}
use Rattle.scan.specs.Names.{Name}
use Rattle.scan.specs.declared.entry.Entry.{Entry}
use Rattle.declarations.specs.Answers.{DeclaredIs}
use Rattle.declarations.specs.Contents.{Placed}
use Rattle.drafts.specs.Drafted.{most}
use Rattle.drafts.specs.Noted.{AllRead}
use Rattle.drafts.specs.Questions.{Asked, first_no, declared_names, model_of, nodes_of, new_name}
use Rattle.drafts.specs.Tables.{entries_of}
use Rattle.drafts.specs.declared.ask.Entered.{Entered}

-- These are the declarations of the entries, at most 63, each read again at its place.
pub record Listed (text : List ℕ) (entries : List Entry) (found : List Placed) : Type 0 where
  pub entries_are : entries ≡ entries_of text found
  pub read_again : AllRead text found
  pub few : length found ≤ 63

-- What is told of the declaration at an index of the list, and whether its name is new there.
pub record EnteredAs (text : List ℕ) (found : List Placed) (k : ℕ) (it : Placed) (entered : Entered) : Type 0 where
  pub rest : List ℕ
  pub told : DeclaredIs text (declared_names found) it.place it.declaration rest entered.told
  pub new : entered.is_new ≡ new_name most (declared_names found) (take k found) it

-- For each declaration of the list, what is told of it is answered as the question is.
pub record Answers (text : List ℕ) (found : List Placed) (asked : Asked) (Answer : Entered → Bool → Type 0) : Type 0 where
  pub says : (k : ℕ) (it : Placed) → k < length found → slice_index_or found k it ≡ it → (entered : Entered) → EnteredAs text found k it entered → (b : Bool) → Answer entered b → b ≡ asked (take k found) it

-- The place of the first declaration with a no.
abbrev pub FirstNoOf : List ℕ → List Entry → (Entered → Bool → Type 0) → Option ℕ → Type 0
FirstNoOf text entries Answer r =
    (found : List Placed) → Listed text entries found → (asked : Asked) → Answers text found asked Answer → r ≡ first_no asked [] found

-- Its nodes and those of the declarations before it are at most so many.
abbrev pub fit_in : ℕ → List Name → Asked
fit_in limit names before p = nat_le (nodes_of names before + length (code (model_of names p))) limit

abbrev pub OverfullOf : List ℕ → List Entry → ℕ → Option ℕ → Type 0
OverfullOf text entries limit r =
    (found : List Placed) → Listed text entries found → r ≡ first_no (fit_in limit (declared_names found)) [] found
