-- For each refusal but the one for too many events, a right history that ends with it.
use Rattle.std.specs.Prelude.{◌≡◌, ℕ, ◌⊎◌, List, [], ◌∷◌, ◌++◌, replicate}
use Rattle.engine.specs.Languages.{Language}
use Rattle.engine.specs.Trees.{start, Contents, no_values}
use Rattle.engine.specs.declared.alphabet.Letter.{Letter}
use Rattle.engine.specs.declared.alphabet.Letter.TheVariants.{Element}
use Rattle.calls.specs.Replies.{refused}
use Rattle.bakery.specs.Contents.{Holds}
use Rattle.bakery.specs.Values.{Reads}
use Rattle.sheet.specs.Histories.{Call, begin, send, finish}
use Rattle.sheet.specs.Theorem.{RightThroughout}
use Rattle.cases.specs.Histories.{accepting}

-- Values that do not suit the bakery: a sheet, which holds elements, has to read as the empty text.
abbrev pub SheetReads : ℕ → Language ℕ
SheetReads n w = (n ≡ 1) × (w ≡ [])

-- Contents that nest without end: the one element holds nothing, or itself once.
abbrev pub Nests : ℕ → Language Letter
Nests n w = (n ≡ 1) × ((w ≡ []) ⊎ (w ≡ Element 1 ∷ []))

-- It is right that these calls are accepted and this one is then refused with this number.
abbrev pub Refuses : (ℕ → Language Letter) → (ℕ → Language ℕ) → List Call → Call → ℕ → Type 0
Refuses C V before call n = RightThroughout C V (accepting before ++ (record { call = call; reply = refused n } ∷ []))

-- Each of these refusals is the right reply somewhere; and both contents keep the law of contents.
pub record EachRefusal : Type 0 where
  pub bakery : Contents Holds
  pub nesting : Contents Nests
  pub not_fresh : Refuses Holds Reads (begin 1 ∷ []) (begin 1) 31
  pub root_undeclared : Refuses Holds Reads [] (begin 6) 32
  pub value_not_plain : Refuses Holds SheetReads [] (begin 1) 33
  pub not_underway : Refuses Holds Reads [] (send (start 1)) 34
  pub not_known : Refuses Holds Reads (begin 1 ∷ []) (send (start 6)) 35
  pub offending : Refuses Holds Reads (begin 1 ∷ send (start 1) ∷ []) (send (start 4)) 36
  pub too_deep : Refuses Nests no_values (begin 1 ∷ replicate 64 (send (start 1))) (send (start 1)) 37
  pub root_open : Refuses Holds Reads (begin 1 ∷ send (start 1) ∷ []) finish 39
