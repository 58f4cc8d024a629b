-- What is asked of a text of declarations, question by question, and the first no.
use Rattle.std.specs.Prelude.{ℕ, ◌+◌, min, Bool, true, false, not, List, [], ◌∷◌, ◌++◌, length, Some, None, Option, nat_le, nat_lt}
use Rattle.engine.specs.declared.alphabet.ContentAtom.{ContentAtom}
use Rattle.models.specs.Expressions.{Exp, atoms}
use Rattle.models.specs.Folds.{code}
use Rattle.scan.specs.Lists.{all_listed, distinct, listed}
use Rattle.scan.specs.Names.{Name}
use Rattle.scan.specs.Readings.{Run, finished, stopped}
use Rattle.declarations.specs.Contents.{Placed}
use Rattle.declarations.specs.Grammar.{State}
use Rattle.declarations.specs.Models.{content_names, mixed_names, model}
use Rattle.declarations.specs.Readers.{read_items}

-- How many places the lent tables have: for nodes, and for the records of declarations.
pub record Room : Type 0 where
  pub nodes : ℕ
  pub records : ℕ

-- The names that are declared, in order.
abbrev pub declared_names : List Placed → List Name
declared_names [] = []
declared_names (p ∷ ps) = p.declaration.name ∷ declared_names ps

-- The model of a declaration, where these names are declared.
abbrev pub model_of : List Name → Placed → Exp ContentAtom
model_of names p = model names p.declaration.content

-- How many nodes the models of the declarations have together.
abbrev pub nodes_of : List Name → List Placed → ℕ
nodes_of names [] = 0
nodes_of names (p ∷ ps) = length (code (model_of names p)) + nodes_of names ps

-- A question about a declaration, which may depend on those before it.
abbrev pub Asked : Type 0
Asked = List Placed → Placed → Bool

module _ (room : Room) (names : List Name) where
  -- There is a record for it, and it is one of the first 63.
  abbrev pub has_record : Asked
  has_record before p = nat_lt (length before) (min 63 room.records)

  -- Its model has at most 63 atoms.
  abbrev pub few_atoms : Asked
  few_atoms before p = nat_le (atoms (model_of names p)) 63

  -- Its name is new.
  abbrev pub new_name : Asked
  new_name before p = not (listed (declared_names before) p.declaration.name)

  -- Every name in it is declared.
  abbrev pub names_declared : Asked
  names_declared before p = all_listed names (content_names p.declaration.content)

  -- If it is a mixed model, no name stands in it twice.
  abbrev pub names_once : Asked
  names_once before p = distinct (mixed_names p.declaration.content)

  -- There is room for its nodes behind those of the declarations before it; at most 2,048 places of a table are used.
  abbrev pub nodes_fit : Asked
  nodes_fit before p = nat_le (nodes_of names before + length (code (model_of names p))) (min 2048 room.nodes)

  -- The questions about declarations, by their numbers, in their order.
  abbrev pub questions : List (ℕ × Asked)
  questions = (13, has_record) ∷ ((14, few_atoms) ∷ ((15, new_name) ∷ ((16, names_declared) ∷ ((17, names_once) ∷ ((18, nodes_fit) ∷ [])))))

-- The place of the first declaration with a no, where these stand before; none where every answer is yes.
unfoldable pub first_no : Asked → List Placed → List Placed → Option ℕ
first_no asked before [] = None
first_no asked before (p ∷ ps) = elim (asked before p) [ true ↦ first_no asked (before ++ (p ∷ [])) ps | false ↦ Some p.place ]

-- What is answered about a text: a question's number with a place, or a yes to all of them and the declarations.
pub data Verdict : Type 0 where
  refused : ℕ → ℕ → Verdict
  accepted : List Placed → Verdict

-- Each question is asked of all declarations before the next one is.
unfoldable pub or_ask : ℕ → Option ℕ → Verdict → Verdict
or_ask number None others = others
or_ask number (Some place) others = refused number place

unfoldable pub ask_all : List (ℕ × Asked) → List Placed → Verdict
ask_all [] found = accepted found
ask_all (q ∷ qs) found = or_ask q.0 (first_no q.1 [] found) (ask_all qs found)

-- Then comes what is asked of the declarations, if the text reads as some.
unfoldable pub judge_items : Room → Run State → Verdict
judge_items room (finished s t) = ask_all (questions room (declared_names s.found)) s.found
judge_items room (stopped s t) = refused 12 s.place

-- The text has at most 32,768 bytes (11), it reads as declarations (12), and of these the questions from 13 on are asked.
abbrev pub judge : Room → List ℕ → Verdict
judge room text = elim (nat_le (length text) 32768) [ true ↦ judge_items room (read_items text) | false ↦ refused 11 32768 ]
