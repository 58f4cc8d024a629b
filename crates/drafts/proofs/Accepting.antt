-- What it means that every question about a text gets a yes.
use Rattle.std.proofs.Common.{◌≡◌, ℕ, ◌+◌, ◌≤◌, min, Bool, true, false, leb, List, [], ◌∷◌, ◌++◌, length, Some, None, Option, sym, refl, ap, ◌∙◌, subst, inl, inr, arith, length-append, ltb-true, lt-ltb, le-leb, leb-true}
use Rattle.models.specs.Folds.{code}
use Rattle.models.specs.Readers.{Numbered}
use Rattle.scan.specs.Names.{Name}
use Rattle.scan.specs.Readings.{Run, finished, stopped}
use Rattle.declarations.specs.Contents.{Placed}
use Rattle.declarations.specs.Grammar.{State}
use Rattle.declarations.specs.Readers.{read_items}
use Rattle.drafts.specs.Drafted.{found_in, declarations, most, is_accepted, all_yes}
use Rattle.drafts.specs.Questions.{Room, Asked, refused, questions, first_no, or_ask, ask_all, judge_items, judge, declared_names, model_of, nodes_of, has_record, nodes_fit}
use Rattle.drafts.proofs.Asking.{first_no_more, first_no_at, none_some}

false_true : false ≡ true → ⊥
false_true e = let k : ◌≡◌ {A = ℕ} 0 1 = cc in omega arith

-- Every declaration gets a yes to the question, those before it being what they are.
abbrev pub YesFrom : Asked → List Placed → List Placed → Type 0
YesFrom asked before [] = Unit {0}
YesFrom asked before (p ∷ ps) = (asked before p ≡ true) × YesFrom asked (before ++ (p ∷ [])) ps

-- The first no is none exactly when every answer is yes.
pub none_yes : (asked : Asked) (before found : List Placed) → first_no asked before found ≡ None → YesFrom asked before found
none_yes asked before [] e = tt
none_yes asked before (p ∷ ps) e = by (asked before p) refl (none_yes asked (before ++ (p ∷ [])) ps)
  where
    by : (b : Bool) → asked before p ≡ b → (first_no asked (before ++ (p ∷ [])) ps ≡ None → YesFrom asked (before ++ (p ∷ [])) ps) → YesFrom asked before (p ∷ ps)
    by true h go = (h, go (sym (first_no_more asked before p ps h) ∙ e))
    by false h go = absurd (none_some p.place (sym e ∙ first_no_at asked before p ps h))

-- A yes to each of several questions.
abbrev pub YesToAll : List (ℕ × Asked) → List Placed → Type 0
YesToAll [] found = Unit {0}
YesToAll (q ∷ qs) found = (first_no q.1 [] found ≡ None) × YesToAll qs found

yes_to_all : (qs : List (ℕ × Asked)) (found : List Placed) → is_accepted (ask_all qs found) ≡ true → YesToAll qs found
unfolding ask_all or_ask
yes_to_all [] found e = tt
yes_to_all (q ∷ qs) found e = by (first_no q.1 [] found) refl (yes_to_all qs found) e
  where
    by : (r : Option ℕ) → first_no q.1 [] found ≡ r → (is_accepted (ask_all qs found) ≡ true → YesToAll qs found) → is_accepted (or_ask q.0 r (ask_all qs found)) ≡ true → YesToAll (q ∷ qs) found
    by None h go a = (h, go a)
    by (Some place) h go a = absurd (false_true a)

-- The text reads as declarations, and these get a yes to every question.
pub record Accepted (room : Room) (text : List ℕ) (found : List Placed) : Type 0 where
  pub short : length text ≤ 32768
  pub end : State
  pub rest : List ℕ
  pub reads : read_items text ≡ finished end rest
  pub found_is : end.found ≡ found
  pub yes : YesToAll (questions room (declared_names found)) found

pub accepted_yes : (room : Room) (text : List ℕ) → is_accepted (judge room text) ≡ true → Accepted room text (declarations text)
unfolding found_in judge_items
accepted_yes room text e = by_length (leb (length text) 32768) refl e
  where
    by_run : length text ≤ 32768 → (r : Run State) → read_items text ≡ r → is_accepted (judge_items room r) ≡ true → Accepted room text (found_in r)
    by_run h (finished s t) is a = record { short = h; end = s; rest = t; reads = is; found_is = refl; yes = yes_to_all (questions room (declared_names s.found)) s.found a }
    by_run h (stopped s t) is a = absurd (false_true a)

    by_length : (b : Bool) → leb (length text) 32768 ≡ b → is_accepted (elim b [ true ↦ judge_items room (read_items text) | false ↦ refused 11 32768 ]) ≡ true → Accepted room text (declarations text)
    by_length true h a = by_run (leb-true (length text) 32768 h) (read_items text) refl a
    by_length false h a = absurd (false_true a)

-- What a question that looks at no other declaration says of each one.
pub each_yes : (asked : Asked) (before found : List Placed) (b n : ℕ) (p : Placed) → YesFrom asked before found → Numbered found b n p → (others : List Placed) × (asked others p ≡ true)
each_yes asked before [] b n p y h = absurd h
each_yes asked before (q ∷ found) b n p y (inl (at, is)) = (before, subst (λ r. asked before r ≡ true) is y.0)
each_yes asked before (q ∷ found) b n p y (inr h) = each_yes asked (before ++ (q ∷ [])) found (b + 1) n p y.1 h

-- As many declarations as there are records for.
pub few_records : (room : Room) (names : List Name) (before found : List Placed) → length before ≤ min 63 room.records → YesFrom (has_record room names) before found → length before + length found ≤ min 63 room.records
few_records room names before [] h y = omega arith
few_records room names before (p ∷ found) h y =
    let here = ltb-true (length before) (min 63 room.records) y.0 in
    let more = length-append before (p ∷ []) in
    let rest = few_records room names (before ++ (p ∷ [])) found (omega arith) y.1 in
    omega arith

-- Where every answer is yes there is no first no.
pub yes_none : (asked : Asked) (before found : List Placed) → YesFrom asked before found → first_no asked before found ≡ None
unfolding first_no
yes_none asked before [] y = refl
yes_none asked before (p ∷ ps) y = first_no_more asked before p ps y.0 ∙ yes_none asked (before ++ (p ∷ [])) ps y.1

yes_weaker : (asked other : Asked) → ((b : List Placed) (p : Placed) → asked b p ≡ true → other b p ≡ true) → (before found : List Placed) → YesFrom asked before found → YesFrom other before found
yes_weaker asked other goes before [] y = tt
yes_weaker asked other goes before (p ∷ ps) y = (goes before p y.0, yes_weaker asked other goes (before ++ (p ∷ [])) ps y.1)

none_weaker : (asked other : Asked) → ((b : List Placed) (p : Placed) → asked b p ≡ true → other b p ≡ true) → (found : List Placed) → first_no asked [] found ≡ None → first_no other [] found ≡ None
none_weaker asked other goes found h = yes_none other [] found (yes_weaker asked other goes [] found (none_yes asked [] found h))

all_asked : (qs : List (ℕ × Asked)) (found : List Placed) → YesToAll qs found → is_accepted (ask_all qs found) ≡ true
unfolding ask_all or_ask
all_asked [] found y = refl
all_asked (q ∷ qs) found y = rw y.0 (all_asked qs found y.1)

-- What fits some tables fits those that are as large as can be.
pub enough_room : (room : Room) (text : List ℕ) → is_accepted (judge room text) ≡ true → all_yes text ≡ true
unfolding judge_items
enough_room room text h =
    let a = accepted_yes room text h in
    let names = declared_names (declarations text) in
    let found = declarations text in
    let y = a.yes in
    let more : YesToAll (questions most names) found = (
      none_weaker (has_record room names) (has_record most names) (λ b p e. let k = ltb-true (length b) (min 63 room.records) e in lt-ltb (length b) 63 (omega arith)) found y.0,
      (
        y.1.0,
        (
          y.1.1.0,
          (
            y.1.1.1.0,
            (
              y.1.1.1.1.0,
              (none_weaker (nodes_fit room names) (nodes_fit most names) (λ b p e. let k = leb-true (nodes_of names b + length (code (model_of names p))) (min 2048 room.nodes) e in le-leb (nodes_of names b + length (code (model_of names p))) 2048 (omega arith)) found y.1.1.1.1.1.0, tt),
            ),
          ),
        ),
      ),
    ) in
    let asked = all_asked (questions most names) found more in
    ap (λ b. is_accepted (elim b [ true ↦ judge_items most (read_items text) | false ↦ refused 11 32768 ])) (le-leb (length text) 32768 a.short)
    ∙ ap (λ r. is_accepted (judge_items most r)) a.reads
    ∙ ap (λ f. is_accepted (ask_all (questions most (declared_names f)) f)) a.found_is ∙ asked
