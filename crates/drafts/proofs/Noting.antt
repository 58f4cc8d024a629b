-- One declaration more is noted.
use Rattle.std.proofs.Common.{◌≡◌, ℕ, ◌+◌, ◌-◌, ◌<◌, ◌≤◌, Bool, true, false, eqb, ltb, ◌⊎◌, List, [], ◌∷◌, ◌++◌, length, drop, set, Some, None, Ok, Err, Option, sym, refl, ap, ◌∙◌, inl, inr, zero-add, arith, length-append, length-drop, length-take, le-ltb, lt-ltb, ltb-true, eqb-true}
use borrow.Author.Tests.{eqb-false}
use Rattle.scan.specs.Lists.{puts}
use Rattle.scan.proofs.Runs.{run_next, run_over, run_stuck}
use Rattle.scan.specs.Names.{Name}
use Rattle.scan.specs.Readings.{Stands, got, next, over, stuck, run}
use Rattle.scan.specs.declared.entry.Entry.{Entry}
use Rattle.declarations.proofs.ItemGrammar.{item_steps}
use Rattle.declarations.specs.Answers.{DeclaredIs, Passed}
use Rattle.declarations.specs.Contents.{Declaration, Placed}
use Rattle.declarations.specs.declared.declared.Declared.{Declared}
use Rattle.declarations.specs.Grammar.{State, moved}
use Rattle.declarations.specs.Readers.{item, read_declaration}
use Rattle.drafts.specs.Noted.{AllRead, Noting, NotedAt, Notes, within}
use Rattle.drafts.specs.Questions.{first_no}
use Rattle.drafts.specs.Tables.{entry_of, entries_of}
use Rattle.drafts.specs.declared.noted.Noted.{Noted}
use Rattle.drafts.proofs.Asking.{first_no_push, first_no_stays, first_no_more, first_no_at, none_some}
use Rattle.drafts.proofs.Counting.{length_entries}
use Rattle.scan.proofs.Writing.{puts_append, puts_one}

-- The state behind an item stands at the place where the item ends.
pub item_moves : (text : List ℕ) (at end : ℕ) (rest : List ℕ) (found more : List Placed) → at ≤ length text → Stands text at rest end → moved (record { place = at; found = found }) (drop at text) rest more ≡ record { place = end; found = found ++ more }
item_moves text at end rest found more inside s =
    let l = length-drop at text in
    let r : length rest ≡ length text - end = ap length (sym s.behind) ∙ length-drop end text in
    let place : at + (length (drop at text) - length rest) ≡ end = omega (arith, s.forward, s.inside) in
    ap (λ k. record { place = k; found = found ++ more }) place

entries_append : (text : List ℕ) (found : List Placed) (p : Placed) → entries_of text (found ++ (p ∷ [])) ≡ entries_of text found ++ (entry_of text p ∷ [])
entries_append text [] p = refl
entries_append text (q ∷ found) p = ap (λ t. entry_of text q ∷ t) (entries_append text found p)

read_append : (text : List ℕ) (found : List Placed) (p : Placed) → AllRead text found → (rest : List ℕ) × (read_declaration (drop p.place text) ≡ got p.declaration rest) → AllRead text (found ++ (p ∷ []))
read_append text [] p all one = (one, tt)
read_append text (q ∷ found) p all one = (all.0, read_append text found p all.1 one)

-- With room for all, none is beyond.
pub none_beyond : (room : ℕ) (before found : List Placed) → length before + length found ≤ room → first_no (within room) before found ≡ None
unfolding first_no
none_beyond room before [] h = refl
none_beyond room before (p ∷ found) h =
    first_no_more (within room) before p found (lt-ltb (length before) room (omega arith))
    ∙ none_beyond room (before ++ (p ∷ [])) found (let l = length-append before (p ∷ []) in omega arith)

-- Where none is beyond, there is room for all.
pub none_fits : (room : ℕ) (before found : List Placed) → length before ≤ room → first_no (within room) before found ≡ None → length before + length found ≤ room
none_fits room before [] le none = omega arith
none_fits room before (p ∷ found) le none = by (ltb (length before) room) refl (none_fits room (before ++ (p ∷ [])) found)
  where
    by : (b : Bool) → ltb (length before) room ≡ b → (length (before ++ (p ∷ [])) ≤ room → first_no (within room) (before ++ (p ∷ [])) found ≡ None → length (before ++ (p ∷ [])) + length found ≤ room) → length before + length (p ∷ found) ≤ room
    by true e go =
        let l = length-append before (p ∷ []) in
        let lt : length before < room = ltb-true (length before) room e in
        let rest = go (omega arith) (sym (first_no_more (within room) before p found e) ∙ none) in
        omega arith
    by false e go = absurd (none_some p.place (sym none ∙ first_no_at (within room) before p found e))

module _ (text : List ℕ) (room : ℕ) (before : List Entry) where
  pub noting_none : (n : Noted) → n.count ≡ 0 → n.beyond ≡ None → Noting text room before [] n before
  unfolding puts first_no
  noting_none n e none = record { counted = e; first_beyond = none; written = refl; read_again = tt }

  module _ (found : List Placed) (noted : Noted) (after : List Entry) (so_far : Noting text room before found noted after) (p : Placed) where
    here : noted.count ≡ room → first_no (within room) [] (found ++ (p ∷ [])) ≡ Some p.place
    here is =
        first_no_push (within room) [] found p (Some p.place) (none_beyond room [] found (omega (arith, so_far.counted)))
        (first_no_at (within room) found p [] (le-ltb (length found) room (omega (arith, so_far.counted))))

    later : (noted.count ≡ room → ⊥) → first_no (within room) [] found ≡ first_no (within room) [] (found ++ (p ∷ []))
    later not = by (first_no (within room) [] found) refl
      where
        by : (r : Option ℕ) → first_no (within room) [] found ≡ r → first_no (within room) [] found ≡ first_no (within room) [] (found ++ (p ∷ []))
        by None e =
            let l = length-append found (p ∷ []) in
            let fits = none_fits room [] found (omega arith) e in
            e ∙ sym (none_beyond room [] (found ++ (p ∷ [])) (omega (arith, not, so_far.counted)))
        by (Some place) e = e ∙ sym (first_no_stays (within room) [] found (p ∷ []) place e)

    pub noting_more : (rest : List ℕ) → read_declaration (drop p.place text) ≡ got p.declaration rest → (now-noted : Noted) → now-noted.count ≡ noted.count + 1 → (noted.count ≡ room → now-noted.beyond ≡ Some p.place) → ((noted.count ≡ room → ⊥) → now-noted.beyond ≡ noted.beyond) → (entry : Entry) → entry ≡ entry_of text p → (dec : (noted.count ≡ room) ⊎ (noted.count ≡ room → ⊥)) → Noting text room before (found ++ (p ∷ [])) now-noted (set after noted.count entry)
    noting_more rest reads n count yes-there not_there entry is dec = record {
      counted = let l = length-append found (p ∷ []) in omega (arith, so_far.counted);
      first_beyond = by dec;
      written =
          let e = ap (λ k. set after k entry) (so_far.counted ∙ sym (length_entries text found)) in
          let w = ap (λ t. set t (length (entries_of text found)) entry) so_far.written in
          let one = ap (λ x. set (puts before 0 (entries_of text found)) (length (entries_of text found)) x) is in
          let done = sym (ap (puts before 0) (entries_append text found p) ∙ puts_append before 0 (entries_of text found) (entry_of text p ∷ []) ∙ ap (λ k. puts (puts before 0 (entries_of text found)) k (entry_of text p ∷ [])) (zero-add (length (entries_of text found))) ∙ puts_one (puts before 0 (entries_of text found)) (length (entries_of text found)) (entry_of text p)) in
          e ∙ w ∙ one ∙ done;
      read_again = read_append text found p so_far.read_again (rest, reads);
    }
      where
        by : (noted.count ≡ room) ⊎ (noted.count ≡ room → ⊥) → n.beyond ≡ first_no (within room) [] (found ++ (p ∷ []))
        by (inl e) = yes-there e ∙ sym (here e)
        by (inr e) = not_there e ∙ so_far.first_beyond ∙ later e

with_nothing : {A : Type 0} (xs : List A) → xs ++ [] ≡ xs
with_nothing [] = refl
with_nothing (x ∷ xs) = ap (λ t. x ∷ t) (with_nothing xs)

decide : (a b : ℕ) → (a ≡ b) ⊎ (a ≡ b → ⊥)
decide a b = by (eqb a b) refl
  where
    by : (t : Bool) → eqb a b ≡ t → (a ≡ b) ⊎ (a ≡ b → ⊥)
    by true e = inl (eqb-true a b e)
    by false e = inr (eqb-false a b e)

-- What is told of a declaration is its entry.
entry_exact : (text : List ℕ) (at : ℕ) (d : Declaration) (rest : List ℕ) (names : List Name) (told : Declared) → DeclaredIs text names at d rest told → ◌≡◌ {A = Entry} (record { place = at; name = told.name }) (entry_of text (record { place = at; declaration = d }))
entry_exact text at d rest names told is =
    let n = ap length is.name in
    let t = length-take (told.name.end - told.name.start) (drop told.name.start text) in
    let l = length-drop told.name.start text in
    let end : told.name.end ≡ told.name.start + length d.name = omega (arith, is.name_forward, is.name_before, is.stands.inside) in
    ap (λ e. record { place = at; name = record { start = told.name.start; end = e } }) end
    ∙ ap (λ s. record { place = at; name = record { start = s; end = s + length d.name } }) is.begins

-- The pass goes on: behind an item without a declaration, and behind one.
module _ (text : List ℕ) (room : ℕ) (before : List Entry) (at : ℕ) (noted : Noted) (after : List Entry) (so_far : NotedAt text room before at noted after) where
  pub noted_passed : (end : ℕ) → Passed text at end → NotedAt text room before end noted after
  noted_passed end p =
      let s : State = record { place = at; found = so_far.found } in
      let moves = item_moves text at end p.rest so_far.found [] so_far.inside p.stands in
      record {
        found = so_far.found;
        read_on =
            so_far.read_on
            ∙ run_next item item_steps.shrinks s (moved s (drop at text) p.rest []) (drop at text) p.rest (p.turn s)
            ∙ ap (λ x. run item x p.rest) (moves ∙ ap (λ f. record { place = end; found = f }) (with_nothing so_far.found))
            ∙ ap (run item (record { place = end; found = so_far.found })) (sym p.stands.behind);
        inside = p.stands.inside;
        small = omega (arith, so_far.small, p.longer);
        noting = so_far.noting;
      }

  module _ (names : List Name) (told : Declared) (d : Declaration) (rest : List ℕ) (is : DeclaredIs text names at d rest told) (turn : (s : State) → item s (drop at text) ≡ next (moved s (drop at text) rest (record { place = s.place; declaration = d } ∷ [])) rest) where
    decl : Placed
    decl = record { place = at; declaration = d }

    pub noted_declared : (now-noted : Noted) (entry : Entry) → now-noted.count ≡ noted.count + 1 → (noted.count ≡ room → now-noted.beyond ≡ Some at) → ((noted.count ≡ room → ⊥) → now-noted.beyond ≡ noted.beyond) → entry ≡ record { place = at; name = told.name } → read_declaration (drop at text) ≡ got d rest → NotedAt text room before told.end now-noted (set after noted.count entry)
    unfolding decl
    noted_declared n entry count yes-there not_there e reads =
        let s : State = record { place = at; found = so_far.found } in
        let moves = item_moves text at told.end rest so_far.found (decl ∷ []) so_far.inside is.stands in
        let l = length-append so_far.found (decl ∷ []) in
        record {
          found = so_far.found ++ (decl ∷ []);
          read_on =
              so_far.read_on
              ∙ run_next item item_steps.shrinks s (moved s (drop at text) rest (decl ∷ [])) (drop at text) rest (turn s)
              ∙ ap (λ x. run item x rest) moves
              ∙ ap (run item (record { place = told.end; found = so_far.found ++ (decl ∷ []) })) (sym is.stands.behind);
          inside = is.stands.inside;
          small = omega (arith, so_far.small, is.longer);
          noting = noting_more text room before so_far.found noted after so_far.noting decl rest reads n count yes-there not_there entry (e ∙ entry_exact text at d rest names told is) (decide noted.count room);
        }

-- The pass ends where the text does, or where no item stands.
module _ (text : List ℕ) (room : ℕ) (before : List Entry) (at : ℕ) (noted : Noted) (after : List Entry) (so_far : NotedAt text room before at noted after) where
  pub notes_end : ((s : State) → item s (drop at text) ≡ over) → Notes text room before after (Ok noted)
  notes_end h =
      let s : State = record { place = at; found = so_far.found } in
      (s, drop at text, so_far.read_on ∙ run_over item s (drop at text) (h s), so_far.noting)

  pub notes_unread : ((s : State) → item s (drop at text) ≡ stuck) → Notes text room before after (Err at)
  notes_unread h =
      let s : State = record { place = at; found = so_far.found } in
      (s, drop at text, so_far.read_on ∙ run_stuck item s (drop at text) (h s), refl)
