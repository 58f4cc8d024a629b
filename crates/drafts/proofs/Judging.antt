-- The verdict on a text, from what the passes over it found.
use Rattle.std.proofs.Common.{◌≡◌, ℕ, ◌-◌, ◌≤◌, min, true, false, List, [], ◌∷◌, length, take, Some, None, Ok, Err, Option, Result, MatchResult, IsErrAnd, sym, refl, ap, ◌∙◌, subst, arith, le-leb}
use Rattle.scan.specs.Lists.{puts}
use Rattle.scan.specs.Readings.{finished, stopped}
use Rattle.scan.specs.declared.entry.Entry.{Entry}
use Rattle.declarations.specs.Contents.{Placed}
use Rattle.declarations.specs.Grammar.{State}
use Rattle.declarations.specs.Readers.{read_items}
use Rattle.drafts.specs.Asks.{Listed}
use Rattle.drafts.specs.Drafted.{found_in, declarations}
use Rattle.drafts.specs.Noted.{Noting, within}
use Rattle.drafts.specs.Questions.{Room, Asked, Verdict, refused, accepted, first_no, or_ask, ask_all, judge_items, judge, declared_names}
use Rattle.std.proofs.lemmas.Result.{err_from_is_err_and}
use Rattle.drafts.specs.Reading.{Tells, AskedText, later_questions, refuse_at}
use Rattle.drafts.specs.declared.refusal.Question.{Question}
use Rattle.drafts.specs.Refusals.{number}
use Rattle.drafts.specs.Tables.{entries_of}
use Rattle.drafts.specs.declared.noted.Noted.{Noted}
use Rattle.drafts.specs.declared.refusal.Refusal.{Refusal}
use Rattle.drafts.proofs.Counting.{length_entries}
use Rattle.drafts.proofs.Filling.{puts_front}
use Rattle.drafts.proofs.Noting.{none_beyond}

-- A text that is not too long is judged by its items.
short_judged : (room : Room) (text : List ℕ) → length text ≤ 32768 → judge room text ≡ judge_items room (read_items text)
short_judged room text h =
    ap (λ b. elim b [ true ↦ judge_items room (read_items text) | false ↦ refused 11 32768 ]) (le-leb (length text) 32768 h)

pub unread_judged : (room : Room) (text : List ℕ) → length text ≤ 32768 → (s : State) (t : List ℕ) → read_items text ≡ stopped s t → judge room text ≡ refused 12 s.place
unfolding judge_items
unread_judged room text h s t e = short_judged room text h ∙ ap (judge_items room) e

tells_err : (v : Verdict) (r : Refusal) → Tells v (Err r) → v ≡ refused (number r.question) r.place
tells_err (refused n place) r (a, b) = ap (λ x. refused x place) (sym a) ∙ ap (refused (number r.question)) (sym b)
tells_err (accepted found) r h = absurd h

tells_ok : (qs : List (ℕ × Asked)) (found : List Placed) (v : Unit {0}) → Tells (ask_all qs found) (Ok v) → ask_all qs found ≡ accepted found
unfolding ask_all or_ask
tells_ok [] found v h = refl
tells_ok (q ∷ qs) found v h = by (first_no q.1 [] found) h (tells_ok qs found v)
  where
    by : (r : Option ℕ) → Tells (or_ask q.0 r (ask_all qs found)) (Ok v) → (Tells (ask_all qs found) (Ok v) → ask_all qs found ≡ accepted found) → or_ask q.0 r (ask_all qs found) ≡ accepted found
    by None k go = go k
    by (Some place) k go = absurd k

module _ (room : Room) (text : List ℕ) (short : length text ≤ 32768) (s : State) (t : List ℕ) (reads : read_items text ≡ finished s t) (limit : ℕ) (limit_is : limit ≡ min 63 room.records) where
  pub found_are : declarations text ≡ s.found
  unfolding found_in
  found_are = ap found_in reads

  asked_first : judge room text ≡ or_ask 13 (first_no (within limit) [] s.found) (ask_all (later_questions room (declared_names s.found)) s.found)
  unfolding judge_items ask_all
  asked_first =
      short_judged room text short ∙ ap (judge_items room) reads
      ∙ ap (λ k. or_ask 13 (first_no (within k) [] s.found) (ask_all (later_questions room (declared_names s.found)) s.found)) (sym limit_is)

  pub beyond_judged : (place : ℕ) → first_no (within limit) [] s.found ≡ Some place → judge room text ≡ refused 13 place
  unfolding or_ask
  beyond_judged place h = asked_first ∙ ap (λ r. or_ask 13 r (ask_all (later_questions room (declared_names s.found)) s.found)) h

  module _ (few : length s.found ≤ limit) where
    later_judged : judge room text ≡ ask_all (later_questions room (declared_names s.found)) s.found
    unfolding or_ask
    later_judged = asked_first ∙ ap (λ r. or_ask 13 r (ask_all (later_questions room (declared_names s.found)) s.found)) (none_beyond limit [] s.found (omega arith))

    pub refused_judged : (r : Refusal) → Tells (ask_all (later_questions room (declared_names s.found)) s.found) (Err r) → judge room text ≡ refused (number r.question) r.place
    refused_judged r h = later_judged ∙ tells_err (ask_all (later_questions room (declared_names s.found)) s.found) r h

    module _ (before after : List Entry) (noted : Noted) (noting : Noting text limit before s.found noted after) (roomy : limit ≤ length before) where
      -- The entries at the front of the table are those of the declarations.
      pub listed : Listed text (take (noted.count - 0) after) s.found
      listed =
          let l = length_entries text s.found in
          record {
            entries_are = ap (take (noted.count - 0)) noting.written ∙ puts_front before (entries_of text s.found) noted.count (omega arith) (noting.counted ∙ sym l);
            read_again = noting.read_again;
            few = omega (arith, limit_is);
          }

      pub accepted_judged : (v : Unit {0}) → Tells (ask_all (later_questions room (declared_names s.found)) s.found) (Ok v) → AskedText room text before after (Ok noted.count)
      accepted_judged v h =
          let is = found_are in (
            later_judged ∙ tells_ok (later_questions room (declared_names s.found)) s.found v h ∙ ap accepted (sym is),
            noting.counted ∙ ap length (sym is),
            noting.written ∙ ap (λ f. puts before 0 (entries_of text f)) (sym is),
            subst (λ f. Listed text (entries_of text f) f) (sym is) (record { entries_are = refl; read_again = noting.read_again; few = omega (arith, limit_is) }),
          )

-- What a pass answered, where its error is made a refusal.
pub map_ok : {X E F : Type 0} (P : E → F → Type 0) (r : Result X E) (m : Result X F) (x : X) → MatchResult r (λ y. m ≡ Ok y) (λ e. IsErrAnd m (P e)) → m ≡ Ok x → r ≡ Ok x
map_ok P (Ok y) m x h is = let same : y ≡ x = cc in ap Ok same
map_ok P (Err e) m x h is = let p = err_from_is_err_and m h in absurd (let k : ◌≡◌ {A = ℕ} 0 1 = cc in omega arith)

pub map_err : {X E F : Type 0} (P : E → F → Type 0) (Q : E → F → Type 0) (r : Result X E) (m : Result X F) (f : F) → MatchResult r (λ y. m ≡ Ok y) (λ e. IsErrAnd m (P e)) → m ≡ Err f → ((e : E) (g : F) → P e g → Q e g) → (e : E) × (r ≡ Err e) × Q e f
map_err P Q (Ok y) m f h is says = absurd (let k : ◌≡◌ {A = ℕ} 0 1 = cc in omega arith)
map_err P Q (Err e) m f h is says =
    let p = err_from_is_err_and m h in
    let same : p.0 ≡ f = cc in
    (e, refl, subst (Q e) same (says e p.0 p.2))

-- A refusal stands where there is a place, and only there.
pub refuse_some : (question : Question) (b : Option ℕ) (r : Refusal) → refuse_at question b ≡ Err r → (place : ℕ) × (b ≡ Some place) × (r ≡ record { question = question; place = place })
refuse_some question None r e = absurd (let k : ◌≡◌ {A = ℕ} 0 1 = cc in omega arith)
refuse_some question (Some place) r e = (place, refl, cc)

pub refuse_none : (question : Question) (b : Option ℕ) (v : Unit {0}) → refuse_at question b ≡ Ok v → b ≡ None
refuse_none question None v e = refl
refuse_none question (Some place) v e = absurd (let k : ◌≡◌ {A = ℕ} 0 1 = cc in omega arith)
