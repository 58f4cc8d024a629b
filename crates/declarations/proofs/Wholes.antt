-- The content of a declaration.
use Rattle.std.proofs.Common.{◌≡◌, ℕ, ◌+◌, ◌<◌, Bool, true, false, ◌&&◌, List, [], ◌∷◌, length, drop, Some, None, codes, Option, sym, refl, ap, ◌∙◌, subst, arith}
use Rattle.std.proofs.lemmas.Bool.{false≢true}
use Rattle.engine.specs.declared.alphabet.ContentAtom.TheVariants.{All}
use Rattle.models.specs.declared.node.Node.TheVariants as node
use Rattle.scan.specs.Bytes.{skip}
use Rattle.scan.specs.Names.{Name}
use Rattle.scan.specs.Readings.{Front, bad, word, run, EndOf}
use Rattle.scan.specs.declared.read.Read.{Read}
use Rattle.scan.proofs.Ends.{worded, end_bad}
use Rattle.writing.specs.Wrote.{Wrote}
use Rattle.writing.proofs.Writing.{wrote_append}
use Rattle.declarations.specs.Inner.{ContentAt, ExpressionAt}
use Rattle.declarations.specs.Contents.{Content, nothing, anything, children}
use Rattle.declarations.specs.Grammar.{deepest}
use Rattle.declarations.specs.Readers.{marked, behind, read_group, as_children, mixed_name, shut, starred, mixed_or, bracketed, or_else, read_content}
use Rattle.declarations.specs.Writers.{ModelWriter}
use Rattle.declarations.proofs.Parts.{Put}
use Rattle.declarations.proofs.Stages.{comes, flip, behind_drop}

pub true_stays : (b : Bool) → b ≡ (b && true)
true_stays true = refl
true_stays false = refl

module _ (text : List ℕ) (names : List Name) (at : ℕ) (before : ModelWriter) where
  pub content_same : (front other : Front Content) (r : Option (Read Bool)) (after : ModelWriter) → front ≡ other → ContentAt text names at other before r after → ContentAt text names at front before r after
  content_same front other r after e h = subst (λ f. ContentAt text names at f before r after) (sym e) h

  pub content_empty : (end : ℕ) (after : ModelWriter) → EndOf text at (word (codes "EMPTY") (drop at text)) (Some end) → Put before node.Empty after → ContentAt text names at (read_content (drop at text)) before (Some (record { value = true; end = end })) after
  unfolding or_else
  content_empty end after h (wrote, known) =
      let w = worded (codes "EMPTY") text at end h in (
        nothing,
        drop end text,
        ap (or_else nothing (or_else anything (bracketed (drop at text) (drop at text)) (word (codes "ANY") (drop at text)))) w.reads,
        record {
          part = record { stands = record { forward = omega (arith, w.place); inside = w.inside; behind = refl }; small = omega (arith, w.place); all_known = known ∙ true_stays before.told; wrote = wrote };
          differ = λ _. refl;
        },
      )

  pub content_else : (r : Option (Read Bool)) (after : ModelWriter) → EndOf text at (word (codes "EMPTY") (drop at text)) None → ContentAt text names at (or_else anything (bracketed (drop at text) (drop at text)) (word (codes "ANY") (drop at text))) before r after → ContentAt text names at (read_content (drop at text)) before r after
  unfolding or_else
  content_else r after not-empty h =
      content_same (read_content (drop at text)) (or_else anything (bracketed (drop at text) (drop at text)) (word (codes "ANY") (drop at text))) r after
      (ap (or_else nothing (or_else anything (bracketed (drop at text) (drop at text)) (word (codes "ANY") (drop at text)))) (end_bad text at (word (codes "EMPTY") (drop at text)) not-empty)) h

  pub content_any : (end : ℕ) (mid after : ModelWriter) (count : ℕ) → EndOf text at (word (codes "ANY") (drop at text)) (Some end) → count ≡ length names → Put before (node.Atom (All count)) mid → Put mid node.Star after → ContentAt text names at (or_else anything (bracketed (drop at text) (drop at text)) (word (codes "ANY") (drop at text))) before (Some (record { value = true; end = end })) after
  unfolding or_else
  content_any end mid after count h count-is (wrote, known) (starred, still) =
      let w = worded (codes "ANY") text at end h in
      let both = wrote_append before mid after (node.Atom (All count) ∷ []) (node.Star ∷ []) wrote starred in (
        anything,
        drop end text,
        ap (or_else anything (bracketed (drop at text) (drop at text))) w.reads,
        record {
          part = record {
            stands = record { forward = omega (arith, w.place); inside = w.inside; behind = refl };
            small = omega (arith, w.place);
            all_known = still ∙ known ∙ true_stays before.told;
            wrote = subst (λ k. Wrote before (node.Atom (All k) ∷ (node.Star ∷ [])) after) count-is both;
          };
          differ = λ _. refl;
        },
      )

  pub content_bracketed : (r : Option (Read Bool)) (after : ModelWriter) → EndOf text at (word (codes "ANY") (drop at text)) None → ContentAt text names at (bracketed (drop at text) (drop at text)) before r after → ContentAt text names at (or_else anything (bracketed (drop at text) (drop at text)) (word (codes "ANY") (drop at text))) before r after
  unfolding or_else
  content_bracketed r after not-any h =
      content_same (or_else anything (bracketed (drop at text) (drop at text)) (word (codes "ANY") (drop at text))) (bracketed (drop at text) (drop at text)) r after
      (ap (or_else anything (bracketed (drop at text) (drop at text))) (end_bad text at (word (codes "ANY") (drop at text)) not-any)) h

  pub children_told : (end : ℕ) (after : ModelWriter) → ExpressionAt text names at (marked (read_group deepest (drop at text))) before (Some end) after → ContentAt text names at (as_children (marked (read_group deepest (drop at text)))) before (Some (record { value = true; end = end })) after
  unfolding as_children
  children_told end after (e, rest, reads, p) =
      (children e, rest, ap as_children reads, record { part = p; differ = λ _. refl })

unopened_by : (u t : List ℕ) → comes 40 t ≡ false → bracketed u t ≡ bad
unfolding bracketed
unopened_by u [] h = refl
unopened_by u (b ∷ t) h = rw (flip b 40, h, bracketed)

opened_by : (u t : List ℕ) → comes 40 t ≡ true → bracketed u t ≡ mixed_or (as_children (marked (read_group deepest u))) (word (codes "#PCDATA") (skip (behind t)))
unfolding bracketed
opened_by u [] h = absurd (false≢true h)
opened_by u (b ∷ t) h = rw (flip b 40, h, bracketed)

pub children_bad : (t : List ℕ) → marked (read_group deepest t) ≡ bad → as_children (marked (read_group deepest t)) ≡ bad
unfolding as_children
children_bad t e = ap as_children e

module _ (text : List ℕ) (at : ℕ) where
  pub bracket_missing : comes 40 (drop at text) ≡ false → bracketed (drop at text) (drop at text) ≡ bad
  bracket_missing h = unopened_by (drop at text) (drop at text) h

  module _ (start : ℕ) (opened : comes 40 (drop at text) ≡ true) (inside : at < length text) (there : drop start text ≡ skip (drop (at + 1) text)) where
    inner : bracketed (drop at text) (drop at text) ≡ mixed_or (as_children (marked (read_group deepest (drop at text)))) (word (codes "#PCDATA") (drop start text))
    inner =
        opened_by (drop at text) (drop at text) opened
        ∙ ap (λ t. mixed_or (as_children (marked (read_group deepest (drop at text)))) (word (codes "#PCDATA") (skip t))) (behind_drop text at inside)
        ∙ ap (λ t. mixed_or (as_children (marked (read_group deepest (drop at text)))) (word (codes "#PCDATA") t)) (sym there)

    pub bracket_mixed : (end : ℕ) → EndOf text start (word (codes "#PCDATA") (drop start text)) (Some end) → bracketed (drop at text) (drop at text) ≡ starred (shut (run mixed_name [] (drop end text)))
    unfolding mixed_or
    bracket_mixed end h =
        let w = worded (codes "#PCDATA") text start end h in
        inner ∙ ap (mixed_or (as_children (marked (read_group deepest (drop at text))))) w.reads

    pub bracket_children : EndOf text start (word (codes "#PCDATA") (drop start text)) None → bracketed (drop at text) (drop at text) ≡ as_children (marked (read_group deepest (drop at text)))
    unfolding mixed_or
    bracket_children h =
        inner ∙ ap (mixed_or (as_children (marked (read_group deepest (drop at text))))) (end_bad text start (word (codes "#PCDATA") (drop start text)) h)
