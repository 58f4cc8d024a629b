-- What is told of an expression, put together from what is told of its parts.
use Rattle.std.proofs.Common.{◌≡◌, ℕ, ◌+◌, ◌<◌, ◌≤◌, List, [], ◌∷◌, ◌++◌, length, drop, Some, None, Option, sym, refl, ap, ◌∙◌, subst, arith, length-append}
use Rattle.engine.specs.declared.range.ByteRange.{ByteRange}
use Rattle.models.specs.Expressions.{Exp, atom}
use Rattle.models.specs.Folds.{code}
use Rattle.models.specs.declared.node.Node.{Node}
use Rattle.models.specs.declared.node.Node.TheVariants as node
use Rattle.scan.specs.Readings.{Front, bad, Stands}
use Rattle.writing.specs.Signs.{joint_node, mark_node}
use Rattle.writing.specs.Wrote.{Wrote}
use Rattle.writing.specs.declared.signs.Joint as joint
use Rattle.writing.specs.declared.signs.Joint.TheVariants.{Sequence, Alternatives}
use Rattle.writing.specs.declared.signs.Mark as mark
use Rattle.writing.specs.declared.signs.Mark.TheVariants.{AnyNumber, AtLeastOne, Perhaps}
use Rattle.writing.specs.declared.writer.Writer.{Writer}
use Rattle.writing.proofs.Writing.{wrote_append}
use Rattle.forms.specs.Grammar.{join, marked}
use Rattle.forms.specs.Inner.{PartIs, ExpressionAt, joint_of, mark_of}

pub join_code : (j : joint.Joint) (e f : Exp ByteRange) → code (join (joint_of j) e f) ≡ code e ++ (code f ++ (joint_node j ∷ []))
join_code Sequence e f = refl
join_code Alternatives e f = refl

pub mark_code : (m : mark.Mark) (e : Exp ByteRange) → code (marked (mark_of m) e) ≡ code e ++ (mark_node m ∷ [])
mark_code AnyNumber e = refl
mark_code AtLeastOne e = refl
mark_code Perhaps e = refl

module _ (text : List ℕ) where
  -- Read up to a later end.
  pub part_wider : (at : ℕ) (e : Exp ByteRange) (rest later : List ℕ) (before : Writer ByteRange (Unit {0})) (end last : ℕ) (after : Writer ByteRange (Unit {0})) → end ≤ last → last ≤ length text → drop last text ≡ later → PartIs text at e rest before end after → PartIs text at e later before last after
  part_wider at e rest later before end last after longer inside there p =
      record {
        stands = record { forward = omega (arith, p.stands.forward); inside = inside; behind = there };
        small = omega (arith, p.small);
        wrote = p.wrote;
      }

  -- Read from an earlier place on.
  pub part_from : (at start : ℕ) (e : Exp ByteRange) (rest : List ℕ) (before : Writer ByteRange (Unit {0})) (end : ℕ) (after : Writer ByteRange (Unit {0})) → at ≤ start → PartIs text start e rest before end after → PartIs text at e rest before end after
  part_from at start e rest before end after earlier p =
      record {
        stands = record { forward = omega (arith, p.stands.forward); inside = p.stands.inside; behind = p.stands.behind };
        small = omega (arith, p.small);
        wrote = p.wrote;
      }

  -- One range alone.
  pub part_range : (at : ℕ) (range : ByteRange) (rest : List ℕ) (before : Writer ByteRange (Unit {0})) (end : ℕ) (after : Writer ByteRange (Unit {0})) → Stands text at rest end → at < end → Wrote before (node.Atom range ∷ []) after → PartIs text at (atom range) rest before end after
  part_range at range rest before end after stands longer wrote =
      record { stands = stands; small = omega arith; wrote = wrote }

  -- One node behind the nodes of an expression, for one byte or more.
  pub part_push : (at : ℕ) (m n : Exp ByteRange) (rest later : List ℕ) (before : Writer ByteRange (Unit {0})) (end last : ℕ) (mid after : Writer ByteRange (Unit {0})) (x : Node ByteRange) → end < last → last ≤ length text → drop last text ≡ later → code n ≡ code m ++ (x ∷ []) → PartIs text at m rest before end mid → Wrote mid (x ∷ []) after → PartIs text at n later before last after
  part_push at m n rest later before end last mid after x longer inside there codes p wrote =
      let counted : length (code n) ≡ length (code m) + 1 = ap length codes ∙ length-append (code m) (x ∷ []) in
      record {
        stands = record { forward = omega (arith, p.stands.forward); inside = inside; behind = there };
        small = omega (arith, p.small);
        wrote = subst (λ xs. Wrote before xs after) (sym codes) (wrote_append before mid after (code m) (x ∷ []) p.wrote wrote);
      }

  -- Two expressions, one behind the other, and the node that joins them.
  pub part_joined : (at start : ℕ) (m n mn : Exp ByteRange) (rest later : List ℕ) (before : Writer ByteRange (Unit {0})) (end last : ℕ) (mid two after : Writer ByteRange (Unit {0})) (x : Node ByteRange) → end < start → code mn ≡ code m ++ (code n ++ (x ∷ [])) → PartIs text at m rest before end mid → PartIs text start n later mid last two → Wrote two (x ∷ []) after → PartIs text at mn later before last after
  part_joined at start m n mn rest later before end last mid two after x longer codes p q wrote =
      let counted : length (code mn) ≡ length (code m) + (length (code n) + 1) =
      ap length codes ∙ length-append (code m) (code n ++ (x ∷ [])) ∙ ap (λ k. length (code m) + k) (length-append (code n) (x ∷ [])) in
      record {
        stands = record { forward = omega (arith, p.stands.forward, q.stands.forward); inside = q.stands.inside; behind = q.stands.behind };
        small = omega (arith, p.small, q.small);
        wrote = subst (λ xs. Wrote before xs after) (sym codes)
            (wrote_append before mid after (code m) (code n ++ (x ∷ [])) p.wrote (wrote_append mid two after (code n) (x ∷ []) q.wrote wrote));
      }

-- Another name for the reading, and an earlier place.
pub expression_from : (text : List ℕ) (at start : ℕ) (before : Writer ByteRange (Unit {0})) (front other : Front (Exp ByteRange)) (r : Option ℕ) (after : Writer ByteRange (Unit {0})) → at ≤ start → front ≡ other → ExpressionAt text start other before r after → ExpressionAt text at front before r after
expression_from text at start before front other None after earlier same h = same ∙ h
expression_from text at start before front other (Some end) after earlier same (e, rest, reads, p) =
    (e, rest, same ∙ reads, part_from text at start e rest before end after earlier p)

-- No expression.
pub expression_none : (text : List ℕ) (at : ℕ) (before : Writer ByteRange (Unit {0})) (front : Front (Exp ByteRange)) (r : Option ℕ) (after : Writer ByteRange (Unit {0})) → r ≡ None → front ≡ bad → ExpressionAt text at front before r after
expression_none text at before front r after none h = subst (λ o. ExpressionAt text at front before o after) (sym none) h
