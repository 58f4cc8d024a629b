-- The members of a group, turn by turn.
use Rattle.std.proofs.Common.{◌≡◌, ℕ, zero, suc, ◌+◌, ◌-◌, ◌<◌, ◌≤◌, Bool, true, false, eqb, List, [], ◌∷◌, ◌++◌, length, drop, Some, sym, refl, ap, ◌∙◌, arith, length-drop}
use Rattle.models.specs.Expressions.{Exp}
use Rattle.scan.specs.Bytes.{first_is, skip}
use Rattle.scan.specs.Names.{Name}
use Rattle.scan.specs.Readings.{Front, bad, Turn, stuck, Run, run}
use Rattle.scan.proofs.Turning.{Turning, turning_over, turning_stuck, turning_next, turning_start}
use Rattle.writing.specs.Signs.{joint_node}
use Rattle.writing.specs.declared.signs.Joint as joint
use Rattle.declarations.specs.Inner.{PartIs, ExpressionAt, joint_of}
use Rattle.declarations.specs.Grammar.{by_comma, by_bar, sign, join}
use Rattle.declarations.specs.Models.{names_in, numbered}
use Rattle.declarations.specs.Readers.{read_cp, member, behind, shut, joint_at, members_of, in_brackets, read_group}
use Rattle.declarations.specs.Writers.{ModelWriter}
use Rattle.declarations.proofs.Parts.{Put, part_wider, part_from, part_same, part_joined, join_code, join_names}
use Rattle.declarations.proofs.Stages.{comes, flip, behind_drop, brackets_yes, brackets_no, member_over, member_stuck, member_bad, member_next}

-- Inside a group: the members so far make the expression e, and the turns that are left give the whole group.
pub record Going (text : List ℕ) (names : List Name) (at : ℕ) (group : List ℕ → Front (Exp Name)) (j : joint.Joint) (whole : Front (Exp Name)) (before : ModelWriter) (end : ℕ) (after : ModelWriter) : Type 0 where
  pub all : Run (Exp Name)
  pub so_far : Exp Name
  pub left : List ℕ
  pub turning : Turning (member group (joint_of j)) so_far left all
  pub gives : shut all ≡ whole
  pub is : PartIs text names at (numbered names so_far) (names_in so_far) left before end after

turned : (u : List ℕ) → first_is (λ b. eqb b 124) u ≡ comes 124 u
turned [] = refl
turned (b ∷ u) = flip b 124

-- The joint is told by the sign behind the first member.
pub joint_is : (t : List ℕ) (bar : Bool) → comes 124 (skip t) ≡ bar → joint_at t ≡ elim bar [ true ↦ by_bar | false ↦ by_comma ]
joint_is t bar h = ap (λ b. elim b [ true ↦ by_bar | false ↦ by_comma ]) (turned (skip t) ∙ h)

pub suc_of : (left : ℕ) (t : List ℕ) → 0 < left → read_group left t ≡ in_brackets (read_group (left - 1)) t
unfolding read_group
suc_of zero t h = absurd (omega arith)
suc_of (suc left) t h = let e : left ≡ suc left - 1 = omega arith in ap (λ n. in_brackets (read_group n) t) e

pub group_zero : (text : List ℕ) (at left : ℕ) → left ≡ 0 → read_group left (drop at text) ≡ bad
unfolding read_group
group_zero text at left none = ap (λ n. read_group n (drop at text)) none

module _ (text : List ℕ) (names : List Name) (at left : ℕ) (before : ModelWriter) where
  -- No bracket, no group.
  pub group_none : comes 40 (drop at text) ≡ false → read_group left (drop at text) ≡ bad
  unfolding read_group
  group_none h = by left
    where
      by : (n : ℕ) → read_group n (drop at text) ≡ bad
      by zero = refl
      by (suc n) = brackets_no (read_group n) (drop at text) h

  -- The first member, behind the bracket.
  inner : (start : ℕ) → 0 < left → comes 40 (drop at text) ≡ true → at < length text → drop start text ≡ skip (drop (at + 1) text) → read_group left (drop at text) ≡ members_of (read_group (left - 1)) (read_cp (read_group (left - 1)) (drop start text))
  inner start some h inside there =
      suc_of left (drop at text) some
      ∙ brackets_yes (read_group (left - 1)) (drop at text) h
      ∙ ap (λ t. members_of (read_group (left - 1)) (read_cp (read_group (left - 1)) t)) (ap skip (behind_drop text at inside) ∙ sym there)

  pub group_bad : (start : ℕ) → 0 < left → comes 40 (drop at text) ≡ true → at < length text → drop start text ≡ skip (drop (at + 1) text) → read_cp (read_group (left - 1)) (drop start text) ≡ bad → read_group left (drop at text) ≡ bad
  unfolding members_of
  group_bad start some h inside there b =
      inner start some h inside there ∙ ap (members_of (read_group (left - 1))) b

  pub group_first : (start : ℕ) (j : joint.Joint) (end : ℕ) (after : ModelWriter) → 0 < left → comes 40 (drop at text) ≡ true → at < length text → drop start text ≡ skip (drop (at + 1) text) → at + 1 ≤ start → joint_of j ≡ joint_at (drop end text) → ExpressionAt text names start (read_cp (read_group (left - 1)) (drop start text)) before (Some end) after → Going text names at (read_group (left - 1)) j (read_group left (drop at text)) before end after
  unfolding members_of
  group_first start j end after some h inside there earlier joint-is (e, rest, reads, p) =
      let turn = member (read_group (left - 1)) (joint_of j) in
      let joint : joint_at rest ≡ joint_of j = ap joint_at (sym p.stands.behind) ∙ sym joint-is in
      let ran : read_group left (drop at text) ≡ shut (run turn e rest) =
      inner start some h inside there ∙ ap (members_of (read_group (left - 1))) reads ∙ ap (λ i. shut (run (member (read_group (left - 1)) i) e rest)) joint in
      record {
        all = run turn e rest;
        so_far = e;
        left = rest;
        turning = turning_start turn e rest;
        gives = sym ran;
        is = part_from text names at start (numbered names e) (names_in e) rest before end after (omega arith) p;
      }

module _ (text : List ℕ) (names : List Name) (at : ℕ) (group : List ℕ → Front (Exp Name)) (j : joint.Joint) (whole : Front (Exp Name)) (before : ModelWriter) (end : ℕ) (after : ModelWriter) (g : Going text names at group j whole before end after) (here : ℕ) (skipped : drop here text ≡ skip (drop end text)) where
  abbrev turn : Exp Name → List ℕ → Turn (Exp Name)
  turn = member group (joint_of j)

  next_byte : drop here text ≡ skip g.left
  next_byte = skipped ∙ ap skip g.is.stands.behind

  stops : turn g.so_far g.left ≡ stuck → whole ≡ bad
  unfolding shut
  stops e = sym g.gives ∙ ap shut (turning_stuck turn g.all g.so_far g.left g.turning e)

  pub group_over : end ≤ here → here < length text → comes 41 (drop here text) ≡ true → ExpressionAt text names at whole before (Some (here + 1)) after
  unfolding shut
  group_over forward inside h =
      let done = turning_over turn g.all g.so_far g.left g.turning (member_over group (joint_of j) g.so_far g.left (ap (comes 41) (sym next_byte) ∙ h)) in
      let there : drop (here + 1) text ≡ behind (skip g.left) = sym (behind_drop text here inside) ∙ ap behind next_byte in (
        g.so_far,
        behind (skip g.left),
        sym g.gives ∙ ap shut done,
        part_wider text names at at (numbered names g.so_far) (names_in g.so_far) g.left (behind (skip g.left)) before end (here + 1) after (omega arith) (omega arith) (omega arith) there g.is,
      )

  pub group_stuck : comes 41 (drop here text) ≡ false → comes (sign (joint_of j)) (drop here text) ≡ false → whole ≡ bad
  group_stuck h k =
      stops (member_stuck group (joint_of j) g.so_far g.left (ap (comes 41) (sym next_byte) ∙ h) (ap (comes (sign (joint_of j))) (sym next_byte) ∙ k))

  module _ (start : ℕ) (inside : here < length text) (over-not : comes 41 (drop here text) ≡ false) (signed : comes (sign (joint_of j)) (drop here text) ≡ true) (there : drop start text ≡ skip (drop (here + 1) text)) where
    behind_sign : skip (behind (skip g.left)) ≡ drop start text
    behind_sign = ap (λ t. skip (behind t)) (sym next_byte) ∙ ap skip (behind_drop text here inside) ∙ sym there

    pub group_no_member : read_cp group (drop start text) ≡ bad → whole ≡ bad
    group_no_member b =
        stops (member_bad group (joint_of j) g.so_far g.left (ap (comes 41) (sym next_byte) ∙ over-not) (ap (comes (sign (joint_of j))) (sym next_byte) ∙ signed) (ap (read_cp group) behind_sign ∙ b))

    pub group_member : (last : ℕ) (two made : ModelWriter) → end ≤ here → here + 1 ≤ start → ExpressionAt text names start (read_cp group (drop start text)) after (Some last) two → Put two (joint_node j) made → Going text names at group j whole before last made
    group_member last two made forward after-sign (f, rest, reads, q) put =
        let e = g.so_far in
        let stepped = member_next group (joint_of j) e f g.left rest (ap (comes 41) (sym next_byte) ∙ over-not) (ap (comes (sign (joint_of j))) (sym next_byte) ∙ signed) (ap (read_cp group) behind_sign ∙ reads) in
        let old : length g.left ≡ length text - end = ap length (sym g.is.stands.behind) ∙ length-drop end text in
        let new : length rest ≡ length text - last = ap length (sym q.stands.behind) ∙ length-drop last text in
        let less : length rest < length g.left = omega (arith, q.stands.forward, q.stands.inside) in
        let joined = part_joined text names at start (numbered names e) (numbered names f) (numbered names (join (joint_of j) e f)) (names_in e) (names_in f) g.left rest before end last after two made (joint_node j) (omega arith) (join_code j names e f) g.is q put in
        record {
          all = g.all;
          so_far = join (joint_of j) e f;
          left = rest;
          turning = turning_next turn g.all e (join (joint_of j) e f) g.left rest g.turning stepped less;
          gives = g.gives;
          is = part_same text names at (numbered names (join (joint_of j) e f)) (names_in e ++ names_in f) (names_in (join (joint_of j) e f)) rest before last made (join_names j e f) joined;
        }
