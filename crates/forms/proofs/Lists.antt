-- The members of a list, turn by turn.
use Rattle.std.proofs.Common.{◌≡◌, ℕ, zero, suc, ◌+◌, ◌-◌, ◌<◌, Bool, true, false, eqb, List, [], ◌∷◌, length, drop, Some, None, codes, sym, refl, ap, ◌∙◌, arith, length-drop}
use Rattle.std.proofs.lemmas.List.{drop_more}
use Rattle.std.proofs.lemmas.Bool.{eqb-true, ne_eqb, false≢true}
use Rattle.engine.specs.declared.range.ByteRange.{ByteRange}
use Rattle.models.specs.Expressions.{Exp, atom}
use Rattle.models.specs.declared.node.Node.TheVariants as node
use Rattle.scan.specs.Bytes.{first_is}
use Rattle.scan.specs.Readings.{Front, bad, got, word, Turn, over, stuck, next, Run, run, EndOf}
use Rattle.scan.proofs.Ends.{worded, end_bad}
use Rattle.scan.proofs.Fronts.{first_there}
use Rattle.scan.proofs.Turning.{Turning, turning_over, turning_stuck, turning_next, turning_start}
use Rattle.writing.specs.Signs.{joint_node, mark_node}
use Rattle.writing.specs.Wrote.{Wrote}
use Rattle.writing.specs.declared.signs.Joint as joint
use Rattle.writing.specs.declared.signs.Mark as mark
use Rattle.writing.specs.declared.writer.Writer.{Writer}
use Rattle.forms.specs.Grammar.{Joint, join, marked}
use Rattle.forms.specs.Inner.{RangeAt, OpenedAt, read_opened, PartIs, ExpressionAt, joint_of, mark_of, read_more}
use Rattle.forms.specs.Readers.{joined_by, member, shut, ended, with_second, behind_first, with_first, read_members, with_inside, read_marked, read_range, read_by_word, read_expression}
use Rattle.forms.specs.declared.openings.Opening.{Opening}
use Rattle.scan.specs.declared.read.Read.{Read}
use Rattle.forms.proofs.Digits.{flip}
use Rattle.forms.proofs.Parts.{part_wider, part_from, part_range, part_push, part_joined, join_code, mark_code}

-- Whether this byte comes next.
abbrev pub comes : ℕ → List ℕ → Bool
comes k t = first_is (eqb k) t

abbrev behind : List ℕ → List ℕ
behind [] = []
behind (b ∷ t) = t

behind_drop : (text : List ℕ) (at : ℕ) → at < length text → behind (drop at text) ≡ drop (at + 1) text
behind_drop text at h = ap behind (drop_more text at 0 h)

-- Where a byte comes next the text has a byte there.
pub inside : (k : ℕ) (text : List ℕ) (at : ℕ) → comes k (drop at text) ≡ true → at < length text
inside k text at there = first_there (eqb k) text at there

closing_word : (t : List ℕ) → comes 93 t ≡ true → word (codes "]") t ≡ got tt (behind t)
unfolding word
closing_word [] e = absurd (false≢true e)
closing_word (b ∷ t) e = rw (e, word)

-- Only one byte comes next.
one_byte : (k l : ℕ) (t : List ℕ) → (k ≡ l → ⊥) → comes k t ≡ true → comes l t ≡ false
one_byte k l [] differ e = refl
one_byte k l (b ∷ t) differ e = ne_eqb l b (λ same. differ (eqb-true k b e ∙ sym same))

module _ (inner : List ℕ → Front (Exp ByteRange)) (joint : Joint) (e : Exp ByteRange) where
  member_over : (t : List ℕ) → comes 93 t ≡ true → member inner joint e t ≡ over
  unfolding member
  member_over [] h = absurd (false≢true h)
  member_over (b ∷ t) h = rw (flip b 93, h, member)

  member_stuck : (t : List ℕ) → comes 93 t ≡ false → comes 32 t ≡ false → member inner joint e t ≡ stuck
  unfolding member
  member_stuck [] h k = refl
  member_stuck (b ∷ t) h k = rw (flip b 93, h, flip b 32, k, member)

  member_more : (t : List ℕ) → comes 93 t ≡ false → comes 32 t ≡ true → member inner joint e t ≡ joined_by joint e (inner (behind t))
  unfolding member
  member_more [] h k = absurd (false≢true k)
  member_more (b ∷ t) h k = rw (flip b 93, h, flip b 32, k, member)

  member_bad : (t : List ℕ) → comes 93 t ≡ false → comes 32 t ≡ true → inner (behind t) ≡ bad → member inner joint e t ≡ stuck
  unfolding joined_by
  member_bad t h k b = member_more t h k ∙ ap (joined_by joint e) b

  member_next : (f : Exp ByteRange) (t rest : List ℕ) → comes 93 t ≡ false → comes 32 t ≡ true → inner (behind t) ≡ got f rest → member inner joint e t ≡ next (join joint e f) rest
  unfolding joined_by
  member_next f t rest h k g = member_more t h k ∙ ap (joined_by joint e) g

-- Inside a list: the members so far make an expression, and the turns that are left give the whole list.
pub record Going (text : List ℕ) (at left : ℕ) (j : joint.Joint) (whole : Front (Exp ByteRange)) (before : Writer ByteRange (Unit {0})) (end : ℕ) (after : Writer ByteRange (Unit {0})) : Type 0 where
  pub all : Run (Exp ByteRange)
  pub so_far : Exp ByteRange
  pub rest : List ℕ
  pub turning : Turning (member (read_expression left) (joint_of j)) so_far rest all
  pub gives : ended all ≡ whole
  pub is : PartIs text at so_far rest before end after

pub going_start : (text : List ℕ) (at left : ℕ) (j : joint.Joint) (e : Exp ByteRange) (rest : List ℕ) (before : Writer ByteRange (Unit {0})) (end : ℕ) (after : Writer ByteRange (Unit {0})) → PartIs text at e rest before end after → Going text at left j (read_more left (joint_of j) e rest) before end after
going_start text at left j e rest before end after p =
    let turn = member (read_expression left) (joint_of j) in
    record { all = run turn e rest; so_far = e; rest = rest; turning = turning_start turn e rest; gives = refl; is = p }

module _ (text : List ℕ) (at left : ℕ) (j : joint.Joint) (whole : Front (Exp ByteRange)) (before : Writer ByteRange (Unit {0})) (end : ℕ) (after : Writer ByteRange (Unit {0})) (g : Going text at left j whole before end after) where
  abbrev turn : Exp ByteRange → List ℕ → Turn (Exp ByteRange)
  turn = member (read_expression left) (joint_of j)

  there : (k : ℕ) (b : Bool) → comes k (drop end text) ≡ b → comes k g.rest ≡ b
  there k b h = ap (comes k) (sym g.is.stands.behind) ∙ h

  stops : turn g.so_far g.rest ≡ stuck → whole ≡ bad
  unfolding ended
  stops e = sym g.gives ∙ ap ended (turning_stuck turn g.all g.so_far g.rest g.turning e)

  pub list_over : comes 93 (drop end text) ≡ true → ExpressionAt text at whole before (Some (end + 1)) after
  unfolding ended shut
  list_over h =
      let here = inside 93 text end h in
      let closed = there 93 true h in
      let done = turning_over turn g.all g.so_far g.rest g.turning (member_over (read_expression left) (joint_of j) g.so_far g.rest closed) in
      let later : drop (end + 1) text ≡ behind g.rest = sym (behind_drop text end here) ∙ ap behind g.is.stands.behind in (
        g.so_far,
        behind g.rest,
        sym g.gives ∙ ap ended done ∙ ap (shut g.so_far) (closing_word g.rest closed),
        part_wider text at g.so_far g.rest (behind g.rest) before end (end + 1) after (omega arith) (omega arith) later g.is,
      )

  pub list_stuck : comes 93 (drop end text) ≡ false → comes 32 (drop end text) ≡ false → whole ≡ bad
  list_stuck h k =
      stops (member_stuck (read_expression left) (joint_of j) g.so_far g.rest (there 93 false h) (there 32 false k))

  module _ (space : comes 32 (drop end text) ≡ true) where
    not-over : comes 93 g.rest ≡ false
    not-over = one_byte 32 93 g.rest (λ e. absurd (omega arith)) (there 32 true space)

    behind_space : behind g.rest ≡ drop (end + 1) text
    behind_space = ap behind (sym g.is.stands.behind) ∙ behind_drop text end (inside 32 text end space)

    pub list_no_member : read_expression left (drop (end + 1) text) ≡ bad → whole ≡ bad
    list_no_member b =
        stops (member_bad (read_expression left) (joint_of j) g.so_far g.rest not-over (there 32 true space) (ap (read_expression left) behind_space ∙ b))

    pub list_member : (last : ℕ) (two made : Writer ByteRange (Unit {0})) → ExpressionAt text (end + 1) (read_expression left (drop (end + 1) text)) after (Some last) two → Wrote two (joint_node j ∷ []) made → Going text at left j whole before last made
    list_member last two made (f, rest, reads, q) wrote =
        let e = g.so_far in
        let stepped = member_next (read_expression left) (joint_of j) e f g.rest rest not-over (there 32 true space) (ap (read_expression left) behind_space ∙ reads) in
        let old : length g.rest ≡ length text - end = ap length (sym g.is.stands.behind) ∙ length-drop end text in
        let new : length rest ≡ length text - last = ap length (sym q.stands.behind) ∙ length-drop last text in
        let less : length rest < length g.rest = omega (arith, q.stands.forward, q.stands.inside) in
        record {
          all = g.all;
          so_far = join (joint_of j) e f;
          rest = rest;
          turning = turning_next turn g.all e (join (joint_of j) e f) g.rest rest g.turning stepped less;
          gives = g.gives;
          is = part_joined text at (end + 1) e f (join (joint_of j) e f) g.rest rest before end last after two made (joint_node j) (omega arith) (join_code j e f) g.is q wrote;
        }

-- The first two members, from behind the opening word on.
module _ (text : List ℕ) (at left : ℕ) (j : joint.Joint) (before : Writer ByteRange (Unit {0})) where
  abbrev whole : Front (Exp ByteRange)
  whole = read_members (read_expression left) (joint_of j) (drop at text)

  pub no_first : read_expression left (drop at text) ≡ bad → read_members (read_expression left) (joint_of j) (drop at text) ≡ bad
  unfolding with_first
  no_first b = ap (with_first (read_expression left) (joint_of j)) b

  module _ (first : ℕ) (mid : Writer ByteRange (Unit {0})) (f : ExpressionAt text at (read_expression left (drop at text)) before (Some first) mid) where
    behind_it : whole ≡ behind_first (read_expression left) (joint_of j) f.0 (word (codes " ") (drop first text))
    unfolding with_first
    behind_it =
        ap (with_first (read_expression left) (joint_of j)) f.2
        ∙ ap (λ t. behind_first (read_expression left) (joint_of j) f.0 (word (codes " ") t)) (sym f.3.stands.behind)

    pub one_alone : EndOf text first (word (codes " ") (drop first text)) None → read_members (read_expression left) (joint_of j) (drop at text) ≡ bad
    unfolding behind_first
    one_alone h =
        behind_it ∙ ap (behind_first (read_expression left) (joint_of j) f.0) (end_bad text first (word (codes " ") (drop first text)) h)

    module _ (space : ℕ) (s : EndOf text first (word (codes " ") (drop first text)) (Some space)) where
      before_second : whole ≡ with_second (read_expression left) (joint_of j) f.0 (read_expression left (drop space text))
      unfolding behind_first
      before_second =
          behind_it ∙ ap (behind_first (read_expression left) (joint_of j) f.0) (worded (codes " ") text first space s).reads

      pub no_second : read_expression left (drop space text) ≡ bad → read_members (read_expression left) (joint_of j) (drop at text) ≡ bad
      unfolding with_second
      no_second b = before_second ∙ ap (with_second (read_expression left) (joint_of j) f.0) b

      -- What is known of the two, joined.
      pub record Two (end : ℕ) (after : Writer ByteRange (Unit {0})) : Type 0 where
        pub both : Exp ByteRange
        pub rest : List ℕ
        pub reads : read_members (read_expression left) (joint_of j) (drop at text) ≡ read_more left (joint_of j) both rest
        pub is : PartIs text at both rest before end after

      pub two_members : (second : ℕ) (two after : Writer ByteRange (Unit {0})) → ExpressionAt text space (read_expression left (drop space text)) mid (Some second) two → Wrote two (joint_node j ∷ []) after → Two second after
      unfolding with_second
      two_members second two after (g, rest, reads, q) wrote =
          let e = f.0 in
          let w = worded (codes " ") text first space s in
          record {
            both = join (joint_of j) e g;
            rest = rest;
            reads = before_second ∙ ap (with_second (read_expression left) (joint_of j) e) reads;
            is = part_joined text at space e g (join (joint_of j) e g) f.1 rest before first second mid two after (joint_node j) (omega (arith, w.place)) (join_code j e g) f.3 q wrote;
          }

-- What a mark is put on.
module _ (text : List ℕ) (at left : ℕ) (m : mark.Mark) (before : Writer ByteRange (Unit {0})) where
  pub no_inside : read_expression left (drop at text) ≡ bad → read_marked (read_expression left) (mark_of m) (drop at text) ≡ bad
  unfolding with_inside
  no_inside b = ap (with_inside (mark_of m)) b

  module _ (inner : ℕ) (mid : Writer ByteRange (Unit {0})) (f : ExpressionAt text at (read_expression left (drop at text)) before (Some inner) mid) where
    before_end : read_marked (read_expression left) (mark_of m) (drop at text) ≡ shut (marked (mark_of m) f.0) (word (codes "]") (drop inner text))
    unfolding with_inside
    before_end =
        ap (with_inside (mark_of m)) f.2
        ∙ ap (λ t. shut (marked (mark_of m) f.0) (word (codes "]") t)) (sym f.3.stands.behind)

    pub not_shut : EndOf text inner (word (codes "]") (drop inner text)) None → read_marked (read_expression left) (mark_of m) (drop at text) ≡ bad
    unfolding shut
    not_shut h =
        before_end ∙ ap (shut (marked (mark_of m) f.0)) (end_bad text inner (word (codes "]") (drop inner text)) h)

    pub mark_there : (end : ℕ) → EndOf text inner (word (codes "]") (drop inner text)) (Some end) → (after : Writer ByteRange (Unit {0})) → Wrote mid (mark_node m ∷ []) after → ExpressionAt text at (read_marked (read_expression left) (mark_of m) (drop at text)) before (Some end) after
    unfolding shut
    mark_there end h after wrote =
        let w = worded (codes "]") text inner end h in (
          marked (mark_of m) f.0,
          drop end text,
          before_end ∙ ap (shut (marked (mark_of m) f.0)) w.reads,
          part_push text at f.0 (marked (mark_of m) f.0) f.1 (drop end text) before inner end mid after (mark_node m) (omega (arith, w.place)) w.inside refl (mark_code m f.0) f.3 wrote,
        )

-- An expression, by the brackets that may still open.
pub none_left : (left : ℕ) (t : List ℕ) → left ≡ 0 → read_expression left t ≡ bad
unfolding read_expression
none_left left t none = ap (λ n. read_expression n t) none

pub some_left : (left : ℕ) (t : List ℕ) → (left ≡ 0 → ⊥) → read_expression left t ≡ read_by_word (read_expression (left - 1)) t
unfolding read_expression
some_left zero t some = absurd (some refl)
some_left (suc left) t some = let e : left ≡ suc left - 1 = omega arith in ap (λ n. read_by_word (read_expression n) t) e

pub reads_opened : (text : List ℕ) (at left : ℕ) (opened : Read Opening) (opening : Opening) → (left ≡ 0 → ⊥) → OpenedAt text at (Some opened) → opened.value ≡ opening → read_expression left (drop at text) ≡ read_opened (read_expression (left - 1)) opening (drop opened.end text)
reads_opened text at left opened opening some o is =
    some_left left (drop at text) some
    ∙ o.2 (read_expression (left - 1))
    ∙ ap (λ x. read_opened (read_expression (left - 1)) x (drop opened.end text)) is

-- A range, behind its opening word.
pub range_there : (text : List ℕ) (at start : ℕ) (front : Front (Exp ByteRange)) (before : Writer ByteRange (Unit {0})) (range : Read ByteRange) (after : Writer ByteRange (Unit {0})) → at < start → front ≡ read_range (drop start text) → RangeAt text start (Some range) → Wrote before (node.Atom range.value ∷ []) after → ExpressionAt text at front before (Some range.end) after
range_there text at start front before range after earlier same (rest, reads, stands, longer) wrote =
    let p = part_range text start range.value rest before range.end after stands longer wrote in
    (atom range.value, rest, same ∙ reads, part_from text at start (atom range.value) rest before range.end after (omega arith) p)
