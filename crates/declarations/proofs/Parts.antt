-- What is told of an expression, put together from what is told of its parts.
use Rattle.std.proofs.Common.{◌≡◌, ℕ, ◌+◌, ◌<◌, ◌≤◌, Bool, true, false, ◌&&◌, eqb, List, [], ◌∷◌, ◌++◌, length, drop, Some, None, Option, slice_get, inl, inr, sym, refl, ap, ◌∙◌, subst, arith, length-append}
use Rattle.std.proofs.lemmas.List.{drop_all}
use Rattle.std.proofs.lemmas.Bool.{cases_lt, ne_eqb}
use Rattle.engine.specs.declared.alphabet.ContentAtom.{ContentAtom}
use Rattle.engine.specs.declared.alphabet.ContentAtom.TheVariants.{Element}
use Rattle.models.specs.Expressions.{Exp, atom, star, plus, option}
use Rattle.models.specs.Folds.{code}
use Rattle.models.specs.declared.node.Node.{Node}
use Rattle.models.specs.declared.node.Node.TheVariants as node
use Rattle.scan.specs.Bytes.{first_is}
use Rattle.scan.proofs.Fronts.{first_peeked}
use Rattle.scan.specs.Lists.{number_of, listed, all_listed}
use Rattle.scan.specs.Names.{Name}
use Rattle.scan.specs.Readings.{got, Stands}
use Rattle.writing.specs.Signs.{joint_node, mark_node}
use Rattle.writing.specs.Wrote.{Wrote}
use Rattle.writing.specs.declared.signs.Joint as joint
use Rattle.writing.specs.declared.signs.Joint.TheVariants.{Sequence, Alternatives}
use Rattle.writing.specs.declared.signs.Mark.{Mark}
use Rattle.writing.specs.declared.signs.Mark.TheVariants.{AnyNumber, AtLeastOne, Perhaps}
use Rattle.writing.proofs.Writing.{wrote_append}
use Rattle.declarations.specs.Inner.{PartIs, ExpressionAt, mark_at, joint_of}
use Rattle.declarations.specs.Grammar.{join}
use Rattle.declarations.specs.Models.{names_in, numbered}
use Rattle.declarations.specs.Readers.{with_mark, behind}
use Rattle.declarations.specs.Writers.{ModelWriter}
use Rattle.declarations.proofs.Stages.{flip, behind_drop}
use Rattle.declarations.proofs.Listing.{and_assoc, all_listed_append}

-- A model with one more node written.
abbrev pub Put : ModelWriter → Node ContentAtom → ModelWriter → Type 0
Put before x after = Wrote before (x ∷ []) after × (after.told ≡ before.told)

module _ (text : List ℕ) (names : List Name) where
  -- Read from an earlier place on, and up to a later end.
  pub part_wider : (at start : ℕ) (m : Exp ContentAtom) (its : List Name) (rest later : List ℕ) (before : ModelWriter) (end last : ℕ) (after : ModelWriter) → at ≤ start → end ≤ last → last ≤ length text → drop last text ≡ later → PartIs text names start m its rest before end after → PartIs text names at m its later before last after
  part_wider at start m its rest later before end last after earlier longer inside there p =
      record {
        stands = record { forward = omega (arith, p.stands.forward); inside = inside; behind = there };
        small = omega (arith, p.small);
        all_known = p.all_known;
        wrote = p.wrote;
      }

  pub part_from : (at start : ℕ) (m : Exp ContentAtom) (its : List Name) (rest : List ℕ) (before : ModelWriter) (end : ℕ) (after : ModelWriter) → at ≤ start → PartIs text names start m its rest before end after → PartIs text names at m its rest before end after
  part_from at start m its rest before end after earlier p =
      record {
        stands = record { forward = omega (arith, p.stands.forward); inside = p.stands.inside; behind = p.stands.behind };
        small = omega (arith, p.small);
        all_known = p.all_known;
        wrote = p.wrote;
      }

  -- The same names by another name.
  pub part_same : (at : ℕ) (m : Exp ContentAtom) (its others : List Name) (rest : List ℕ) (before : ModelWriter) (end : ℕ) (after : ModelWriter) → others ≡ its → PartIs text names at m its rest before end after → PartIs text names at m others rest before end after
  part_same at m its others rest before end after e p = subst (λ ns. PartIs text names at m ns rest before end after) (sym e) p

  -- One node behind the nodes of a model, for one byte or more.
  pub part_push : (at : ℕ) (m n : Exp ContentAtom) (its : List Name) (rest later : List ℕ) (before : ModelWriter) (end last : ℕ) (mid after : ModelWriter) (x : Node ContentAtom) → end < last → last ≤ length text → drop last text ≡ later → code n ≡ code m ++ (x ∷ []) → PartIs text names at m its rest before end mid → Put mid x after → PartIs text names at n its later before last after
  part_push at m n its rest later before end last mid after x longer inside there codes p (wrote, known) =
      let counted : length (code n) ≡ length (code m) + 1 = ap length codes ∙ length-append (code m) (x ∷ []) in
      record {
        stands = record { forward = omega (arith, p.stands.forward); inside = inside; behind = there };
        small = omega (arith, p.small);
        all_known = known ∙ p.all_known;
        wrote = subst (λ xs. Wrote before xs after) (sym codes) (wrote_append before mid after (code m) (x ∷ []) p.wrote wrote);
      }

  -- A name alone.
  pub part_name : (at : ℕ) (name : Name) (rest : List ℕ) (before : ModelWriter) (end : ℕ) (after : ModelWriter) → Stands text at rest end → at < end → Wrote before (node.Atom (Element (number_of names name)) ∷ []) after → after.told ≡ (before.told && listed names name) → PartIs text names at (atom (Element (number_of names name))) (name ∷ []) rest before end after
  part_name at name rest before end after stands longer wrote known =
      record {
        stands = stands;
        small = omega arith;
        all_known = known ∙ ap (λ b. before.told && b) (and_true (listed names name));
        wrote = wrote;
      }
    where
      and_true : (b : Bool) → b ≡ (b && true)
      and_true true = refl
      and_true false = refl

  -- Two models, one behind the other, and the node that joins them.
  pub part_joined : (at start : ℕ) (m n mn : Exp ContentAtom) (its others : List Name) (rest later : List ℕ) (before : ModelWriter) (end last : ℕ) (mid two after : ModelWriter) (x : Node ContentAtom) → end < start → code mn ≡ code m ++ (code n ++ (x ∷ [])) → PartIs text names at m its rest before end mid → PartIs text names start n others later mid last two → Put two x after → PartIs text names at mn (its ++ others) later before last after
  part_joined at start m n mn its others rest later before end last mid two after x longer codes p q (wrote, known) =
      let counted : length (code mn) ≡ length (code m) + (length (code n) + 1) =
      ap length codes ∙ length-append (code m) (code n ++ (x ∷ [])) ∙ ap (λ k. length (code m) + k) (length-append (code n) (x ∷ [])) in
      record {
        stands = record { forward = omega (arith, p.stands.forward, q.stands.forward); inside = q.stands.inside; behind = q.stands.behind };
        small = omega (arith, p.small, q.small);
        all_known = known ∙ q.all_known ∙ ap (λ b. b && all_listed names others) p.all_known ∙ sym (and_assoc before.told (all_listed names its) (all_listed names others))
            ∙ ap (λ b. before.told && b) (sym (all_listed_append names its others));
        wrote = subst (λ xs. Wrote before xs after) (sym codes)
            (wrote_append before mid after (code m) (code n ++ (x ∷ [])) p.wrote (wrote_append mid two after (code n) (x ∷ []) q.wrote wrote));
      }

pub join_code : (j : joint.Joint) (names : List Name) (e f : Exp Name) → code (numbered names (join (joint_of j) e f)) ≡ code (numbered names e) ++ (code (numbered names f) ++ (joint_node j ∷ []))
join_code Sequence names e f = refl
join_code Alternatives names e f = refl

pub join_names : (j : joint.Joint) (e f : Exp Name) → names_in (join (joint_of j) e f) ≡ names_in e ++ names_in f
join_names Sequence e f = refl
join_names Alternatives e f = refl

-- A mark, and the reading of it, by the three tests.
abbrev pub by_tests : {X : Type 0} → Bool → Bool → Bool → X → X → X → X → X
by_tests p q r a b c d = elim p [ true ↦ a | false ↦ elim q [ true ↦ b | false ↦ elim r [ true ↦ c | false ↦ d ] ] ]

abbrev pub mark_by : Bool → Bool → Bool → Option Mark
mark_by p q r = by_tests p q r (Some Perhaps) (Some AnyNumber) (Some AtLeastOne) None

tests_flip : {X : Type 0} (k : ℕ) (a b c d : X) → by_tests (eqb k 63) (eqb k 42) (eqb k 43) a b c d ≡ by_tests (eqb 63 k) (eqb 42 k) (eqb 43 k) a b c d
tests_flip k a b c d =
    ap (λ p. by_tests p (eqb k 42) (eqb k 43) a b c d) (flip k 63)
    ∙ ap (λ q. by_tests (eqb 63 k) q (eqb k 43) a b c d) (flip k 42)
    ∙ ap (λ r. by_tests (eqb 63 k) (eqb 42 k) r a b c d) (flip k 43)

pub mark_inside : (text : List ℕ) (at : ℕ) (x : Mark) → Some x ≡ mark_at (drop at text) → at < length text
mark_inside text at x e =
    elim (cases_lt at (length text)) [
      | inl lt ↦ lt
      | inr le ↦
          let none : mark_at (drop at text) ≡ None = ap mark_at (drop_all at text le) in
          absurd (let wrong : ◌≡◌ {A = ℕ} 0 1 = cc in omega arith)
    ]

-- No mark leaves an expression as it is.
pub unmarked : (e : Exp Name) (t : List ℕ) → mark_at t ≡ None → with_mark e t ≡ got e t
unfolding with_mark
unmarked e [] h = refl
unmarked e (b ∷ t) h =
    tests_flip b (got (option e) t) (got (star e) t) (got (plus e) t) (got e (b ∷ t)) ∙ by (eqb 63 b) (eqb 42 b) (eqb 43 b) h
  where
    by : (x y z : Bool) → mark_by x y z ≡ None → by_tests x y z (got (option e) t) (got (star e) t) (got (plus e) t) (got e (b ∷ t)) ≡ got e (b ∷ t)
    by true y z k = absurd (let wrong : ◌≡◌ {A = ℕ} 0 1 = cc in omega arith)
    by false true z k = absurd (let wrong : ◌≡◌ {A = ℕ} 0 1 = cc in omega arith)
    by false false true k = absurd (let wrong : ◌≡◌ {A = ℕ} 0 1 = cc in omega arith)
    by false false false k = refl

-- A mark makes one more expression of it, with one more node.
pub record Marks (names : List Name) (e : Exp Name) (t : List ℕ) (x : Mark) : Type 0 where
  pub made : Exp Name
  pub reads : with_mark e t ≡ got made (behind t)
  pub codes : code (numbered names made) ≡ code (numbered names e) ++ (mark_node x ∷ [])
  pub same_names : names_in made ≡ names_in e

pub marks : (names : List Name) (e : Exp Name) (t : List ℕ) (x : Mark) → mark_at t ≡ Some x → Marks names e t x
unfolding with_mark
marks names e [] x h = absurd (let wrong : ◌≡◌ {A = ℕ} 0 1 = cc in omega arith)
marks names e (b ∷ t) x h =
    by (eqb 63 b) (eqb 42 b) (eqb 43 b) h (tests_flip b (got (option e) t) (got (star e) t) (got (plus e) t) (got e (b ∷ t)))
  where
    by : (p q r : Bool) → mark_by p q r ≡ Some x → with_mark e (b ∷ t) ≡ by_tests p q r (got (option e) t) (got (star e) t) (got (plus e) t) (got e (b ∷ t)) → Marks names e (b ∷ t) x
    by true q r k w =
        let same : Perhaps ≡ x = cc in
        record { made = option e; reads = w; codes = ap (λ y. code (numbered names e) ++ (mark_node y ∷ [])) same; same_names = refl }
    by false true r k w =
        let same : AnyNumber ≡ x = cc in
        record { made = star e; reads = w; codes = ap (λ y. code (numbered names e) ++ (mark_node y ∷ [])) same; same_names = refl }
    by false false true k w =
        let same : AtLeastOne ≡ x = cc in
        record { made = plus e; reads = w; codes = ap (λ y. code (numbered names e) ++ (mark_node y ∷ [])) same; same_names = refl }
    by false false false k w = absurd (let wrong : ◌≡◌ {A = ℕ} 0 1 = cc in omega arith)

module _ (text : List ℕ) (names : List Name) (at : ℕ) (e : Exp Name) (rest : List ℕ) (before : ModelWriter) (end : ℕ) (after : ModelWriter) (p : PartIs text names at (numbered names e) (names_in e) rest before end after) where
  pub mark_none : mark_at (drop end text) ≡ None → ExpressionAt text names at (with_mark e rest) before (Some end) after
  mark_none h = (e, rest, unmarked e rest (ap mark_at (sym p.stands.behind) ∙ h), p)

  pub mark_some : (x : Mark) → mark_at (drop end text) ≡ Some x → end < length text → (last : ModelWriter) → Put after (mark_node x) last → ExpressionAt text names at (with_mark e rest) before (Some (end + 1)) last
  mark_some x h inside last put =
      let m = marks names e rest x (ap mark_at (sym p.stands.behind) ∙ h) in
      let there : drop (end + 1) text ≡ behind rest = sym (behind_drop text end inside) ∙ ap behind p.stands.behind in
      let q = part_push text names at (numbered names e) (numbered names m.made) (names_in e) rest (behind rest) before end (end + 1) after last (mark_node x) (omega arith) (omega arith) there m.codes p put in
      (m.made, behind rest, m.reads, part_same text names at (numbered names m.made) (names_in e) (names_in m.made) (behind rest) before (end + 1) last m.same_names q)

-- The byte at the place tells the mark.
abbrev pub mark_of : ℕ → Option Mark
mark_of b = mark_by (eqb 63 b) (eqb 42 b) (eqb 43 b)

module _ (text : List ℕ) (at : ℕ) where
  by_three : (p q r : Bool) → first_is (eqb 63) (drop at text) ≡ p → first_is (eqb 42) (drop at text) ≡ q → first_is (eqb 43) (drop at text) ≡ r → mark_at (drop at text) ≡ mark_by p q r
  by_three p q r a b c =
      ap (λ x. mark_by x (first_is (eqb 42) (drop at text)) (first_is (eqb 43) (drop at text))) a
      ∙ ap (λ y. mark_by p y (first_is (eqb 43) (drop at text))) b
      ∙ ap (mark_by p q) c

  pub mark_nowhere : None ≡ slice_get text at → mark_at (drop at text) ≡ None
  mark_nowhere e =
      by_three false false false (first_peeked (eqb 63) text at None e) (first_peeked (eqb 42) text at None e) (first_peeked (eqb 43) text at None e)

  pub mark_peeked : (b : ℕ) → Some b ≡ slice_get text at → mark_at (drop at text) ≡ mark_of b
  mark_peeked b e =
      by_three (eqb 63 b) (eqb 42 b) (eqb 43 b) (first_peeked (eqb 63) text at (Some b) e) (first_peeked (eqb 42) text at (Some b) e) (first_peeked (eqb 43) text at (Some b) e)

pub no_mark : (b : ℕ) → (b ≡ 63 → ⊥) → (b ≡ 42 → ⊥) → (b ≡ 43 → ⊥) → mark_of b ≡ None
no_mark b p q r =
    ap (λ x. mark_by x (eqb 42 b) (eqb 43 b)) (ne_eqb 63 b (λ e. p (sym e)))
    ∙ ap (λ y. mark_by false y (eqb 43 b)) (ne_eqb 42 b (λ e. q (sym e)))
    ∙ ap (mark_by false false) (ne_eqb 43 b (λ e. r (sym e)))
