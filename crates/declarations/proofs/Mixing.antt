-- The names of a mixed model, turn by turn.
use Rattle.std.proofs.Common.{◌≡◌, ℕ, ◌+◌, ◌-◌, ◌<◌, ◌≤◌, Bool, true, false, ◌&&◌, List, [], ◌∷◌, ◌++◌, length, drop, Some, Option, sym, refl, ap, ◌∙◌, subst, arith, length-drop, length-append}
use Rattle.std.proofs.lemmas.Bool.{false≢true}
use Rattle.engine.specs.declared.alphabet.ContentAtom.{ContentAtom}
use Rattle.engine.specs.declared.alphabet.ContentAtom.TheVariants.{Text, Element}
use Rattle.models.specs.Expressions.{Exp, atom, alt, star}
use Rattle.models.specs.declared.node.Node.TheVariants as node
use Rattle.scan.specs.Bytes.{skip}
use Rattle.scan.specs.Lists.{number_of, listed, all_listed, distinct}
use Rattle.scan.specs.Names.{Name, read_name}
use Rattle.scan.specs.Readings.{Front, bad, got, over, stuck, next, Run, run}
use Rattle.scan.specs.declared.read.Read.{Read}
use Rattle.scan.proofs.Turning.{Turning, turning_over, turning_stuck, turning_next, turning_start}
use Rattle.writing.specs.Wrote.{Wrote}
use Rattle.declarations.specs.Inner.{PartIs, ContentAt, NumberedAt, SeenIs}
use Rattle.declarations.specs.Contents.{Content, mixed}
use Rattle.declarations.specs.Models.{or_names}
use Rattle.declarations.specs.Readers.{with_name, mixed_name_at, mixed_name, behind, shut, starless, starred}
use Rattle.declarations.specs.declared.mixed.Seen.{Seen}
use Rattle.declarations.specs.Writers.{ModelWriter}
use Rattle.declarations.proofs.Parts.{Put, part_name, part_joined, part_push}
use Rattle.declarations.proofs.Stages.{comes, flip, behind_drop}
use Rattle.declarations.proofs.Wholes.{true_stays}

at_over : (ns : List Name) (t : List ℕ) → comes 41 t ≡ true → mixed_name_at ns t ≡ over
unfolding mixed_name_at
at_over ns [] h = absurd (false≢true h)
at_over ns (b ∷ t) h = rw (flip b 41, h, mixed_name_at)

at_stuck : (ns : List Name) (t : List ℕ) → comes 41 t ≡ false → comes 124 t ≡ false → mixed_name_at ns t ≡ stuck
unfolding mixed_name_at
at_stuck ns [] h k = refl
at_stuck ns (b ∷ t) h k = rw (flip b 41, h, flip b 124, k, mixed_name_at)

at_bar : (ns : List Name) (t : List ℕ) → comes 41 t ≡ false → comes 124 t ≡ true → mixed_name_at ns t ≡ with_name ns (read_name (skip (behind t)))
unfolding mixed_name_at
at_bar ns [] h k = absurd (false≢true k)
at_bar ns (b ∷ t) h k = rw (flip b 41, h, flip b 124, k, mixed_name_at)

-- One more name at the end is one more alternative around the others.
pub or_push : (names : List Name) (m : Exp ContentAtom) (ns : List Name) (x : Name) → or_names names m (ns ++ (x ∷ [])) ≡ alt (or_names names m ns) (atom (Element (number_of names x)))
or_push names m [] x = refl
or_push names m (n ∷ ns) x = or_push names (alt m (atom (Element (number_of names n)))) ns x

-- Inside a mixed model: these names so far, and the turns that are left give the whole content.
pub record Mixes (text : List ℕ) (names : List Name) (at : ℕ) (whole : Front Content) (before : ModelWriter) (end : ℕ) (named : Bool) (seen : Seen) (after : ModelWriter) : Type 0 where
  pub all : Run (List Name)
  pub so_far : List Name
  pub left : List ℕ
  pub turning : Turning mixed_name so_far left all
  pub gives : starred (shut all) ≡ whole
  pub is : PartIs text names at (or_names names (atom Text) so_far) so_far left before end after
  pub some : named ≡ true → 0 < length so_far
  pub none : named ≡ false → length so_far ≡ 0
  pub seen_is : SeenIs names so_far seen

-- From behind the first word on, a byte behind the start or more.
pub mixed_start : (text : List ℕ) (names : List Name) (at behind_word : ℕ) (before after : ModelWriter) (seen : Seen) → at < behind_word → behind_word ≤ length text → Put before (node.Atom Text) after → SeenIs names [] seen → Mixes text names at (starred (shut (run mixed_name [] (drop behind_word text)))) before behind_word false seen after
mixed_start text names at behind_word before after seen earlier inside (wrote, known) s =
    record {
      all = run mixed_name [] (drop behind_word text);
      so_far = [];
      left = drop behind_word text;
      turning = turning_start mixed_name [] (drop behind_word text);
      gives = refl;
      is = record {
        stands = record { forward = omega arith; inside = inside; behind = refl };
        small = omega arith;
        all_known = known ∙ true_stays before.told;
        wrote = wrote;
      };
      some = λ e. absurd (false≢true e);
      none = λ _. refl;
      seen_is = s;
    }

module _ (text : List ℕ) (names : List Name) (at : ℕ) (whole : Front Content) (before : ModelWriter) (end : ℕ) (named : Bool) (seen : Seen) (after : ModelWriter) (g : Mixes text names at whole before end named seen after) (here : ℕ) (skipped : drop here text ≡ skip (drop end text)) where
  next_byte : drop here text ≡ skip g.left
  next_byte = skipped ∙ ap skip g.is.stands.behind

  stops : mixed_name g.so_far g.left ≡ stuck → whole ≡ bad
  unfolding shut starred
  stops e = sym g.gives ∙ ap (λ r. starred (shut r)) (turning_stuck mixed_name g.all g.so_far g.left g.turning e)

  -- The names are over: what is left to read is the star.
  pub mixed_over : comes 41 (drop here text) ≡ true → here < length text → whole ≡ starred (got g.so_far (drop (here + 1) text))
  unfolding shut
  mixed_over h inside =
      let done = turning_over mixed_name g.all g.so_far g.left g.turning (at_over g.so_far (skip g.left) (ap (comes 41) (sym next_byte) ∙ h)) in
      let there : behind (skip g.left) ≡ drop (here + 1) text = ap behind (sym next_byte) ∙ behind_drop text here inside in
      sym g.gives ∙ ap (λ r. starred (shut r)) done ∙ ap (λ t. starred (got g.so_far t)) there

  pub mixed_stuck : comes 41 (drop here text) ≡ false → comes 124 (drop here text) ≡ false → whole ≡ bad
  mixed_stuck h k = stops (at_stuck g.so_far (skip g.left) (ap (comes 41) (sym next_byte) ∙ h) (ap (comes 124) (sym next_byte) ∙ k))

  module _ (start : ℕ) (inside : here < length text) (over-not : comes 41 (drop here text) ≡ false) (signed : comes 124 (drop here text) ≡ true) (there : drop start text ≡ skip (drop (here + 1) text)) where
    turned : mixed_name g.so_far g.left ≡ with_name g.so_far (read_name (drop start text))
    turned =
        at_bar g.so_far (skip g.left) (ap (comes 41) (sym next_byte) ∙ over-not) (ap (comes 124) (sym next_byte) ∙ signed)
        ∙ ap (λ t. with_name g.so_far (read_name (skip (behind t)))) (sym next_byte)
        ∙ ap (λ t. with_name g.so_far (read_name (skip t))) (behind_drop text here inside)
        ∙ ap (λ t. with_name g.so_far (read_name t)) (sym there)

    pub mixed_no_name : read_name (drop start text) ≡ bad → whole ≡ bad
    unfolding with_name
    mixed_no_name b = stops (turned ∙ ap (with_name g.so_far) b)

    pub mixed_more : (name : Read (Option ℕ)) → end ≤ here → here + 1 ≤ start → (found : NumberedAt text names start (Some name)) → (two made : ModelWriter) → Wrote after (node.Atom (Element (number_of names found.0)) ∷ []) two → two.told ≡ (after.told && listed names found.0) → Put two node.Alt made → (looked : Seen) → SeenIs names (g.so_far ++ (found.0 ∷ [])) looked → Mixes text names at whole before name.end true looked made
    unfolding with_name
    mixed_more name forward after-sign (n, rest, reads, stands, longer, number_is) two made wrote known put looked s =
        let ns = g.so_far in
        let m = or_names names (atom Text) ns in
        let e = atom (Element (number_of names n)) in
        let stepped : mixed_name ns g.left ≡ next (ns ++ (n ∷ [])) rest = turned ∙ ap (with_name ns) reads in
        let old : length g.left ≡ length text - end = ap length (sym g.is.stands.behind) ∙ length-drop end text in
        let new : length rest ≡ length text - name.end = ap length (sym stands.behind) ∙ length-drop name.end text in
        let less : length rest < length g.left = omega (arith, stands.forward, stands.inside) in
        let one = part_name text names start n rest after name.end two stands longer wrote known in
        let joined = part_joined text names at start m e (alt m e) ns (n ∷ []) g.left rest before end name.end after two made node.Alt (omega arith) refl g.is one put in
        let grown : length (ns ++ (n ∷ [])) ≡ length ns + 1 = length-append ns (n ∷ []) in
        record {
          all = g.all;
          so_far = ns ++ (n ∷ []);
          left = rest;
          turning = turning_next mixed_name g.all ns (ns ++ (n ∷ [])) g.left rest g.turning stepped less;
          gives = g.gives;
          is = subst (λ x. PartIs text names at x (ns ++ (n ∷ [])) rest before name.end made) (sym (or_push names (atom Text) ns n)) joined;
          some = λ _. omega arith;
          none = λ t. absurd (false≢true (sym t));
          seen_is = s;
        }

-- The star behind the bracket.
pub with_star : (ns : List Name) (t : List ℕ) → comes 42 t ≡ true → starred (got ns t) ≡ got (mixed ns) (behind t)
unfolding starred
with_star ns [] h = absurd (false≢true h)
with_star ns (b ∷ t) h = rw (flip b 42, h, starred)

pub without_star : (ns : List Name) (t : List ℕ) → comes 42 t ≡ false → starred (got ns t) ≡ starless ns t
unfolding starred
without_star ns [] h = refl
without_star ns (b ∷ t) h = rw (flip b 42, h, starred)

starless_some : (ns : List Name) (t : List ℕ) → 0 < length ns → starless ns t ≡ bad
unfolding starless
starless_some [] t h = absurd (omega arith)
starless_some (n ∷ ns) t h = refl

starless_none : (ns : List Name) (t : List ℕ) → length ns ≡ 0 → starless ns t ≡ got (mixed ns) t
unfolding starless
starless_none [] t h = refl
starless_none (n ∷ ns) t h = absurd (omega arith)

-- What `starred` has to answer.
module _ (text : List ℕ) (names : List Name) (at : ℕ) (ns : List Name) (rest : List ℕ) (before : ModelWriter) (end : ℕ) (after : ModelWriter) (p : PartIs text names at (or_names names (atom Text) ns) ns rest before end after) (here : ℕ) (longer : end < here) (inside : here ≤ length text) (flag : Bool) (differ : all_listed names ns ≡ true → flag ≡ distinct ns) where
  finished_with : (last : ℕ) → here ≤ last → last ≤ length text → (later : List ℕ) → drop last text ≡ later → starred (got ns (drop here text)) ≡ got (mixed ns) later → (made : ModelWriter) → Put after node.Star made → ContentAt text names at (starred (got ns (drop here text))) before (Some (record { value = flag; end = last })) made
  finished_with last far within later there reads made put =
      (mixed ns, later, reads, record { part = part_push text names at (or_names names (atom Text) ns) (star (or_names names (atom Text) ns)) ns rest later before end last after made node.Star (omega arith) within there refl p put; differ = differ })

  pub star_there : comes 42 (drop here text) ≡ true → here < length text → (made : ModelWriter) → Put after node.Star made → ContentAt text names at (starred (got ns (drop here text))) before (Some (record { value = flag; end = here + 1 })) made
  star_there h more made put =
      finished_with (here + 1) (omega arith) (omega arith) (behind (drop here text)) (sym (behind_drop text here more)) (with_star ns (drop here text) h) made put

  pub star_missing : comes 42 (drop here text) ≡ false → 0 < length ns → starred (got ns (drop here text)) ≡ bad
  star_missing h many = without_star ns (drop here text) h ∙ starless_some ns (drop here text) many

  pub star_left_out : comes 42 (drop here text) ≡ false → length ns ≡ 0 → (made : ModelWriter) → Put after node.Star made → ContentAt text names at (starred (got ns (drop here text))) before (Some (record { value = flag; end = here })) made
  star_left_out h none made put =
      finished_with here (omega arith) inside (drop here text) refl (without_star ns (drop here text) h ∙ starless_none ns (drop here text) none) made put
