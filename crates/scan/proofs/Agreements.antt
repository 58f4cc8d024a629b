-- The readings that are worked out say what the relations say, and leave a shorter text.
use Rattle.std.proofs.Common.{◌≡◌, ℕ, suc, ◌<◌, ◌≤◌, Bool, true, false, ◌&&◌, eqb, leb, ◌≢◌, List, [], ◌∷◌, ◌++◌, length, take, drop, codes, sym, refl, ap, ◌∙◌, subst, ap₂, subst₂, inl, inr, arith}
use Rattle.std.specs.List.{prefix_len}
use Rattle.std.proofs.lemmas.List.{take-append-drop, length-append, length-take-le, take_at, drop_at}
use Rattle.std.proofs.lemmas.List.Sums.{prefix_len-le-length}
use Rattle.std.proofs.lemmas.Bool.{eqb-true, eqb-false, eq-eqb, ne_eqb, leb-true, le-leb, and_parts, and_from, and_left, and_cases, or_left, both_ways, cases_eq}
use Rattle.scan.specs.Bytes.{is_blank, is_initial, is_name_byte, is_text_byte, first_is, skip}
use Rattle.scan.specs.Comments.{Inside, none, plain, dash, ReadsComment, held, closed, comment_rest, behind_opening, read_comment}
use Rattle.scan.specs.Names.{Name, all_name_bytes, IsName, ReadsName, read_name}
use Rattle.scan.specs.Readings.{Front, bad, got, word, Agree, AtMostOne}
use Rattle.scan.proofs.Leading.{leading_taken, leading_dropped, leading_first, leading_all}

-- Nothing is both read and not read.
pub bad_got : {A : Type 0} {v : A} {r : List ℕ} → ◌≡◌ {A = Front A} bad (got v r) → ⊥
bad_got e = let z : ◌≡◌ {A = ℕ} 0 1 = cc in omega arith

pub got_value : {A : Type 0} {v w : A} {r s : List ℕ} → ◌≡◌ {A = Front A} (got v r) (got w s) → v ≡ w
got_value e = cc

pub got_rest : {A : Type 0} {v w : A} {r s : List ℕ} → ◌≡◌ {A = Front A} (got v r) (got w s) → r ≡ s
got_rest e = cc

-- What is read in stages: a reading behind another one got its value from there.
pub staged : {A B : Type 0} (stage : Front A → Front B) → stage bad ≡ bad → (x : Front A) (v : B) (rest : List ℕ) → stage x ≡ got v rest → (first : A) × (mid : List ℕ) × (x ≡ got first mid) × (stage (got first mid) ≡ got v rest)
staged stage never bad v rest e = absurd (bad_got (sym never ∙ e))
staged stage never (got first mid) v rest e = (first, mid, refl, e)

-- What a test chose.
pub chosen : {A : Type 0} (b : Bool) {x y v : A} {P : Type 0} → ◌≡◌ {A = A} (elim b [ true ↦ x | false ↦ y ]) v → (b ≡ true → x ≡ v → P) → (b ≡ false → y ≡ v → P) → P
chosen true e h k = h refl e
chosen false e h k = k refl e

pub chosen_true : {A : Type 0} (b : Bool) (x y : A) → b ≡ true → ◌≡◌ {A = A} (elim b [ true ↦ x | false ↦ y ]) x
chosen_true b x y e = rw e

pub chosen_false : {A : Type 0} (b : Bool) (x y : A) → b ≡ false → ◌≡◌ {A = A} (elim b [ true ↦ x | false ↦ y ]) y
chosen_false b x y e = rw e

-- A reading that agrees with a relation has at most one value and one rest.
pub at_most_one : {A : Type 0} {read : List ℕ → Front A} {Reads : List ℕ → A → List ℕ → Type 0} → Agree read Reads → AtMostOne Reads
at_most_one agree t v w r s h k =
    let e = sym (agree.complete t v r h) ∙ agree.complete t w s k in (got_value e, got_rest e)

-- What is left behind blanks is no longer, has no blank in front, and stays when blanks are skipped again.
pub skip_le : (t : List ℕ) → length (skip t) ≤ length t
unfolding skip
skip_le [] = omega arith
skip_le (b ∷ t) = go (is_blank b) (skip_le t)
  where
    go : (x : Bool) → length (skip t) ≤ length t → length (elim x as (λ y. List ℕ) [ true ↦ skip t | false ↦ b ∷ t ]) ≤ suc (length t)
    go true h = omega arith
    go false h = omega arith

pub skip_bare : (t : List ℕ) → first_is is_blank (skip t) ≡ false
unfolding skip
skip_bare [] = refl
skip_bare (b ∷ t) = go (is_blank b) refl (skip_bare t)
  where
    go : (x : Bool) → is_blank b ≡ x → first_is is_blank (skip t) ≡ false → first_is is_blank (elim x as (λ y. List ℕ) [ true ↦ skip t | false ↦ b ∷ t ]) ≡ false
    go true e h = h
    go false e h = e

pub skip_none : (t : List ℕ) → first_is is_blank t ≡ false → skip t ≡ t
unfolding skip
skip_none [] e = refl
skip_none (b ∷ t) e = chosen_false (is_blank b) (skip t) (b ∷ t) e

pub skip_some : (t : List ℕ) → first_is is_blank t ≡ true → length (skip t) < length t
unfolding skip
skip_some [] e = absurd (both_ways false refl e)
skip_some (b ∷ t) e = let h = skip_le t in omega (arith, ap length (chosen_true (is_blank b) (skip t) (b ∷ t) e))

-- The word at the front of a text.
pub word_sound : (cs t : List ℕ) (v : Unit {0}) (rest : List ℕ) → word cs t ≡ got v rest → t ≡ cs ++ rest
unfolding word
word_sound [] t v rest e = got_rest e
word_sound (c ∷ cs) [] v rest e = absurd (bad_got e)
word_sound (c ∷ cs) (b ∷ t) v rest e =
    let ih = word_sound cs t v rest in
    chosen (eqb c b) e
    (λ same k. let i = ih k in let s = eqb-true c b same in cc)
    (λ differ k. absurd (bad_got k))

pub word_there : (cs rest : List ℕ) → word cs (cs ++ rest) ≡ got tt rest
unfolding word
word_there [] rest = refl
word_there (c ∷ cs) rest = chosen_true (eqb c c) (word cs (cs ++ rest)) bad (eq-eqb c c refl) ∙ word_there cs rest

pub word_agrees : (cs : List ℕ) → Agree (word cs) (λ t v rest. t ≡ cs ++ rest)
word_agrees cs = record { sound = word_sound cs; complete = λ t v rest e. ap (word cs) e ∙ word_there cs rest }

-- A reading leaves a shorter text.
abbrev pub Shortens : {A : Type 0} → (List ℕ → Front A) → Type 0
Shortens {A} read = (t : List ℕ) (v : A) (rest : List ℕ) → read t ≡ got v rest → length rest < length t

-- Names: as many bytes are taken as may stand in a name.
initial_in_name : (b : ℕ) → is_initial b ≡ true → is_name_byte b ≡ true
initial_in_name b e = or_left (is_initial b) _ e

name_front : (t : List ℕ) → first_is is_initial t ≡ true → prefix_len is_name_byte t ≤ 32 → ReadsName t (take (prefix_len is_name_byte t) t) (drop (prefix_len is_name_byte t) t)
name_front t first short =
    record {
      whole = sym (take-append-drop (prefix_len is_name_byte t) t);
      form = record {
        begins = leading_first is_name_byte is_initial t initial_in_name first;
        bytes = leading_taken is_name_byte all_name_bytes refl (λ b u. refl) t;
        short = rw (length-take-le (prefix_len is_name_byte t) t (prefix_len-le-length is_name_byte t)) short;
      };
      longest = leading_dropped is_name_byte t;
    }

name_sound : (t : List ℕ) (v : Name) (rest : List ℕ) → read_name t ≡ got v rest → ReadsName t v rest
name_sound t v rest e =
    chosen (first_is is_initial t && leb (prefix_len is_name_byte t) 32) e
    (λ test h. let p = and_parts (first_is is_initial t) (leb (prefix_len is_name_byte t) 32) test in subst₂ (ReadsName t) (got_value h) (got_rest h) (name_front t p.0 (leb-true (prefix_len is_name_byte t) 32 p.1)))
    (λ test h. absurd (bad_got h))

first_front : (test : ℕ → Bool) (t rest : List ℕ) → first_is test t ≡ true → first_is test (t ++ rest) ≡ true
first_front test [] rest e = absurd (both_ways false refl e)
first_front test (b ∷ t) rest e = e

name_there : (name rest : List ℕ) → IsName name → first_is is_name_byte rest ≡ false → read_name (name ++ rest) ≡ got name rest
name_there name rest form end =
    let n = prefix_len is_name_byte (name ++ rest) in
    let is : n ≡ length name = leading_all is_name_byte all_name_bytes refl (λ b u. refl) name rest form.bytes end in
    let short = form.short in
    chosen_true (first_is is_initial (name ++ rest) && leb n 32) (got (take n (name ++ rest)) (drop n (name ++ rest))) bad (and_from (first_is is_initial (name ++ rest)) (leb n 32) (first_front is_initial name rest form.begins) (le-leb n 32 (omega arith)))
    ∙ ap₂ got (take_at name rest n (sym is)) (drop_at name rest n (sym is))

pub name_agrees : Agree read_name ReadsName
name_agrees =
    record {
      sound = name_sound;
      complete = λ t v rest h. ap read_name h.whole ∙ name_there v rest h.form h.longest;
    }

pub name_initial : (t : List ℕ) (v : Name) (rest : List ℕ) → ReadsName t v rest → first_is is_initial t ≡ true
name_initial t v rest h = ap (first_is is_initial) h.whole ∙ first_front is_initial v rest h.form.begins

some_byte : (test : ℕ → Bool) (t : List ℕ) → first_is test t ≡ true → 0 < length t
some_byte test [] e = absurd (both_ways false refl e)
some_byte test (b ∷ t) e = omega arith

pub name_shortens : Shortens read_name
name_shortens t v rest e =
    let h = name_sound t v rest e in
    omega (arith, some_byte is_initial v h.form.begins, ap length h.whole, length-append v rest)

-- What a comment holds, from behind its opening on.
abbrev HoldsComment : List ℕ → List ℕ → List ℕ → Type 0
HoldsComment t v rest = (t ≡ v ++ (codes "-->" ++ rest)) × Inside v

closed_from : (x : Front (Unit {0})) (v rest : List ℕ) → closed x ≡ got v rest → (v ≡ []) × (x ≡ got tt rest)
unfolding closed
closed_from bad v rest e = absurd (bad_got e)
closed_from (got u r) v rest e = (sym (got_value e), ap (got tt) (got_rest e))

held_from : (b : ℕ) (x : Front (List ℕ)) (v rest : List ℕ) → held b x ≡ got v rest → (i : List ℕ) × (x ≡ got i rest) × (v ≡ b ∷ i)
unfolding held
held_from b bad v rest e = absurd (bad_got e)
held_from b (got i r) v rest e = (i, ap (got i) (got_rest e), sym (got_value e))

dash_first : (t x : List ℕ) → t ≡ 45 ∷ x → first_is (eqb 45) t ≡ false → ⊥
dash_first t x e h = both_ways false refl (sym h ∙ ap (first_is (eqb 45)) e)

inside_more : (b : ℕ) (t i rest : List ℕ) → (eqb b 45 && first_is (eqb 45) t) ≡ false → is_text_byte b ≡ true → t ≡ i ++ (codes "-->" ++ rest) → Inside i → Inside (b ∷ i)
inside_more b t i rest test text whole inside =
    elim (cases_eq b 45) [
      | inl is ↦ go is (elim (and_cases (eqb b 45) (first_is (eqb 45) t) test) [
        | inl h ↦ absurd (eqb-false b 45 h is)
        | inr h ↦ h
      ]) inside
      | inr differs ↦ plain b i refl differs text inside
    ]
  where
    go : b ≡ 45 → first_is (eqb 45) t ≡ false → Inside i → Inside (b ∷ i)
    go is h (none e) = absurd (dash_first t _ (whole ∙ ap (λ y. y ++ (codes "-->" ++ rest)) e) h)
    go is h (plain c m e ne txt ins) = dash c m (ap₂ ◌∷◌ is e) ne txt ins
    go is h (dash c m e ne txt ins) = absurd (dash_first t _ (whole ∙ ap (λ y. y ++ (codes "-->" ++ rest)) e) h)

held_sound : (b : ℕ) (t v rest : List ℕ) → ((i : List ℕ) → comment_rest t ≡ got i rest → HoldsComment t i rest) → (eqb b 45 && first_is (eqb 45) t) ≡ false → is_text_byte b ≡ true → held b (comment_rest t) ≡ got v rest → HoldsComment (b ∷ t) v rest
held_sound b t v rest ih test text e =
    let (i, read, is) = held_from b (comment_rest t) v rest e in
    let h = ih i read in
    subst (λ y. HoldsComment (b ∷ t) y rest) (sym is) (ap (λ y. b ∷ y) h.0, inside_more b t i rest test text h.0 h.1)

comment_sound : (t v rest : List ℕ) → comment_rest t ≡ got v rest → HoldsComment t v rest
unfolding comment_rest
comment_sound [] v rest e = absurd (bad_got e)
comment_sound (b ∷ t) v rest e =
    let ih = λ (i : List ℕ) (k : comment_rest t ≡ got i rest). comment_sound t i rest k in
    chosen (eqb b 45 && first_is (eqb 45) t) e
    (λ test k. let h = closed_from (word (codes "-->") (b ∷ t)) v rest k in subst (λ y. HoldsComment (b ∷ t) y rest) (sym h.0) (word_sound (codes "-->") (b ∷ t) tt rest h.1, none refl))
    (λ test k. chosen (is_text_byte b) k (λ text l. held_sound b t v rest ih test text l) (λ text l. absurd (bad_got l)))

plain_step : (b : ℕ) (t : List ℕ) → b ≢ 45 → is_text_byte b ≡ true → comment_rest (b ∷ t) ≡ held b (comment_rest t)
unfolding comment_rest
plain_step b t ne text =
    chosen_false (eqb b 45 && first_is (eqb 45) t) _ _ (and_left (eqb b 45) (first_is (eqb 45) t) (ne_eqb b 45 ne))
    ∙ chosen_true (is_text_byte b) _ _ text

dash_step : (t : List ℕ) → first_is (eqb 45) t ≡ false → comment_rest (45 ∷ t) ≡ held 45 (comment_rest t)
unfolding comment_rest
dash_step t e = chosen_false (first_is (eqb 45) t) _ _ e

comment_there : (v rest : List ℕ) → Inside v → comment_rest (v ++ (codes "-->" ++ rest)) ≡ got v rest
unfolding comment_rest closed word held
comment_there v rest (none e) = ap (λ y. comment_rest (y ++ (codes "-->" ++ rest))) e ∙ sym (ap (λ y. got y rest) e)
comment_there v rest (plain b m e ne text ins) =
    ap (λ y. comment_rest (y ++ (codes "-->" ++ rest))) e
    ∙ (plain_step b (m ++ (codes "-->" ++ rest)) ne text ∙ (ap (held b) (comment_there m rest ins) ∙ sym (ap (λ y. got y rest) e)))
comment_there v rest (dash b m e ne text ins) =
    ap (λ y. comment_rest (y ++ (codes "-->" ++ rest))) e
    ∙ (dash_step (b ∷ (m ++ (codes "-->" ++ rest))) (ne_eqb 45 b (λ k. ne (sym k)))
    ∙ (ap (held 45) (plain_step b (m ++ (codes "-->" ++ rest)) ne text)
    ∙ (ap (λ y. held 45 (held b y)) (comment_there m rest ins) ∙ sym (ap (λ y. got y rest) e))))

behind_opening_from : (x : Front (Unit {0})) (v rest : List ℕ) → behind_opening x ≡ got v rest → (mid : List ℕ) × (x ≡ got tt mid) × (comment_rest mid ≡ got v rest)
unfolding behind_opening
behind_opening_from bad v rest e = absurd (bad_got e)
behind_opening_from (got u r) v rest e = (r, refl, e)

pub comment_agrees : Agree read_comment ReadsComment
unfolding behind_opening
comment_agrees =
    record {
      sound = λ t v rest e. (
          let (mid, opening, inside) = behind_opening_from (word (codes "<!--") t) v rest e in
          let h = comment_sound mid v rest inside in
          (word_sound (codes "<!--") t tt mid opening ∙ ap (λ y. codes "<!--" ++ y) h.0, h.1)
          );
      complete = λ t v rest h. ap behind_opening (ap (word (codes "<!--")) h.0 ∙ word_there (codes "<!--") (v ++ (codes "-->" ++ rest))) ∙ comment_there v rest h.1;
    }

pub comment_shortens : Shortens read_comment
comment_shortens t v rest e =
    let h = comment_agrees.sound t v rest e in
    omega (arith, ap length h.0, length-append v (codes "-->" ++ rest))
