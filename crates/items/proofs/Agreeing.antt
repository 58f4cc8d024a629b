-- Items: the reading that is worked out says what the grammar says, and a turn of the whole text is one item.
use Rattle.std.proofs.Common.{◌≡◌, ℕ, ◌<◌, false, eqb, ◌≢◌, List, [], ◌∷◌, length, codes, sym, refl, ap, ◌∙◌, subst, inl, inr, arith}
use Rattle.std.proofs.lemmas.Bool.{or_parts}
use Rattle.scan.specs.Bytes.{first_is}
use Rattle.scan.specs.Readings.{Front, bad, got, Agree, AtMostOne, Turn, over, stuck, next}
use Rattle.scan.proofs.Agreements.{chosen, chosen_false, at_most_one}
use Rattle.scan.proofs.Repeating.{Steps, over_next, stuck_next, stuck_over}
use Rattle.items.specs.Grammar.{is_markup, ReadsItem, State, moved, OneItem}
use Rattle.items.specs.Readers.{chars_from, as_chars, read_markup, read_reference, read_item, item_next, item_turn}
use Rattle.items.specs.Values.{Value, start_tag, empty_tag, end_tag, comment, reference, chars}
use Rattle.items.proofs.Tagging.{markup_sound, start_complete, empty_complete, end_complete, comment_complete, reference_sound, reference_complete, tag_shortens, comment_shorter, reference_shortens}
use Rattle.items.proofs.Texts.{text_sound, text_complete, text_unmarked, text_shortens}

item_sound : (t : List ℕ) (v : Value) (rest : List ℕ) → read_item t ≡ got v rest → ReadsItem t v rest
item_sound t v rest h =
    chosen (first_is (eqb 60) t) h
    (λ is k. markup_sound t v rest k)
    (λ is k. chosen (first_is (eqb 38) t) k
    (λ ref l. reference_sound t v rest l)
    (λ ref l. let (bytes, run, e) = text_sound t v rest l in subst (λ w. ReadsItem t w rest) e run))

at_markup : (t u : List ℕ) → t ≡ 60 ∷ u → read_item t ≡ read_markup t
at_markup t u e = subst (λ y. read_item y ≡ read_markup y) (sym e) refl

at_reference : (t u : List ℕ) → t ≡ 38 ∷ u → read_item t ≡ read_reference t
at_reference t u e = subst (λ y. read_item y ≡ read_reference y) (sym e) refl

at_text : (t : List ℕ) → first_is is_markup t ≡ false → read_item t ≡ as_chars (chars_from t)
at_text [] e = refl
at_text (b ∷ t) e =
    let parts = or_parts (eqb 60 b) (eqb 38 b) e in chosen_false (eqb 60 b) _ _ parts.0 ∙ chosen_false (eqb 38 b) _ _ parts.1

item_complete : (t : List ℕ) (v : Value) (rest : List ℕ) → ReadsItem t v rest → read_item t ≡ got v rest
item_complete t (start_tag name) rest h = at_markup t _ h.opened ∙ start_complete t name rest h
item_complete t (empty_tag name) rest h = at_markup t _ h.opened ∙ empty_complete t name rest h
item_complete t (end_tag name) rest h = at_markup t _ h.opened ∙ end_complete t name rest h
item_complete t comment rest (inside, h) = at_markup t _ h.0 ∙ comment_complete t inside rest h
item_complete t (reference b) rest h = at_ref h ∙ reference_complete t b rest h
  where
    at_ref : ReadsItem t (reference b) rest → read_item t ≡ read_reference t
    at_ref (inl (e, is)) = at_reference t _ e
    at_ref (inr (inl (e, is))) = at_reference t _ e
    at_ref (inr (inr (inl (e, is)))) = at_reference t _ e
    at_ref (inr (inr (inr (inl (e, is))))) = at_reference t _ e
    at_ref (inr (inr (inr (inr (e, is))))) = at_reference t _ e
item_complete t (chars bytes) rest h = at_text t (text_unmarked t bytes rest h) ∙ text_complete t bytes rest h

-- An item is read exactly as the grammar says, and at most one stands at the front of a text.
pub item_agrees : Agree read_item ReadsItem
item_agrees = record { sound = item_sound; complete = item_complete }

pub one_item : AtMostOne ReadsItem
one_item = at_most_one item_agrees

pub item_shortens : (t : List ℕ) (v : Value) (rest : List ℕ) → ReadsItem t v rest → length rest < length t
item_shortens t (start_tag name) rest h = tag_shortens (codes "<") (codes ">") t name rest h
item_shortens t (empty_tag name) rest h = tag_shortens (codes "<") (codes "/>") t name rest h
item_shortens t (end_tag name) rest h = tag_shortens (codes "</") (codes ">") t name rest h
item_shortens t comment rest (inside, h) = comment_shorter t inside rest h
item_shortens t (reference b) rest h = reference_shortens t b rest h
item_shortens t (chars bytes) rest h = text_shortens t bytes rest h

next_state : {s s' : State} {t t' : List ℕ} → ◌≡◌ {A = Turn State} (next s t) (next s' t') → s ≡ s'
next_state e = cc

next_text : {s s' : State} {t t' : List ℕ} → ◌≡◌ {A = Turn State} (next s t) (next s' t') → t ≡ t'
next_text e = cc

next_from : (s : State) (text : List ℕ) (x : Front Value) (s' : State) (t : List ℕ) → item_next s text x ≡ next s' t → (v : Value) × (x ≡ got v t) × (s' ≡ moved s text t v)
unfolding item_next
next_from s text bad s' t h = absurd (stuck_next h)
next_from s text (got v rest) s' t h =
    (v, ap (got v) (next_text h), sym (next_state h) ∙ ap (λ y. moved s text y v) (next_text h))

turn_sound : (s s' : State) (t t' : List ℕ) → item_turn s t ≡ next s' t' → OneItem s t s' t'
unfolding item_turn
turn_sound s s' [] t' h = absurd (over_next h)
turn_sound s s' (b ∷ t) t' h =
    let (v, e, is) = next_from s (b ∷ t) (read_item (b ∷ t)) s' t' h in (v, item_sound (b ∷ t) v t' e, is)

turn_some : (s : State) (t : List ℕ) → 0 < length t → item_turn s t ≡ item_next s t (read_item t)
unfolding item_turn
turn_some s [] h = absurd (omega arith)
turn_some s (b ∷ t) h = refl

turn_complete : (s s' : State) (t t' : List ℕ) → OneItem s t s' t' → item_turn s t ≡ next s' t'
unfolding item_next
turn_complete s s' t t' (v, h, is) =
    let less : length t' < length t = item_shortens t v t' h in
    turn_some s t (omega arith) ∙ ap (item_next s t) (item_complete t v t' h) ∙ ap (λ y. next y t') (sym is)

-- A turn is one item.
pub item_steps : Steps item_turn OneItem
item_steps =
    record {
      sound = turn_sound;
      complete = turn_complete;
      shrinks = λ s s' t t' h. let (v, i, is) = turn_sound s s' t t' h in item_shortens t v t' i;
    }

next_over : (s : State) (text : List ℕ) (x : Front Value) → item_next s text x ≡ over → ⊥
unfolding item_next
next_over s text bad h = stuck_over h
next_over s text (got v rest) h = over_next (sym h)

-- A turn is over exactly at the end of the text.
pub turn_over : (s : State) (t : List ℕ) → item_turn s t ≡ over → t ≡ []
unfolding item_turn
turn_over s [] h = refl
turn_over s (b ∷ t) h = absurd (next_over s (b ∷ t) (read_item (b ∷ t)) h)

pub turn_ended : (s : State) → item_turn s [] ≡ over
unfolding item_turn
turn_ended s = refl

-- A turn is stuck exactly where text is left and no item stands.
abbrev pub NoItem : State → List ℕ → Type 0
NoItem s t = (t ≢ []) × ((after : State) (further : List ℕ) → OneItem s t after further → ⊥)

pub stuck_no_item : (s : State) (t : List ℕ) → item_turn s t ≡ stuck → NoItem s t
stuck_no_item s t h = (
  λ e. stuck_over (sym h ∙ (ap (item_turn s) e ∙ turn_ended s)),
  λ after further i. stuck_next (sym h ∙ turn_complete s after t further i),
)

pub no_item_stuck : (s : State) (t : List ℕ) → NoItem s t → item_turn s t ≡ stuck
no_item_stuck s t none = go (item_turn s t) refl
  where
    go : (x : Turn State) → item_turn s t ≡ x → x ≡ stuck
    go over h = absurd (none.0 (turn_over s t h))
    go stuck h = refl
    go (next s' t') h = absurd (none.1 s' t' (turn_sound s s' t t' h))
