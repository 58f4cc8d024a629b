-- The items of a text: a turn is one item, it is over at the end of the text, and it is stuck where no item stands.
use Rattle.std.proofs.Common.{◌≡◌, ℕ, ◌+◌, ◌-◌, ◌<◌, true, false, ◌≢◌, List, [], ◌∷◌, ◌++◌, length, codes, sym, refl, ap, ◌∙◌, subst, inl, inr, arith}
use Rattle.std.proofs.lemmas.Bool.{both_ways}
use Rattle.scan.specs.Bytes.{is_blank, first_is, skip}
use Rattle.scan.specs.Comments.{behind_opening, read_comment}
use Rattle.scan.specs.Readings.{Front, bad, got, word, Turn, over, stuck, next}
use Rattle.scan.proofs.Agreements.{chosen, chosen_true, skip_some, comment_agrees, comment_shortens}
use Rattle.scan.proofs.Repeating.{Steps, over_next, stuck_next, stuck_over}
use Rattle.declarations.specs.Contents.{Declaration}
use Rattle.declarations.specs.Grammar.{State, moved, Item}
use Rattle.declarations.specs.Readers.{read_declaration, declared_at, commented_or, item}
use Rattle.declarations.proofs.DeclarationGrammar.{declaration_agrees, declaration_shortens}

next_state : {s s' : State} {t t' : List ℕ} → ◌≡◌ {A = Turn State} (next s t) (next s' t') → s ≡ s'
next_state e = cc

next_text : {s s' : State} {t t' : List ℕ} → ◌≡◌ {A = Turn State} (next s t) (next s' t') → t ≡ t'
next_text e = cc

declared_from : (s : State) (text : List ℕ) (x : Front Declaration) (s' : State) (t : List ℕ) → declared_at s text x ≡ next s' t → (d : Declaration) × (x ≡ got d t) × (s' ≡ moved s text t (record { place = s.place; declaration = d } ∷ []))
unfolding declared_at
declared_from s text bad s' t h = absurd (stuck_next h)
declared_from s text (got d rest) s' t h =
    (d, ap (got d) (next_text h), sym (next_state h) ∙ ap (λ y. moved s text y (record { place = s.place; declaration = d } ∷ [])) (next_text h))

commented_sound : (s : State) (text : List ℕ) (x : Front (List ℕ)) (s' : State) (t : List ℕ) → read_comment text ≡ x → commented_or s text x ≡ next s' t → Item s text s' t
unfolding commented_or
commented_sound s text bad s' t is h =
    let (d, r, j) = declared_from s text (read_declaration text) s' t h in
    inr (inr (d, declaration_agrees.sound text d t r, j))
commented_sound s text (got inside rest) s' t is h =
    inr (inl (inside, comment_agrees.sound text inside t (is ∙ ap (got inside) (next_text h)), sym (next_state h) ∙ ap (λ y. moved s text y []) (next_text h)))

item_sound : (s s' : State) (t t' : List ℕ) → item s t ≡ next s' t' → Item s t s' t'
unfolding item
item_sound s s' [] t' h = absurd (over_next h)
item_sound s s' (b ∷ t) t' h =
    chosen (is_blank b) h
    (λ blank k. inl ((blank, next_text k), sym (next_state k) ∙ ap (λ y. moved s (b ∷ t) y []) (next_text k)))
    (λ blank k. commented_sound s (b ∷ t) (read_comment (b ∷ t)) s' t' refl k)

blanks_there : (s : State) (t : List ℕ) → first_is is_blank t ≡ true → item s t ≡ next (moved s t (skip t) []) (skip t)
unfolding item
blanks_there s [] e = absurd (both_ways false refl e)
blanks_there s (b ∷ t) e = chosen_true (is_blank b) _ _ e

at_angle : (s : State) (text t : List ℕ) → text ≡ 60 ∷ t → item s text ≡ commented_or s text (read_comment text)
unfolding item
at_angle s text t e = subst (λ y. item s y ≡ commented_or s y (read_comment y)) (sym e) refl

no_comment : (t : List ℕ) → read_comment (codes "<!ELEMENT" ++ t) ≡ bad
unfolding word behind_opening
no_comment t = refl

item_complete : (s s' : State) (t t' : List ℕ) → Item s t s' t' → item s t ≡ next s' t'
unfolding commented_or declared_at
item_complete s s' t t' (inl ((blank, skipped), j)) =
    blanks_there s t blank ∙ (ap (λ y. next (moved s t y []) y) skipped ∙ ap (λ y. next y t') (sym j))
item_complete s s' t t' (inr (inl (inside, comment, j))) =
    at_angle s t _ comment.0
    ∙ (ap (commented_or s t) (comment_agrees.complete t inside t' comment) ∙ ap (λ y. next y t') (sym j))
item_complete s s' t t' (inr (inr (d, decl, j))) =
    at_angle s t _ decl.opening
    ∙ (ap (commented_or s t) (ap read_comment decl.opening ∙ no_comment decl.after_word)
    ∙ (ap (declared_at s t) (declaration_agrees.complete t d t' decl) ∙ ap (λ y. next y t') (sym j)))

item_shortens : (s s' : State) (t t' : List ℕ) → Item s t s' t' → length t' < length t
item_shortens s s' t t' (inl ((blank, skipped), j)) = omega (arith, skip_some t blank, ap length skipped)
item_shortens s s' t t' (inr (inl (inside, comment, j))) =
    comment_shortens t inside t' (comment_agrees.complete t inside t' comment)
item_shortens s s' t t' (inr (inr (d, decl, j))) = declaration_shortens t d t' decl

-- The place moves by the bytes that were read.
pub item_place : (s s' : State) (t t' : List ℕ) → Item s t s' t' → s'.place + length t' ≡ s.place + length t
item_place s s' t t' h = let less = item_shortens s s' t t' h in omega (arith, moves h)
  where
    moves : Item s t s' t' → s'.place ≡ s.place + (length t - length t')
    moves (inl (blanks, j)) = ap (λ (x : State). x.place) j
    moves (inr (inl (inside, comment, j))) = ap (λ (x : State). x.place) j
    moves (inr (inr (d, decl, j))) = ap (λ (x : State). x.place) j

-- A turn is one item.
pub item_steps : Steps item Item
item_steps =
    record {
      sound = item_sound;
      complete = item_complete;
      shrinks = λ s s' t t' h. item_shortens s s' t t' (item_sound s s' t t' h);
    }

declared_over : (s : State) (text : List ℕ) (x : Front Declaration) → declared_at s text x ≡ over → ⊥
unfolding declared_at
declared_over s text bad h = stuck_over h
declared_over s text (got d rest) h = over_next (sym h)

commented_over : (s : State) (text : List ℕ) (x : Front (List ℕ)) → commented_or s text x ≡ over → ⊥
unfolding commented_or
commented_over s text bad h = declared_over s text (read_declaration text) h
commented_over s text (got inside rest) h = over_next (sym h)

-- A turn is over exactly at the end of the text.
pub item_over : (s : State) (t : List ℕ) → item s t ≡ over → t ≡ []
unfolding item
item_over s [] h = refl
item_over s (b ∷ t) h =
    absurd (chosen (is_blank b) h (λ blank k. over_next (sym k)) (λ blank k. commented_over s (b ∷ t) (read_comment (b ∷ t)) k))

pub item_ended : (s : State) → item s [] ≡ over
unfolding item
item_ended s = refl

-- A turn is stuck exactly where text is left and no item stands.
abbrev pub NoItem : State → List ℕ → Type 0
NoItem s t = (t ≢ []) × ((after : State) (further : List ℕ) → Item s t after further → ⊥)

pub stuck_no_item : (s : State) (t : List ℕ) → item s t ≡ stuck → NoItem s t
stuck_no_item s t h = (
  λ e. stuck_over (sym h ∙ (ap (item s) e ∙ item_ended s)),
  λ after further i. stuck_next (sym h ∙ item_complete s after t further i),
)

pub no_item_stuck : (s : State) (t : List ℕ) → NoItem s t → item s t ≡ stuck
no_item_stuck s t none = go (item s t) refl
  where
    go : (x : Turn State) → item s t ≡ x → x ≡ stuck
    go over h = absurd (none.0 (item_over s t h))
    go stuck h = refl
    go (next s' t') h = absurd (none.1 s' t' (item_sound s s' t t' h))
