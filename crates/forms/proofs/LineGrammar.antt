-- Lines: a turn is one line, it is over at the end of the text, and it is stuck where no line stands.
use Rattle.std.proofs.Common.{◌≡◌, ℕ, ◌+◌, ◌<◌, ◌≢◌, List, [], ◌∷◌, length, codes, sym, refl, ap, ◌∙◌, subst, arith}
use Rattle.scan.specs.Names.{read_name}
use Rattle.scan.specs.Readings.{Front, bad, got, word, Agree, Turn, over, stuck, next}
use Rattle.scan.proofs.Agreements.{got_value, got_rest, staged, word_sound, name_agrees, name_shortens}
use Rattle.scan.proofs.Repeating.{Steps, over_next, stuck_next, stuck_over}
use Rattle.forms.specs.Grammar.{Form, deepest, Line, State, moved, OneLine}
use Rattle.forms.specs.Readers.{read_expression, shut_line, with_shape, behind_name, with_name, behind_bracket, read_line, one_more, line}
use Rattle.forms.proofs.ExpressionGrammar.{expression_agrees, expression_shortens}

shut_from : (form : Form) (end : List ℕ) (v : Form) (rest : List ℕ) → shut_line form (word (93 ∷ (10 ∷ [])) end) ≡ got v rest → (end ≡ 93 ∷ (10 ∷ rest)) × (form ≡ v)
unfolding shut_line
shut_from form end v rest h =
    let (u, mid, closed, k) = staged (shut_line form) refl (word (93 ∷ (10 ∷ [])) end) v rest h in
    (word_sound (93 ∷ (10 ∷ [])) end u mid closed ∙ ap (λ y. 93 ∷ (10 ∷ y)) (got_rest k), got_value k)

form_sound : (t : List ℕ) (form : Form) (rest : List ℕ) → read_line t ≡ got form rest → Line t form rest
unfolding behind_bracket with_name behind_name with_shape
form_sound t form rest h =
    let (u, before_name, opened, h₁) = staged behind_bracket refl (word (codes "[") t) form rest h in
    let (name, after_name, named, h₂) = staged with_name refl (read_name before_name) form rest h₁ in
    let (v, before_shape, space, h₃) = staged (behind_name name) refl (word (codes " ") after_name) form rest h₂ in
    let (e, after_shape, shaped, h₄) = staged (with_shape name) refl (read_expression deepest before_shape) form rest h₃ in
    let (closed, is) = shut_from (record { name = name; shape = e }) after_shape form rest h₄ in
    subst (λ y. Line t y rest) is (
    record {
      before_name = before_name;
      after_name = after_name;
      before_shape = before_shape;
      after_shape = after_shape;
      opened = word_sound (codes "[") t u before_name opened;
      name = name_agrees.sound before_name name after_name named;
      space = word_sound (codes " ") after_name v before_shape space;
      shape = (expression_agrees deepest).sound before_shape e after_shape shaped;
      closed = closed;
    }
    )

form_complete : (t : List ℕ) (form : Form) (rest : List ℕ) → Line t form rest → read_line t ≡ got form rest
unfolding word behind_bracket with_name behind_name with_shape shut_line
form_complete t form rest h =
    ap read_line h.opened
    ∙ (ap with_name (name_agrees.complete h.before_name form.name h.after_name h.name)
    ∙ (ap (λ y. behind_name form.name (word (codes " ") y)) h.space
    ∙ (ap (with_shape form.name) ((expression_agrees deepest).complete h.before_shape form.shape h.after_shape h.shape)
    ∙ ap (λ y. shut_line form (word (93 ∷ (10 ∷ [])) y)) h.closed)))

-- A line is read as the grammar says.
pub form_agrees : Agree read_line Line
form_agrees = record { sound = form_sound; complete = form_complete }

pub form_shortens : (t : List ℕ) (form : Form) (rest : List ℕ) → Line t form rest → length rest < length t
form_shortens t form rest h =
    omega (arith, ap length h.opened, name_shortens h.before_name form.name h.after_name (name_agrees.complete h.before_name form.name h.after_name h.name), ap length h.space, expression_shortens deepest h.before_shape form.shape h.after_shape ((expression_agrees deepest).complete h.before_shape form.shape h.after_shape h.shape), ap length h.closed)

one_more_from : (s : State) (text : List ℕ) (x : Front Form) (s' : State) (t : List ℕ) → one_more s text x ≡ next s' t → (form : Form) × (x ≡ got form t) × (s' ≡ moved s text t form)
unfolding one_more
one_more_from s text bad s' t h = absurd (stuck_next h)
one_more_from s text (got form rest) s' t h =
    let same : rest ≡ t = cc in
    let is : moved s text rest form ≡ s' = cc in
    (form, ap (got form) same, sym is ∙ ap (λ y. moved s text y form) same)

line_sound : (s s' : State) (t t' : List ℕ) → line s t ≡ next s' t' → OneLine s t s' t'
unfolding line
line_sound s s' [] t' h = absurd (over_next h)
line_sound s s' (b ∷ t) t' h =
    let (form, r, is) = one_more_from s (b ∷ t) (read_line (b ∷ t)) s' t' h in
    (form, form_agrees.sound (b ∷ t) form t' r, is)

at_bracket : (s : State) (text t : List ℕ) → text ≡ 91 ∷ t → line s text ≡ one_more s text (read_line text)
unfolding line
at_bracket s text t e = subst (λ y. line s y ≡ one_more s y (read_line y)) (sym e) refl

line_complete : (s s' : State) (t t' : List ℕ) → OneLine s t s' t' → line s t ≡ next s' t'
unfolding one_more
line_complete s s' t t' (form, h, is) =
    at_bracket s t h.before_name h.opened
    ∙ (ap (one_more s t) (form_agrees.complete t form t' h) ∙ ap (λ y. next y t') (sym is))

line_shortens : (s s' : State) (t t' : List ℕ) → OneLine s t s' t' → length t' < length t
line_shortens s s' t t' (form, h, is) = form_shortens t form t' h

-- The place moves by the bytes that were read.
pub line_place : (s s' : State) (t t' : List ℕ) → OneLine s t s' t' → s'.place + length t' ≡ s.place + length t
line_place s s' t t' (form, h, is) = omega (arith, form_shortens t form t' h, ap (λ (x : State). x.place) is)

-- A turn is one line.
pub line_steps : Steps line OneLine
line_steps =
    record {
      sound = line_sound;
      complete = line_complete;
      shrinks = λ s s' t t' h. line_shortens s s' t t' (line_sound s s' t t' h);
    }

one_more_over : (s : State) (text : List ℕ) (x : Front Form) → one_more s text x ≡ over → ⊥
unfolding one_more
one_more_over s text bad h = stuck_over h
one_more_over s text (got form rest) h = over_next (sym h)

-- A turn is over exactly at the end of the text.
pub line_over : (s : State) (t : List ℕ) → line s t ≡ over → t ≡ []
unfolding line
line_over s [] h = refl
line_over s (b ∷ t) h = absurd (one_more_over s (b ∷ t) (read_line (b ∷ t)) h)

pub line_ended : (s : State) → line s [] ≡ over
unfolding line
line_ended s = refl

-- A turn is stuck exactly where text is left and no line stands.
abbrev pub NoLine : State → List ℕ → Type 0
NoLine s t = (t ≢ []) × ((after : State) (further : List ℕ) → OneLine s t after further → ⊥)

pub stuck_no_line : (s : State) (t : List ℕ) → line s t ≡ stuck → NoLine s t
stuck_no_line s t h = (
  λ e. stuck_over (sym h ∙ (ap (line s) e ∙ line_ended s)),
  λ after further l. stuck_next (sym h ∙ line_complete s after t further l),
)

pub no_line_stuck : (s : State) (t : List ℕ) → NoLine s t → line s t ≡ stuck
no_line_stuck s t none = go (line s t) refl
  where
    go : (x : Turn State) → line s t ≡ x → x ≡ stuck
    go over h = absurd (none.0 (line_over s t h))
    go stuck h = refl
    go (next s' t') h = absurd (none.1 s' t' (line_sound s s' t t' h))
