-- Names and particles at the front of a text.
use Rattle.std.proofs.Common.{◌≡◌, ℕ, zero, suc, ◌-◌, ◌<◌, Bool, true, false, ◌&&◌, eqb, leb, List, [], ◌∷◌, length, take, drop, Some, Option, sym, refl, ap, ◌∙◌, subst, arith, length-drop}
use Rattle.std.specs.List.{prefix_len}
use Rattle.std.proofs.lemmas.Bool.{eqb-true, false≢true}
use Rattle.models.specs.Expressions.{Exp, atom}
use Rattle.scan.specs.Bytes.{is_initial, is_name_byte, first_is}
use Rattle.scan.specs.Names.{Name, read_name}
use Rattle.scan.specs.Readings.{Front, bad, got, Stands, EndOf}
use Rattle.declarations.specs.Inner.{ExpressionAt, read_unit}
use Rattle.declarations.specs.Readers.{named, marked, with_mark, read_group}
use Rattle.declarations.specs.Writers.{ModelWriter}
use Rattle.scan.proofs.Agreements.{name_shortens}
use Rattle.declarations.proofs.Stages.{comes, brackets_no}

pub end_at : {A : Type 0} (text : List ℕ) (at : ℕ) (front : Front A) (v : A) (rest : List ℕ) (end : ℕ) → front ≡ got v rest → EndOf text at front (Some end) → Stands text at rest end
end_at text at front v rest end e h = subst (λ f. EndOf text at f (Some end)) e h

chosen : {A : Type 0} (x y : Bool) (v w : A) (t rest : List ℕ) → elim (x && y) [ true ↦ got v t | false ↦ bad ] ≡ got w rest → (x ≡ true) × (t ≡ rest)
chosen true true v w t rest e = (refl, cc)
chosen true false v w t rest e = absurd (let wrong : ◌≡◌ {A = ℕ} 0 1 = cc in omega arith)
chosen false y v w t rest e = absurd (let wrong : ◌≡◌ {A = ℕ} 0 1 = cc in omega arith)

-- A name begins with an initial, and is not empty.
pub name_first : (t name rest : List ℕ) → read_name t ≡ got name rest → first_is is_initial t ≡ true
name_first t name rest e =
    (chosen (first_is is_initial t) (leb (prefix_len is_name_byte t) 32) (take (prefix_len is_name_byte t) t) name (drop (prefix_len is_name_byte t) t) rest e).0

pub name_longer : (text : List ℕ) (at : ℕ) (name rest : List ℕ) (end : ℕ) → read_name (drop at text) ≡ got name rest → Stands text at rest end → at < end
name_longer text at name rest end e s =
    let h = name_shortens (drop at text) name rest e in
    let a = length-drop at text in
    let b : length rest ≡ length text - end = ap length (sym s.behind) ∙ length-drop end text in
    omega (arith, s.forward, s.inside)

pub unit_name : (left : ℕ) (t name rest : List ℕ) → read_name t ≡ got name rest → read_unit left t ≡ got (atom name) rest
unfolding named
unit_name left t name rest e =
    ap (λ b. elim b [ true ↦ named (read_name t) | false ↦ read_group left t ]) (name_first t name rest e) ∙ ap named e

no_bracket : (t : List ℕ) → first_is is_initial t ≡ true → comes 40 t ≡ false
no_bracket [] e = refl
no_bracket (b ∷ t) e = by (eqb 40 b) refl
  where
    by : (x : Bool) → eqb 40 b ≡ x → eqb 40 b ≡ false
    by false h = h
    by true h = absurd (false≢true (ap is_initial (eqb-true 40 b h) ∙ e))

no_group : (left : ℕ) (t : List ℕ) → comes 40 t ≡ false → read_group left t ≡ bad
unfolding read_group
no_group zero t h = refl
no_group (suc left) t h = brackets_no (read_group left) t h

pub unit_other : (left : ℕ) (t : List ℕ) → read_name t ≡ bad → read_unit left t ≡ read_group left t
unfolding named
unit_other left t e = by (first_is is_initial t) refl
  where
    by : (x : Bool) → first_is is_initial t ≡ x → elim x [ true ↦ named (read_name t) | false ↦ read_group left t ] ≡ read_group left t
    by true h = ap named e ∙ sym (no_group left t (no_bracket t h))
    by false h = refl

module _ (text : List ℕ) (names : List Name) (at : ℕ) (before : ModelWriter) where
  pub expression_same : (front other : Front (Exp Name)) (r : Option ℕ) (after : ModelWriter) → front ≡ other → ExpressionAt text names at other before r after → ExpressionAt text names at front before r after
  expression_same front other r after e h = subst (λ f. ExpressionAt text names at f before r after) (sym e) h

  pub particle_got : (front : Front (Exp Name)) (e : Exp Name) (rest : List ℕ) (end : ℕ) (after : ModelWriter) → front ≡ got e rest → ExpressionAt text names at (with_mark e rest) before (Some end) after → ExpressionAt text names at (marked front) before (Some end) after
  unfolding marked
  particle_got front e rest end after reads h = expression_same (marked front) (with_mark e rest) (Some end) after (ap marked reads) h

pub particle_bad : (front : Front (Exp Name)) → front ≡ bad → marked front ≡ bad
unfolding marked
particle_bad front e = ap marked e
