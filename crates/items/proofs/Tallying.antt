-- Counting the items of a text, one by one.
use Rattle.std.proofs.Common.{◌≡◌, ℕ, ◌+◌, ◌-◌, ◌<◌, ◌≤◌, List, [], ◌∷◌, ◌++◌, length, drop, Some, None, Ok, Err, sym, refl, ap, ◌∙◌, subst, arith, length-drop}
use Rattle.std.proofs.lemmas.List.{drop_all, length-append}
use Rattle.scan.specs.Readings.{Front, bad, got, Repeats, none, more}
use Rattle.scan.proofs.Agreements.{bad_got}
use Rattle.items.specs.Grammar.{ReadsItem, State, moved, OneItem, beginning}
use Rattle.items.specs.Places.{ItemOf, Counted}
use Rattle.items.specs.Readers.{read_item}
use Rattle.items.specs.Values.{Value}
use Rattle.items.specs.declared.item.Kind.{Kind}
use Rattle.scan.specs.declared.read.Read.{Read}
use Rattle.items.proofs.Agreeing.{item_agrees, item_shortens}

-- One step more at the end.
repeats_push : {S : Type 0} (Step : S → List ℕ → S → List ℕ → Type 0) (s s' s'' : S) (t t' t'' : List ℕ) → Repeats Step s t s' t' → Step s' t' s'' t'' → Repeats Step s t s'' t''
repeats_push Step s s' s'' t t' t'' (none e d) step =
    more s'' t'' (subst (λ y. Step s y s'' t'') (sym d) (subst (λ y. Step y t' s'' t'') (sym e) step)) (none refl refl)
repeats_push Step s s' s'' t t' t'' (more u v first rest) step = more u v first (repeats_push Step u s' s'' v t' t'' rest step)

-- What is known before each item.
pub record Tallied (text : List ℕ) (at count : ℕ) : Type 0 where
  pub state : State
  pub so_far : Repeats OneItem beginning text state (drop at text)
  pub place : state.place ≡ at
  pub number : length state.found ≡ count
  pub few : count ≤ at
  pub inside : at ≤ length text

module _ (text : List ℕ) where
  pub tallied_start : Tallied text 0 0
  tallied_start = record { state = beginning; so_far = none refl refl; place = refl; number = refl; few = omega arith; inside = omega arith }

  pub tallied_more : (at count : ℕ) (item : Read Kind) → Tallied text at count → ItemOf text at (read_item (drop at text)) (Some item) → (at < item.end) × Tallied text item.end (count + 1)
  tallied_more at count item t h = by (read_item (drop at text)) refl h
    where
      by : (f : Front Value) → read_item (drop at text) ≡ f → ItemOf text at f (Some item) → (at < item.end) × Tallied text item.end (count + 1)
      by bad is k = absurd k
      by (got v rest) is (st, said) =
          let read : ReadsItem (drop at text) v rest = item_agrees.sound (drop at text) v rest is in
          let less : length rest < length (drop at text) = item_shortens (drop at text) v rest read in
          let size : length (drop at text) ≡ length text - at = length-drop at text in
          let left : length rest ≡ length text - item.end = ap length (sym st.behind) ∙ length-drop item.end text in
          let there : item.end ≤ length text = st.inside in
          let at_is : t.state.place ≡ at = t.place in
          let number : length t.state.found ≡ count = t.number in
          let few : count ≤ at = t.few in
          let inside : at ≤ length text = t.inside in
          let after : State = moved t.state (drop at text) rest v in
          let further : at < item.end = omega arith in
          let placed : t.state.place + (length (drop at text) - length rest) ≡ item.end = omega arith in
          let longer : length (t.state.found ++ (record { place = t.state.place; value = v } ∷ [])) ≡ count + 1 = length-append t.state.found (record { place = t.state.place; value = v } ∷ []) ∙ ap (λ n. n + 1) number in (
            further,
            record {
              state = moved t.state (drop at text) rest v;
              so_far = subst (Repeats OneItem beginning text (moved t.state (drop at text) rest v)) (sym st.behind) (repeats_push OneItem beginning t.state (moved t.state (drop at text) rest v) text (drop at text) rest t.so_far (v, read, refl));
              place = placed;
              number = longer;
              few = omega arith;
              inside = there;
            },
          )

  pub tallied_none : (at count : ℕ) → Tallied text at count → at < length text → ItemOf text at (read_item (drop at text)) None → Counted text (Err at)
  tallied_none at count t lt h = by (read_item (drop at text)) refl h
    where
      by : (f : Front Value) → read_item (drop at text) ≡ f → ItemOf text at f None → Counted text (Err at)
      by bad is k = (
        t.state,
        drop at text,
        t.so_far,
        t.place,
        λ e. (let size : length (drop at text) ≡ length text - at = length-drop at text in omega (arith, ap length e)),
        λ after further (v, read, moves). bad_got (sym is ∙ item_agrees.complete (drop at text) v further read),
      )
      by (got v rest) is k = absurd k

  pub tallied_all : (at count : ℕ) → Tallied text at count → length text ≤ at → Counted text (Ok count)
  tallied_all at count t le =
      (t.state.found, (t.state, subst (Repeats OneItem beginning text t.state) (drop_all at text le) t.so_far, refl), t.number)
