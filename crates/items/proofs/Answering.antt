-- Answers about the front of a text, carried from its parts.
use Rattle.std.proofs.Common.{◌≡◌, ℕ, ◌-◌, ◌≤◌, List, take, drop, Some, None, codes, Option, MatchOption, IsSomeAnd, sym, refl, subst, arith}
use Rattle.scan.specs.Bytes.{skip}
use Rattle.scan.specs.Names.{Name, read_name}
use Rattle.scan.specs.Readings.{Front, bad, got, word, EndOf}
use Rattle.items.specs.Places.{ItemOf, said}
use Rattle.items.specs.Readers.{closed_with, first_of, end_named, end_opened, start_named, start_opened, commented}
use Rattle.items.specs.Values.{Value, start_tag, empty_tag, end_tag}
use Rattle.scan.specs.declared.read.Read.{Read}
use Rattle.items.specs.declared.item.Kind.{Kind}
use Rattle.items.specs.declared.item.Kind.TheVariants as kind

-- A place further back does.
pub item_back : (text : List ℕ) (at here : ℕ) (f : Front Value) (r : Option (Read Kind)) → at ≤ here → ItemOf text here f r → ItemOf text at f r
item_back text at here bad None le e = tt
item_back text at here bad (Some item) le e = e
item_back text at here (got v rest) None le e = e
item_back text at here (got v rest) (Some item) le (st, is) =
    let forward : here ≤ item.end = st.forward in
    (record { forward = omega arith; inside = st.inside; behind = st.behind }, is)

-- A kind closed by a word.
pub closed_some : (text : List ℕ) (at e : ℕ) (k : Kind) (f : Front (Unit {0})) → EndOf text at f (Some e) → ItemOf text at (closed_with (said text k) f) (Some (record { value = k; end = e }))
unfolding closed_with
closed_some text at e k bad h = h
closed_some text at e k (got u rest) h = (h, refl)

pub closed_none : (text : List ℕ) (at : ℕ) (v : Value) (f : Front (Unit {0})) → EndOf text at f None → ItemOf text at (closed_with v f) None
unfolding closed_with
closed_none text at v bad h = tt
closed_none text at v (got u rest) h = h

-- The first of two readings answers for both, or the second does.
pub first_some : (text : List ℕ) (at : ℕ) (f g : Front Value) (item : Read Kind) → ItemOf text at f (Some item) → ItemOf text at (first_of f g) (Some item)
unfolding first_of
first_some text at bad g item h = absurd h
first_some text at (got v rest) g item h = h

pub first_none : (text : List ℕ) (at : ℕ) (f g : Front Value) (r : Option (Read Kind)) → ItemOf text at f None → ItemOf text at g r → ItemOf text at (first_of f g) r
unfolding first_of
first_none text at bad g r h k = k
first_none text at (got v rest) g r h k = absurd h

-- A comment says nothing but that it is one.
pub comment_some : (text : List ℕ) (at e : ℕ) (f : Front (List ℕ)) → EndOf text at f (Some e) → ItemOf text at (commented f) (Some (record { value = kind.Comment; end = e }))
unfolding commented
comment_some text at e bad h = h
comment_some text at e (got inside rest) h = (h, refl)

pub comment_none : (text : List ℕ) (at : ℕ) (f : Front (List ℕ)) → EndOf text at f None → ItemOf text at (commented f) None
unfolding commented
comment_none text at bad h = tt
comment_none text at (got inside rest) h = h

-- A tag goes on behind its opening.
pub end_behind : (text : List ℕ) (at start : ℕ) (f : Front (Unit {0})) (r : Option (Read Kind)) → EndOf text at f (Some start) → ItemOf text start (end_named (read_name (drop start text))) r → ItemOf text at (end_opened f) r
unfolding end_opened
end_behind text at start bad r h k = absurd h
end_behind text at start (got u rest) r h k =
    subst (λ t. ItemOf text at (end_named (read_name t)) r) h.behind (item_back text at start (end_named (read_name (drop start text))) r h.forward k)

pub end_unopened : (text : List ℕ) (at : ℕ) (f : Front (Unit {0})) → EndOf text at f None → ItemOf text at (end_opened f) None
unfolding end_opened
end_unopened text at bad h = tt
end_unopened text at (got u rest) h = absurd h

pub start_behind : (text : List ℕ) (at start : ℕ) (f : Front (Unit {0})) (r : Option (Read Kind)) → EndOf text at f (Some start) → ItemOf text start (start_named (read_name (drop start text))) r → ItemOf text at (start_opened f) r
unfolding start_opened
start_behind text at start bad r h k = absurd h
start_behind text at start (got u rest) r h k =
    subst (λ t. ItemOf text at (start_named (read_name t)) r) h.behind (item_back text at start (start_named (read_name (drop start text))) r h.forward k)

pub start_unopened : (text : List ℕ) (at : ℕ) (f : Front (Unit {0})) → EndOf text at f None → ItemOf text at (start_opened f) None
unfolding start_opened
start_unopened text at bad h = tt
start_unopened text at (got u rest) h = absurd h

-- A tag goes on behind its name and the blanks there.
pub end_closed : (text : List ℕ) (start e here : ℕ) (f : Front Name) (r : Option (Read Kind)) → f ≡ got (take (e - start) (drop start text)) (drop e text) → drop here text ≡ skip (drop e text) → start ≤ here → ItemOf text here (closed_with (end_tag (take (e - start) (drop start text))) (word (codes ">") (drop here text))) r → ItemOf text start (end_named f) r
unfolding end_named
end_closed text start e here f r is skipped le h =
    subst (λ g. ItemOf text start (end_named g) r) (sym is)
    (subst (λ t. ItemOf text start (closed_with (end_tag (take (e - start) (drop start text))) (word (codes ">") t)) r) skipped (item_back text start here _ r le h))

pub end_unnamed : (text : List ℕ) (start : ℕ) (f : Front Name) → EndOf text start f None → ItemOf text start (end_named f) None
unfolding end_named
end_unnamed text start bad h = tt
end_unnamed text start (got name t) h = absurd h

pub start_closed : (text : List ℕ) (start e here : ℕ) (f : Front Name) (r : Option (Read Kind)) → f ≡ got (take (e - start) (drop start text)) (drop e text) → drop here text ≡ skip (drop e text) → start ≤ here → ItemOf text here (first_of (closed_with (start_tag (take (e - start) (drop start text))) (word (codes ">") (drop here text))) (closed_with (empty_tag (take (e - start) (drop start text))) (word (codes "/>") (drop here text)))) r → ItemOf text start (start_named f) r
unfolding start_named
start_closed text start e here f r is skipped le h =
    subst (λ g. ItemOf text start (start_named g) r) (sym is)
    (subst (λ t. ItemOf text start (first_of (closed_with (start_tag (take (e - start) (drop start text))) (word (codes ">") t)) (closed_with (empty_tag (take (e - start) (drop start text))) (word (codes "/>") t))) r) skipped (item_back text start here _ r le h))

pub start_unnamed : (text : List ℕ) (start : ℕ) (f : Front Name) → EndOf text start f None → ItemOf text start (start_named f) None
unfolding start_named
start_unnamed text start bad h = tt
start_unnamed text start (got name t) h = absurd h

pub comment_ended : (text : List ℕ) (at : ℕ) (f : Front (List ℕ)) (e : Option ℕ) (r : Option (Read Kind)) → EndOf text at f e → MatchOption e (r ≡ None) (λ i. IsSomeAnd r (λ it. it ≡ record { value = kind.Comment; end = i })) → ItemOf text at (commented f) r
comment_ended text at f None r h m = subst (ItemOf text at (commented f)) (sym m) (comment_none text at f h)
comment_ended text at f (Some i) None h m = absurd m
comment_ended text at f (Some i) (Some it) h m =
    let same : it ≡ record { value = kind.Comment; end = i } = m in
    subst (λ r. ItemOf text at (commented f) (Some r)) (sym same) (comment_some text at i f h)

-- The end of a word or a comment made an item.
pub closed_end : (text : List ℕ) (at : ℕ) (k : Kind) (f : Front (Unit {0})) (e : Option ℕ) (r : Option (Read Kind)) → EndOf text at f e → MatchOption e (r ≡ None) (λ i. IsSomeAnd r (λ it. it ≡ record { value = k; end = i })) → ItemOf text at (closed_with (said text k) f) r
closed_end text at k f None r h m = subst (ItemOf text at (closed_with (said text k) f)) (sym m) (closed_none text at (said text k) f h)
closed_end text at k f (Some i) None h m = absurd m
closed_end text at k f (Some i) (Some it) h m =
    let same : it ≡ record { value = k; end = i } = m in
    subst (λ r. ItemOf text at (closed_with (said text k) f) (Some r)) (sym same) (closed_some text at i k f h)

-- The first of two readings answers, or else the second.
pub first_answer : (text : List ℕ) (at : ℕ) (f g : Front Value) (o r : Option (Read Kind)) → ItemOf text at f o → MatchOption o (ItemOf text at g r) (λ item. r ≡ Some item) → ItemOf text at (first_of f g) r
first_answer text at f g None r h k = first_none text at f g r h k
first_answer text at f g (Some item) r h k = subst (ItemOf text at (first_of f g)) (sym k) (first_some text at f g item h)

-- Readings are tried in order, however they are grouped.
first_grouped : (f g h : Front Value) → first_of (first_of f g) h ≡ first_of f (first_of g h)
unfolding first_of
first_grouped bad g h = refl
first_grouped (got v rest) g h = refl

pub first_regrouped : (text : List ℕ) (at : ℕ) (f g h : Front Value) (r : Option (Read Kind)) → ItemOf text at (first_of (first_of f g) h) r → ItemOf text at (first_of f (first_of g h)) r
first_regrouped text at f g h r k = subst (λ x. ItemOf text at x r) (first_grouped f g h) k

-- A reading ends no earlier than it begins.
pub end_forward : {A : Type 0} (text : List ℕ) (at e : ℕ) (f : Front A) → EndOf text at f (Some e) → at ≤ e
end_forward text at e bad h = absurd h
end_forward text at e (got v rest) h = h.forward
