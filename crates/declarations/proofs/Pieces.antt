-- The item at a place.
use Rattle.std.proofs.Common.{◌≡◌, ℕ, ◌-◌, ◌<◌, ◌≤◌, true, false, List, [], ◌∷◌, length, drop, Some, None, Option, sym, ap, ◌∙◌, subst, arith, length-drop}
use Rattle.std.specs.Option.{MatchOption}
use Rattle.std.proofs.lemmas.List.{drop_all}
use Rattle.std.proofs.lemmas.Bool.{false≢true}
use Rattle.scan.specs.Bytes.{is_blank, first_is, skip}
use Rattle.scan.specs.Comments.{read_comment}
use Rattle.scan.specs.Names.{Name}
use Rattle.scan.specs.Readings.{over, next, Stands, EndOf}
use Rattle.declarations.specs.Answers.{DeclaredAt, PieceAt}
use Rattle.declarations.specs.Grammar.{State, moved}
use Rattle.declarations.specs.Readers.{read_declaration, declared_at, commented_or, item}
use Rattle.declarations.specs.declared.declared.Declared.{Declared}
use Rattle.declarations.specs.declared.declared.Piece.{Piece}
use Rattle.declarations.specs.declared.declared.Piece.TheVariants as piece
use Rattle.scan.proofs.Ends.{end_got, end_bad}
use Rattle.scan.proofs.Agreements.{skip_some, comment_shortens}

-- A shorter rest stands further on.
further : (text : List ℕ) (at : ℕ) (rest : List ℕ) (end : ℕ) → Stands text at rest end → length rest < length (drop at text) → at < end
further text at rest end s less =
    let a = length-drop at text in
    let b : length rest ≡ length text - end = ap length (sym s.behind) ∙ length-drop end text in
    omega (arith, s.forward, s.inside)

item_over : (s : State) (t : List ℕ) → t ≡ [] → item s t ≡ over
unfolding item
item_over s t e = ap (item s) e

item_blank : (s : State) (t : List ℕ) → first_is is_blank t ≡ true → item s t ≡ next (moved s t (skip t) []) (skip t)
unfolding item
item_blank s [] e = absurd (false≢true e)
item_blank s (b ∷ t) e = ap (λ x. elim x [ true ↦ next (moved s (b ∷ t) (skip (b ∷ t)) []) (skip (b ∷ t)) | false ↦ commented_or s (b ∷ t) (read_comment (b ∷ t)) ]) e

item_other : (s : State) (t : List ℕ) → 0 < length t → first_is is_blank t ≡ false → item s t ≡ commented_or s t (read_comment t)
unfolding item
item_other s [] some e = absurd (omega arith)
item_other s (b ∷ t) some e = ap (λ x. elim x [ true ↦ next (moved s (b ∷ t) (skip (b ∷ t)) []) (skip (b ∷ t)) | false ↦ commented_or s (b ∷ t) (read_comment (b ∷ t)) ]) e

module _ (text : List ℕ) (names : List Name) (at : ℕ) where
  pub piece_end : length text ≤ at → PieceAt text names at piece.End
  piece_end h s = item_over s (drop at text) (drop_all at text h)

  pub piece_blanks : (end : ℕ) → first_is is_blank (drop at text) ≡ true → drop end text ≡ skip (drop at text) → at ≤ end → end ≤ length text → PieceAt text names at (piece.Blanks end)
  piece_blanks end blank skipped forward inside =
      let stands : Stands text at (skip (drop at text)) end = record { forward = forward; inside = inside; behind = skipped } in (
        blank,
        record {
          rest = skip (drop at text);
          stands = stands;
          longer = further text at (skip (drop at text)) end stands (skip_some (drop at text) blank);
          turn = λ s. item_blank s (drop at text) blank;
        },
      )

  module _ (inside : at < length text) (black : first_is is_blank (drop at text) ≡ false) where
    some : 0 < length (drop at text)
    some = let a = length-drop at text in omega arith

    pub piece_comment : (end : ℕ) → EndOf text at (read_comment (drop at text)) (Some end) → PieceAt text names at (piece.Comment end)
    unfolding commented_or
    piece_comment end h =
        let q = end_got text at (read_comment (drop at text)) end h in (
          h,
          record {
            rest = q.1;
            stands = q.3;
            longer = further text at q.1 end q.3 (comment_shortens (drop at text) q.0 q.1 q.2);
            turn = λ s. item_other s (drop at text) some black ∙ ap (commented_or s (drop at text)) q.2;
          },
        )

    no_comment : (s : State) → EndOf text at (read_comment (drop at text)) None → item s (drop at text) ≡ declared_at s (drop at text) (read_declaration (drop at text))
    unfolding commented_or
    no_comment s h = item_other s (drop at text) some black ∙ ap (commented_or s (drop at text)) (end_bad text at (read_comment (drop at text)) h)

    pub piece_declaration : (told : Declared) → EndOf text at (read_comment (drop at text)) None → DeclaredAt text names at (Some told) → PieceAt text names at (piece.Declaration told)
    unfolding declared_at
    piece_declaration told h (d, rest, reads, is) =
        (d, rest, reads, is, λ s. no_comment s h ∙ ap (declared_at s (drop at text)) reads)

    pub piece_unread : EndOf text at (read_comment (drop at text)) None → DeclaredAt text names at None → PieceAt text names at piece.Unread
    unfolding declared_at
    piece_unread h none s = no_comment s h ∙ ap (declared_at s (drop at text)) none

    pub piece_told : (told : Option Declared) (p : Piece) → EndOf text at (read_comment (drop at text)) None → DeclaredAt text names at told → MatchOption told (p ≡ piece.Unread) (λ it. p ≡ piece.Declaration it) → PieceAt text names at p
    piece_told None p h none is = subst (PieceAt text names at) (sym is) (piece_unread h none)
    piece_told (Some it) p h there is = subst (PieceAt text names at) (sym is) (piece_declaration it h there)
