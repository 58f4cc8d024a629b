-- Two texts, worked out.
use Rattle.std.specs.Prelude.{ℕ, [], ◌∷◌, codes}
use Rattle.items.specs.Grammar.{Reads, UnreadAt}
use Rattle.items.specs.Values.{Value, start_tag, empty_tag, end_tag, comment, reference, chars, Placed}

abbrev pub placed : ℕ → Value → Placed
placed p v = record { place = p; value = v }

-- One of every kind of item; and a text that holds `]]>`, which is no item.
pub record Worked : Type 0 where
  pub every_kind : Reads (codes "<a>7 &lt; 8<b /></a><!-- c -->") (placed 0 (start_tag (codes "a")) ∷ (placed 3 (chars (codes "7 ")) ∷ (placed 5 (reference 60) ∷ (placed 9 (chars (codes " 8")) ∷ (placed 11 (empty_tag (codes "b")) ∷ (placed 16 (end_tag (codes "a")) ∷ (placed 20 comment ∷ [])))))))
  pub closing_in_text : UnreadAt (codes "<a>8]]></a>") 3
