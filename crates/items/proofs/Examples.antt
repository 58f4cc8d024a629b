-- Two texts, worked out by computing.
use Rattle.std.proofs.Common.{[], ◌∷◌, codes, refl}
use Rattle.scan.specs.Bytes.{skip}
use Rattle.scan.specs.Comments.{held, closed, comment_rest, behind_opening}
use Rattle.scan.specs.Readings.{turns, word}
use Rattle.items.specs.Examples.{Worked, placed}
use Rattle.items.specs.Readers.{closed_with, first_of, end_named, end_opened, start_named, start_opened, commented, chars_from, as_chars, item_next, item_turn}
use Rattle.items.specs.Values.{start_tag, empty_tag, end_tag, comment, reference, chars}
use Rattle.items.proofs.Wholes.{items_are_read}

pub worked : Worked
unfolding skip held closed comment_rest behind_opening turns word closed_with first_of end_named end_opened start_named start_opened commented chars_from as_chars item_next item_turn
worked = record {
  every_kind = (items_are_read.is_read (codes "<a>7 &lt; 8<b /></a><!-- c -->") (record { place = 30; found = placed 0 (start_tag (codes "a")) ∷ (placed 3 (chars (codes "7 ")) ∷ (placed 5 (reference 60) ∷ (placed 9 (chars (codes " 8")) ∷ (placed 11 (empty_tag (codes "b")) ∷ (placed 16 (end_tag (codes "a")) ∷ (placed 20 comment ∷ [])))))) }) [] refl).1;
  closing_in_text = items_are_read.is_unread (codes "<a>8]]></a>") (record { place = 3; found = placed 0 (start_tag (codes "a")) ∷ [] }) (codes "8]]></a>") refl;
}
