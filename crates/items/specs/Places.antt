-- Items told by places of the text.
use Rattle.std.specs.Prelude.{◌≡◌, ℕ, List, length, Some, None, Ok, Err, Option, Result}
use Rattle.scan.specs.Readings.{Front, bad, got, Stands}
use Rattle.items.specs.Grammar.{Reads, UnreadAt}
use Rattle.items.specs.Values.{Value, start_tag, empty_tag, end_tag, comment, reference, chars, Placed}
use Rattle.items.specs.declared.item.Kind.{Kind}
use Rattle.items.specs.declared.item.Kind.TheVariants as kind
use Rattle.scan.specs.Spans.{bytes_at}
use Rattle.scan.specs.declared.read.Read.{Read}
use Rattle.scan.specs.declared.span.Span.{Span}

-- The bytes of a span: from its start up to its end.
abbrev pub spanned : List ℕ → Span → List ℕ
spanned text span = bytes_at text span

-- What an item's kind says of the text.
abbrev pub said : List ℕ → Kind → Value
said text (kind.Start name) = start_tag (spanned text name)
said text (kind.Empty name) = empty_tag (spanned text name)
said text (kind.End name) = end_tag (spanned text name)
said text kind.Comment = comment
said text (kind.Reference b) = reference b
said text (kind.Run bytes) = chars (spanned text bytes)

-- What is answered about the front of the text at a place: none where no item stands there, or what the item says and
-- the place where it ends.
abbrev pub ItemOf : List ℕ → ℕ → Front Value → Option (Read Kind) → Type 0
ItemOf text at bad None = Unit {0}
ItemOf text at bad (Some item) = ⊥
ItemOf text at (got v rest) None = ⊥
ItemOf text at (got v rest) (Some item) = Stands text at rest item.end × (said text item.value ≡ v)

-- What is answered about a whole text: how many items it is, or the place up to which it is a list of items and where
-- none stands.
abbrev pub Counted : List ℕ → Result ℕ ℕ → Type 0
Counted text (Ok n) = (found : List Placed) × Reads text found × (length found ≡ n)
Counted text (Err place) = UnreadAt text place
