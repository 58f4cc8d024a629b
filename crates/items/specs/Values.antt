-- What an item of a document says.
use Rattle.std.specs.Prelude.{ℕ, Bool, List}
use Rattle.std.specs.List.{list_all}
use Rattle.scan.specs.Bytes.{is_blank}
use Rattle.scan.specs.Names.{Name}

-- A start tag, the tag of an empty element or an end tag, each with its name; a comment; a reference, which stands for
-- one byte; or a run of text.
pub data Value : Type 0 where
  start_tag empty_tag end_tag : Name → Value
  comment : Value
  reference : ℕ → Value
  chars : List ℕ → Value

-- An item and the place of its first byte.
pub record Placed : Type 0 where
  pub place : ℕ
  pub value : Value

-- Whether every byte is a blank.
abbrev pub all_blank : List ℕ → Bool
all_blank bytes = list_all is_blank bytes
