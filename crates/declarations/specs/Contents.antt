-- What a declaration says: a name, and what may stand in an element of that name, with names in place of numbers.
use Rattle.std.specs.Prelude.{ℕ, List}
use Rattle.models.specs.Expressions.{Exp}
use Rattle.scan.specs.Names.{Name}

-- The content of an element as it is written: nothing, anything, text mixed with elements of these names, or an
-- expression of names.
pub data Content : Type 0 where
  nothing : Content
  anything : Content
  mixed : List Name → Content
  children : Exp Name → Content

-- One declaration.
pub record Declaration : Type 0 where
  pub name : Name
  pub content : Content

-- A declaration and the place of its first byte.
pub record Placed : Type 0 where
  pub place : ℕ
  pub declaration : Declaration
