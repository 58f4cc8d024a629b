-- Names.
use Rattle.std.specs.Prelude.{◌≡◌, ℕ, ◌≤◌, Bool, true, false, ◌&&◌, List, [], ◌∷◌, ◌++◌, length, take, drop, nat_le}
use Rattle.std.specs.List.{prefix_len}
use Rattle.scan.specs.Bytes.{is_initial, is_name_byte, first_is}
use Rattle.scan.specs.Readings.{Front, bad, got}

-- A name is written in bytes.
abbrev pub Name : Type 0
Name = List ℕ

-- Every byte may stand in a name.
abbrev pub all_name_bytes : List ℕ → Bool
all_name_bytes [] = true
all_name_bytes (b ∷ t) = is_name_byte b && all_name_bytes t

-- A name begins with an initial, goes on with the bytes of names, and has at most 32 of them.
pub record IsName (name : Name) : Type 0 where
  pub begins : first_is is_initial name ≡ true
  pub bytes : all_name_bytes name ≡ true
  pub short : length name ≤ 32

-- A name stands at the front of the text; it goes as far as the bytes of names go.
pub record ReadsName (text : List ℕ) (name : Name) (rest : List ℕ) : Type 0 where
  pub whole : text ≡ name ++ rest
  pub form : IsName name
  pub longest : first_is is_name_byte rest ≡ false

-- The same, worked out.
abbrev pub read_name : List ℕ → Front Name
read_name t =
    elim (first_is is_initial t && nat_le (prefix_len is_name_byte t) 32) [ true ↦ got (take (prefix_len is_name_byte t) t) (drop (prefix_len is_name_byte t) t) | false ↦ bad ]
