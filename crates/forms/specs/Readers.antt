-- The grammar of value forms, worked out: functions that read at the front of a text.
use Rattle.std.specs.Prelude.{◌≡◌, ℕ, zero, suc, Bool, true, false, List, [], ◌∷◌, codes, ◌==◌, nat_le, refl}
use Rattle.std.proofs.Common.{leb-true}
use Rattle.engine.specs.declared.range.ByteRange.{ByteRange}
use Rattle.models.specs.Expressions.{Exp, atom}
use Rattle.scan.specs.Names.{Name, read_name}
use Rattle.scan.specs.Readings.{Front, bad, got, word, Turn, over, stuck, next, Run, finished, stopped, run}
use Rattle.forms.specs.Numbers.{is_small, small_enough, read_byte}
use Rattle.forms.specs.Grammar.{Joint, in_sequence, as_alternatives, opening, join, Mark, any_number, at_least_one, perhaps, mark_opening, marked, Form, deepest, State, moved, beginning}

-- The range between two bytes, if they are in order.
unfoldable pub range_by : (low high : ℕ) (ordered small : Bool) → nat_le low high ≡ ordered → is_small high ≡ small → List ℕ → Front (Exp ByteRange)
range_by low high true true o s t = got (atom (record { low = low; high = high; ordered = (leb-true low high o, small_enough high s) })) t
range_by low high true false o s t = bad
range_by low high false small o s t = bad

abbrev pub range_from : ℕ → ℕ → List ℕ → Front (Exp ByteRange)
range_from low high t = range_by low high (nat_le low high) (is_small high) refl refl t

unfoldable pub shut_range : ℕ → ℕ → Front (Unit {0}) → Front (Exp ByteRange)
shut_range low high bad = bad
shut_range low high (got v t) = range_from low high t

unfoldable pub with_high : ℕ → Front ℕ → Front (Exp ByteRange)
with_high low bad = bad
with_high low (got high t) = shut_range low high (word (codes "]") t)

unfoldable pub behind_low : ℕ → Front (Unit {0}) → Front (Exp ByteRange)
behind_low low bad = bad
behind_low low (got v t) = with_high low (read_byte t)

unfoldable pub with_low : Front ℕ → Front (Exp ByteRange)
with_low bad = bad
with_low (got low t) = behind_low low (word (codes " ") t)

-- A range from behind its opening word on.
abbrev pub read_range : List ℕ → Front (Exp ByteRange)
read_range t = with_low (read_byte t)

unfoldable pub joined_by : Joint → Exp ByteRange → Front (Exp ByteRange) → Turn (Exp ByteRange)
joined_by joint so_far bad = stuck
joined_by joint so_far (got e t) = next (join joint so_far e) t

-- One turn of the members of a list: a closing bracket ends them, a space brings one more, and all else is not of the form.
unfoldable pub member : (List ℕ → Front (Exp ByteRange)) → Joint → Exp ByteRange → List ℕ → Turn (Exp ByteRange)
member inner joint so_far [] = stuck
member inner joint so_far (b ∷ t) =
    elim (b == 93) [ true ↦ over | false ↦ elim (b == 32) [ true ↦ joined_by joint so_far (inner t) | false ↦ stuck ] ]

unfoldable pub shut : Exp ByteRange → Front (Unit {0}) → Front (Exp ByteRange)
shut e bad = bad
shut e (got v t) = got e t

unfoldable pub ended : Run (Exp ByteRange) → Front (Exp ByteRange)
ended (finished e t) = shut e (word (codes "]") t)
ended (stopped e t) = bad

unfoldable pub with_second : (List ℕ → Front (Exp ByteRange)) → Joint → Exp ByteRange → Front (Exp ByteRange) → Front (Exp ByteRange)
with_second inner joint first bad = bad
with_second inner joint first (got second t) = ended (run (member inner joint) (join joint first second) t)

unfoldable pub behind_first : (List ℕ → Front (Exp ByteRange)) → Joint → Exp ByteRange → Front (Unit {0}) → Front (Exp ByteRange)
behind_first inner joint first bad = bad
behind_first inner joint first (got v t) = with_second inner joint first (inner t)

unfoldable pub with_first : (List ℕ → Front (Exp ByteRange)) → Joint → Front (Exp ByteRange) → Front (Exp ByteRange)
with_first inner joint bad = bad
with_first inner joint (got first t) = behind_first inner joint first (word (codes " ") t)

-- The members of a list from behind its opening word on: two or more.
abbrev pub read_members : (List ℕ → Front (Exp ByteRange)) → Joint → List ℕ → Front (Exp ByteRange)
read_members inner joint t = with_first inner joint (inner t)

unfoldable pub with_inside : Mark → Front (Exp ByteRange) → Front (Exp ByteRange)
with_inside mark bad = bad
with_inside mark (got e t) = shut (marked mark e) (word (codes "]") t)

-- What a mark is put on, from behind its opening word on.
abbrev pub read_marked : (List ℕ → Front (Exp ByteRange)) → Mark → List ℕ → Front (Exp ByteRange)
read_marked inner mark t = with_inside mark (inner t)

-- What stands behind the word, if that is there; else something other.
unfoldable pub or_else : (List ℕ → Front (Exp ByteRange)) → Front (Exp ByteRange) → Front (Unit {0}) → Front (Exp ByteRange)
or_else go other bad = other
or_else go other (got v t) = go t

-- An expression, told by its opening word, where those inside it are read by the function given.
abbrev pub read_by_word : (List ℕ → Front (Exp ByteRange)) → List ℕ → Front (Exp ByteRange)
read_by_word inner t =
    or_else read_range
    (or_else (read_members inner in_sequence)
    (or_else (read_members inner as_alternatives)
    (or_else (read_marked inner any_number)
    (or_else (read_marked inner at_least_one)
    (or_else (read_marked inner perhaps) bad (word (mark_opening perhaps) t))
    (word (mark_opening at_least_one) t))
    (word (mark_opening any_number) t))
    (word (opening as_alternatives) t))
    (word (opening in_sequence) t))
    (word (codes "[range ") t)

-- An expression, with at most so many brackets open at once.
unfoldable pub read_expression : ℕ → List ℕ → Front (Exp ByteRange)
read_expression zero t = bad
read_expression (suc left) t = read_by_word (read_expression left) t

unfoldable pub shut_line : Form → Front (Unit {0}) → Front Form
shut_line form bad = bad
shut_line form (got v t) = got form t

unfoldable pub with_shape : Name → Front (Exp ByteRange) → Front Form
with_shape name bad = bad
with_shape name (got e t) = shut_line (record { name = name; shape = e }) (word (93 ∷ (10 ∷ [])) t)

unfoldable pub behind_name : Name → Front (Unit {0}) → Front Form
behind_name name bad = bad
behind_name name (got v t) = with_shape name (read_expression deepest t)

unfoldable pub with_name : Front Name → Front Form
with_name bad = bad
with_name (got name t) = behind_name name (word (codes " ") t)

unfoldable pub behind_bracket : Front (Unit {0}) → Front Form
behind_bracket bad = bad
behind_bracket (got v t) = with_name (read_name t)

-- A form and the end of its line.
abbrev pub read_line : List ℕ → Front Form
read_line t = behind_bracket (word (codes "[") t)

unfoldable pub one_more : State → List ℕ → Front Form → Turn State
one_more s text bad = stuck
one_more s text (got form rest) = next (moved s text rest form) rest

-- One turn of the lines of a text.
unfoldable pub line : State → List ℕ → Turn State
line s [] = over
line s (b ∷ t) = one_more s (b ∷ t) (read_line (b ∷ t))

-- The whole text, line by line.
abbrev pub read_lines : List ℕ → Run State
read_lines text = run line beginning text
