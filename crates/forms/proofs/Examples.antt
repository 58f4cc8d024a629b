-- Texts worked out: each kind of expression reads as expected, and what is not of the form is unread where its line begins.
use Rattle.std.proofs.Common.{◌≡◌, ℕ, zero, suc, true, leb, List, [], ◌∷◌, ◌++◌, length, codes, refl, leb-true}
use Rattle.engine.specs.declared.range.ByteRange.{ByteRange}
use Rattle.models.specs.Expressions.{Exp, atom, seq, alt, star, plus, option}
use Rattle.models.specs.Folds.{code}
use Rattle.scan.specs.Names.{Name}
use Rattle.scan.specs.Readings.{Run, finished, stopped, word, turns}
use Rattle.forms.specs.Numbers.{is_small, small_enough}
use Rattle.forms.specs.Grammar.{Placed, State, beginning, Reads, UnreadAt}
use Rattle.forms.specs.Readers.{range_by, shut_range, with_high, behind_low, with_low, joined_by, member, shut, ended, with_second, behind_first, with_first, with_inside, or_else, read_expression, shut_line, with_shape, behind_name, with_name, behind_bracket, one_more, line, read_lines}
use Rattle.forms.proofs.Grammars.{grammar_is_read}

-- Everything that a reading computes with.
unfoldable opened : List ℕ → Run State
unfolding word turns range_by shut_range with_high behind_low with_low joined_by member shut ended with_second behind_first with_first with_inside or_else read_expression shut_line with_shape behind_name with_name behind_bracket one_more line
opened text = read_lines text

-- A line with its end.
abbrev ending : List ℕ → List ℕ
ending text = text ++ (10 ∷ [])

abbrev bytes : (low high : ℕ) → leb low high ≡ true → is_small high ≡ true → Exp ByteRange
bytes low high o s = atom (record { low = low; high = high; ordered = (leb-true low high o, small_enough high s) })

abbrev digit : Exp ByteRange
digit = bytes 48 57 refl refl

abbrev placed : ℕ → Name → Exp ByteRange → Placed
placed place name shape = record { place = place; form = record { name = name; shape = shape } }

read_whole : (text : List ℕ) (found : List Placed) (place : ℕ) → read_lines text ≡ finished (record { place = place; found = found }) [] → Reads text found
read_whole text found place h = (grammar_is_read.is_read text (record { place = place; found = found }) [] h).1

unread_whole : (text : List ℕ) → read_lines text ≡ stopped beginning text → UnreadAt text 0
unread_whole text h = grammar_is_read.is_unread text beginning text h

-- Hours: digits, and perhaps a point and two digits.
abbrev pub hours : Exp ByteRange
hours = seq (plus digit) (option (seq (seq (bytes 46 46 refl refl) digit) digit))

pub hours_form : Reads (ending (codes "[hours [seq [plus [range 48 57]] [opt [seq [range 46 46] [range 48 57] [range 48 57]]]]]")) (placed 0 (codes "hours") hours ∷ [])
unfolding opened
hours_form = read_whole _ _ 89 refl

pub hours_nodes : length (code hours) ≡ 9
hours_nodes = refl

-- The other kinds of expression, and the ends of a byte; the second form's place is behind the first line.
pub two_lines : Reads (ending (codes "[a [alt [range 0 255] [star [range 48 57]] [range 7 7]]]") ++ ending (codes "[b.1 [opt [range 0 0]]]")) (placed 0 (codes "a") (alt (alt (bytes 0 255 refl refl) (star digit)) (bytes 7 7 refl refl)) ∷ (placed 57 (codes "b.1") (option (bytes 0 0 refl refl)) ∷ []))
unfolding opened
two_lines = read_whole _ _ 81 refl

-- No form at all.
pub no_lines : Reads [] []
unfolding opened
no_lines = read_whole _ _ 0 refl

-- An expression under so many stars.
abbrev stars : ℕ → Exp ByteRange → Exp ByteRange
stars zero e = e
stars (suc n) e = star (stars n e)

-- Brackets 16 deep are read.
pub deepest_brackets : Reads (ending (codes "[a [star [star [star [star [star [star [star [star [star [star [star [star [star [star [range 48 57]]]]]]]]]]]]]]]]")) (placed 0 (codes "a") (stars 14 digit) ∷ [])
unfolding opened
deepest_brackets = read_whole _ _ 116 refl

-- Unread: brackets 17 deep.
pub too_deep : UnreadAt (ending (codes "[a [star [star [star [star [star [star [star [star [star [star [star [star [star [star [star [range 48 57]]]]]]]]]]]]]]]]]")) 0
unfolding opened
too_deep = unread_whole _ refl

-- Unread: a form without the end of its line.
pub no_end : UnreadAt (codes "[a [range 1 2]]") 0
unfolding opened
no_end = unread_whole _ refl

-- Unread: two spaces.
pub two_spaces : UnreadAt (ending (codes "[a  [range 1 2]]")) 0
unfolding opened
two_spaces = unread_whole _ refl

-- Unread: two spaces between members.
pub two_spaces_inside : UnreadAt (ending (codes "[a [seq [range 1 2]  [range 3 4]]]")) 0
unfolding opened
two_spaces_inside = unread_whole _ refl

-- Unread: a list of one member.
pub one_member : UnreadAt (ending (codes "[a [seq [range 1 2]]]")) 0
unfolding opened
one_member = unread_whole _ refl

-- Unread: a mark on two expressions.
pub two_marked : UnreadAt (ending (codes "[a [star [range 1 2] [range 3 4]]]")) 0
unfolding opened
two_marked = unread_whole _ refl

-- Unread: a range whose low byte is above the high one.
pub out_of_order : UnreadAt (ending (codes "[a [range 2 1]]")) 0
unfolding opened
out_of_order = unread_whole _ refl

-- Unread: a leading zero.
pub leading_zero : UnreadAt (ending (codes "[a [range 01 2]]")) 0
unfolding opened
leading_zero = unread_whole _ refl

-- Unread: a number above 255.
pub no_byte : UnreadAt (ending (codes "[a [range 1 256]]")) 0
unfolding opened
no_byte = unread_whole _ refl

-- Unread: a range without its high byte.
pub no_number : UnreadAt (ending (codes "[a [range 1 ]]")) 0
unfolding opened
no_number = unread_whole _ refl

-- Unread: a form without a name.
pub no_name : UnreadAt (ending (codes "[ [range 1 2]]")) 0
unfolding opened
no_name = unread_whole _ refl

-- Unread: a blank line.
pub blank_line : UnreadAt (10 ∷ []) 0
unfolding opened
blank_line = unread_whole _ refl

-- What is not of the form is unread at its own line, behind what was read.
pub unread_later : UnreadAt (ending (codes "[a [range 1 2]]") ++ codes "[b [range 1 2]]") 16
unfolding opened
unread_later =
    grammar_is_read.is_unread (ending (codes "[a [range 1 2]]") ++ codes "[b [range 1 2]]") (record { place = 16; found = placed 0 (codes "a") (bytes 1 2 refl refl) ∷ [] }) (codes "[b [range 1 2]]") refl
