-- Texts worked out: each form of content reads as expected, and what is not of the form is unread where it begins.
use Rattle.std.proofs.Common.{◌≡◌, ℕ, List, [], ◌∷◌, codes, refl}
use Rattle.models.specs.Expressions.{atom, seq, alt, star, plus, option}
use Rattle.scan.specs.Bytes.{skip}
use Rattle.scan.specs.Comments.{held, closed, comment_rest, behind_opening}
use Rattle.scan.specs.Names.{Name}
use Rattle.scan.specs.Readings.{Run, finished, stopped, word, turns}
use Rattle.declarations.specs.Contents.{Content, nothing, anything, mixed, children, Placed}
use Rattle.declarations.specs.Grammar.{State, beginning, Reads, UnreadAt}
use Rattle.declarations.specs.Readers.{with_mark, marked, named, joined_by, member_at, shut, members_of, in_brackets, read_group, as_children, with_name, mixed_name_at, starless, starred, mixed_or, bracketed, or_else, closed_by, with_content, behind_name, behind_word, declared_at, commented_or, item, read_items}
use Rattle.declarations.proofs.Grammars.{grammar_is_read}

-- Everything that a reading computes with.
unfoldable opened : List ℕ → Run State
unfolding skip word turns held closed comment_rest behind_opening with_mark marked named joined_by member_at shut members_of in_brackets read_group as_children with_name mixed_name_at starless starred mixed_or bracketed or_else closed_by with_content behind_name behind_word declared_at commented_or item
opened text = read_items text

abbrev placed : ℕ → Name → Content → Placed
placed place name content = record { place = place; declaration = record { name = name; content = content } }

read_whole : (text : List ℕ) (found : List Placed) (place : ℕ) → read_items text ≡ finished (record { place = place; found = found }) [] → Reads text found
read_whole text found place h = (grammar_is_read.is_read text (record { place = place; found = found }) [] h).1

unread_whole : (text : List ℕ) → read_items text ≡ stopped beginning text → UnreadAt text 0
unread_whole text h = grammar_is_read.is_unread text beginning text h

-- Each form of content, with a comment and blanks between.
abbrev declarations : List Placed
declarations =
    placed 0 (codes "a") nothing
    ∷ (placed 29 (codes "b") anything
    ∷ (placed 45 (codes "c") (mixed [])
    ∷ (placed 67 (codes "d") (mixed (codes "a" ∷ (codes "b" ∷ [])))
    ∷ (placed 98 (codes "e") (children (star (seq (seq (atom (codes "a")) (option (alt (atom (codes "b")) (atom (codes "c"))))) (plus (atom (codes "d")))))) ∷ []))))

pub each_content : Reads (codes "<!ELEMENT a EMPTY><!-- b --> <!ELEMENT b ANY><!ELEMENT c (#PCDATA)><!ELEMENT d ( #PCDATA | a|b )*><!ELEMENT e (a,(b|c)?,d+)*>") declarations
unfolding opened
each_content = read_whole _ _ 125 refl

-- A name of 32 bytes is read.
pub longest_name : Reads (codes "<!ELEMENT aaaaaaaaaaaaaaaaaaaaaaaaaaaaaaaa EMPTY>") (placed 0 (codes "aaaaaaaaaaaaaaaaaaaaaaaaaaaaaaaa") nothing ∷ [])
unfolding opened
longest_name = read_whole _ _ 49 refl

-- Brackets 16 deep are read.
pub deepest_brackets : Reads (codes "<!ELEMENT a ((((((((((((((((a))))))))))))))))>") (placed 0 (codes "a") (children (atom (codes "a"))) ∷ [])
unfolding opened
deepest_brackets = read_whole _ _ 46 refl

-- Unread: `,` and `|` in one group.
pub mixed_signs : UnreadAt (codes "<!ELEMENT a (a,b|c)>") 0
unfolding opened
mixed_signs = unread_whole _ refl

-- Unread: `#PCDATA` outside brackets.
pub bare_word : UnreadAt (codes "<!ELEMENT a #PCDATA>") 0
unfolding opened
bare_word = unread_whole _ refl

-- Unread: a mixed model with names and no star.
pub no_star : UnreadAt (codes "<!ELEMENT a (#PCDATA|a)>") 0
unfolding opened
no_star = unread_whole _ refl

-- Unread: a name of 33 bytes.
pub long_name : UnreadAt (codes "<!ELEMENT aaaaaaaaaaaaaaaaaaaaaaaaaaaaaaaaa EMPTY>") 0
unfolding opened
long_name = unread_whole _ refl

-- Unread: brackets 17 deep.
pub too_deep : UnreadAt (codes "<!ELEMENT a (((((((((((((((((a)))))))))))))))))>") 0
unfolding opened
too_deep = unread_whole _ refl

-- Unread: a declaration of another kind.
pub other_declaration : UnreadAt (codes "<!ATTLIST a>") 0
unfolding opened
other_declaration = unread_whole _ refl

-- What is not of the form is unread at its own place, behind what was read.
pub unread_later : UnreadAt (codes "<!ELEMENT a EMPTY> <!ATTLIST a>") 19
unfolding opened
unread_later = grammar_is_read.is_unread (codes "<!ELEMENT a EMPTY> <!ATTLIST a>") (record { place = 19; found = placed 0 (codes "a") nothing ∷ [] }) (codes "<!ATTLIST a>") refl
