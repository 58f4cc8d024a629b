-- From what declarations say to the models of elements: names become numbers, and models become nodes.
use Rattle.std.specs.Prelude.{List, [], ◌∷◌, ◌++◌, length}
use Rattle.engine.specs.declared.alphabet.ContentAtom.{ContentAtom}
use Rattle.engine.specs.declared.alphabet.ContentAtom.TheVariants.{Text, Element, All}
use Rattle.models.specs.Expressions.{Exp, empty, atom, seq, alt, star, plus, option}
use Rattle.scan.specs.Lists.{number_of}
use Rattle.scan.specs.Names.{Name}
use Rattle.declarations.specs.Contents.{Content, nothing, anything, mixed, children}

-- The names in an expression, from left to right.
abbrev pub names_in : Exp Name → List Name
names_in empty = []
names_in (atom n) = n ∷ []
names_in (seq e f) = names_in e ++ names_in f
names_in (alt e f) = names_in e ++ names_in f
names_in (star e) = names_in e
names_in (plus e) = names_in e
names_in (option e) = names_in e

-- The names in a content as it is written.
abbrev pub content_names : Content → List Name
content_names nothing = []
content_names anything = []
content_names (mixed names) = names
content_names (children e) = names_in e

-- The names of a mixed model; other content has none that must differ.
abbrev pub mixed_names : Content → List Name
mixed_names nothing = []
mixed_names anything = []
mixed_names (mixed names) = names
mixed_names (children e) = []

-- The expression with the numbers of its names.
abbrev pub numbered : List Name → Exp Name → Exp ContentAtom
numbered names empty = empty
numbered names (atom n) = atom (Element (number_of names n))
numbered names (seq e f) = seq (numbered names e) (numbered names f)
numbered names (alt e f) = alt (numbered names e) (numbered names f)
numbered names (star e) = star (numbered names e)
numbered names (plus e) = plus (numbered names e)
numbered names (option e) = option (numbered names e)

-- An alternative of what stands before and each of the names, joined from the left.
abbrev pub or_names : List Name → Exp ContentAtom → List Name → Exp ContentAtom
or_names names so_far [] = so_far
or_names names so_far (n ∷ ns) = or_names names (alt so_far (atom (Element (number_of names n)))) ns

-- The model of a content, where these names are declared: `EMPTY` is the empty word, `ANY` any number of texts and
-- declared elements, a mixed model any number of texts and elements of its names.
abbrev pub model : List Name → Content → Exp ContentAtom
model names nothing = empty
model names anything = star (atom (All (length names)))
model names (mixed ns) = star (or_names names (atom Text) ns)
model names (children e) = numbered names e
