use Rattle.std.proofs.Common.{drop, codes, lit<, rules}
use Rattle.scan.specs.Readings.{Front, word}
use Rattle.items.specs.Places.{ItemOf}
use Rattle.items.specs.Readers.{first_of, closed_with}
use Rattle.items.specs.Values.{Value, reference}
use Rattle.items.proofs.Answering.{first_answer, first_regrouped}
use Rattle.items.proofs.references.reference_at.Goals as goal

pub returns : goal.returns
returns c =
    let text = c.args.text.now in
    let at = c.args.at in
    let less : Front Value = closed_with (reference 60) (word (codes "&lt;") (drop at text)) in
    let greater : Front Value = closed_with (reference 62) (word (codes "&gt;") (drop at text)) in
    let ampersand : Front Value = closed_with (reference 38) (word (codes "&amp;") (drop at text)) in
    let quote : Front Value = closed_with (reference 34) (word (codes "&quot;") (drop at text)) in
    let apostrophe : Front Value = closed_with (reference 39) (word (codes "&apos;") (drop at text)) in
    let two : ItemOf text at (first_of less greater) c.or_else.result = first_answer text at less greater c.closed_with.result c.or_else.result (c.closed_with.ensures (lit< tt)) (search rules) in
    let three : ItemOf text at (first_of (first_of less greater) ampersand) c.or_else-2.result = first_answer text at (first_of less greater) ampersand c.or_else.result c.or_else-2.result two (search rules) in
    let four : ItemOf text at (first_of (first_of (first_of less greater) ampersand) quote) c.or_else-3.result = first_answer text at (first_of (first_of less greater) ampersand) quote c.or_else-2.result c.or_else-3.result three (search rules) in
    let five : ItemOf text at (first_of (first_of (first_of (first_of less greater) ampersand) quote) apostrophe) c.or_else-4.result = first_answer text at (first_of (first_of (first_of less greater) ampersand) quote) apostrophe c.or_else-3.result c.or_else-4.result four (search rules) in
    first_regrouped text at less greater _ c.or_else-4.result
    (first_regrouped text at (first_of less greater) ampersand _ c.or_else-4.result
    (first_regrouped text at (first_of (first_of less greater) ampersand) quote apostrophe c.or_else-4.result five))
