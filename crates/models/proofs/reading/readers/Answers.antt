use Rattle.std.proofs.Common.{rules, refl}
use borrow.Author.Tests.{tests}
use Rattle.std.proofs.lemmas.Iterator.{YieldsList-from_slice, YieldsList-from_range, YieldsList-from_zip}
use Rattle.std.proofs.lemmas.Iterator.Consumers.{YieldsList-at, YieldsList-from_filter_map}
use Rattle.models.specs.Readers.{atom_in}
use Rattle.models.proofs.Numbering.{told_fold, told_step, told_readers}
use Rattle.models.proofs.reading.readers.Goals as goal

pub returns : goal.returns
returns g c =
    let stands = g.L.Alphabet.stands in
    told_readers stands c.args.letter c.args.nodes.now c.fold.result
    (told_fold stands c.args.letter c.fold.result c.fold.ensures.ran
    (YieldsList-from_zip
    (YieldsList-at c.zip.ensures.first (YieldsList-from_filter_map _ atom_in (YieldsList-from_slice c.args.nodes.now (cc)) c.filter_map.ensures.closure (λ x r q k. search (rules, tests))))
    (YieldsList-from_range 1 64 63 c.zip.ensures.second refl))
    (λ ps set p made f told called. (search (rules, told_step stands c.args.letter ps p set), search rules)))
