use Rattle.std.proofs.Common.{drop, rules}
use Rattle.scan.specs.Readings.{word}
use Rattle.items.proofs.Answering.{closed_end}
use Rattle.items.proofs.item.closed_with.Goals as goal

pub returns : goal.returns
returns c some =
    let text = c.args.text.now in
    closed_end text c.args.at c.args.kind (word c.args.word.now (drop c.args.at text)) c.word_end.result c.map.result (c.word_end.ensures.answer some) (search rules)
