use Rattle.std.proofs.Common.{◌-◌, take, drop}
use Rattle.scan.specs.Names.{read_name}
use Rattle.declarations.proofs.Leaves.{end_at, name_longer}
use Rattle.declarations.proofs.source.numbered_at.Goals as goal

pub returns : goal.returns
returns c =
    let text = c.args.source.text.now in
    let at = c.args.at in
    let end = c.in_ok-end.end in
    let name = take (end - at) (drop at text) in
    let reads = c.in_ok-end.ensures.name in
    let stands = end_at text at (read_name (drop at text)) name (drop end text) end reads c.in_ok-end.ensures.answer in
    (name, drop end text, reads, stands, name_longer text at name (drop end text) end reads stands, c.number_of-value.ensures)
