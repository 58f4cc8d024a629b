use Rattle.std.proofs.Common.{◌≡◌, length, replicate, rules}
use Rattle.models.specs.declared.node.Node.TheVariants.{Unused}
use Rattle.scan.specs.Lists.{zero_entry}
use Rattle.drafts.specs.Tables.{zero_model}
use Rattle.drafts.proofs.TablesRead.{count_fits, read_filled}
use Rattle.drafts.proofs.reading.read_into.Goals as goal

pub slice_bounds-write_models-end : goal.slice_bounds-write_models-end
slice_bounds-write_models-end c =
    let nodes : c.fill.new.self ≡ replicate (length c.args.nodes.now) Unused = search rules in
    let models : c.fill-2.new.self ≡ replicate (length c.args.models.now) zero_model = search rules in
    let entries : c.fill-3.new.self ≡ replicate (length c.args.entries.now) zero_entry = search rules in
    count_fits c.args.text.now c.args.nodes.now c.fill.new.self c.fill.new.self c.args.models.now c.fill-2.new.self c.fill-2.new.self c.args.entries.now c.fill-3.new.self c.ask_text.new.entries c.in-Ok.count nodes models entries c.in-Ok.ensures

pub returns-in-Ok : goal.returns-in-Ok
returns-in-Ok c =
    let nodes : c.fill.new.self ≡ replicate (length c.args.nodes.now) Unused = search rules in
    let models : c.fill-2.new.self ≡ replicate (length c.args.models.now) zero_model = search rules in
    let entries : c.fill-3.new.self ≡ replicate (length c.args.entries.now) zero_entry = search rules in
    read_filled c.args.text.now c.args.nodes.now c.fill.new.self c.write_models.new.nodes c.args.models.now c.fill-2.new.self c.write_models.new.models c.args.entries.now c.fill-3.new.self c.ask_text.new.entries c.in-Ok.count nodes models entries c.in-Ok.ensures c.write_models.ensures
