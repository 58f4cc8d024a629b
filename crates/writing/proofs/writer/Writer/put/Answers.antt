use Rattle.std.proofs.Common.{sym, ◌∙◌, rules}
use Rattle.scan.proofs.Writing.{puts_one}
use Rattle.writing.proofs.writer.Writer.put.Goals as goal

pub returns-clause-wrote : goal.returns-clause-wrote
returns-clause-wrote g c =
    let table = c.args.self.now.nodes.now in record {
      written = c.put.ensures ∙ sym (puts_one table c.args.self.now.used c.args.node);
      short = search rules;
      used = search rules;
      atoms = c.counted-self.ensures;
    }
