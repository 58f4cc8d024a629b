use Rattle.std.proofs.Common.{sym, subst}
use Rattle.engine.specs.Atoms.{StandsFor}
use Rattle.engine.specs.Languages.{Decides}
use Rattle.engine.specs.Trees.{Plain}
use Rattle.models.specs.Tables.{ModelWords}
use Rattle.sealed.proofs.Lawful.{contents_law, never_ambiguous}
use Rattle.sealed.proofs.Plainness.{plain_only, plain_told}
use Rattle.sealed.proofs.sealed.SealedContent.plain.Goals as goal

pub returns-then-only_text : goal.returns-then-only_text
returns-then-only_text c =
    let tables = c.args.self.now.engine.tables in
    let slice = c.nodes_of-nodes.result.now in
    let is = c.nodes_of-nodes.ensures in
    record {
      answer = plain_told tables.nodes.now tables.models.now c.args.number slice is c.if-only_text.ensures
          c.takes_all_text.result
          (c.takes_all_text.ensures (never_ambiguous tables.nodes.now tables.models.now c.args.self.now.checked c.args.number slice is));
      law = contents_law tables.nodes.now tables.models.now c.args.self.now.checked;
    }

pub returns-else-only_text : goal.returns-else-only_text
returns-else-only_text c =
    let tables = c.args.self.now.engine.tables in
    record {
      answer = subst (λ b. Decides b (Plain (ModelWords StandsFor tables.nodes.now tables.models.now) c.args.number)) (sym c.if-only_text.false)
          (λ p. c.if-only_text.ensures (plain_only tables.nodes.now tables.models.now c.args.number c.nodes_of-nodes.result.now c.nodes_of-nodes.ensures p));
      law = contents_law tables.nodes.now tables.models.now c.args.self.now.checked;
    }
