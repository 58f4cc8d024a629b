use Rattle.std.proofs.Common.{◌≡◌, length, refl, ap, ◌∙◌, rules}
use Rattle.declarations.proofs.Grammars.{grammar_is_read}
use Rattle.drafts.specs.Drafted.{declarations, is_accepted}
use Rattle.drafts.specs.Reading.{room_of}
use Rattle.drafts.proofs.Accepting.{enough_room}
use Rattle.drafts.proofs.TablesRead.{tells_yes, tells_no}
use Rattle.drafts.proofs.draft.Draft.read.Goals as goal

pub invariant_of-self : goal.invariant_of-self
invariant_of-self c =
    let told = c.in-Ok.ensures in
    let room = room_of c.replace-nodes.result.now c.replace-models.result.now c.replace-entries.result.now in
    record {
      asked = enough_room room c.args.text.now (ap is_accepted told.0);
      counted = told.1;
      coded = told.2.nodes_are;
      placed = told.2.models_are;
      named = told.2.entries_are;
    }

pub returns-in-Ok : goal.returns-in-Ok
returns-in-Ok c =
    let told = c.in-Ok.ensures in
    let n : c.replace-nodes.result.now ≡ c.args.blank.now.nodes.now = search rules in
    let m : c.replace-models.result.now ≡ c.args.blank.now.models.now = search rules in
    let e : c.replace-entries.result.now ≡ c.args.blank.now.entries.now = search rules in
    record {
      answer = tells_yes c.args.text.now c.args.blank.now.nodes.now c.replace-nodes.result.now c.args.blank.now.models.now c.replace-models.result.now c.args.blank.now.entries.now c.replace-entries.result.now n m e (declarations c.args.text.now) told.0;
      made = (refl, c.read_into.auto.nodes ∙ ap length n, c.read_into.auto.models ∙ ap length m, c.read_into.auto.entries ∙ ap length e);
      left = search rules;
      law = grammar_is_read;
    }

pub returns-in-Err : goal.returns-in-Err
returns-in-Err c =
    let told = c.in-Err.ensures in
    let n : c.replace-nodes.result.now ≡ c.args.blank.now.nodes.now = search rules in
    let m : c.replace-models.result.now ≡ c.args.blank.now.models.now = search rules in
    let e : c.replace-entries.result.now ≡ c.args.blank.now.entries.now = search rules in
    record {
      answer = tells_no c.args.text.now c.args.blank.now.nodes.now c.replace-nodes.result.now c.args.blank.now.models.now c.replace-models.result.now c.args.blank.now.entries.now c.replace-entries.result.now n m e c.in-Err.refusal told.0;
      made = refl;
      left = told.1;
      law = grammar_is_read;
    }
