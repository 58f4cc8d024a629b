use Rattle.std.proofs.Common.{◌≤◌, length, Some, None, arith}
use Rattle.sealed.proofs.Checking.{ambiguity_here, trees_here}
use Rattle.sealed.proofs.questions.check.Goals as goal

pub returns-in-Some-first_ambiguous : goal.returns-in-Some-first_ambiguous
returns-in-Some-first_ambiguous c =
    let few : length c.args.tables.models.now ≤ 63 = omega arith in
    (few, c.in_default.ensures, ambiguity_here c.args.tables.nodes.now c.args.tables.models.now few (Some c.in-Some-first_ambiguous.number) c.in-Some-first_ambiguous.ensures)

pub returns-in-Some-first_without_tree : goal.returns-in-Some-first_without_tree
returns-in-Some-first_without_tree c =
    let few : length c.args.tables.models.now ≤ 63 = omega arith in (
      few,
      c.in_default.ensures,
      ambiguity_here c.args.tables.nodes.now c.args.tables.models.now few None c.in_default-first_ambiguous.ensures,
      trees_here c.args.tables.nodes.now c.args.tables.models.now few (Some c.in-Some-first_without_tree.number) c.in-Some-first_without_tree.ensures,
    )

pub returns : goal.returns
returns c =
    let few : length c.args.tables.models.now ≤ 63 = omega arith in
    record {
      few = few;
      modelled = c.in_default.ensures;
      unambiguous = ambiguity_here c.args.tables.nodes.now c.args.tables.models.now few None c.in_default-first_ambiguous.ensures;
      trees = trees_here c.args.tables.nodes.now c.args.tables.models.now few None c.in_default-first_without_tree.ensures;
    }
