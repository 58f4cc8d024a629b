use Rattle.std.proofs.Common.{◌≡◌, ◌*◌, ◌≤◌, length, refl, sym, ap, ◌∙◌, subst, arith}
use Rattle.positions.specs.Following.{Rows, Atoms}
use Rattle.derivative.proofs.Stepping.{speaks}
use Rattle.positions.proofs.Entries.{rows_followed, rows_blank, atoms_placed, atoms_spare}
use Rattle.positions.proofs.Marking.{follow_rows}
use Rattle.positions.proofs.table.FollowTable.fill.Goals as goal

pub invariant_of-self : goal.invariant_of-self
invariant_of-self g c =
    let nodes = c.args.tables.nodes.now in
    let models = c.args.tables.models.now in
    let rows = c.replace-rows.result.now in
    let atoms = c.replace-atoms.result.now in
    let is_rows : rows ≡ c.write.new.self.rows.now = ap (λ r. r.now) c.replace-rows.ensures.value in
    let is_atoms : atoms ≡ c.write.new.self.atoms.now = ap (λ r. r.now) c.replace-atoms.ensures.value in
    let all-rows = subst (Rows nodes models) (sym is_rows) c.write.ensures.rows in
    let all-atoms = subst (Atoms nodes models) (sym is_atoms) c.write.ensures.atoms in
    let has = c.if-not-has_room.ensures in
    let wide : 64 * length models ≤ length rows = omega (arith, has.0, ap length is_rows, c.write.ensures.room.0) in
    let roomy : 64 * length models ≤ length atoms = omega (arith, has.1, ap length is_atoms, c.write.ensures.room.1) in
    record {
      wide = wide;
      roomy = roomy;
      followed = rows_followed nodes models rows all-rows wide;
      blank = rows_blank nodes models rows all-rows;
      placed = atoms_placed nodes models atoms all-atoms roomy;
      spare = atoms_spare nodes models atoms all-atoms roomy;
    }

pub returns : goal.returns
returns g c =
    let nodes = c.args.tables.nodes.now in
    let models = c.args.tables.models.now in
    let rows = c.replace-rows.result.now in
    let atoms = c.replace-atoms.result.now in
    let is_rows : rows ≡ c.write.new.self.rows.now = ap (λ r. r.now) c.replace-rows.ensures.value in
    let is_atoms : atoms ≡ c.write.new.self.atoms.now = ap (λ r. r.now) c.replace-atoms.ensures.value in
    let all-rows = subst (Rows nodes models) (sym is_rows) c.write.ensures.rows in
    let has = c.if-not-has_room.ensures in
    let wide : 64 * length models ≤ length rows = omega (arith, has.0, ap length is_rows, c.write.ensures.room.0) in
    record {
      answer = c.if-not-has_room.ensures;
      made = (
        follow_rows g.L.Alphabet.stands (λ a. (g.L.Alphabet.sample a, g.met.L.Alphabet.sampled a)) nodes models rows (rows_followed nodes models rows all-rows wide) (rows_blank nodes models rows all-rows),
        subst (Atoms nodes models) (sym is_atoms) c.write.ensures.atoms,
      );
      room = (ap length is_rows ∙ c.write.ensures.room.0, ap length is_atoms ∙ c.write.ensures.room.1);
      left = (ap (λ r. r.now) c.replace-rows.ensures.after, ap (λ r. r.now) c.replace-atoms.ensures.after);
      tables = (refl, refl);
      languages = speaks g.L.Alphabet.stands nodes models;
      states = λ number state w. (λ h. h, λ h. h);
    }
