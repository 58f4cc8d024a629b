-- The line of a form, from its parts.
use Rattle.std.proofs.Common.{◌≡◌, ℕ, ◌-◌, ◌^◌, ◌<◌, ◌≤◌, true, false, List, [], ◌∷◌, length, take, drop, is_some, Some, None, codes, Option, sym, refl, ap, ◌∙◌, subst, arith}
use Rattle.std.proofs.lemmas.Bool.{false≢true}
use Rattle.engine.specs.declared.range.ByteRange.{ByteRange}
use Rattle.models.specs.Expressions.{atoms}
use Rattle.models.specs.Folds.{code}
use Rattle.scan.specs.Names.{read_name}
use Rattle.scan.specs.Readings.{Front, bad, got, word, EndOf}
use Rattle.scan.proofs.Ends.{worded, end_bad}
use Rattle.scan.proofs.Writing.{puts_past}
use Rattle.writing.specs.declared.writer.Writer.{Writer}
use Rattle.writing.proofs.Writing.{atoms_in_code, atoms_in_le}
use Rattle.forms.specs.Answers.{Nodes, FormAt, with_form}
use Rattle.forms.specs.Grammar.{deepest, Form}
use Rattle.forms.specs.Inner.{ExpressionAt, WritesAt}
use Rattle.forms.specs.Readers.{read_expression, shut_line, with_shape, behind_name, with_name, behind_bracket, read_line}
use Rattle.forms.specs.declared.lines.Lined.{Lined}
use Rattle.scan.specs.declared.read.Read.{Read}
use Rattle.scan.specs.declared.span.Span.{Span}

module _ (text : List ℕ) (at : ℕ) where
  pub no_bracket : EndOf text at (word (codes "[") (drop at text)) None → read_line (drop at text) ≡ bad
  unfolding behind_bracket
  no_bracket h = ap behind_bracket (end_bad text at (word (codes "[") (drop at text)) h)

  module _ (start : ℕ) (b : EndOf text at (word (codes "[") (drop at text)) (Some start)) where
    before_name : read_line (drop at text) ≡ with_name (read_name (drop start text))
    unfolding behind_bracket
    before_name = ap behind_bracket (worded (codes "[") text at start b).reads

    pub no_name : EndOf text start (read_name (drop start text)) None → read_line (drop at text) ≡ bad
    unfolding with_name
    no_name h = before_name ∙ ap with_name (end_bad text start (read_name (drop start text)) h)

    module _ (name : ℕ) (n : read_name (drop start text) ≡ got (take (name - start) (drop start text)) (drop name text)) where
      behind_it : read_line (drop at text) ≡ behind_name (take (name - start) (drop start text)) (word (codes " ") (drop name text))
      unfolding with_name
      behind_it = before_name ∙ ap with_name n

      pub no_space : EndOf text name (word (codes " ") (drop name text)) None → read_line (drop at text) ≡ bad
      unfolding behind_name
      no_space h =
          behind_it ∙ ap (behind_name (take (name - start) (drop start text))) (end_bad text name (word (codes " ") (drop name text)) h)

      module _ (shape : ℕ) (s : EndOf text name (word (codes " ") (drop name text)) (Some shape)) where
        before_shape : read_line (drop at text) ≡ with_shape (take (name - start) (drop start text)) (read_expression deepest (drop shape text))
        unfolding behind_name
        before_shape =
            behind_it ∙ ap (behind_name (take (name - start) (drop start text))) (worded (codes " ") text name shape s).reads

        pub no_shape : read_expression deepest (drop shape text) ≡ bad → read_line (drop at text) ≡ bad
        unfolding with_shape
        no_shape e = before_shape ∙ ap (with_shape (take (name - start) (drop start text))) e

        module _ (before : Writer ByteRange (Unit {0})) (bracket : ℕ) (after : Writer ByteRange (Unit {0})) (p : ExpressionAt text shape (read_expression deepest (drop shape text)) before (Some bracket) after) where
          before_end : read_line (drop at text) ≡ shut_line (record { name = take (name - start) (drop start text); shape = p.0 }) (word (93 ∷ (10 ∷ [])) (drop bracket text))
          unfolding with_shape
          before_end =
              before_shape
              ∙ ap (with_shape (take (name - start) (drop start text))) p.2
              ∙ ap (λ t. shut_line (record { name = take (name - start) (drop start text); shape = p.0 }) (word (93 ∷ (10 ∷ [])) t)) (sym p.3.stands.behind)

          pub no_end : EndOf text bracket (word (93 ∷ (10 ∷ [])) (drop bracket text)) None → read_line (drop at text) ≡ bad
          unfolding shut_line
          no_end h =
              before_end
              ∙ ap (shut_line (record { name = take (name - start) (drop start text); shape = p.0 })) (end_bad text bracket (word (93 ∷ (10 ∷ [])) (drop bracket text)) h)

          pub lined : (end : ℕ) → EndOf text bracket (word (93 ∷ (10 ∷ [])) (drop bracket text)) (Some end) → start ≤ name → WritesAt text at before (Some (record { value = record { start = start; end = name }; end = end })) after
          unfolding shut_line
          lined end h forward =
              let u = worded (codes "[") text at start b in
              let v = worded (codes " ") text name shape s in
              let w = worded (93 ∷ (10 ∷ [])) text bracket end h in
              let q = p.3 in (
                record { name = take (name - start) (drop start text); shape = p.0 },
                drop end text,
                before_end ∙ ap (shut_line (record { name = take (name - start) (drop start text); shape = p.0 })) w.reads,
                record {
                  stands = record { forward = omega (arith, u.place, v.place, w.place, q.stands.forward); inside = w.inside; behind = refl };
                  longer = omega (arith, u.place, v.place, w.place, q.stands.forward);
                  name = refl;
                  name_starts = omega (arith, u.place);
                  name_forward = forward;
                  name_before = omega (arith, v.place, w.place, q.stands.forward);
                  small = omega (arith, u.place, v.place, w.place, q.small);
                },
                q.wrote,
              )

  pub no_line : (before : Writer ByteRange (Unit {0})) (r : Option (Read Span)) (after : Writer ByteRange (Unit {0})) → r ≡ None → read_line (drop at text) ≡ bad → WritesAt text at before r after
  no_line before r after none h = subst (λ o. WritesAt text at before o after) (sym none) h

  -- With nothing written before, the writer has counted the atoms and nodes of the form.
  pub told : (before : Writer ByteRange (Unit {0})) (line : Read Span) (after : Writer ByteRange (Unit {0})) → before.used ≡ 0 → before.atoms ≡ 0 → line.end < 2 ^ 64 → WritesAt text at before (Some line) after → FormAt text at (Some (record { name = line.value; end = line.end; atoms = after.atoms; nodes = after.used }))
  told before line after unused no_atoms short (form, rest, reads, is, wrote) =
      let nodes : after.used ≡ length (code form.shape) = omega (arith, is.small, wrote.used.exact (omega (arith, is.small))) in
      let atoms : after.atoms ≡ atoms form.shape =
      omega (arith, atoms_in_code form.shape, wrote.atoms.exact (omega (arith, is.small, atoms_in_le (code form.shape)))) in (
        form,
        rest,
        reads,
        record {
          stands = is.stands;
          longer = is.longer;
          name = is.name;
          name_starts = is.name_starts;
          name_forward = is.name_forward;
          name_before = is.name_before;
          atom_count = atoms;
          node_count = nodes;
          small = omega (arith, is.small);
        },
      )

  -- A table with no place left stays as it is.
  pub form_past : (table : Nodes) (used : ℕ) → length table ≤ used → table ≡ with_form (read_line (drop at text)) table used
  unfolding with_form
  form_past table used h = by (read_line (drop at text))
    where
      by : (front : Front Form) → table ≡ with_form front table used
      by bad = refl
      by (got form rest) = sym (puts_past table used (code form.shape) h)

  pub form_none : (table : Nodes) (used : ℕ) (told : Option Lined) → is_some told ≡ false → FormAt text at told → table ≡ with_form (read_line (drop at text)) table used
  unfolding with_form
  form_none table used None none h = sym (ap (λ f. with_form f table used) h)
  form_none table used (Some told) none h = absurd (false≢true (sym none))

  pub form_some : (before : Writer ByteRange (Unit {0})) (told : Option Lined) (r : Option (Read Span)) (after : Writer ByteRange (Unit {0})) → is_some told ≡ true → FormAt text at told → WritesAt text at before r after → after.nodes.now ≡ with_form (read_line (drop at text)) before.nodes.now before.used
  unfolding with_form
  form_some before None r after some there h = absurd (false≢true some)
  form_some before (Some told) None after some (form, rest, reads, is) h = absurd (let wrong : ◌≡◌ {A = ℕ} 0 1 = cc in omega arith)
  form_some before (Some told) (Some again) after some there (form, rest, reads, is, wrote) =
      wrote.written ∙ sym (ap (λ f. with_form f before.nodes.now before.used) reads)
