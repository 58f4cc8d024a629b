-- A declaration, from its parts.
use Rattle.std.proofs.Common.{◌≡◌, ℕ, ◌+◌, ◌-◌, ◌^◌, ◌<◌, ◌≤◌, Bool, true, false, ◌&&◌, List, [], ◌∷◌, length, take, drop, is_some, Some, None, codes, Option, sym, refl, ap, ◌∙◌, arith, length-drop, drop-drop}
use Rattle.std.proofs.lemmas.List.Sums.{prefix_len-le-length}
use Rattle.std.specs.List.{prefix_len}
use Rattle.scan.proofs.Skipping.{skip_leading}
use Rattle.std.proofs.lemmas.Bool.{false≢true}
use Rattle.models.specs.Expressions.{atoms}
use Rattle.models.specs.Folds.{code}
use Rattle.scan.specs.Lists.{all_listed}
use Rattle.scan.specs.Bytes.{is_blank, first_is, skip}
use Rattle.scan.specs.Names.{Name, read_name}
use Rattle.scan.specs.Readings.{Front, bad, got, word, EndOf, Stands}
use Rattle.scan.specs.Spans.{bytes_at}
use Rattle.scan.specs.declared.read.Read.{Read}
use Rattle.scan.specs.declared.span.Span.{Span}
use Rattle.scan.proofs.Ends.{worded, end_bad}
use Rattle.scan.proofs.Writing.{puts_past}
use Rattle.writing.proofs.Writing.{atoms_in_code, atoms_in_le}
use Rattle.declarations.specs.Answers.{Nodes, DeclaredAt, with_model, name_start}
use Rattle.declarations.specs.Inner.{ContentAt, HeadAt, WritesAt}
use Rattle.declarations.specs.Contents.{Declaration}
use Rattle.declarations.specs.Models.{model, content_names}
use Rattle.declarations.specs.Readers.{behind, read_content, closed_by, with_content, behind_name, behind_word, read_declaration}
use Rattle.declarations.specs.declared.declared.Declared.{Declared}
use Rattle.declarations.specs.Writers.{ModelWriter}
use Rattle.declarations.specs.declared.reading.Head.{Head}
use Rattle.declarations.proofs.Leaves.{end_at}
use Rattle.declarations.proofs.Stages.{comes, flip, behind_drop}

-- The name begins behind the word and its blanks.
name_begins : (text : List ℕ) (at w start end : ℕ) → EndOf text at (word (codes "<!ELEMENT") (drop at text)) (Some w) → drop start text ≡ skip (drop w text) → Stands text start (drop end text) end → start ≡ name_start text at
name_begins text at w start end there skipped stands =
    let q = worded (codes "<!ELEMENT") text at w there in
    let w_is : w ≡ at + 9 = sym q.place in
    let same : drop start text ≡ drop (w + prefix_len is_blank (drop w text)) text = skipped ∙ skip_leading (drop w text) ∙ drop-drop (prefix_len is_blank (drop w text)) w text in
    let l = ap length same in
    let a = length-drop start text in
    let b = length-drop (w + prefix_len is_blank (drop w text)) text in
    let d = length-drop w text in
    let m = prefix_len-le-length is_blank (drop w text) in
    let here : start ≡ w + prefix_len is_blank (drop w text) = omega (arith, stands.forward, stands.inside, q.inside) in
    here ∙ ap (λ k. k + prefix_len is_blank (drop k text)) w_is

module _ (text : List ℕ) (at : ℕ) where
  pub no_word : EndOf text at (word (codes "<!ELEMENT") (drop at text)) None → read_declaration (drop at text) ≡ bad
  unfolding behind_word
  no_word h = ap behind_word (end_bad text at (word (codes "<!ELEMENT") (drop at text)) h)

  module _ (w : ℕ) (there : EndOf text at (word (codes "<!ELEMENT") (drop at text)) (Some w)) where
    after_word : read_declaration (drop at text) ≡ behind_word (got tt (drop w text))
    after_word =
        let q = worded (codes "<!ELEMENT") text at w there in
        ap behind_word q.reads

    pub no_blank : first_is is_blank (drop w text) ≡ false → read_declaration (drop at text) ≡ bad
    unfolding behind_word
    no_blank h = after_word ∙ ap (λ b. elim b [ true ↦ behind_name (read_name (skip (drop w text))) | false ↦ bad ]) h

    module _ (start : ℕ) (blank : first_is is_blank (drop w text) ≡ true) (skipped : drop start text ≡ skip (drop w text)) where
      before_name : read_declaration (drop at text) ≡ behind_name (read_name (drop start text))
      unfolding behind_word
      before_name =
          after_word
          ∙ ap (λ b. elim b [ true ↦ behind_name (read_name (skip (drop w text))) | false ↦ bad ]) blank
          ∙ ap (λ t. behind_name (read_name t)) (sym skipped)

      pub no_name : EndOf text start (read_name (drop start text)) None → read_declaration (drop at text) ≡ bad
      unfolding behind_name
      no_name h = before_name ∙ ap behind_name (end_bad text start (read_name (drop start text)) h)

      module _ (end : ℕ) (reads : read_name (drop start text) ≡ got (take (end - start) (drop start text)) (drop end text)) where
        pub no_second_blank : first_is is_blank (drop end text) ≡ false → read_declaration (drop at text) ≡ bad
        unfolding behind_name
        no_second_blank h =
            before_name ∙ ap behind_name reads
            ∙ ap (λ b. elim b [ true ↦ with_content (take (end - start) (drop start text)) (read_content (skip (drop end text))) | false ↦ bad ]) h

        pub headed : (content : ℕ) → first_is is_blank (drop end text) ≡ true → drop content text ≡ skip (drop end text) → w ≤ start → EndOf text start (read_name (drop start text)) (Some end) → end ≤ content → content ≤ length text → HeadAt text at (Some (record { value = record { start = start; end = end }; end = content }))
        unfolding behind_name
        headed content h further forward name_there longer inside =
            let stands = end_at text start (read_name (drop start text)) (take (end - start) (drop start text)) (drop end text) end reads name_there in
            let q = worded (codes "<!ELEMENT") text at w there in
            let begins = name_begins text at w start end there skipped stands in (
              before_name ∙ ap behind_name reads
                  ∙ ap (λ b. elim b [ true ↦ with_content (take (end - start) (drop start text)) (read_content (skip (drop end text))) | false ↦ bad ]) h
                  ∙ ap (λ t. with_content (take (end - start) (drop start text)) (read_content t)) (sym further),
              omega (arith, q.place),
              stands.forward,
              longer,
              inside,
              begins,
            )

closed_yes : (d : Declaration) (t : List ℕ) → comes 62 t ≡ true → closed_by d t ≡ got d (behind t)
unfolding closed_by
closed_yes d [] h = absurd (false≢true h)
closed_yes d (b ∷ t) h = rw (flip b 62, h, closed_by)

closed_no : (d : Declaration) (t : List ℕ) → comes 62 t ≡ false → closed_by d t ≡ bad
unfolding closed_by
closed_no d [] h = refl
closed_no d (b ∷ t) h = rw (flip b 62, h, closed_by)

module _ (text : List ℕ) (names : List Name) (at : ℕ) (before : ModelWriter) (head : Read Span) (begun : HeadAt text at (Some head)) where
  abbrev name : Name
  name = bytes_at text head.value

  pub content_missing : read_content (drop head.end text) ≡ bad → read_declaration (drop at text) ≡ bad
  unfolding with_content
  content_missing b = begun.0 ∙ ap (with_content name) b

  module _ (body : Read Bool) (after : ModelWriter) (read : ContentAt text names head.end (read_content (drop head.end text)) before (Some body) after) (close : ℕ) (skipped : drop close text ≡ skip (drop body.end text)) where
    abbrev declared : Declaration
    declared = record { name = name; content = read.0 }

    before_close : read_declaration (drop at text) ≡ closed_by declared (drop close text)
    unfolding with_content
    before_close =
        begun.0 ∙ ap (with_content name) read.2
        ∙ ap (closed_by declared) (ap skip (sym read.3.part.stands.behind) ∙ sym skipped)

    pub unclosed : comes 62 (drop close text) ≡ false → read_declaration (drop at text) ≡ bad
    unclosed h = before_close ∙ closed_no declared (drop close text) h

    pub closed : comes 62 (drop close text) ≡ true → close < length text → body.end ≤ close → WritesAt text names at before (Some (record { value = record { name = head.value; distinct = body.value }; end = close + 1 })) after
    closed h inside forward =
        let b = read.3 in
        let p = b.part in (
          declared,
          drop (close + 1) text,
          before_close ∙ closed_yes declared (drop close text) h ∙ ap (got declared) (behind_drop text close inside),
          record {
            stands = record { forward = omega (arith, begun.1, begun.2, begun.3, p.stands.forward); inside = omega arith; behind = refl };
            longer = omega (arith, begun.1, begun.2, begun.3, p.stands.forward);
            name = refl;
            begins = begun.5;
            name_after = omega (arith, begun.1);
            name_forward = begun.2;
            name_before = omega (arith, begun.3, p.stands.forward);
            small = omega (arith, p.small, begun.1, begun.2, begun.3);
            differ = b.differ;
          },
          p.all_known,
          p.wrote,
        )

module _ (text : List ℕ) (names : List Name) (at : ℕ) where
  -- With nothing written before, the writer has counted the atoms and nodes of the model.
  pub told : (before : ModelWriter) (read : Read Head) (after : ModelWriter) → before.used ≡ 0 → before.atoms ≡ 0 → before.told ≡ true → read.end < 2 ^ 64 → WritesAt text names at before (Some read) after → DeclaredAt text names at (Some (record { name = read.value.name; end = read.end; atoms = after.atoms; nodes = after.used; known = after.told; distinct = read.value.distinct }))
  told before read after unused no_atoms known short (d, rest, reads, is, knows, wrote) =
      let nodes : after.used ≡ length (code (model names d.content)) = omega (arith, is.small, wrote.used.exact (omega (arith, is.small))) in
      let few : after.atoms ≡ atoms (model names d.content) =
      omega (arith, atoms_in_code (model names d.content), wrote.atoms.exact (omega (arith, is.small, atoms_in_le (code (model names d.content))))) in
      let all : after.told ≡ all_listed names (content_names d.content) = knows ∙ ap (λ b. b && all_listed names (content_names d.content)) known in (
        d,
        rest,
        reads,
        record {
          stands = is.stands;
          longer = is.longer;
          name = is.name;
          begins = is.begins;
          name_after = is.name_after;
          name_forward = is.name_forward;
          name_before = is.name_before;
          atom_count = few;
          node_count = nodes;
          small = omega (arith, is.small);
          all_known = all;
          differ = λ h. is.differ (sym all ∙ h);
        },
      )

  -- A table with no place left stays as it is.
  pub model_past : (table : Nodes) (used : ℕ) → length table ≤ used → table ≡ with_model names (read_declaration (drop at text)) table used
  unfolding with_model
  model_past table used h = by (read_declaration (drop at text))
    where
      by : (front : Front Declaration) → table ≡ with_model names front table used
      by bad = refl
      by (got d rest) = sym (puts_past table used (code (model names d.content)) h)

  pub model_none : (table : Nodes) (used : ℕ) (told : Option Declared) → is_some told ≡ false → DeclaredAt text names at told → table ≡ with_model names (read_declaration (drop at text)) table used
  unfolding with_model
  model_none table used None none h = sym (ap (λ f. with_model names f table used) h)
  model_none table used (Some it) none h = absurd (false≢true (sym none))

  pub model_some : (before : ModelWriter) (told : Option Declared) (r : Option (Read Head)) (after : ModelWriter) → is_some told ≡ true → DeclaredAt text names at told → WritesAt text names at before r after → after.nodes.now ≡ with_model names (read_declaration (drop at text)) before.nodes.now before.used
  unfolding with_model
  model_some before None r after some there h = absurd (false≢true some)
  model_some before (Some it) None after some (d, rest, reads, is) h = absurd (let wrong : ◌≡◌ {A = ℕ} 0 1 = cc in omega arith)
  model_some before (Some it) (Some again) after some there (d, rest, reads, is, known, wrote) =
      wrote.written ∙ sym (ap (λ f. with_model names f before.nodes.now before.used) reads)
