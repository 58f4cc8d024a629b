-- The entries of declarations hold their names.
use Rattle.std.proofs.Common.{◌≡◌, ℕ, ◌+◌, ◌-◌, List, [], ◌∷◌, ◌++◌, length, take, drop, sym, refl, ap, ◌∙◌, arith, drop-drop}
use lib.Seq.{take-append_seam}
use Rattle.scan.proofs.Skipping.{skip_leading}
use Rattle.scan.specs.Bytes.{is_blank, skip}
use Rattle.scan.specs.Lists.{name_at, names_at}
use Rattle.scan.specs.Readings.{got}
use Rattle.std.specs.List.{prefix_len}
use Rattle.declarations.specs.Contents.{Declaration, Placed}
use Rattle.declarations.specs.Readers.{read_declaration}
use Rattle.declarations.proofs.DeclarationGrammar.{declaration_agrees}
use Rattle.drafts.specs.Noted.{AllRead}
use Rattle.drafts.specs.Questions.{declared_names}
use Rattle.declarations.specs.Answers.{name_start}
use Rattle.drafts.specs.Tables.{entry_of, entries_of}

-- Where the name of a declaration stands.
pub name_there : (text : List ℕ) (place : ℕ) (d : Declaration) (rest : List ℕ) → read_declaration (drop place text) ≡ got d rest → (after : List ℕ) × (drop (name_start text place) text ≡ d.name ++ after)
name_there text place d rest h =
    let e = declaration_agrees.sound (drop place text) d rest h in
    let word : drop (place + 9) text ≡ e.after_word = sym (drop-drop 9 place text) ∙ ap (drop 9) e.opening in
    let start : drop (name_start text place) text ≡ drop (prefix_len is_blank (drop (place + 9) text)) (drop (place + 9) text) = sym (drop-drop (prefix_len is_blank (drop (place + 9) text)) (place + 9) text) in
    (e.after_name, start ∙ sym (skip_leading (drop (place + 9) text)) ∙ ap skip word ∙ e.blank.1 ∙ e.name.whole)

pub entry_name : (text : List ℕ) (p : Placed) (rest : List ℕ) → read_declaration (drop p.place text) ≡ got p.declaration rest → name_at text (entry_of text p) ≡ p.declaration.name
entry_name text p rest h =
    let there = name_there text p.place p.declaration rest h in
    let k : (name_start text p.place + length p.declaration.name) - name_start text p.place ≡ length p.declaration.name = omega arith in
    ap (λ n. take n (drop (name_start text p.place) text)) k ∙ ap (take (length p.declaration.name)) there.1 ∙ take-append_seam p.declaration.name there.0

pub entry_names : (text : List ℕ) (found : List Placed) → AllRead text found → names_at text (entries_of text found) ≡ declared_names found
entry_names text [] all = refl
entry_names text (p ∷ found) all =
    ap (λ n. n ∷ names_at text (entries_of text found)) (entry_name text p all.0.0 all.0.1)
    ∙ ap (λ ns. p.declaration.name ∷ ns) (entry_names text found all.1)
