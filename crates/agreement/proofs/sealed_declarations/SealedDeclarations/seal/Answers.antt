use Rattle.std.proofs.Common.{◌≡◌, ℕ, ◌-◌, List, ◌++◌, length, replicate, Ok, Err, Result, MatchResult, sym, ap, ◌∙◌, subst, rules}
use Rattle.engine.specs.Atoms.{StandsFor}
use Rattle.engine.specs.declared.alphabet.ContentAtom.{ContentAtom}
use Rattle.models.specs.Tables.{Speaks}
use Rattle.models.specs.declared.node.Model.{Model}
use Rattle.models.specs.declared.node.Node.{Node}
use Rattle.models.specs.declared.node.Node.TheVariants.{Unused}
use Rattle.scan.specs.declared.entry.Entry.{Entry}
use Rattle.drafts.specs.Drafted.{declarations, text_models, most}
use Rattle.drafts.specs.Layouts.{all_code, runs_from}
use Rattle.drafts.specs.Tables.{entries_of, filled}
use Rattle.drafts.specs.declared.refusal.Refusal.{Refusal}
use Rattle.std.proofs.lemmas.Result.{err_from_is_err_and}
use Rattle.drafts.proofs.Accepting.{accepted_yes}
use Rattle.drafts.proofs.Judging.{map_ok, map_err}
use Rattle.sealed.specs.Checks.{Judged}
use Rattle.sealed.specs.contracts.sealed.SealedEngine.TheImpl.{ghosts as meaning}
use Rattle.sealed.specs.declared.questions.Unsealed.{Unsealed}
use Rattle.agreement.specs.Places.{refusal_of}
use Rattle.agreement.specs.Sealing.{SealAnswer}
use Rattle.agreement.proofs.Meaning.{speaks_text}
use Rattle.agreement.proofs.Sealing.{all_written, sealed_ok, sealed_not}
use Rattle.agreement.proofs.sealed_declarations.SealedDeclarations.seal.Goals as goal

-- What is said of the draft's tables is said of the models of its text.

of_text : (P : List (Node ContentAtom) → List Model → Type 0) (t : List ℕ) (nodes : List (Node ContentAtom)) (models : List Model) → nodes ≡ filled Unused (length nodes) (all_code (text_models t)) → models ≡ runs_from 0 (text_models t) → P nodes models → P (all_code (text_models t) ++ replicate (length nodes - length (all_code (text_models t))) Unused) (runs_from 0 (text_models t))
of_text P t nodes models ns ms h = subst (P _) ms (subst (λ x. P x models) ns h)

refused : (t : List ℕ) (entries : List Entry) (why : Unsealed) (r : Refusal) → entries ≡ entries_of t (declarations t) → r ≡ refusal_of entries why → SealAnswer t (Err (refusal_of (entries_of t (declarations t)) why)) → SealAnswer t (Err r)
refused t entries why r es is h = subst (λ x. SealAnswer t (Err x)) (sym (is ∙ ap (λ x. refusal_of x why) es)) h

pub returns-in_err-map_err-clause-answer : goal.returns-in_err-map_err-clause-answer
returns-in_err-map_err-clause-answer c =
    let t = c.args.draft.now.text.now in
    let accepted = accepted_yes most t c.args.draft.now.asked in
    let after = replicate (length c.nodes.result.now - length (all_code (text_models t))) Unused in
    let q = map_err _ (λ why r. ◌≡◌ {A = Refusal} r (refusal_of c.entries-entries.result.now why)) c.fill.result c.map_err.result c.in_err-map_err.field-0.0 c.map_err.ensures.cases c.in_err-map_err.was (λ why r h. search rules) in
    let answered = subst (Judged c.nodes.result.now c.models.result.now) q.1 c.fill.ensures.answer in
    let judged = of_text (λ ns ms. Judged ns ms (Err q.0)) t c.nodes.result.now c.models.result.now c.nodes.ensures c.models.ensures answered in
    let p = err_from_is_err_and c.from_residual.result c.from_residual.ensures.1 in
    subst (SealAnswer t) (sym (p.1 ∙ ap Err p.2))
    (refused t c.entries-entries.result.now q.0 c.in_err-map_err.field-0.0 c.entries-entries.ensures q.2 (sealed_not t accepted after q.0 judged))

says : (P : Unit {0} → Type 0) (Q : Unsealed → Type 0) {r : Result (Unit {0}) Unsealed} → r ≡ Ok tt → MatchResult r P Q → P tt
says P Q {r} e h = subst (λ x. MatchResult x P Q) e h

pub returns : goal.returns
returns c =
    let t = c.args.draft.now.text.now in
    let accepted = accepted_yes most t c.args.draft.now.asked in
    let after = replicate (length c.nodes.result.now - length (all_code (text_models t))) Unused in
    let judged = of_text (λ ns ms. Judged ns ms (Ok tt)) t c.nodes.result.now c.models.result.now c.nodes.ensures c.models.ensures (subst (Judged c.nodes.result.now c.models.result.now) (map_ok _ c.fill.result c.map_err.result tt c.map_err.ensures.cases c.in_ok-map_err.was) c.fill.ensures.answer) in
    let speaks = of_text (λ ns ms. Speaks StandsFor ns ms (meaning.language c.fill.new.self)) t c.nodes.result.now c.models.result.now c.nodes.ensures c.models.ensures (says _ _ (map_ok _ c.fill.result c.map_err.result tt c.map_err.ensures.cases c.in_ok-map_err.was) c.fill.ensures.languages) in
    record {
      answer = sealed_ok t accepted after tt judged;
      made = (c.text.ensures, c.empty.ensures);
      languages = speaks_text t accepted (all_written t accepted) after (meaning.language c.fill.new.self) speaks;
    }
