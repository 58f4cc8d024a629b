use Rattle.std.proofs.Common.{◌≡◌, ◌≤◌, min, [], length, Err, sym, ap, ◌∙◌, subst, arith, rules}
use Rattle.std.proofs.lemmas.Result.{err_from_is_err_and}
use Rattle.drafts.specs.Noted.{Notes}
use Rattle.drafts.specs.Questions.{Room, refused}
use Rattle.drafts.specs.Reading.{AskedText}
use Rattle.drafts.specs.declared.refusal.Question.TheVariants.{Form, Record}
use Rattle.drafts.specs.declared.refusal.Refusal.{Refusal}
use Rattle.drafts.proofs.Judging.{unread_judged, beyond_judged, refused_judged, listed, accepted_judged, map_ok, map_err, refuse_some, refuse_none}
use Rattle.drafts.proofs.Noting.{none_fits}
use Rattle.drafts.proofs.reading.ask_text.Goals as goal

pub returns-in_err-noted : goal.returns-in_err-noted
returns-in_err-noted c =
    let room : Room = record { nodes = c.args.nodes; records = min c.args.models (length c.args.entries.now) } in
    let refusal = c.in_err-noted.field-0.0 in
    let q = map_err _ (λ e r. ◌≡◌ {A = Refusal} r (record { question = Form; place = e })) c.note.result c.map_err.result refusal c.map_err.ensures.cases c.in_err-noted.was (λ e r h. search rules) in
    let found = subst (Notes c.args.text.now c.min-room.result c.args.entries.now c.note.new.entries) q.1 c.note.ensures in
    let p = err_from_is_err_and c.from_residual.result c.from_residual.ensures.1 in
    subst (λ r. AskedText room c.args.text.now c.args.entries.now c.note.new.entries r) (sym (p.1 ∙ ap Err (p.2 ∙ q.2)))
    (unread_judged room c.args.text.now c.if-text-gt-MOST_BYTES.false found.0 found.1 found.2 ∙ ap (refused 12) (sym found.3))

pub returns-in_err-refuse_at : goal.returns-in_err-refuse_at
returns-in_err-refuse_at c =
    let room : Room = record { nodes = c.args.nodes; records = min c.args.models (length c.args.entries.now) } in
    let noted = c.in_ok-noted.noted in
    let found = subst (Notes c.args.text.now c.min-room.result c.args.entries.now c.note.new.entries) (map_ok _ c.note.result c.map_err.result noted c.map_err.ensures.cases c.in_ok-noted.was) c.note.ensures in
    let limit_is : c.min-room.result ≡ min 63 room.records = omega arith in
    let q = refuse_some Record noted.beyond c.in_err-refuse_at.field-0.0 (sym c.refuse_at.ensures ∙ c.in_err-refuse_at.was) in
    let p = err_from_is_err_and c.from_residual-in_err-refuse_at.result c.from_residual-in_err-refuse_at.ensures.1 in
    subst (λ r. AskedText room c.args.text.now c.args.entries.now c.note.new.entries r) (sym (p.1 ∙ ap Err (p.2 ∙ q.2)))
    (beyond_judged room c.args.text.now c.if-text-gt-MOST_BYTES.false found.0 found.1 found.2 c.min-room.result limit_is q.0 (sym found.3.first_beyond ∙ q.1))

pub slice_bounds-ask_declarations-end : goal.slice_bounds-ask_declarations-end
slice_bounds-ask_declarations-end c =
    let noted = c.in_ok-noted.noted in
    let found = subst (Notes c.args.text.now c.min-room.result c.args.entries.now c.note.new.entries) (map_ok _ c.note.result c.map_err.result noted c.map_err.ensures.cases c.in_ok-noted.was) c.note.ensures in
    let none = refuse_none Record noted.beyond c.in_ok-refuse_at.field-0 (sym c.refuse_at.ensures ∙ c.in_ok-refuse_at.was) in
    let few = none_fits c.min-room.result [] found.0.found (omega arith) (sym found.3.first_beyond ∙ none) in
    let roomy : noted.count ≤ length c.args.entries.now = omega (arith, found.3.counted) in
    search rules

pub returns-in_err-ask_declarations : goal.returns-in_err-ask_declarations
returns-in_err-ask_declarations c =
    let room : Room = record { nodes = c.args.nodes; records = min c.args.models (length c.args.entries.now) } in
    let noted = c.in_ok-noted.noted in
    let found = subst (Notes c.args.text.now c.min-room.result c.args.entries.now c.note.new.entries) (map_ok _ c.note.result c.map_err.result noted c.map_err.ensures.cases c.in_ok-noted.was) c.note.ensures in
    let none = refuse_none Record noted.beyond c.in_ok-refuse_at.field-0 (sym c.refuse_at.ensures ∙ c.in_ok-refuse_at.was) in
    let limit_is : c.min-room.result ≡ min 63 room.records = omega arith in
    let roomy : c.min-room.result ≤ length c.args.entries.now = omega arith in
    let few : length found.0.found ≤ c.min-room.result = omega (arith, none_fits c.min-room.result [] found.0.found (omega arith) (sym found.3.first_beyond ∙ none)) in
    let all = listed room c.args.text.now c.if-text-gt-MOST_BYTES.false found.0 found.1 found.2 c.min-room.result limit_is few c.args.entries.now c.note.new.entries noted found.3 roomy in
    let p = err_from_is_err_and c.from_residual-in_err-ask_declarations.result c.from_residual-in_err-ask_declarations.ensures.1 in
    subst (λ r. AskedText room c.args.text.now c.args.entries.now c.note.new.entries r) (sym (p.1 ∙ ap Err p.2))
    (refused_judged room c.args.text.now c.if-text-gt-MOST_BYTES.false found.0 found.1 found.2 c.min-room.result limit_is few c.in_err-ask_declarations.field-0.0 (c.in_err-ask_declarations.ensures found.0.found room.records all))

pub returns : goal.returns
returns c =
    let room : Room = record { nodes = c.args.nodes; records = min c.args.models (length c.args.entries.now) } in
    let noted = c.in_ok-noted.noted in
    let found = subst (Notes c.args.text.now c.min-room.result c.args.entries.now c.note.new.entries) (map_ok _ c.note.result c.map_err.result noted c.map_err.ensures.cases c.in_ok-noted.was) c.note.ensures in
    let none = refuse_none Record noted.beyond c.in_ok-refuse_at.field-0 (sym c.refuse_at.ensures ∙ c.in_ok-refuse_at.was) in
    let limit_is : c.min-room.result ≡ min 63 room.records = omega arith in
    let roomy : c.min-room.result ≤ length c.args.entries.now = omega arith in
    let few : length found.0.found ≤ c.min-room.result = omega (arith, none_fits c.min-room.result [] found.0.found (omega arith) (sym found.3.first_beyond ∙ none)) in
    let all = listed room c.args.text.now c.if-text-gt-MOST_BYTES.false found.0 found.1 found.2 c.min-room.result limit_is few c.args.entries.now c.note.new.entries noted found.3 roomy in
    accepted_judged room c.args.text.now c.if-text-gt-MOST_BYTES.false found.0 found.1 found.2 c.min-room.result limit_is few c.args.entries.now c.note.new.entries noted found.3 roomy tt (c.in_ok-ask_declarations.ensures found.0.found room.records all)
