use Rattle.std.proofs.Common.{ℕ, List, [], ◌∷◌, Err, sym, ap, ◌∙◌, subst, arith, rules}
use Rattle.std.proofs.lemmas.Result.{err_from_is_err_and}
use Rattle.declarations.specs.Contents.{Placed}
use Rattle.drafts.specs.Questions.{Room, Asked, ask_all, declared_names, few_atoms, new_name, names_declared, names_once, nodes_fit}
use Rattle.drafts.specs.Reading.{Tells, later_questions}
use Rattle.drafts.specs.declared.refusal.Question.TheVariants as question
use Rattle.drafts.proofs.Asked.{few_answered, new_answered, known_answered, once_answered}
use Rattle.drafts.proofs.Telling.{last_told, told_no, told_yes, yes_none}
use Rattle.drafts.proofs.reading.ask_declarations.Goals as goal

-- The questions from each one on.
abbrev from_18 : Room → List Placed → List (ℕ × Asked)
from_18 room found = (18, nodes_fit room (declared_names found)) ∷ []

abbrev from_17 : Room → List Placed → List (ℕ × Asked)
from_17 room found = (17, names_once room (declared_names found)) ∷ from_18 room found

abbrev from_16 : Room → List Placed → List (ℕ × Asked)
from_16 room found = (16, names_declared room (declared_names found)) ∷ from_17 room found

abbrev from_15 : Room → List Placed → List (ℕ × Asked)
from_15 room found = (15, new_name room (declared_names found)) ∷ from_16 room found

pub returns-in_err-refuse_at : goal.returns-in_err-refuse_at
returns-in_err-refuse_at c = λ found records listed.
    let room : Room = record { nodes = c.args.nodes; records = records } in
    let p = err_from_is_err_and c.from_residual.result c.from_residual.ensures.1 in
    subst (Tells (ask_all (later_questions room (declared_names found)) found)) (sym (p.1 ∙ ap Err p.2))
    (told_no question.Atoms (few_atoms room (declared_names found)) (from_15 room found) found c.first_no-overgrown.result (c.first_no-overgrown.ensures found listed _ (few_answered _ found _ (λ e b h. search rules))) c.in_err-refuse_at.field-0.0 (sym c.refuse_at.ensures ∙ c.in_err-refuse_at.was))

pub returns-in_err-refuse_at-2 : goal.returns-in_err-refuse_at-2
returns-in_err-refuse_at-2 c = λ found records listed.
    let room : Room = record { nodes = c.args.nodes; records = records } in
    let p = err_from_is_err_and c.from_residual-in_err-refuse_at-2.result c.from_residual-in_err-refuse_at-2.ensures.1 in
    subst (Tells (ask_all (later_questions room (declared_names found)) found)) (sym (p.1 ∙ ap Err p.2))
    (told_yes question.Atoms (few_atoms room (declared_names found)) (from_15 room found) found c.first_no-overgrown.result (c.first_no-overgrown.ensures found listed _ (few_answered _ found _ (λ e b h. search rules))) tt (sym c.refuse_at.ensures ∙ c.in_ok-refuse_at.was) (Err c.in_err-refuse_at-2.field-0.0)
    (told_no question.NewName (new_name room (declared_names found)) (from_16 room found) found c.first_no-repeated.result (c.first_no-repeated.ensures found listed _ (new_answered _ found _ (λ e b h. search rules))) c.in_err-refuse_at-2.field-0.0 (sym c.refuse_at-2.ensures ∙ c.in_err-refuse_at-2.was)))

pub returns-in_err-refuse_at-3 : goal.returns-in_err-refuse_at-3
returns-in_err-refuse_at-3 c = λ found records listed.
    let room : Room = record { nodes = c.args.nodes; records = records } in
    let p = err_from_is_err_and c.from_residual-in_err-refuse_at-3.result c.from_residual-in_err-refuse_at-3.ensures.1 in
    subst (Tells (ask_all (later_questions room (declared_names found)) found)) (sym (p.1 ∙ ap Err p.2))
    (told_yes question.Atoms (few_atoms room (declared_names found)) (from_15 room found) found c.first_no-overgrown.result (c.first_no-overgrown.ensures found listed _ (few_answered _ found _ (λ e b h. search rules))) tt (sym c.refuse_at.ensures ∙ c.in_ok-refuse_at.was) (Err c.in_err-refuse_at-3.field-0.0)
    (told_yes question.NewName (new_name room (declared_names found)) (from_16 room found) found c.first_no-repeated.result (c.first_no-repeated.ensures found listed _ (new_answered _ found _ (λ e b h. search rules))) tt (sym c.refuse_at-2.ensures ∙ c.in_ok-refuse_at-2.was) (Err c.in_err-refuse_at-3.field-0.0)
    (told_no question.Declared (names_declared room (declared_names found)) (from_17 room found) found c.first_no-undeclared.result (c.first_no-undeclared.ensures found listed _ (known_answered _ found _ (λ e b h. search rules))) c.in_err-refuse_at-3.field-0.0 (sym c.refuse_at-3.ensures ∙ c.in_err-refuse_at-3.was))))

pub returns-in_err-refuse_at-4 : goal.returns-in_err-refuse_at-4
returns-in_err-refuse_at-4 c = λ found records listed.
    let room : Room = record { nodes = c.args.nodes; records = records } in
    let p = err_from_is_err_and c.from_residual-in_err-refuse_at-4.result c.from_residual-in_err-refuse_at-4.ensures.1 in
    subst (Tells (ask_all (later_questions room (declared_names found)) found)) (sym (p.1 ∙ ap Err p.2))
    (told_yes question.Atoms (few_atoms room (declared_names found)) (from_15 room found) found c.first_no-overgrown.result (c.first_no-overgrown.ensures found listed _ (few_answered _ found _ (λ e b h. search rules))) tt (sym c.refuse_at.ensures ∙ c.in_ok-refuse_at.was) (Err c.in_err-refuse_at-4.field-0.0)
    (told_yes question.NewName (new_name room (declared_names found)) (from_16 room found) found c.first_no-repeated.result (c.first_no-repeated.ensures found listed _ (new_answered _ found _ (λ e b h. search rules))) tt (sym c.refuse_at-2.ensures ∙ c.in_ok-refuse_at-2.was) (Err c.in_err-refuse_at-4.field-0.0)
    (told_yes question.Declared (names_declared room (declared_names found)) (from_17 room found) found c.first_no-undeclared.result (c.first_no-undeclared.ensures found listed _ (known_answered _ found _ (λ e b h. search rules))) tt (sym c.refuse_at-3.ensures ∙ c.in_ok-refuse_at-3.was) (Err c.in_err-refuse_at-4.field-0.0)
    (told_no question.Once (names_once room (declared_names found)) (from_18 room found) found c.first_no-doubled.result (c.first_no-doubled.ensures found listed _ (once_answered _ found _ (yes_none question.Declared (names_declared room (declared_names found)) (from_17 room found) found c.first_no-undeclared.result (c.first_no-undeclared.ensures found listed _ (known_answered _ found _ (λ e b h. search rules))) tt (sym c.refuse_at-3.ensures ∙ c.in_ok-refuse_at-3.was)) (λ e b h. search rules))) c.in_err-refuse_at-4.field-0.0 (sym c.refuse_at-4.ensures ∙ c.in_err-refuse_at-4.was)))))

pub returns : goal.returns
returns c = λ found records listed.
    let room : Room = record { nodes = c.args.nodes; records = records } in
    told_yes question.Atoms (few_atoms room (declared_names found)) (from_15 room found) found c.first_no-overgrown.result (c.first_no-overgrown.ensures found listed _ (few_answered _ found _ (λ e b h. search rules))) tt (sym c.refuse_at.ensures ∙ c.in_ok-refuse_at.was) c.refuse_at-5.result
    (told_yes question.NewName (new_name room (declared_names found)) (from_16 room found) found c.first_no-repeated.result (c.first_no-repeated.ensures found listed _ (new_answered _ found _ (λ e b h. search rules))) tt (sym c.refuse_at-2.ensures ∙ c.in_ok-refuse_at-2.was) c.refuse_at-5.result
    (told_yes question.Declared (names_declared room (declared_names found)) (from_17 room found) found c.first_no-undeclared.result (c.first_no-undeclared.ensures found listed _ (known_answered _ found _ (λ e b h. search rules))) tt (sym c.refuse_at-3.ensures ∙ c.in_ok-refuse_at-3.was) c.refuse_at-5.result
    (told_yes question.Once (names_once room (declared_names found)) (from_18 room found) found c.first_no-doubled.result (c.first_no-doubled.ensures found listed _ (once_answered _ found _ (yes_none question.Declared (names_declared room (declared_names found)) (from_17 room found) found c.first_no-undeclared.result (c.first_no-undeclared.ensures found listed _ (known_answered _ found _ (λ e b h. search rules))) tt (sym c.refuse_at-3.ensures ∙ c.in_ok-refuse_at-3.was)) (λ e b h. search rules))) tt (sym c.refuse_at-4.ensures ∙ c.in_ok-refuse_at-4.was) c.refuse_at-5.result
    (last_told room found c.first_overfull.result c.refuse_at-5.result c.min.result (omega arith) (c.first_overfull.ensures found listed) c.refuse_at-5.ensures))))
