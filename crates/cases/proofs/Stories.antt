-- The histories of the lists and of the refusals are right.
use Rattle.std.proofs.Common.{◌≡◌, ℕ, List, [], ◌∷◌, ◌++◌, take, drop, replicate, refl, inl, inr, arith}
use Rattle.engine.specs.Trees.{none, Event, start, text, end, Valid, no_values}
use Rattle.engine.specs.Languages.{Language}
use Rattle.calls.specs.Replies.{refused}
use Rattle.bakery.specs.Contents.{Holds}
use Rattle.bakery.specs.Values.{Reads}
use Rattle.bakery.specs.Week.{week, week_events}
use Rattle.bakery.proofs.ContentLaws.{contents_law}
use Rattle.bakery.proofs.Weeks.{week_valid}
use Rattle.sheet.specs.Histories.{Call, begin, send, finish, Turn}
use Rattle.sheet.specs.Levels.{Level}
use Rattle.sheet.specs.Questions.{BeginsDocument, ValuesPlain}
use Rattle.sheet.specs.Theorem.{RightThroughout, RightAfter}
use Rattle.sheet.proofs.Prefixes.{starts_inside, texts_inside, ends_inside}
use Rattle.cases.specs.Answers.{history}
use Rattle.cases.specs.Histories.{WeekPasses, sends, week_history}
use Rattle.cases.specs.Lists.{ToldApart, Mended, sheet_calls, comma_events, comma_passes, comma_offends, late_events, late_answers}
use Rattle.cases.specs.Refusals.{EachRefusal, Nests}
use Rattle.cases.proofs.Rights.{begins, stretch, offends}
use Rattle.cases.proofs.Documents as documents

-- The week passes whatever the values are that it is valid with.
week_right : (V : ℕ → Language ℕ) → Valid Holds V 1 week → ValuesPlain Holds V → RightThroughout Holds V week_history
week_right V valid plain = (
  begins Holds V 1 documents.declared_sheet plain,
  stretch Holds V 1 week valid (begin 1 ∷ []) week_events [] (drop 20 week_history) refl refl refl (omega arith)
      (inr (((1, refl), refl), inr ((omega arith, refl), refl)), tt),
)

pub week_passes : WeekPasses Reads
week_passes = record { valid = week_valid; told = refl; right = week_right Reads week_valid documents.hours_plain }

pub week_passes_freely : WeekPasses no_values
week_passes_freely =
    let valid = documents.free_valid Holds Reads 1 week week_valid in
    record { valid = valid; told = refl; right = week_right no_values valid (documents.free_plain Holds) }

-- An open sheet, shift and hours with nothing in them yet.
abbrev in_sheet : List Level
in_sheet = record { number = 1; done = none } ∷ []

abbrev in_shift : List Level
in_shift = record { number = 2; done = none } ∷ in_sheet

abbrev in_hours : Level
in_hours = record { number = 5; done = none }

abbrev opening : List Event
opening = start 1 ∷ start 2 ∷ start 5 ∷ []

-- The calls that lead into the hours.
abbrev within : List Call
within = begin 1 ∷ send (start 1) ∷ send (start 2) ∷ send (start 5) ∷ []

no_comma : BeginsDocument Holds Reads 1 (opening ++ (text (55 ∷ 44 ∷ 53 ∷ []) ∷ [])) → ⊥
no_comma d =
    let (w, reads) = (texts_inside Holds Reads 1 in_hours in_shift (55 ∷ 44 ∷ 53 ∷ []) refl d).1 documents.some_hours in
    documents.comma_hours (53 ∷ w) reads

no_empty_hours : BeginsDocument Holds Reads 1 (opening ++ (end 5 ∷ [])) → ⊥
no_empty_hours d = documents.empty_hours ((ends_inside Holds Reads 1 in_hours in_shift 5 refl d).2 documents.some_hours)

no_other_end : (n : ℕ) → (n ≡ 5 → ⊥) → BeginsDocument Holds Reads 1 (opening ++ (end n ∷ [])) → ⊥
no_other_end n other d = other (ends_inside Holds Reads 1 in_hours in_shift n refl d).0

no_lock : BeginsDocument Holds Reads 1 (opening ++ (start 4 ∷ [])) → ⊥
no_lock d =
    let (w, holds) = starts_inside Holds Reads 1 in_hours in_shift 4 refl d in
    documents.childless_hours 4 w holds

-- Once the text was refused, every other way out of the hours is refused too.
comma_stays : RightAfter Holds Reads within (drop 4 (history (sheet_calls comma_events) comma_offends))
comma_stays = (
  offends Holds Reads within (text (55 ∷ 44 ∷ 53 ∷ [])) 1 refl refl tt no_comma,
  (
    offends Holds Reads within (end 5) 1 refl refl documents.declared_hours no_empty_hours,
    (
      offends Holds Reads within (end 2) 1 refl refl documents.declared_shift (no_other_end 2 (λ e. omega arith)),
      (
        offends Holds Reads within (start 4) 1 refl refl documents.declared_lock no_lock,
        (
          offends Holds Reads within (end 4) 1 refl refl documents.declared_lock (no_other_end 4 (λ e. omega arith)),
          (
            offends Holds Reads within (end 1) 1 refl refl documents.declared_sheet (no_other_end 1 (λ e. omega arith)),
            (inr (((1, refl), refl), inl (λ h. omega arith, refl)), tt),
          ),
        ),
      ),
    ),
  ),
)

pub told_apart : ToldApart
told_apart = record {
  passes = record {
    all = refl;
    right = (
      begins Holds no_values 1 documents.declared_sheet (documents.free_plain Holds),
      stretch Holds no_values 1 documents.comma_sheet documents.comma_valid (begin 1 ∷ []) comma_events []
          (drop 10 (history (sheet_calls comma_events) comma_passes)) refl refl refl (omega arith)
          (inr (((1, refl), refl), inr ((omega arith, refl), refl)), tt),
    );
  };
  offends = record {
    all = refl;
    right = (
      begins Holds Reads 1 documents.declared_sheet documents.hours_plain,
      stretch Holds Reads 1 week week_valid (begin 1 ∷ []) opening _
          (drop 4 (history (sheet_calls comma_events) comma_offends)) refl refl refl (omega arith) comma_stays,
    );
  };
}

-- The week as far as the end of its lock, the correction left out.
abbrev locked : List Event
locked = take 13 late_events

abbrev in_locked : Level
in_locked = record { number = 1; done = documents.late_sheet }

no_correction : BeginsDocument Holds Reads 1 (locked ++ (start 3 ∷ [])) → ⊥
no_correction d =
    let (w, holds) = starts_inside Holds Reads 1 in_locked [] 3 refl d in
    documents.no_late_correction w holds

pub mended : Mended
mended = record {
  late = record {
    all = refl;
    right = (
      begins Holds Reads 1 documents.declared_sheet documents.hours_plain,
      stretch Holds Reads 1 documents.late_sheet documents.late_valid (begin 1 ∷ []) locked _
          (drop 14 (history (sheet_calls late_events) late_answers)) refl refl refl (omega arith) (
            offends Holds Reads (begin 1 ∷ sends locked) (start 3) 1 refl refl documents.declared_correction no_correction,
            stretch Holds Reads 1 documents.late_sheet documents.late_valid (begin 1 ∷ sends locked) (end 1 ∷ []) []
                (drop 16 (history (sheet_calls late_events) late_answers)) refl refl refl (omega arith)
                (inr (((1, refl), refl), inr ((omega arith, refl), refl)), tt),
          ),
    );
  };
  mended = record { all = refl; right = week_passes.right };
}

abbrev refusing : Call → ℕ → List Turn
refusing call n = record { call = call; reply = refused n } ∷ []

abbrev deep : List Event
deep = replicate 64 (start 1)

no_early_lock : BeginsDocument Holds Reads 1 (start 1 ∷ start 4 ∷ []) → ⊥
no_early_lock d =
    let (w, holds) = starts_inside Holds Reads 1 (record { number = 1; done = none }) [] 4 refl d in
    documents.no_early_lock w holds

pub each_refusal : EachRefusal
each_refusal = record {
  bakery = contents_law;
  nesting = documents.nests_law;
  not_fresh = (
    begins Holds Reads 1 documents.declared_sheet documents.hours_plain,
    (inl (λ h. let z : ◌≡◌ {A = ℕ} 0 1 = cc in omega arith, refl), tt),
  );
  root_undeclared = (inr (refl, inl (documents.not_declared, refl)), tt);
  value_not_plain = (inr (refl, inr (documents.declared_sheet, inl (documents.sheet_not_plain, refl))), tt);
  not_underway = (inl (λ h. let z : ◌≡◌ {A = ℕ} 0 1 = cc in omega arith, refl), tt);
  not_known = (
    begins Holds Reads 1 documents.declared_sheet documents.hours_plain,
    (inr (((1, refl), refl), inl (documents.not_declared, refl)), tt),
  );
  offending = (
    begins Holds Reads 1 documents.declared_sheet documents.hours_plain,
    stretch Holds Reads 1 week week_valid (begin 1 ∷ []) (start 1 ∷ []) _ (refusing (send (start 4)) 36) refl refl refl (omega arith)
        (offends Holds Reads (begin 1 ∷ send (start 1) ∷ []) (start 4) 1 refl refl documents.declared_lock no_early_lock, tt),
  );
  too_deep = (
    begins Nests no_values 1 ([], (refl, inl refl)) (documents.free_plain Nests),
    stretch Nests no_values 1 (documents.nest 64) (documents.nest_valid 64) (begin 1 ∷ []) deep (start 1 ∷ replicate 65 (end 1)) (refusing (send (start 1)) 37) refl refl refl (omega arith) (
      inr (((1, refl), refl), inr (([], (refl, inl refl)), inr ((1, refl, (documents.nest 64, replicate 65 (end 1), documents.nest_valid 64, refl)), inl (λ h. omega arith, refl)))),
      tt,
    ),
  );
  root_open = (
    begins Holds Reads 1 documents.declared_sheet documents.hours_plain,
    stretch Holds Reads 1 week week_valid (begin 1 ∷ []) (start 1 ∷ []) _ (refusing finish 39) refl refl refl (omega arith)
        (inr (((1, refl), refl), inl (λ h. omega arith, refl)), tt),
  );
}
