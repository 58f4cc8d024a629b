-- Where the declaration with a number stands, by the table of entries.
use Rattle.std.specs.Prelude.{ℕ, ◌-◌, List, slice_index_or}
use Rattle.drafts.specs.declared.refusal.Refusal.{Refusal}
use Rattle.drafts.specs.declared.refusal.Question.TheVariants as question
use Rattle.scan.specs.Lists.{zero_entry}
use Rattle.scan.specs.declared.entry.Entry.{Entry}
use Rattle.sealed.specs.declared.questions.Unsealed.{Unsealed}
use Rattle.sealed.specs.declared.questions.Unsealed.TheVariants as unsealed

abbrev pub place_at : List Entry → ℕ → ℕ
place_at entries number = (slice_index_or entries (number - 1) zero_entry).place

-- The refusal for the first reason why tables may not be sealed. Tables of a draft are never refused for the last two
-- reasons: there are at most 63 of its declarations, and each has a model of declared names.
abbrev pub refusal_of : List Entry → Unsealed → Refusal
refusal_of entries (unsealed.Ambiguous n) = record { question = question.Unambiguous; place = place_at entries n }
refusal_of entries (unsealed.NoTree n) = record { question = question.Tree; place = place_at entries n }
refusal_of entries (unsealed.NoModel n) = record { question = question.Declared; place = place_at entries n }
refusal_of entries unsealed.TooMany = record { question = question.Record; place = place_at entries 1 }
