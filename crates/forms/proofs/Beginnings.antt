-- Which word opens an expression.
use Rattle.std.proofs.Common.{◌≡◌, ℕ, ◌<◌, List, length, drop, Some, None, Option, MatchOption, sym, ap, ◌∙◌, subst, arith}
use Rattle.engine.specs.declared.range.ByteRange.{ByteRange}
use Rattle.models.specs.Expressions.{Exp}
use Rattle.scan.specs.Readings.{Front, bad, got, word}
use Rattle.scan.proofs.Ends.{worded, end_bad}
use Rattle.forms.specs.Grammar.{in_sequence, as_alternatives, opening, any_number, at_least_one, perhaps, mark_opening}
use Rattle.forms.specs.Inner.{OpenedAt, OpenedBy, read_opened}
use Rattle.forms.specs.Readers.{read_members, read_marked, or_else, read_by_word}
use Rattle.forms.specs.declared.openings.Opening.{Opening}
use Rattle.scan.specs.declared.read.Read.{Read}

abbrev pub Reading : Type 0
Reading = List ℕ → Front (Exp ByteRange)

passes : (go : Reading) (other : Front (Exp ByteRange)) (front : Front (Unit {0})) → front ≡ bad → or_else go other front ≡ other
unfolding or_else
passes go other front e = ap (or_else go other) e

takes : (go : Reading) (other : Front (Exp ByteRange)) (front : Front (Unit {0})) (rest : List ℕ) → front ≡ got tt rest → or_else go other front ≡ go rest
unfolding or_else
takes go other front rest e = ap (or_else go other) e

-- What is read where the words before were not there.
abbrev pub from_opt : Reading → List ℕ → Front (Exp ByteRange)
from_opt inner t = or_else (read_marked inner perhaps) bad (word (mark_opening perhaps) t)

abbrev pub from_plus : Reading → List ℕ → Front (Exp ByteRange)
from_plus inner t = or_else (read_marked inner at_least_one) (from_opt inner t) (word (mark_opening at_least_one) t)

abbrev pub from_star : Reading → List ℕ → Front (Exp ByteRange)
from_star inner t = or_else (read_marked inner any_number) (from_plus inner t) (word (mark_opening any_number) t)

abbrev pub from_alt : Reading → List ℕ → Front (Exp ByteRange)
from_alt inner t = or_else (read_members inner as_alternatives) (from_star inner t) (word (opening as_alternatives) t)

abbrev pub from_seq : Reading → List ℕ → Front (Exp ByteRange)
from_seq inner t = or_else (read_members inner in_sequence) (from_alt inner t) (word (opening in_sequence) t)

module _ (text : List ℕ) (at : ℕ) where
  -- What is known once some words were tried: which of them opens the expression, or as what the others read it.
  abbrev pub Tried : (Reading → List ℕ → Front (Exp ByteRange)) → Option (Read Opening) → Type 0
  Tried other None = (inner : Reading) → read_by_word inner (drop at text) ≡ other inner (drop at text)
  Tried other (Some opened) = OpenedAt text at (Some opened)

  -- One word more.
  module _ (w : List ℕ) (some : 0 < length w) (opening : Opening) (other : Reading → List ℕ → Front (Exp ByteRange)) where
    abbrev pub Before : Reading → List ℕ → Front (Exp ByteRange)
    Before inner t = or_else (read_opened inner opening) (other inner t) (word w t)

    pub one_tried : ((inner : Reading) → read_by_word inner (drop at text) ≡ Before inner (drop at text)) → (r : Option (Read Opening)) → OpenedBy text at w opening r → Tried other r
    one_tried before None h =
        λ inner. before inner
        ∙ passes (read_opened inner opening) (other inner (drop at text)) (word w (drop at text)) (end_bad text at (word w (drop at text)) (h some))
    one_tried before (Some opened) (is, h) =
        let e = worded w text at opened.end (h some) in (
          omega (arith, e.place),
          e.inside,
          λ inner. before inner
              ∙ takes (read_opened inner opening) (other inner (drop at text)) (word w (drop at text)) (drop opened.end text) e.reads
              ∙ ap (λ o. read_opened inner o (drop opened.end text)) (sym is),
        )

    pub tried : {P : Type 0} (r s : Option (Read Opening)) → Tried Before r → MatchOption r P (λ x. s ≡ Some x) → (P → OpenedBy text at w opening s) → Tried other s
    tried None s before h says = one_tried before s (says h)
    tried (Some opened) s before h says = subst (Tried other) (sym h) before

  -- Every word was tried.
  pub all_tried : (r : Option (Read Opening)) → Tried (λ inner t. bad) r → OpenedAt text at r
  all_tried None h = h
  all_tried (Some opened) h = h
