use Rattle.std.proofs.Common.{◌∙◌, inl, inr}
use lib.Bits.{or_zero_r}
use Rattle.std.proofs.lemmas.Bool.{cases_lt}
use Rattle.bits.proofs.Bits.{singleton_is, singleton_none}
use Rattle.bits.proofs.Sets.{or_power_here, or_power_elsewhere, or_power_more}
use Rattle.bits.proofs.with.Goals as goal

pub returns : goal.returns
returns c =
    let s = c.args.set in
    let p = c.args.place in
    record {
      added = λ within. rw (c.only.ensures ∙ singleton_is p within) (or_power_here s p);
      others = λ q ne. elim (cases_lt p 64) [
        | inl within ↦ rw (c.only.ensures ∙ singleton_is p within) (or_power_elsewhere s p q ne)
        | inr above ↦ rw (c.only.ensures ∙ singleton_none p above, or_zero_r)
      ];
      full = λ above. rw (c.only.ensures ∙ singleton_none p above, or_zero_r);
      more = λ within out. rw (c.only.ensures ∙ singleton_is p within) (or_power_more s p out);
    }
