use Rattle.std.proofs.Common.{◌≡◌, ◌+◌, ◌<◌, length, get_or, sym, subst, inl, inr, arith}
use lib.Bits.{bit_or}
use Rattle.std.proofs.lemmas.List.{get_or_read}
use Rattle.bits.specs.Sets.{Has, singleton}
use Rattle.models.specs.declared.node.Node.TheVariants as node
use Rattle.positions.specs.Walks.{Reads}
use Rattle.bits.proofs.Bits.{has_or, has_or_l, has_or_r, has_single, single_has}
use Rattle.positions.proofs.Gathering.{Gathered, gathered_more}
use Rattle.positions.proofs.walks.reading.Goals as goal

pub loop-number-preserved-then-reads : goal.loop-number-preserved-then-reads
loop-number-preserved-then-reads g c =
    let stands = g.L.Alphabet.stands in
    let atoms = c.args.atoms.now in
    let base = c.args.base in
    let p = c.in-Some.number in
    let got = c.loop-number.found in
    let t = c.in-Some.ensures.steps in
    let lt : base + p < length atoms = omega (arith, c.requires, t.0) in
    let here = subst (λ x. Reads stands x c.args.letter) (get_or_read atoms (base + p) c.index-atoms-base.result lt c.index-atoms-base.is node.Unused) c.if-reads.ensures in
    subst (λ b. Gathered (λ q n. (n ≡ q) × Reads stands (get_or atoms (base + q) node.Unused) c.args.letter) c.args.set c.next.new.self.left (bit_or got b)) (sym c.only-found.ensures)
    (gathered_more (λ q n. (n ≡ q) × Reads stands (get_or atoms (base + q) node.Unused) c.args.letter) c.args.set c.loop-number.number-iterator.left c.next.new.self.left p got (bit_or got (singleton p)) t c.loop-number.invariant
    (λ n. (
      λ h. elim (has_or got (singleton p) n h) [ inl k ↦ inl k | inr k ↦ inr (has_single p n t.0 k, here) ],
      elim [ inl h ↦ has_or_l got (singleton p) n h | inr h ↦ has_or_r got (singleton p) n (subst (Has (singleton p)) (sym h.0) (single_has p t.0)) ],
    )))

pub loop-number-preserved : goal.loop-number-preserved
loop-number-preserved g c =
    let stands = g.L.Alphabet.stands in
    let atoms = c.args.atoms.now in
    let base = c.args.base in
    let p = c.in-Some.number in
    let t = c.in-Some.ensures.steps in
    let lt : base + p < length atoms = omega (arith, c.requires, t.0) in
    let is = get_or_read atoms (base + p) c.index-atoms-base.result lt c.index-atoms-base.is node.Unused in
    gathered_more (λ q n. (n ≡ q) × Reads stands (get_or atoms (base + q) node.Unused) c.args.letter) c.args.set c.loop-number.number-iterator.left c.next.new.self.left p c.loop-number.found c.loop-number.found t c.loop-number.invariant
    (λ n. (
      λ h. inl h,
      elim [ inl h ↦ h | inr h ↦ absurd (c.if-reads.ensures (subst (λ x. Reads stands x c.args.letter) (sym is) h.1)) ],
    ))
