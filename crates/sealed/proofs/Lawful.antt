-- The law of contents, of tables that may be sealed.
use Rattle.std.proofs.Common.{◌≡◌, ℕ, zero, suc, ◌+◌, ◌^◌, ◌<◌, ◌≤◌, Bool, true, false, ◌⊎◌, List, length, Some, None, Option, sym, refl, subst, inl, inr, arith}
use mathlib.Core.HLevel.{⊥_prop}
use mathlib.Core.Logic.{∥∥₁_elim}
use native.Mathlib.Decide.{dec_le}
use borrow.Author.Tests.{both_ways}
use lib.Bits.{bit_or, or_lt}
use Rattle.std.proofs.lemmas.Bool.{cases_eq}
use Rattle.std.proofs.lemmas.Nat.{pow_below}
use Rattle.bits.specs.Sets.{has}
use Rattle.bits.proofs.Sets as sets
use Rattle.engine.specs.Atoms.{StandsFor}
use Rattle.engine.specs.Languages.{Each, Decides}
use Rattle.engine.specs.Trees.{letters, IsKnown, Contents}
use Rattle.engine.specs.declared.alphabet.ContentAtom.{ContentAtom}
use Rattle.engine.specs.declared.alphabet.ContentAtom.TheVariants as content
use Rattle.engine.specs.declared.alphabet.Letter.{Letter}
use Rattle.engine.specs.declared.alphabet.Letter.TheVariants.{Text, Element}
use Rattle.models.specs.Expressions.{Exp}
use Rattle.models.specs.Folds.{Folded, value, code}
use Rattle.models.specs.Readers.{Numbered, atoms_of}
use Rattle.models.specs.Tables.{Coded, ModelWords, NodesOf, model_at, part}
use Rattle.models.specs.declared.node.Model.{Model}
use Rattle.models.specs.declared.node.Node.{Node}
use Rattle.models.proofs.Folding.{folded}
use Rattle.models.proofs.ModelTables.{coded_one}
use Rattle.models.proofs.Numbering.{leaves, coded_leaves}
use Rattle.sealing.specs.Completion.{completion, Completes}
use Rattle.sealing.specs.Forks.{AmbiguousIn}
use Rattle.sealing.specs.Questions.{HasTree}
use Rattle.sealing.proofs.Completing.{completes_told, completed_tree, completed_all, more_trees}
use Rattle.sealing.proofs.Forking.{each_numbered}
use Rattle.sealing.proofs.Marking.{in_leaves}
use Rattle.sealed.specs.Checks.{Names, Sealable}

decided : {P : Type 0} (t : Bool) → Decides t P → P ⊎ (P → ⊥)
decided true h = inl h
decided false h = inr h

module _ (nodes : List (Node ContentAtom)) (models : List Model) where
  -- A number has an expression, or it has none.
  pub coded_or_not : (n : ℕ) → ((e : Exp ContentAtom) × Coded nodes models n e) ⊎ ((e : Exp ContentAtom) → Coded nodes models n e → ⊥)
  coded_or_not n =
      elim (dec_le 1 n) [
        | no below ↦ inr (λ e c. below c.from_one)
        | yes from_one ↦
            elim (dec_le n (length models)) [
              | no above ↦ inr (λ e c. above c.listed)
              | yes listed ↦
                  elim (dec_le (model_at models n).end (length nodes)) [
                    | no beyond ↦ inr (λ e c. beyond c.within)
                    | yes within ↦ by from_one listed within _ (folded (completion 0) 64 (part nodes (model_at models n)) _ refl)
                  ]
            ]
      ]
    where
      by : 1 ≤ n → n ≤ length models → (model_at models n).end ≤ length nodes → (r : Option Bool) → Folded (completion 0) 64 (part nodes (model_at models n)) r → ((e : Exp ContentAtom) × Coded nodes models n e) ⊎ ((e : Exp ContentAtom) → Coded nodes models n e → ⊥)
      by from_one listed within None h = inr (λ e c. h e c.codes)
      by from_one listed within (Some v) (e, c, is) = inl (e, record { from_one = from_one; listed = listed; within = within; codes = c })

  completes_or_not : (set n : ℕ) → Completes nodes models set n ⊎ (Completes nodes models set n → ⊥)
  completes_or_not set n =
      elim (coded_or_not n) [
        | inl (e, c) ↦ decided (value (completion set) 0 e) (completes_told nodes models n set e c (value (completion set) 0 e) refl)
        | inr never ↦ inr (λ (w, (e, c, l), p). never e c)
      ]

  -- Some number up to k is lacking, or none is.
  lacking_or_not : (set k : ℕ) → ((n : ℕ) × (n ≤ k) × (has set n ≡ false) × Completes nodes models set n) ⊎ ((n : ℕ) → 1 ≤ n → n ≤ k → Completes nodes models set n → has set n ≡ true)
  lacking_or_not set zero = inr (λ n low high c. absurd (omega arith))
  lacking_or_not set (suc k) =
      elim (lacking_or_not set k) [
        | inl (n, low, gone, c) ↦ inl (n, omega arith, gone, c)
        | inr none ↦ by none (has set (suc k)) refl
      ]
    where
      last : ((n : ℕ) → 1 ≤ n → n ≤ k → Completes nodes models set n → has set n ≡ true) → (Completes nodes models set (suc k) → has set (suc k) ≡ true) → (n : ℕ) → 1 ≤ n → n ≤ suc k → Completes nodes models set n → has set n ≡ true
      last none here n low high c =
          elim (cases_eq n (suc k)) [
            | inl is ↦ subst (λ j. has set j ≡ true) (sym is) (here (subst (Completes nodes models set) is c))
            | inr ne ↦ none n low (omega arith) c
          ]

      by : ((n : ℕ) → 1 ≤ n → n ≤ k → Completes nodes models set n → has set n ≡ true) → (t : Bool) → has set (suc k) ≡ t → ((n : ℕ) × (n ≤ suc k) × (has set n ≡ false) × Completes nodes models set n) ⊎ ((n : ℕ) → 1 ≤ n → n ≤ suc k → Completes nodes models set n → has set n ≡ true)
      by none true is = inr (last none (λ c. is))
      by none false is =
          elim (completes_or_not set (suc k)) [
            | inl c ↦ inl (suc k, omega arith, is, c)
            | inr never ↦ inr (last none (λ c. absurd (never c)))
          ]

  -- Some set of numbers with trees lacks none.
  grown : (fuel set : ℕ) → set < 2 ^ 64 → 2 ^ 64 ≤ set + fuel → ((n : ℕ) → has set n ≡ true → HasTree nodes models n) → (s : ℕ) × ((n : ℕ) → has s n ≡ true → HasTree nodes models n) × ((n : ℕ) → 1 ≤ n → n ≤ 63 → Completes nodes models s n → has s n ≡ true)
  grown zero set fits enough known = absurd (omega arith)
  grown (suc fuel) set fits enough known =
      elim (lacking_or_not set 63) [
        | inr none ↦ (set, known, none)
        | inl (n, low, gone, c) ↦
            let greater = sets.or_power_more set n gone in
            grown fuel (bit_or set (2 ^ n)) (or_lt 64 set (2 ^ n) fits (pow_below n 64 (omega arith))) (omega arith)
            (more_trees nodes models set (bit_or set (2 ^ n)) n known (completed_tree nodes models set known n c) (sets.or_power_elsewhere set n))
      ]

  -- An element has a valid tree, or it has none.
  pub tree_or_not : length models ≤ 63 → (n : ℕ) → HasTree nodes models n ⊎ (HasTree nodes models n → ⊥)
  tree_or_not few n =
      let (s, known, none) = grown (2 ^ 64) 0 (omega arith) (omega arith) (λ k h. absurd (both_ways (has 0 k) (sets.empty k) h)) in
      decided (has s n) (completed_all nodes models s few known none n)

  module _ (checked : ∥ Sealable nodes models ∥₁) where
    few : length models ≤ 63
    few = elim (dec_le (length models) 63) [ yes le ↦ le | no gt ↦ absurd (∥∥₁_elim checked ⊥_prop (λ s. gt s.few)) ]

    pub never_ambiguous : (n : ℕ) (slice : List (Node ContentAtom)) → NodesOf nodes models n slice → AmbiguousIn slice → ⊥
    never_ambiguous n slice is (e, c, m) =
        let coded = (is e).0 c in
        ∥∥₁_elim checked ⊥_prop (λ s. s.unambiguous n coded.from_one coded.listed (e, coded, m))

    tree : (n : ℕ) → 1 ≤ n → n ≤ length models → HasTree nodes models n
    tree n low high =
        elim (tree_or_not few n) [ inl t ↦ t | inr none ↦ absurd (∥∥₁_elim checked ⊥_prop (λ s. none (s.trees n low high))) ]

    named : (a : ContentAtom) (m : ℕ) → Names (length models) a → StandsFor a (Element m) → (1 ≤ m) × (m ≤ length models)
    named content.Text m h k = absurd k
    named (content.Element n) m h k = subst (λ i. (1 ≤ i) × (i ≤ length models)) k h
    named (content.All last) m h k = (k.0, omega (arith, k.1))

    letter_known : (n : ℕ) (e : Exp ContentAtom) → Coded nodes models n e → (i : ℕ) (a : ContentAtom) (x : Letter) → Numbered (leaves e) 0 i a → StandsFor a x → IsKnown (ModelWords StandsFor nodes models) x
    letter_known n e c i a Text k st = tt
    letter_known n e c i a (Element m) k st =
        elim (tree_or_not few m) [
          | inl (f, v) ↦ (letters f, v.0.content)
          | inr none ↦ absurd (∥∥₁_elim checked ⊥_prop (λ s.
              let (g, d, each) = s.modelled n c.from_one c.listed in
              let same = coded_one nodes models n g e d c in
              let all = subst (λ f. Each (Names (length models)) (atoms_of (code f))) same each in
              let (low, high) = named a m (each_numbered (Names (length models)) (leaves e) 0 i a (subst (Each (Names (length models))) (coded_leaves e) all) k) st in
              none (s.trees m low high)))
        ]

    pub contents_law : Contents (ModelWords StandsFor nodes models)
    contents_law = record {
      numbers = λ n (w, (e, c, h)). (c.from_one, omega (arith, c.listed, few));
      words = λ n w (e, c, h). in_leaves (λ n. StandsFor) (IsKnown (ModelWords StandsFor nodes models)) e 0 (letter_known n e c) w h;
      trees = λ n (w, (e, c, h)). tree n c.from_one c.listed;
    }
