-- A list that is overwritten place by place, and nodes that are no atom.
use Rattle.std.proofs.Common.{◌≡◌, ℕ, zero, suc, ◌+◌, ◌<◌, List, [], ◌∷◌, ◌++◌, length, drop, set, replicate, sym, refl, ap, ◌∙◌, append-nil, add-one, arith, drop_of_length-le}
use Rattle.models.specs.Readers.{atom_of}
use Rattle.models.specs.declared.node.Node.{Node}
use Rattle.models.specs.declared.node.Node.TheVariants as node

-- One place more is cleared.
pub cleared_more : {V : Type 0} (n : ℕ) (v : V) (w : List V) → n < length w → set (replicate n v ++ drop n w) n v ≡ replicate (n + 1) v ++ drop (n + 1) w
cleared_more {V} n v w lt = go n w lt ∙ ap (λ k. replicate k v ++ drop k w) (sym (add-one n))
  where
    go : (n : ℕ) (w : List V) → n < length w → set (replicate n v ++ drop n w) n v ≡ replicate (suc n) v ++ drop (suc n) w
    go n [] lt = absurd (omega arith)
    go zero (x ∷ w) lt = refl
    go (suc n) (x ∷ w) lt = ap (λ u. v ∷ u) (go n w (omega arith))

pub cleared_all : {V : Type 0} (n : ℕ) (v : V) (w : List V) → n ≡ length w → replicate n v ++ drop n w ≡ replicate (length w) v
cleared_all n v w all =
    ap (λ d. replicate n v ++ d) (drop_of_length-le w (omega arith)) ∙ append-nil (replicate n v) ∙ ap (λ k. replicate k v) all

-- Another node holds no atom.
pub no_atom : {A : Type 0} (x : Node A) → ((a : A) → x ≡ node.Atom a → ⊥) → atom_of x ≡ []
no_atom node.Unused h = refl
no_atom node.Empty h = refl
no_atom (node.Atom a) h = absurd (h a refl)
no_atom node.Seq h = refl
no_atom node.Alt h = refl
no_atom node.Star h = refl
no_atom node.Plus h = refl
no_atom node.Opt h = refl
