-- A sheet that stands inside a document has an open element.
use Rattle.std.proofs.Common.{◌<◌, List, [], ◌∷◌, length, ap, arith}
use Rattle.std.proofs.lemmas.List.{length_push}
use Rattle.frames.specs.Meanings.{Meaning}
use Rattle.sheet.specs.Histories.{Call}
use Rattle.sheet.specs.Levels.{Level, Outermost}
use Rattle.sheet.specs.Stands.{Held, Within}
use Rattle.sheet.specs.States.{depth}
use Rattle.sheet.specs.declared.state.State.{State}

module _ (M : Meaning) where
  pub within_depth : (s : State) (calls : List Call) → Within M s calls → 0 < depth s
  within_depth s calls w = go w.levels w.outermost w.held
    where
      go : (ls : List Level) → Outermost s.root ls → Held M s.frames.items [] ls → 0 < depth s
      go [] o h = absurd o
      go (l ∷ ls) o (front, f, split, r, h) = omega (arith, ap length split, length_push front f)
