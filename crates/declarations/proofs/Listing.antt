-- Lists of names that are joined.
use Rattle.std.proofs.Common.{◌≡◌, Bool, true, false, ◌&&◌, List, [], ◌∷◌, ◌++◌, refl, ap, ◌∙◌}
use Rattle.scan.specs.Lists.{listed, all_listed}
use Rattle.scan.specs.Names.{Name}

pub and_assoc : (a b c : Bool) → (a && (b && c)) ≡ ((a && b) && c)
and_assoc true b c = refl
and_assoc false b c = refl

pub all_listed_append : (names xs ys : List Name) → all_listed names (xs ++ ys) ≡ (all_listed names xs && all_listed names ys)
all_listed_append names [] ys = refl
all_listed_append names (x ∷ xs) ys =
    ap (λ b. listed names x && b) (all_listed_append names xs ys) ∙ and_assoc (listed names x) (all_listed names xs) (all_listed names ys)
