-- The pair check depends on the number of profile entries that are allowed through the images' refusals alone. Assumes nothing.
use Prim.Native.Nat.{ℕ}
use mathlib.Core.Path.{◌≡◌}
use mathlib.Core.List.{List}
use mathlib.Core.Option.{Option}
use Rattle.refusal.specs.declared.Refusal.{Refusal}
use Rattle.image.specs.Check.{refusal_within}
use Rattle.pair.specs.Judged.{judged_by}
use Rattle.pair.specs.Pair.{pair_by, pair_within}

pub pair_by_lem :
    (limit : ℕ) (older newer : List ℕ) (o p : Option Refusal) → refusal_within limit older ≡ o → refusal_within limit newer ≡ p
    → pair_within limit older newer ≡ pair_by older newer (judged_by o p)
unfolding pair_within
pair_by_lem limit older newer o p e f = λ d. pair_by older newer (judged_by (e d) (f d))
