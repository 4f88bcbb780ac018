-- A lookup depends on the number of profile entries that are allowed through the image's refusal alone. Assumes nothing.
use Prim.Native.Nat.{ℕ}
use mathlib.Core.Path.{◌≡◌, ap}
use mathlib.Core.List.{List}
use mathlib.Core.Option.{Option}
use Rattle.refusal.specs.declared.Refusal.{Refusal}
use Rattle.image.specs.Check.{refusal_within}
use Rattle.lookup.specs.Lookup.{lookup_by, lookup_within}

pub lookup_by_lem : (limit : ℕ) (s : List ℕ) (x : ℕ) (o : Option Refusal) → refusal_within limit s ≡ o → lookup_within limit s x ≡ lookup_by s x o
unfolding lookup_within
lookup_by_lem limit s x o e = ap (lookup_by s x) e
