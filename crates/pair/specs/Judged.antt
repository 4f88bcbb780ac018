-- Two images judged: the older wholly, then the newer (docs/RULES.md, "Named refusals").
use Rattle.std.specs.Prelude.{ℕ, List, Result, Ok, Err}
use Rattle.std.proofs.Math.Option.{Option, none, some}
use Rattle.refusal.specs.declared.Refusal.{Refusal}
use Rattle.pair.specs.declared.PairRefusal.{PairRefusal}
use Rattle.pair.specs.declared.PairRefusal.TheVariants.{Older, Newer}

-- the older image's refusal of 1 to 4, else the newer's
abbrev pub judged_by : Option Refusal → Option Refusal → Result (Unit {0}) PairRefusal
judged_by (some r) o = Err (Older r)
judged_by none (some r) = Err (Newer r)
judged_by none none = Ok tt

-- .. or both images, where nothing refuses them
abbrev pub both_by : List ℕ → List ℕ → Option Refusal → Option Refusal → Result (List ℕ × List ℕ) PairRefusal
both_by older newer (some r) o = Err (Older r)
both_by older newer none (some r) = Err (Newer r)
both_by older newer none none = Ok (older, newer)
