-- What a lookup answers (docs/RULES.md, "Lookup and its count", and refusals 1 to 4 and 9).
-- `limit` is how many profile entries an image may have; the names without `_within` have the limit in force.
use Rattle.lookup.specs.declared.Probe.{Probe}
use Rattle.std.specs.Prelude.{ℕ, List, cond, Result, Ok, Err}
use Rattle.std.proofs.Math.Option.{Option, none, some}
use Rattle.utf8.specs.Scalar.{is_scalar}
use Rattle.refusal.specs.declared.Refusal.{Refusal}
use Rattle.refusal.specs.declared.Refusal.TheVariants as refusal
use Rattle.image.specs.Limits.{max_entries}
use Rattle.image.specs.Header.{range_count}
use Rattle.image.specs.Ranges.{range_at}
use Rattle.image.specs.Check.{refusal_within, class_of}
use Rattle.lookup.specs.Halving.{seek_of}

-- a class, and the number of ranges that were looked at
abbrev pub found_with : ℕ → ℕ → Result Probe Refusal
found_with class count = Ok (record { class = class; count = count })

-- in an accepted image: the class after the profile and the number of the search's steps, or 9
abbrev pub found_in : List ℕ → ℕ → Result Probe Refusal
found_in s x =
    cond (is_scalar x) (found_with (class_of s x) (seek_of (range_at s) 0 (range_count s) x).count) (Err (refusal.NotScalar x))

abbrev pub lookup_by : List ℕ → ℕ → Option Refusal → Result Probe Refusal
lookup_by s x none = found_in s x
lookup_by s x (some r) = Err r

-- refusals 1 to 4 of the image come first
unfoldable pub lookup_within : ℕ → List ℕ → ℕ → Result Probe Refusal
lookup_within limit s x = lookup_by s x (refusal_within limit s)

abbrev pub lookup_of : List ℕ → ℕ → Result Probe Refusal
lookup_of s x = lookup_within max_entries s x
