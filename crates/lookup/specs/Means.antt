-- What each answer of a lookup says, exactly when (docs/RULES.md, "The class image", "Lookup and its count"; refusals 1 to 4 and 9).
-- `proofs/LookupLaws.antt` joins this to `lookup_of`.
use Rattle.lookup.specs.declared.Probe.{Probe}
use Rattle.lookup.specs.Lookup.{found_with}
use Rattle.std.specs.Prelude.{ℕ, ◌≡◌, true, false, List, Result, Err}
use Rattle.std.proofs.Math.Option.{some}
use Rattle.utf8.specs.Scalar.{is_scalar}
use Rattle.refusal.specs.declared.Refusal.{Refusal}
use Rattle.refusal.specs.declared.Refusal.TheVariants as refusal
use Rattle.image.specs.Header.{range_count, entry_count}
use Rattle.image.specs.Ranges.{range_at}
use Rattle.image.specs.Profile.{point_at, role_at, after_role}
use Rattle.image.specs.Records.{HasClass, HasRole}
use Rattle.image.specs.Accepted.{Accepted}
use Rattle.image.specs.Means.{RefusalMeans}
use Rattle.lookup.specs.Halving.{seek_of}

-- a refusal of the image; 9; or the class after the profile, and the number of steps of the halving rule
pub data LookupMeans (s : List ℕ) (x : ℕ) : Result Probe Refusal → Type 0 where
  image_refused : {r : Refusal} → RefusalMeans s (some r) → LookupMeans s x (Err r)
  not_scalar : Accepted s → is_scalar x ≡ false → LookupMeans s x (Err (refusal.NotScalar x))
  found_class :
      {class role : ℕ} → Accepted s → is_scalar x ≡ true → HasClass (range_at s) (range_count s) x class
      → HasRole (point_at s) (role_at s) (entry_count s) x role
      → LookupMeans s x (found_with (after_role role class) (seek_of (range_at s) 0 (range_count s) x).count)
