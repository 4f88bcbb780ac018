-- What reading gives back of what was written (demand 2; docs/RULES.md, "The class image").
use Rattle.std.specs.Prelude.{ℕ, ◌≤◌, ◌≡◌, List}
use Rattle.std.proofs.Math.Option.{none}
use Rattle.image.specs.declared.Profile.{Profile}
use Rattle.image.specs.Header.{version_of, range_count}
use Rattle.image.specs.Profile.{point_in, role_in, profile_of}
use Rattle.image.specs.Same.{SameEntries}
use Rattle.image.specs.Check.{refusal_of, ranges_of}
use Rattle.writer.specs.Write.{ranges_in}

-- what an image gives back
pub record ReadBack (version : ℕ) (words : List ℕ) (p : Profile) (s : List ℕ) : Type 0 where
  pub is_accepted : refusal_of s ≡ none
  pub same_version : version_of s ≡ version
  pub same_count : range_count s ≡ ranges_in words
  pub same_words : ranges_of s ≡ words
  pub same_entries : SameEntries p (profile_of s)
  pub zeros : (i : ℕ) → p.used ≤ i → (point_in (profile_of s) i ≡ 0) × (role_in (profile_of s) i ≡ 0)
