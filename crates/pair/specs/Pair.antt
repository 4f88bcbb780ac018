-- What the pair check of two images answers (docs/RULES.md, "Permitted changes", and refusals 10 and 11).
-- `limit` is how many profile entries an image may have; the names without `_within` have the limit in force.
use Rattle.std.specs.Prelude.{ℕ, List, Bool, not, ◌&&◌, ◌||◌, cond, ltb, eqb, Option, Some, None, Result, Ok, Err}
use Rattle.lists.specs.First.{first_where}
use Rattle.utf8.specs.Scalar.{is_scalar}
use Rattle.refusal.specs.declared.Refusal.TheVariants as refusal
use Rattle.image.specs.Limits.{max_entries}
use Rattle.image.specs.Header.{entry_count}
use Rattle.image.specs.Profile.{point_at, role_at}
use Rattle.image.specs.Check.{refusal_within, range_class}
use Rattle.pair.specs.Judged.{judged_by}
use Rattle.pair.specs.Walk.{code_points}
use Rattle.pair.specs.Change.{permitted}
use Rattle.pair.specs.declared.PairRefusal.{PairRefusal}
use Rattle.pair.specs.declared.PairRefusal.TheVariants.{Neither}

-- x is a scalar value whose classes in the ranges are no permitted change
unfoldable pub forbidden_at : List ℕ → List ℕ → ℕ → Bool
forbidden_at older newer x = is_scalar x && not (permitted (range_class older x) (range_class newer x))

-- the smallest code point with a forbidden change; 110000 hex where there is none
unfoldable pub first_forbidden : List ℕ → List ℕ → ℕ
first_forbidden older newer = first_where (forbidden_at older newer) code_points

-- that code point, where there is one
unfoldable pub forbidden_change : List ℕ → List ℕ → Option ℕ
forbidden_change older newer = cond (ltb (first_forbidden older newer) code_points) (Some (first_forbidden older newer)) None

-- the profile entries at index i differ: the code point or the role does
unfoldable pub differs_at : List ℕ → List ℕ → ℕ → Bool
differs_at older newer i = not (eqb (point_at older i) (point_at newer i)) || not (eqb (role_at older i) (role_at newer i))

-- the entries before the count are the same
unfoldable pub same_entries : List ℕ → List ℕ → ℕ → Bool
same_entries older newer count = eqb (first_where (differs_at older newer) count) count

-- profiles are the same if m and the entries before it are
unfoldable pub same_profile : List ℕ → List ℕ → Bool
same_profile older newer = eqb (entry_count newer) (entry_count older) && same_entries older newer (entry_count older)

-- of two accepted images: 11, then 10 with the smallest code point, or yes
unfoldable pub compared_of : List ℕ → List ℕ → Result (Unit {0}) PairRefusal
compared_of older newer =
    cond (same_profile older newer)
    (cond (ltb (first_forbidden older newer) code_points) (Err (Neither (refusal.Change (first_forbidden older newer)))) (Ok tt))
    (Err (Neither refusal.Profiles))

abbrev pub pair_by : List ℕ → List ℕ → Result (Unit {0}) PairRefusal → Result (Unit {0}) PairRefusal
pair_by older newer (Err r) = Err r
pair_by older newer (Ok _) = compared_of older newer

-- the older image is judged wholly, then the newer, then the pair
unfoldable pub pair_within : ℕ → List ℕ → List ℕ → Result (Unit {0}) PairRefusal
pair_within limit older newer = pair_by older newer (judged_by (refusal_within limit older) (refusal_within limit newer))

abbrev pub pair_of : List ℕ → List ℕ → Result (Unit {0}) PairRefusal
pair_of older newer = pair_within max_entries older newer
