-- Profiles: code points with roles (docs/RULES.md, "The class image"; refusal 4).
-- `limit` is how many entries a record has room for; the names without `_within` have the limit in force.
--
--   point_at, role_at              the code point and the role of entry i of an image
--   profile_by                    the record with these code points, roles and used length
--   point_in, role_in              the code point and the role of entry i of a record
--   good_entry_alone, good_entry    whether an entry is good by itself; whether it is good, among the others
--   first_bad_entry                the index of the first bad entry of m, or m
--   profile_within, profile_of     the record of an image's profile: its entries, and zeros past them
--   no_profile_within, no_profile   the empty record, which stands beside a refusal
--   role_by, role_of               the role of a code point among m entries; in a record; 0 where it has no entry
--   start_role, nonstart_role      roles 1 and 2
--   medial_role, other_role        roles 3 and 4
--   hashtag_role                  role 5
--   after_role                    the class after the profile, by the role and the class in the ranges
--   is_medial, is_hashtag          whether a role is that of a medial; that of hashtag Continue
use Rattle.std.specs.Prelude.{ℕ, ◌+◌, ◌-◌, ◌*◌, List, Bool, not, ◌&&◌, ◌||◌, cond, leb, ltb, eqb, get_or, replicate}
use Rattle.lists.specs.First.{first_where}
use Rattle.lists.specs.Each.{column}
use Rattle.utf8.specs.Scalar.{is_scalar}
use Rattle.image.specs.Word.{word_at}
use Rattle.image.specs.Limits.{max_entries, word_bytes, entry_bytes, first_role, last_role}
use Rattle.image.specs.Class.{Start, Nonstart, Other, class_number}
use Rattle.image.specs.Header.{range_count, entry_count, entries_at}
use Rattle.image.specs.declared.Profile.{Profile}

unfoldable pub point_at : List ℕ → ℕ → ℕ
point_at s i = word_at s (entries_at (range_count s) + entry_bytes * i)

unfoldable pub role_at : List ℕ → ℕ → ℕ
role_at s i = word_at s (entries_at (range_count s) + entry_bytes * i + word_bytes)

abbrev pub profile_by : List ℕ → List ℕ → ℕ → Profile
profile_by points roles used = record { points = points; roles = roles; used = used }

abbrev pub point_in : Profile → ℕ → ℕ
point_in p i = get_or p.points i 0

abbrev pub role_in : Profile → ℕ → ℕ
role_in p i = get_or p.roles i 0

-- a scalar value and a role of 1 to 5
unfoldable pub good_entry_alone : ℕ → ℕ → Bool
good_entry_alone point role = is_scalar point && (leb first_role role && leb role last_role)

-- and the code point is above that of the entry before
unfoldable pub good_entry : (ℕ → ℕ) → (ℕ → ℕ) → ℕ → Bool
good_entry point role i = good_entry_alone (point i) (role i) && (eqb i 0 || ltb (point (i - 1)) (point i))

unfoldable pub first_bad_entry : (ℕ → ℕ) → (ℕ → ℕ) → ℕ → ℕ
first_bad_entry point role m = first_where (λ (i : ℕ). not (good_entry point role i)) m

unfoldable pub profile_within : ℕ → List ℕ → Profile
profile_within limit s =
    record { points = column limit (point_at s) (entry_count s); roles = column limit (role_at s) (entry_count s); used = entry_count s }

abbrev pub profile_of : List ℕ → Profile
profile_of s = profile_within max_entries s

-- no entries, all zeros
unfoldable pub no_profile_within : ℕ → Profile
no_profile_within limit = record { points = replicate limit 0; roles = replicate limit 0; used = 0 }

abbrev pub no_profile : Profile
no_profile = no_profile_within max_entries

unfoldable pub role_by : (ℕ → ℕ) → (ℕ → ℕ) → ℕ → ℕ → ℕ
role_by point role m x =
    let i = first_where (λ (i : ℕ). eqb (point i) x) m in
    cond (ltb i m) (role i) 0

unfoldable pub role_of : Profile → ℕ → ℕ
role_of p x = role_by (point_in p) (role_in p) p.used x

abbrev pub start_role : ℕ
start_role = 1

abbrev pub nonstart_role : ℕ
nonstart_role = 2

abbrev pub medial_role : ℕ
medial_role = 3

abbrev pub other_role : ℕ
other_role = 4

abbrev pub hashtag_role : ℕ
hashtag_role = 5

-- 1 makes Start, 2 Nonstart, 4 Other; every other role keeps the class
unfoldable pub after_role : ℕ → ℕ → ℕ
after_role role class =
    cond (eqb role start_role) (class_number Start)
    (cond (eqb role nonstart_role) (class_number Nonstart) (cond (eqb role other_role) (class_number Other) class))

unfoldable pub is_medial : ℕ → Bool
is_medial role = eqb role medial_role

unfoldable pub is_hashtag : ℕ → Bool
is_hashtag role = eqb role hashtag_role
