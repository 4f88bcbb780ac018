-- Equal profiles, in the bytes of two images and in two records (docs/RULES.md, "The class image": profiles are the same if m and the
-- entries before it are), and checks that say the same.
use Rattle.std.specs.Prelude.{ℕ, ◌<◌, ◌≡◌, List}
use Rattle.image.specs.Header.{entry_count}
use Rattle.image.specs.Profile.{point_at, role_at, point_in, role_in}
use Rattle.image.specs.declared.Profile.{Profile}
use Rattle.image.specs.declared.Checked.{Checked}

-- m and the entries before it, in the bytes of two images
pub record SameProfile (s t : List ℕ) : Type 0 where
  pub count : entry_count s ≡ entry_count t
  pub point : (i : ℕ) → i < entry_count s → point_at s i ≡ point_at t i
  pub role : (i : ℕ) → i < entry_count s → role_at s i ≡ role_at t i

-- the used lengths and the entries before them, in two records, whatever their room
pub record SameEntries (p q : Profile) : Type 0 where
  pub count : p.used ≡ q.used
  pub point : (i : ℕ) → i < p.used → point_in p i ≡ point_in q i
  pub role : (i : ℕ) → i < p.used → role_in p i ≡ role_in q i

-- two checks or reads give the same answer and the same profile
pub record SameChecked (j k : Checked) : Type 0 where
  pub answer : j.answer ≡ k.answer
  pub entries : SameEntries j.profile k.profile
