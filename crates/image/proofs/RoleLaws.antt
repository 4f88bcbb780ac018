-- The role of a code point by an image's entries and by the record of its profile is the same; classes after a role. Assumes nothing.
use Prim.Native.Nat.{ℕ, ◌≤◌, ◌<◌}
use mathlib.Core.Path.{◌≡◌, refl, sym, ap}
use mathlib.Core.Bool.{Bool, true, false, cond}
use mathlib.Core.List.{List}
use native.Mathlib.Omega.{arith}
use native.Mathlib.Decide.{dec_lt}
use lib.Dec.{ltb, eqb}
use borrow.Author.Tests.{lt-ltb, le-ltb, eqb-true, ne_eqb}
use Rattle.lists.specs.First.{first_where}
use Rattle.lists.proofs.FirstLaws.{first_same}
use Rattle.image.specs.Limits.{max_entries}
use Rattle.image.specs.Class.{Start, Nonstart, Other, class_number}
use Rattle.image.specs.Header.{entry_count}
use Rattle.image.specs.Profile.{point_at, role_at, point_in, role_in, profile_within, profile_of, role_by, role_of, start_role, nonstart_role, medial_role, other_role, hashtag_role, after_role, is_medial, is_hashtag}
use Rattle.image.specs.Check.{range_class, entry_role, class_of, medial_of, hashtag_of}
use Rattle.image.proofs.ImageLaws.{entry_read}

-- the same entries give the same role
pub role_same :
    (point role point' role' : ℕ → ℕ) (m x : ℕ) → ((i : ℕ) → i < m → point i ≡ point' i) → ((i : ℕ) → i < m → role i ≡ role' i)
    → role_by point role m x ≡ role_by point' role' m x
unfolding role_by
role_same point role point' role' m x e f =
    go _ (first_same (λ (i : ℕ). eqb (point i) x) (λ (i : ℕ). eqb (point' i) x) m (λ i l. ap (λ (p : ℕ). eqb p x) (e i l))) (dec_lt _ m)
  where
    go : (i : ℕ) → i ≡ first_where (λ (i : ℕ). eqb (point' i) x) m → Dec (i < m)
        → cond (ltb i m) (role i) 0 ≡ cond (ltb (first_where (λ (i : ℕ). eqb (point' i) x) m) m) (role' (first_where (λ (i : ℕ). eqb (point' i) x) m)) 0
    go i j (yes l) = rw (← j) (simp (lt-ltb i m l) (f i l))
    go i j (no l) = rw (← j) (simp (le-ltb i m (omega arith)))

module _ (s : List ℕ) (x : ℕ) where
  pub role_in_record : entry_role s x ≡ role_of (profile_of s) x
  unfolding entry_role role_of profile_within
  role_in_record =
      role_same (point_at s) (role_at s) (point_in (profile_of s)) (role_in (profile_of s)) (entry_count s) x
      (λ i l. sym (entry_read max_entries s i l).0) (λ i l. sym (entry_read max_entries s i l).1)

  -- what a role does to the class of the ranges
  pub class_after : class_of s x ≡ after_role (entry_role s x) (range_class s x)
  unfolding class_of
  class_after = refl

  pub medial_by : medial_of s x ≡ is_medial (entry_role s x)
  unfolding medial_of
  medial_by = refl

  pub hashtag_by : hashtag_of s x ≡ is_hashtag (entry_role s x)
  unfolding hashtag_of
  hashtag_by = refl

-- a medial's role is not that of hashtags
pub medial_alone : (role : ℕ) → is_medial role ≡ true → is_hashtag role ≡ false
unfolding is_medial is_hashtag
medial_alone role e = let r = eqb-true role medial_role e in ne_eqb role hashtag_role (λ f. omega arith)

-- classes go to 5 after a role too
pub after_known : (role class : ℕ) → class ≤ 5 → after_role role class ≤ 5
unfolding after_role
after_known role class h = go (eqb role start_role) (eqb role nonstart_role) (eqb role other_role)
  where
    go : (a b c : Bool) → cond a (class_number Start) (cond b (class_number Nonstart) (cond c (class_number Other) class)) ≤ 5
    go true b c = omega arith
    go false true c = omega arith
    go false false true = omega arith
    go false false false = h
