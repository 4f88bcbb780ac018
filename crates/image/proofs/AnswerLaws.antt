-- The whole record of a check or a read, from its answer alone; and the arrays of a profile record. Assumes nothing.
use Prim.Native.Nat.{ℕ}
use mathlib.Core.Path.{◌≡◌, refl, ap}
use mathlib.Core.List.{List}
use mathlib.Core.Option.{none, some}
use lib.ListN.{length}
use Rattle.std.specs.Prelude.{Ok, Err}
use Rattle.lists.proofs.BoolLaws.{impossible}
use Rattle.lists.specs.Each.{column}
use Rattle.refusal.specs.declared.Refusal.{Refusal}
use Rattle.refusal.specs.declared.Refusal.TheVariants as refusal
use Rattle.image.specs.Limits.{max_entries}
use Rattle.image.specs.Header.{range_count, entry_count}
use Rattle.image.specs.Profile.{point_at, role_at, profile_by, profile_within, profile_of}
use Rattle.image.specs.Means.{check_refused, is_checked, ReadMeans, read_refused, lacks_room, is_read}
use Rattle.image.specs.Check.{refusal_of, accepted_of, refused_by, check_of, read_of, accepted_with}
use Rattle.image.specs.Opened.{opened_by}
use Rattle.image.specs.declared.Checked.{Checked}
use Rattle.image.proofs.ImageLaws.{accepted, refusal_means, means_check}
use Rattle.image.proofs.ReadLaws.{read_means}
use Rattle.image.proofs.OpenedLaws.{opened, not_opened}

module _ (s : List ℕ) where
  -- the arrays and the used length of an image's profile
  pub profile_is : profile_of s ≡ profile_by (column max_entries (point_at s) (entry_count s)) (column max_entries (role_at s) (entry_count s)) (entry_count s)
  unfolding profile_within
  profile_is = refl

  -- the record of the check
  pub record_accepted : refusal_of s ≡ none → check_of s ≡ accepted_of s
  record_accepted e = means_check s _ (is_checked (accepted s e))

  pub record_refused : (r : Refusal) → refusal_of s ≡ some r → check_of s ≡ refused_by r
  record_refused r e = means_check s _ (check_refused (refusal_means s (some r) e))

  -- the same from an opened image, and from one that isn't
  pub record_opened : (t : List ℕ) → opened_by s (refusal_of s) ≡ Ok t → (t ≡ s) × (check_of s ≡ accepted_of s)
  record_opened t e = let k = opened s (refusal_of s) refl e in (k.0, record_accepted k.1)

  pub record_not_opened : (r : Refusal) → opened_by s (refusal_of s) ≡ Err r → check_of s ≡ refused_by r
  record_not_opened r e = record_refused r (not_opened s (refusal_of s) refl e)

module _ (s out : List ℕ) where
  -- the record of the read
  pub read_accepted : (v n : ℕ) → (read_of s (length out)).answer ≡ accepted_with v n → read_of s (length out) ≡ accepted_of s
  read_accepted v n e = go _ _ (read_means s out _ _ refl refl) e
    where
      go : (k : Checked) (w : List ℕ) → ReadMeans s out k w → k.answer ≡ accepted_with v n → k ≡ accepted_of s
      go _ _ (read_refused m) f = impossible (cc)
      go _ _ (lacks_room a l) f = impossible (cc)
      go _ _ (is_read a l) f = refl

  pub read_refuses : (r : Refusal) → (read_of s (length out)).answer ≡ Err r → read_of s (length out) ≡ refused_by r
  read_refuses r e = go _ _ (read_means s out _ _ refl refl) e
    where
      go : (k : Checked) (w : List ℕ) → ReadMeans s out k w → k.answer ≡ Err r → k ≡ refused_by r
      go _ _ (read_refused {r = q} m) f = let z : q ≡ r = cc in ap refused_by z
      go _ _ (lacks_room a l) f = let z : refusal.Room (range_count s) ≡ r = cc in ap refused_by z
      go _ _ (is_read a l) f = impossible (cc)
