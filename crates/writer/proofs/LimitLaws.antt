-- Writers that allow different numbers of profile entries: what the one with the lower limit takes, both answer and write the same; what
-- has more entries, it refuses for its counts. Assumes nothing.
use Prim.Native.Nat.{ℕ, ◌≤◌, ◌<◌}
use mathlib.Core.Path.{◌≡◌, refl, ap, ◌∙◌}
use mathlib.Core.Bool.{Bool, true, false, cond}
use mathlib.Core.List.{List}
use mathlib.Core.Option.{some}
use lib.ListN.{length}
use lib.Dec.{leb}
use borrow.Author.Tests.{le-leb, lt-leb, eq-eqb}
use Rattle.std.specs.Prelude.{Err}
use Rattle.refusal.specs.declared.Refusal.TheVariants as refusal
use Rattle.image.specs.declared.Profile.{Profile}
use Rattle.image.specs.Limits.{max_ranges}
use Rattle.image.specs.Same.{SameEntries}
use Rattle.writer.specs.Write.{ranges_in, write_refusal_within, written_by, write_within, bytes_by, bytes_within}
use Rattle.writer.specs.Writable.{Shaped}
use Rattle.writer.proofs.RoundTrip.{answer_same, bytes_same}

module _ (k l : ℕ) (words : List ℕ) (p : Profile) where
  refusal_by_limits : p.used ≤ k → p.used ≤ l → (room : ℕ) → write_refusal_within k words p room ≡ write_refusal_within l words p room
  unfolding write_refusal_within
  refusal_by_limits h m room = simp (le-leb _ _ h, le-leb _ _ m)

  -- the same profile in records of different room
  module _ (q : Profile) (same : SameEntries p q) (h : p.used ≤ k) (m : p.used ≤ l) where
    pub answer_by_limits : (room : ℕ) → write_within k words p room ≡ write_within l words q room
    answer_by_limits room = by_limit ∙ answer_same l words p q same room
      where
        by_limit : write_within k words p room ≡ write_within l words p room
        by_limit = unfold write_within in ap (written_by words p) (refusal_by_limits h m room)

    pub bytes_by_limits : (version : ℕ) (out : List ℕ) → bytes_within k version words p out ≡ bytes_within l version words q out
    bytes_by_limits version out = by_limit ∙ bytes_same l words p q same version out
      where
        by_limit : bytes_within k version words p out ≡ bytes_within l version words p out
        by_limit = unfold bytes_within in ap (bytes_by version words p out) (refusal_by_limits h m (length out))

-- more entries than are allowed
module _ (limit : ℕ) (words : List ℕ) (p : Profile) (shaped : Shaped words) (many : limit < p.used) where
  counts_refused : (b : Bool) → cond b (some refusal.Header) (some refusal.Header) ≡ some refusal.Header
  counts_refused true = refl
  counts_refused false = refl

  refusal_above : (room : ℕ) → write_refusal_within limit words p room ≡ some refusal.Header
  unfolding write_refusal_within
  refusal_above room = simp (eq-eqb _ _ shaped, lt-leb _ _ many) (counts_refused (leb (ranges_in words) max_ranges))

  pub answer_above : (room : ℕ) → write_within limit words p room ≡ Err refusal.Header
  unfolding write_within
  answer_above room = ap (written_by words p) (refusal_above room)

  pub bytes_above : (version : ℕ) (out : List ℕ) → bytes_within limit version words p out ≡ out
  unfolding bytes_within
  bytes_above version out = ap (bytes_by version words p out) (refusal_above (length out))
