-- What the answer of reading an image into a buffer says, and what the buffer then holds, exactly when. Assumes nothing.
use Prim.Native.Nat.{ℕ, ◌/◌, ◌≤◌, ◌<◌}
use mathlib.Core.Path.{◌≡◌, refl, sym, ap, ◌∙◌}
use mathlib.Core.List.{List}
use mathlib.Core.Bool.{Bool, true, false}
use mathlib.Core.Option.{Option, none, some}
use mathlib.Core.Logic.{◌↔◌}
use lib.ListN.{length}
use lib.Dec.{ltb}
use borrow.Author.Tests.{ltb-true, ltb-false, lt-ltb, le-ltb}
use Rattle.std.specs.Prelude.{Err}
use Rattle.lists.proofs.BoolLaws.{impossible}
use Rattle.refusal.specs.declared.Refusal.{Refusal}
use Rattle.refusal.specs.declared.Refusal.TheVariants as refusal
use Rattle.image.specs.Limits.{max_entries, words_per_range}
use Rattle.image.specs.Header.{version_of, range_count}
use Rattle.image.specs.Means.{ReadMeans, read_refused, lacks_room, is_read}
use Rattle.image.specs.Check.{refusal_of, check_by, read_refusal, read_within, read_of, words_by, words_within, words_after, accepted_with}
use Rattle.image.specs.Opened.{summary_of}
use Rattle.image.specs.declared.Summary.{Summary}
use Rattle.image.specs.declared.Checked.{Checked}
use Rattle.image.proofs.ImageLaws.{accepted, refused_none, refusal_means, means_refusal}

module _ (s out : List ℕ) where
  abbrev room : ℕ
  room = length out / words_per_range

  -- what refuses the read
  abbrev pub refuses : Option Refusal
  refuses = read_refusal s (length out) (refusal_of s)

  pub image_refuses : (r : Refusal) → refusal_of s ≡ some r → refuses ≡ some r
  image_refuses r e = rw e

  module _ (e : refusal_of s ≡ none) where
    pub room_refuses : room < range_count s → refuses ≡ some (refusal.Room (range_count s))
    room_refuses l = simp (e, lt-ltb _ _ l)

    pub none_refuses : range_count s ≤ room → refuses ≡ none
    none_refuses l = simp (e, le-ltb _ _ l)

  -- the answer and the buffer, where that is known
  pub read_by : (o : Option Refusal) → refuses ≡ o → (read_of s (length out) ≡ check_by max_entries s o) × (words_after s out ≡ words_by s out o)
  unfolding read_within words_within
  read_by o e = (ap (check_by max_entries s) e, ap (words_by s out) e)

  means_by :
      (o : Option Refusal) → refusal_of s ≡ o → (b : Bool) → ltb room (range_count s) ≡ b
      → ReadMeans s out (check_by max_entries s (read_refusal s (length out) o)) (words_by s out (read_refusal s (length out) o))
  means_by none e true f = simp f (lacks_room (accepted s e) (ltb-true _ _ f))
  means_by none e false f = simp f (is_read (accepted s e) (ltb-false _ _ f))
  means_by (some r) e b f = read_refused (refusal_means s (some r) e)

  -- what the answer and the buffer say
  pub read_means : (k : Checked) (w : List ℕ) → read_of s (length out) ≡ k → words_after s out ≡ w → ReadMeans s out k w
  unfolding read_within words_within
  read_means k w e f = rw (← e, ← f) (means_by (refusal_of s) refl _ refl)

  -- and back: where it is so, those are they
  pub means_read : (k : Checked) (w : List ℕ) → ReadMeans s out k w → (read_of s (length out) ≡ k) × (words_after s out ≡ w)
  means_read _ _ (read_refused {r} m) = read_by (some r) (image_refuses r (means_refusal s (some r) m))
  means_read _ _ (lacks_room a l) = read_by _ (room_refuses (refused_none s a) l)
  means_read _ _ (is_read a l) = read_by none (none_refuses (refused_none s a) l)

  -- a refused read leaves the buffer as it was
  pub read_kept : (r : Refusal) → (read_of s (length out)).answer ≡ Err r → words_after s out ≡ out
  read_kept r e = go _ _ (read_means _ _ refl refl) e
    where
      go : (k : Checked) (w : List ℕ) → ReadMeans s out k w → k.answer ≡ Err r → w ≡ out
      go _ _ (read_refused m) f = refl
      go _ _ (lacks_room a l) f = refl
      go _ _ (is_read a l) f = impossible (cc)

  -- what a read accepts: an accepted image whose ranges have room
  pub read_accepts :
      (v n : ℕ)
      → ((read_of s (length out)).answer ≡ accepted_with v n) ↔ ((refusal_of s ≡ none) × (range_count s ≤ room) × (v ≡ version_of s) × (n ≡ range_count s))
  read_accepts v n = (λ e. to _ _ (read_means _ _ refl refl) e, from)
    where
      to :
          (k : Checked) (w : List ℕ) → ReadMeans s out k w → k.answer ≡ accepted_with v n
          → (refusal_of s ≡ none) × (range_count s ≤ room) × (v ≡ version_of s) × (n ≡ range_count s)
      to _ _ (read_refused m) f = impossible (cc)
      to _ _ (lacks_room a l) f = impossible (cc)
      to _ _ (is_read a l) f = let z : summary_of s ≡ record { version = v; ranges = n } = cc in (refused_none s a, l, sym (ap (λ (x : Summary). x.version) z), sym (ap (λ (x : Summary). x.ranges) z))

      from : (refusal_of s ≡ none) × (range_count s ≤ room) × (v ≡ version_of s) × (n ≡ range_count s) → (read_of s (length out)).answer ≡ accepted_with v n
      from (e, l, ev, en) = ap (λ (k : Checked). k.answer) (read_by none (none_refuses e l)).0 ∙ (λ d. accepted_with (sym ev d) (sym en d))
