-- What writing an image gives (docs/RULES.md, "Named refusals").
-- `limit` is how many profile entries an image may have; the names without `_within` have the limit in force.
--
--   ranges_in, bytes_needed              the number of ranges of a list of words; the bytes of the image with these
--   value_at                            the value at each index of an array
--   write_refusal_within, write_refusal   13, then 2 for the counts, 3, 4, 12
--   written_by, write_within, write_of    the answer of the writer: a refusal, or the length of the image
--   bytes_by, bytes_within, bytes_after   what the buffer holds after writing
use Rattle.std.specs.Prelude.{cond, ℕ, ◌/◌, ◌%◌, List, length, get_or, leb, eqb, Result, Ok, Err}
use Rattle.std.proofs.Math.Option.{Option, none, some}
use Rattle.lists.specs.Laid.{laid}
use Rattle.refusal.specs.declared.Refusal.{Refusal}
use Rattle.refusal.specs.declared.Refusal.TheVariants as refusal
use Rattle.image.specs.declared.Profile.{Profile}
use Rattle.image.specs.Limits.{max_ranges, max_entries, words_per_range}
use Rattle.image.specs.Header.{image_end}
use Rattle.image.specs.Ranges.{range_in}
use Rattle.image.specs.Profile.{point_in, role_in}
use Rattle.image.specs.Image.{image_of}
use Rattle.image.specs.Check.{records_refusal}

abbrev pub ranges_in : List ℕ → ℕ
ranges_in words = length words / words_per_range

abbrev pub bytes_needed : List ℕ → Profile → ℕ
bytes_needed words p = image_end (ranges_in words) p.used

abbrev pub value_at : List ℕ → ℕ → ℕ
value_at l i = get_or l i 0

-- 13: the words are no multiple of 3. 2: a count is above its limit. 3 and 4: a range or an entry is bad.
-- 12: the buffer of `room` bytes is too short. Entries past the used length are not looked at.
unfoldable pub write_refusal_within : ℕ → List ℕ → Profile → ℕ → Option Refusal
write_refusal_within limit words p room =
    cond (eqb (length words % words_per_range) 0)
    (cond (leb (ranges_in words) max_ranges)
    (cond (leb p.used limit)
    (records_refusal (range_in words) (ranges_in words) (point_in p) (role_in p) p.used
    (cond (leb (bytes_needed words p) room) none (some (refusal.Buffer (bytes_needed words p)))))
    (some refusal.Header))
    (some refusal.Header))
    (some refusal.Shape)

abbrev pub write_refusal : List ℕ → Profile → ℕ → Option Refusal
write_refusal words p room = write_refusal_within max_entries words p room

abbrev pub written_by : List ℕ → Profile → Option Refusal → Result ℕ Refusal
written_by words p none = Ok (bytes_needed words p)
written_by words p (some r) = Err r

unfoldable pub write_within : ℕ → List ℕ → Profile → ℕ → Result ℕ Refusal
write_within limit words p room = written_by words p (write_refusal_within limit words p room)

abbrev pub write_of : List ℕ → Profile → ℕ → Result ℕ Refusal
write_of words p room = write_within max_entries words p room

abbrev pub bytes_by : ℕ → List ℕ → Profile → List ℕ → Option Refusal → List ℕ
bytes_by version words p out none = laid out 0 (image_of version (range_in words) (ranges_in words) p)
bytes_by version words p out (some r) = out

-- the image, and past it what was there; a refusal leaves all as it was
unfoldable pub bytes_within : ℕ → ℕ → List ℕ → Profile → List ℕ → List ℕ
bytes_within limit version words p out = bytes_by version words p out (write_refusal_within limit words p (length out))

abbrev pub bytes_after : ℕ → List ℕ → Profile → List ℕ → List ℕ
bytes_after version words p out = bytes_within max_entries version words p out
