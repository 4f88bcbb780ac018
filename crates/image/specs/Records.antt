-- The two lists of records in an image, its ranges and its profile entries, as one is searched like the other
-- (docs/RULES.md, "The class image"). A profile entry is a range of its one code point, with its role for the class.
use Rattle.std.specs.Prelude.{ℕ, ◌≤◌, ◌<◌, ◌≡◌, List}
use Rattle.image.specs.Header.{range_count, entry_count}
use Rattle.image.specs.Ranges.{range_at, class_in}
use Rattle.image.specs.Profile.{point_at, role_at}
use Rattle.image.specs.declared.Range.{Range}
use Rattle.image.specs.declared.records.Section.{Section}
use Rattle.image.specs.declared.records.Section.TheVariants.{Ranges, Entries}

abbrev pub entry_range : (ℕ → ℕ) → (ℕ → ℕ) → ℕ → Range
entry_range point role i = record { first = point i; last = point i; class = role i }

-- record i of a section, and how many there are
abbrev pub record_at : List ℕ → Section → ℕ → Range
record_at s Ranges = range_at s
record_at s Entries = entry_range (point_at s) (role_at s)

abbrev pub record_count : List ℕ → Section → ℕ
record_count s Ranges = range_count s
record_count s Entries = entry_count s

-- the class of x in a section: in the ranges its class, in the entries its role
abbrev pub section_class : List ℕ → Section → ℕ → ℕ
section_class s section x = class_in (record_at s section) (record_count s section) x

-- a class of x in n ranges: that of a range that holds x, or 0 where none does
pub data HasClass (at : ℕ → Range) (n x : ℕ) : ℕ → Type 0 where
  held : (i : ℕ) → i < n → (at i).first ≤ x → x ≤ (at i).last → HasClass at n x (at i).class
  in_none : ((i : ℕ) → i < n → (at i).first ≤ x → x ≤ (at i).last → ⊥) → HasClass at n x 0

-- a role of x in m profile entries: that of an entry with this code point, or 0 where none has it
pub data HasRole (point role : ℕ → ℕ) (m x : ℕ) : ℕ → Type 0 where
  named : (i : ℕ) → i < m → point i ≡ x → HasRole point role m x (role i)
  no_entry : ((i : ℕ) → i < m → point i ≡ x → ⊥) → HasRole point role m x 0
