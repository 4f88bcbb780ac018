-- A walk over a section of two images side by side, from code point 0 up (docs/RULES.md, "Permitted changes", "What changed").
--
--   code_points   one more than the last code point
--   Walk         an accepted image, and the place of a code point among the records of a section
--   Stops        why a walk stops at a code point
--   AheadOf      the code points of one class that are ahead of a walk
--   Ready        a walk at a code point, and what was ahead of it last
--   StopsBoth    why a walk over two images stops at a code point where their classes differ
--   OverlapOf    an overlap: code points that have one class in each of two images
--   OverlapAt    the overlap at a code point, or the end of the code points
use Rattle.std.specs.Prelude.{ℕ, ◌+◌, ◌≤◌, ◌<◌, ◌≡◌, List, Option, Some, None}
use Rattle.std.proofs.Math.Option.{none}
use Rattle.image.specs.Limits.{last_code_point}
use Rattle.image.specs.Check.{refusal_of}
use Rattle.image.specs.declared.records.Section.{Section}
use Rattle.image.specs.declared.records.Section.TheVariants.{Ranges, Entries}
use Rattle.image.specs.Records.{record_at, record_count, section_class}
use Rattle.image.specs.Placed.{Placed}
use Rattle.pair.specs.declared.walk.Ahead.{Ahead}
use Rattle.pair.specs.declared.walk.Overlap.{Overlap}

abbrev pub code_points : ℕ
code_points = last_code_point + 1

pub record Walk (s : List ℕ) (section : Section) (i x : ℕ) : Type 0 where
  pub accepted : refusal_of s ≡ none
  pub place : Placed (record_at s section) (record_count s section) i x

-- in the ranges another class follows, since none touches its like; a role is that of one code point
abbrev pub Stops : List ℕ → Section → ℕ → ℕ → ℕ → Type 0
Stops s Ranges x last class = last < last_code_point → section_class s Ranges (last + 1) ≡ class → ⊥
Stops s Entries x last class = (class ≡ 0 → ⊥) → last ≡ x

-- the code points from x to the last one of r have its class, and the walk goes on after the last
pub record AheadOf (s : List ℕ) (section : Section) (x : ℕ) (r : Ahead) : Type 0 where
  pub from : x ≤ r.last
  pub to : r.last ≤ last_code_point
  pub same : (y : ℕ) → x ≤ y → y ≤ r.last → section_class s section y ≡ r.class
  pub stops : Stops s section x r.last r.class
  pub next : Walk s section r.next (r.last + 1)
  pub counted : r.records ≡ record_count s section

-- r began at or before x, and ends at x or later, or right before x
pub record Ready (s : List ℕ) (section : Section) (x : ℕ) (r : Ahead) : Type 0 where
  pub begun : ℕ
  pub ahead : AheadOf s section begun r
  pub from : begun ≤ x
  pub to : x ≤ r.last + 1

-- in the ranges, the next code point has not the same two classes; a change of role is that of one code point
abbrev pub StopsBoth : List ℕ → List ℕ → Section → Overlap → Type 0
StopsBoth older newer Ranges r =
    section_class older Ranges (r.last + 1) ≡ r.older.class → section_class newer Ranges (r.last + 1) ≡ r.newer.class → ⊥
StopsBoth older newer Entries r = r.last ≡ r.first

-- they go from the first one of r to its last, and the walk goes on after the last
pub record OverlapOf (older newer : List ℕ) (section : Section) (r : Overlap) : Type 0 where
  pub from : r.first ≤ r.last
  pub to : r.last ≤ last_code_point
  pub older_same : (y : ℕ) → r.first ≤ y → y ≤ r.last → section_class older section y ≡ r.older.class
  pub newer_same : (y : ℕ) → r.first ≤ y → y ≤ r.last → section_class newer section y ≡ r.newer.class
  pub stops : (r.older.class ≡ r.newer.class → ⊥) → StopsBoth older newer section r
  pub older_next : Ready older section (r.last + 1) r.older
  pub newer_next : Ready newer section (r.last + 1) r.newer

-- an overlap begins at x; or x is past the last code point, and there is none
abbrev pub OverlapAt : List ℕ → List ℕ → Section → ℕ → Option Overlap → Type 0
OverlapAt older newer section x (Some r) = (r.first ≡ x) × OverlapOf older newer section r
OverlapAt older newer section x None = x ≡ code_points
