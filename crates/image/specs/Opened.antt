-- What opening an image gives, by the refusal of its bytes, and what an accepted image tells at once.
use Rattle.std.specs.Prelude.{ℕ, List, Result, Ok, Err}
use Rattle.std.proofs.Math.Option.{Option, none, some}
use Rattle.refusal.specs.declared.Refusal.{Refusal}
use Rattle.image.specs.Header.{version_of, range_count}
use Rattle.image.specs.declared.Summary.{Summary}

-- the image, where nothing refuses it
abbrev pub opened_by : List ℕ → Option Refusal → Result (List ℕ) Refusal
opened_by s none = Ok s
opened_by s (some r) = Err r

-- that nothing refuses, or what does
abbrev pub judgement_of : Option Refusal → Result (Unit {0}) Refusal
judgement_of none = Ok tt
judgement_of (some r) = Err r

abbrev pub summary_of : List ℕ → Summary
summary_of s = record { version = version_of s; ranges = range_count s }
