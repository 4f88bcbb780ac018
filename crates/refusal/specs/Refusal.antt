-- The refusals by name (docs/RULES.md, "Named refusals").
--
--   number_of    the number of a refusal
--   carried_by   what a refusal carries, in the table's order
--   carried_array   the first of these, if any, and the second, if any: no refusal carries more (`two_at_most`)
--   text_of      what `Display` writes: the number and what is carried, a space between two
use Rattle.std.specs.Prelude.{ℕ, List, [], ◌∷◌, ◌++◌, Option, slice_get}
use Rattle.std.specs.List.{flat_map}
use Rattle.std.specs.Fmt.{decimal}
use Rattle.refusal.specs.declared.Refusal.{Refusal}
use Rattle.refusal.specs.declared.Refusal.TheVariants.{
  Length,
  Header,
  Range,
  Entry,
  TextLength,
  IllFormed,
  Characters,
  Room,
  NotScalar,
  Change,
  Profiles,
  Buffer,
  Shape,
  Mark,
}

abbrev pub number_of : Refusal → ℕ
number_of Length = 1
number_of Header = 2
number_of (Range i) = 3
number_of (Entry i) = 4
number_of TextLength = 5
number_of (IllFormed p n) = 6
number_of (Characters p) = 7
number_of (Room n) = 8
number_of (NotScalar x) = 9
number_of (Change x) = 10
number_of Profiles = 11
number_of (Buffer n) = 12
number_of Shape = 13
number_of (Mark p) = 14

abbrev pub carried_by : Refusal → List ℕ
carried_by Length = []
carried_by Header = []
carried_by (Range i) = i ∷ []
carried_by (Entry i) = i ∷ []
carried_by TextLength = []
carried_by (IllFormed p n) = p ∷ n ∷ []
carried_by (Characters p) = p ∷ []
carried_by (Room n) = n ∷ []
carried_by (NotScalar x) = x ∷ []
carried_by (Change x) = x ∷ []
carried_by Profiles = []
carried_by (Buffer n) = n ∷ []
carried_by Shape = []
carried_by (Mark p) = p ∷ []

-- at most two numbers: the first, if any, and the second, if any
abbrev pub carried_array : Refusal → List (Option ℕ)
carried_array r = slice_get (carried_by r) 0 ∷ slice_get (carried_by r) 1 ∷ []

abbrev pub text_of : Refusal → List ℕ
text_of r = decimal (number_of r) ++ flat_map (λ n. 32 ∷ decimal n) (carried_by r)
