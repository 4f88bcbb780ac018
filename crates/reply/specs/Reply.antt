-- What an exported call hands over: its result, and the numbers of the lent answer array (docs/RULES.md, "The calls").
use Rattle.std.specs.Prelude.{ℕ, ◌≡◌, List, [], ◌∷◌, get_or, Result, Ok, Err}
use Rattle.refusal.specs.declared.Refusal.{Refusal}
use Rattle.refusal.specs.Refusal.{number_of, carried_by}

pub record Reply : Type 0 where
  pub number : ℕ
  pub values : List ℕ

-- a result and an answer array are those of a reply
pub record Tells (r : Reply) (n : ℕ) (answer : List ℕ) : Type 0 where
  pub number : n ≡ r.number
  pub values : answer ≡ r.values

-- no refusal, with these values; 0 where there is none
abbrev pub gives : ℕ → ℕ → ℕ → Reply
gives a b c = record { number = 0; values = a ∷ b ∷ c ∷ 0 ∷ [] }

-- what a refusal carries, with zeros past it, and which image it is of, where a call has two
abbrev pub carried_of : ℕ → Refusal → List ℕ
carried_of which r = get_or (carried_by r) 0 0 ∷ get_or (carried_by r) 1 0 ∷ which ∷ 0 ∷ []

abbrev pub refuses_of : ℕ → Refusal → Reply
refuses_of which r = record { number = number_of r; values = carried_of which r }

abbrev pub refuses : Refusal → Reply
refuses r = refuses_of 0 r

-- a call's result: the reply of what it gives, or of the refusal
abbrev pub reply_by : {T E : Type 0} → (T → Reply) → (E → Reply) → Result T E → Reply
reply_by given refused (Ok x) = given x
reply_by given refused (Err e) = refused e

-- a number alone, of bytes or of records; and nothing
abbrev pub number_reply : ℕ → Reply
number_reply n = gives n 0 0

abbrev pub unit_reply : Unit {0} → Reply
unit_reply u = gives 0 0 0
