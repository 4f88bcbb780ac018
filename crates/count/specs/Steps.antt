-- Inner: no public statement cites this file.
-- Counting by the character before: what a character does after another, by the traits of both. A row stands for the traits of the last
-- character. `proofs/StepLaws.antt` joins the steps to the turns of `count`.
use Rattle.std.specs.Prelude.{ℕ, zero, suc, Bool, cond, List, [], ◌∷◌, get_or, eqb}
use Rattle.count.specs.Turns.{count_turn_of, count_after_of, count_waiting_of}

-- the state after a character that is known from its traits alone
abbrev pub row_states : List ℕ
row_states = 0 ∷ 1 ∷ 1 ∷ 6 ∷ 3 ∷ 0 ∷ 4 ∷ 7 ∷ 10 ∷ 1 ∷ 1 ∷ 12 ∷ 13 ∷ 10 ∷ 14 ∷ 15 ∷ []

unfoldable pub row_state : ℕ → ℕ
row_state r = get_or row_states r 0

-- a row of each state, 16 where it has none
abbrev pub state_rows : List ℕ
state_rows = 0 ∷ 1 ∷ 16 ∷ 4 ∷ 6 ∷ 16 ∷ 3 ∷ 7 ∷ 16 ∷ 16 ∷ 8 ∷ 16 ∷ 11 ∷ 12 ∷ 14 ∷ 15 ∷ []

-- no step
abbrev pub odd : ℕ
odd = 255

-- by the turn, and whether the state that follows is that of the character's row: the tokens that are complete
abbrev pub step_by : ℕ → Bool → Bool → ℕ
step_by zero after waits = cond after 0 odd
step_by (suc zero) after waits = cond after 1 odd
step_by (suc (suc zero)) after waits = cond waits 0 odd
step_by (suc (suc (suc n))) after waits = odd

unfoldable pub step_for : ℕ → ℕ → ℕ
step_for r t = step_by (count_turn_of (row_state r) t) (eqb (row_state t) (count_after_of t)) (eqb (row_state t) (count_waiting_of t))
