-- Inner: no public statement cites this file.
-- The code's one table: rows of sixteen numbers. `proofs/RuleLaws.antt` shows that it holds them.
use Rattle.std.specs.Prelude.{ℕ, ◌-◌, cond, List, [], ◌∷◌, get_or, ltb, eqb}
use Rattle.count.specs.Turns.{count_turn_of, count_after_of, count_waiting_of}
use Rattle.count.specs.Steps.{row_state, state_rows, step_for}

-- traits that begin a token of the kind that is under way in a state: while a medial waits, that is the identifier before it
abbrev pub state_traits : List ℕ
state_traits = 0 ∷ 1 ∷ 3 ∷ 4 ∷ 6 ∷ 7 ∷ 3 ∷ 7 ∷ 7 ∷ 3 ∷ 1 ∷ 1 ∷ 1 ∷ 1 ∷ 1 ∷ 1 ∷ []

unfoldable pub traits_for : ℕ → ℕ
traits_for state = get_or state_traits state 0

abbrev pub rule_rows : ℕ
rule_rows = 37

-- 0 to 15: the steps, by the row; 16 to 31: the turns, by the state; then the states after a character, after a medial that waits, and of
-- the rows; rows and traits of the states
unfoldable pub rule_for : ℕ → ℕ → ℕ
rule_for row t =
    cond (ltb row 16) (step_for row t)
    (cond (ltb row 32) (count_turn_of (row - 16) t)
    (cond (eqb row 32) (count_after_of t)
    (cond (eqb row 33) (count_waiting_of t)
    (cond (eqb row 34) (row_state t)
    (cond (eqb row 35) (get_or state_rows t 0) (traits_for t))))))

abbrev pub rule_table : List ℕ
rule_table =
    255 ∷ 0 ∷ 255 ∷ 0 ∷ 0 ∷ 255 ∷ 0 ∷ 0 ∷ 255 ∷ 0 ∷ 255 ∷ 255 ∷ 255 ∷ 255 ∷ 255 ∷ 255 ∷
    255 ∷ 0 ∷ 0 ∷ 1 ∷ 1 ∷ 255 ∷ 1 ∷ 255 ∷ 0 ∷ 0 ∷ 0 ∷ 0 ∷ 0 ∷ 0 ∷ 0 ∷ 0 ∷
    255 ∷ 0 ∷ 0 ∷ 1 ∷ 1 ∷ 255 ∷ 1 ∷ 255 ∷ 0 ∷ 0 ∷ 0 ∷ 0 ∷ 0 ∷ 0 ∷ 0 ∷ 0 ∷
    255 ∷ 1 ∷ 255 ∷ 1 ∷ 1 ∷ 255 ∷ 1 ∷ 1 ∷ 255 ∷ 1 ∷ 255 ∷ 255 ∷ 255 ∷ 255 ∷ 255 ∷ 255 ∷
    255 ∷ 1 ∷ 255 ∷ 1 ∷ 0 ∷ 255 ∷ 1 ∷ 1 ∷ 255 ∷ 1 ∷ 255 ∷ 255 ∷ 255 ∷ 255 ∷ 255 ∷ 255 ∷
    255 ∷ 0 ∷ 255 ∷ 0 ∷ 0 ∷ 255 ∷ 0 ∷ 0 ∷ 255 ∷ 0 ∷ 255 ∷ 255 ∷ 255 ∷ 255 ∷ 255 ∷ 255 ∷
    255 ∷ 1 ∷ 255 ∷ 1 ∷ 1 ∷ 255 ∷ 0 ∷ 1 ∷ 255 ∷ 1 ∷ 255 ∷ 255 ∷ 255 ∷ 255 ∷ 255 ∷ 255 ∷
    255 ∷ 1 ∷ 255 ∷ 1 ∷ 1 ∷ 255 ∷ 1 ∷ 0 ∷ 255 ∷ 1 ∷ 255 ∷ 255 ∷ 255 ∷ 255 ∷ 255 ∷ 255 ∷
    255 ∷ 0 ∷ 0 ∷ 255 ∷ 255 ∷ 255 ∷ 255 ∷ 255 ∷ 255 ∷ 0 ∷ 0 ∷ 255 ∷ 255 ∷ 255 ∷ 255 ∷ 255 ∷
    255 ∷ 0 ∷ 0 ∷ 1 ∷ 1 ∷ 255 ∷ 1 ∷ 255 ∷ 0 ∷ 0 ∷ 0 ∷ 0 ∷ 0 ∷ 0 ∷ 0 ∷ 0 ∷
    255 ∷ 0 ∷ 0 ∷ 1 ∷ 1 ∷ 255 ∷ 1 ∷ 255 ∷ 0 ∷ 0 ∷ 0 ∷ 0 ∷ 0 ∷ 0 ∷ 0 ∷ 0 ∷
    255 ∷ 0 ∷ 0 ∷ 255 ∷ 255 ∷ 255 ∷ 255 ∷ 255 ∷ 255 ∷ 0 ∷ 0 ∷ 255 ∷ 255 ∷ 255 ∷ 255 ∷ 255 ∷
    255 ∷ 0 ∷ 0 ∷ 255 ∷ 255 ∷ 255 ∷ 255 ∷ 255 ∷ 255 ∷ 0 ∷ 0 ∷ 255 ∷ 255 ∷ 255 ∷ 255 ∷ 255 ∷
    255 ∷ 0 ∷ 0 ∷ 255 ∷ 255 ∷ 255 ∷ 255 ∷ 255 ∷ 255 ∷ 0 ∷ 0 ∷ 255 ∷ 255 ∷ 255 ∷ 255 ∷ 255 ∷
    255 ∷ 0 ∷ 0 ∷ 255 ∷ 255 ∷ 255 ∷ 255 ∷ 255 ∷ 255 ∷ 0 ∷ 0 ∷ 255 ∷ 255 ∷ 255 ∷ 255 ∷ 255 ∷
    255 ∷ 0 ∷ 0 ∷ 255 ∷ 255 ∷ 255 ∷ 255 ∷ 255 ∷ 255 ∷ 0 ∷ 0 ∷ 255 ∷ 255 ∷ 255 ∷ 255 ∷ 255 ∷
    8 ∷ 0 ∷ 8 ∷ 0 ∷ 0 ∷ 8 ∷ 0 ∷ 0 ∷ 8 ∷ 0 ∷ 8 ∷ 0 ∷ 0 ∷ 8 ∷ 0 ∷ 0 ∷
    8 ∷ 0 ∷ 0 ∷ 1 ∷ 1 ∷ 8 ∷ 1 ∷ 5 ∷ 2 ∷ 0 ∷ 0 ∷ 2 ∷ 2 ∷ 2 ∷ 2 ∷ 2 ∷
    8 ∷ 1 ∷ 8 ∷ 1 ∷ 1 ∷ 8 ∷ 1 ∷ 5 ∷ 8 ∷ 1 ∷ 8 ∷ 1 ∷ 1 ∷ 8 ∷ 1 ∷ 5 ∷
    8 ∷ 1 ∷ 8 ∷ 1 ∷ 0 ∷ 8 ∷ 1 ∷ 1 ∷ 8 ∷ 1 ∷ 8 ∷ 1 ∷ 0 ∷ 8 ∷ 1 ∷ 1 ∷
    8 ∷ 1 ∷ 8 ∷ 1 ∷ 1 ∷ 8 ∷ 0 ∷ 1 ∷ 8 ∷ 1 ∷ 8 ∷ 1 ∷ 1 ∷ 8 ∷ 0 ∷ 1 ∷
    8 ∷ 7 ∷ 8 ∷ 1 ∷ 1 ∷ 8 ∷ 1 ∷ 4 ∷ 8 ∷ 7 ∷ 8 ∷ 6 ∷ 1 ∷ 8 ∷ 1 ∷ 4 ∷
    8 ∷ 1 ∷ 8 ∷ 1 ∷ 1 ∷ 8 ∷ 1 ∷ 1 ∷ 8 ∷ 1 ∷ 8 ∷ 1 ∷ 1 ∷ 8 ∷ 1 ∷ 1 ∷
    8 ∷ 1 ∷ 8 ∷ 1 ∷ 1 ∷ 8 ∷ 1 ∷ 0 ∷ 8 ∷ 1 ∷ 8 ∷ 1 ∷ 1 ∷ 8 ∷ 1 ∷ 0 ∷
    8 ∷ 7 ∷ 8 ∷ 1 ∷ 1 ∷ 8 ∷ 1 ∷ 4 ∷ 8 ∷ 7 ∷ 8 ∷ 1 ∷ 1 ∷ 8 ∷ 1 ∷ 4 ∷
    8 ∷ 7 ∷ 8 ∷ 1 ∷ 1 ∷ 8 ∷ 1 ∷ 1 ∷ 8 ∷ 7 ∷ 8 ∷ 1 ∷ 1 ∷ 8 ∷ 1 ∷ 1 ∷
    3 ∷ 0 ∷ 0 ∷ 3 ∷ 3 ∷ 3 ∷ 3 ∷ 3 ∷ 3 ∷ 0 ∷ 0 ∷ 3 ∷ 3 ∷ 3 ∷ 3 ∷ 3 ∷
    3 ∷ 0 ∷ 0 ∷ 3 ∷ 3 ∷ 3 ∷ 3 ∷ 3 ∷ 3 ∷ 0 ∷ 0 ∷ 3 ∷ 3 ∷ 3 ∷ 3 ∷ 3 ∷
    3 ∷ 0 ∷ 0 ∷ 3 ∷ 3 ∷ 3 ∷ 3 ∷ 3 ∷ 3 ∷ 0 ∷ 0 ∷ 3 ∷ 3 ∷ 3 ∷ 3 ∷ 3 ∷
    3 ∷ 0 ∷ 0 ∷ 3 ∷ 3 ∷ 3 ∷ 3 ∷ 3 ∷ 3 ∷ 0 ∷ 0 ∷ 3 ∷ 3 ∷ 3 ∷ 3 ∷ 3 ∷
    3 ∷ 0 ∷ 0 ∷ 3 ∷ 3 ∷ 3 ∷ 3 ∷ 3 ∷ 3 ∷ 0 ∷ 0 ∷ 3 ∷ 3 ∷ 3 ∷ 3 ∷ 3 ∷
    3 ∷ 0 ∷ 0 ∷ 3 ∷ 3 ∷ 3 ∷ 3 ∷ 3 ∷ 3 ∷ 0 ∷ 0 ∷ 3 ∷ 3 ∷ 3 ∷ 3 ∷ 3 ∷
    0 ∷ 1 ∷ 1 ∷ 6 ∷ 3 ∷ 0 ∷ 4 ∷ 7 ∷ 0 ∷ 1 ∷ 1 ∷ 6 ∷ 3 ∷ 0 ∷ 4 ∷ 7 ∷
    10 ∷ 11 ∷ 10 ∷ 12 ∷ 13 ∷ 10 ∷ 14 ∷ 15 ∷ 10 ∷ 11 ∷ 10 ∷ 12 ∷ 13 ∷ 10 ∷ 14 ∷ 15 ∷
    0 ∷ 1 ∷ 1 ∷ 6 ∷ 3 ∷ 0 ∷ 4 ∷ 7 ∷ 10 ∷ 1 ∷ 1 ∷ 12 ∷ 13 ∷ 10 ∷ 14 ∷ 15 ∷
    0 ∷ 1 ∷ 16 ∷ 4 ∷ 6 ∷ 16 ∷ 3 ∷ 7 ∷ 16 ∷ 16 ∷ 8 ∷ 16 ∷ 11 ∷ 12 ∷ 14 ∷ 15 ∷
    0 ∷ 1 ∷ 3 ∷ 4 ∷ 6 ∷ 7 ∷ 3 ∷ 7 ∷ 7 ∷ 3 ∷ 1 ∷ 1 ∷ 1 ∷ 1 ∷ 1 ∷ 1 ∷ []
