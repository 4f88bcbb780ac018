-- Inner: no public statement cites this file.
-- The states and turns of counting on numbers (docs/RULES.md, "Tokens" and "Direction marks"). `proofs/BesideTurnLaws.antt` and
-- `proofs/CountLaws.antt` join them to the steps of `grammar` and to its local test of marks.
use Rattle.std.specs.Prelude.{ℕ, zero, suc, ◌+◌, Bool, cond, leb, ltb, eqb}
use Rattle.std.proofs.Math.Option.{Option, none, some}
use Rattle.grammar.specs.White.{WhiteKind, blank, line_end, mark}
use Rattle.grammar.specs.Grammar.{Kind, identifier, syntax, whitespace}
use Rattle.grammar.specs.Kinds.{kind_of}
use Rattle.grammar.specs.Beside.{View, other, after_identifier, after_medial, mark_after_identifier, mark_after_medial, medial_after_mark}
use Rattle.turns.specs.Turns.{waiting, number_by, trait_meaning, turn_of, after_of}

-- what stands before a place, as far as a mark could part it: a view without its byte
pub data Side : Type 0 where
  free of_identifier of_medial of_identifier_mark of_medial_mark of_mark_medial : Side

abbrev pub placed : Side → ℕ → View
placed free q = other
placed of_identifier q = after_identifier
placed of_medial q = after_medial
placed of_identifier_mark q = mark_after_identifier q
placed of_medial_mark q = mark_after_medial q
placed of_mark_medial q = medial_after_mark q

-- a state's number: 0 to 9, or `count_waiting` and the state that a medial begins which waits after an identifier
abbrev pub count_waiting : ℕ
count_waiting = 10

abbrev pub count_states : ℕ
count_states = 16

abbrev pub side_named : ℕ → Side
side_named zero = free
side_named (suc zero) = of_identifier
side_named (suc (suc zero)) = of_medial
side_named (suc (suc (suc zero))) = free
side_named (suc (suc (suc (suc zero)))) = free
side_named (suc (suc (suc (suc (suc zero))))) = of_identifier_mark
side_named (suc (suc (suc (suc (suc (suc zero)))))) = free
side_named (suc (suc (suc (suc (suc (suc (suc zero))))))) = free
side_named (suc (suc (suc (suc (suc (suc (suc (suc zero)))))))) = of_medial_mark
side_named (suc (suc (suc (suc (suc (suc (suc (suc (suc zero))))))))) = of_mark_medial
side_named (suc (suc (suc (suc (suc (suc (suc (suc (suc (suc n)))))))))) = of_identifier

-- .. and the state in which `turns` is
abbrev pub plain_of : ℕ → ℕ
plain_of zero = 0
plain_of (suc zero) = 1
plain_of (suc (suc zero)) = 2
plain_of (suc (suc (suc zero))) = 3
plain_of (suc (suc (suc (suc zero)))) = 4
plain_of (suc (suc (suc (suc (suc zero))))) = 5
plain_of (suc (suc (suc (suc (suc (suc zero)))))) = 2
plain_of (suc (suc (suc (suc (suc (suc (suc zero))))))) = 5
plain_of (suc (suc (suc (suc (suc (suc (suc (suc zero)))))))) = 5
plain_of (suc (suc (suc (suc (suc (suc (suc (suc (suc zero))))))))) = 2
plain_of (suc (suc (suc (suc (suc (suc (suc (suc (suc (suc n)))))))))) = waiting + n

abbrev pub view_by : ℕ → ℕ → View
view_by n q = placed (side_named n) q

-- the turn of a token that begins where another is complete, by what stands before it: 1 where no mark is beside it; a mark begins that may
-- part something, 5; a medial Syntax follows such a mark, 6; an identifier makes it refused, 7. A medial after an identifier waits: 9 is none
abbrev pub identifier_turn : Side → ℕ
identifier_turn free = 1
identifier_turn of_identifier = 1
identifier_turn of_medial = 1
identifier_turn of_identifier_mark = 7
identifier_turn of_medial_mark = 7
identifier_turn of_mark_medial = 7

abbrev pub medial_turn : Side → ℕ
medial_turn free = 1
medial_turn of_identifier = 9
medial_turn of_medial = 1
medial_turn of_identifier_mark = 6
medial_turn of_medial_mark = 1
medial_turn of_mark_medial = 1

abbrev pub mark_turn : Side → ℕ
mark_turn free = 1
mark_turn of_identifier = 5
mark_turn of_medial = 5
mark_turn of_identifier_mark = 1
mark_turn of_medial_mark = 1
mark_turn of_mark_medial = 1

abbrev pub white_turn : Side → WhiteKind → ℕ
white_turn d blank = 1
white_turn d line_end = 1
white_turn d mark = mark_turn d

abbrev pub beside_by : Side → Kind → Bool → ℕ
beside_by d identifier b = identifier_turn d
beside_by d syntax b = cond b (medial_turn d) 1
beside_by d (whitespace w) b = white_turn d w

abbrev pub begins_by : Side → Option Kind → Bool → ℕ
begins_by d none b = 8
begins_by d (some k) b = beside_by d k b

-- the turn of a token that goes on: a mark that may be refused stays what it is, 4
abbrev pub goes_by : Side → ℕ
goes_by free = 0
goes_by of_identifier = 0
goes_by of_medial = 0
goes_by of_identifier_mark = 4
goes_by of_medial_mark = 4
goes_by of_mark_medial = 0

-- by the turn in `turns`, the kind of token that the character begins, and whether it is a medial; no token begins, 8
abbrev pub count_turn_by : Side → ℕ → Option Kind → Bool → ℕ
count_turn_by d zero o b = goes_by d
count_turn_by d (suc zero) o b = begins_by d o b
count_turn_by d (suc (suc zero)) o b = 2
count_turn_by d (suc (suc (suc zero))) o b = 3
count_turn_by d (suc (suc (suc (suc n)))) o b = 8

unfoldable pub count_turn_of : ℕ → ℕ → ℕ
count_turn_of n t = count_turn_by (side_named n) (turn_of (plain_of n) t) (kind_of trait_meaning t) (leb 8 t)

-- the state of a token beside which no mark stands, by its number in `turns`
abbrev pub state_for : ℕ → ℕ
state_for zero = 0
state_for (suc zero) = 1
state_for (suc (suc zero)) = 6
state_for (suc (suc (suc zero))) = 3
state_for (suc (suc (suc (suc zero)))) = 4
state_for (suc (suc (suc (suc (suc n))))) = 7

-- the state after a character with which a token goes on or begins, and no mark is beside it
unfoldable pub count_after_of : ℕ → ℕ
count_after_of t = state_for (after_of t)

-- the state after a medial that waits
unfoldable pub count_waiting_of : ℕ → ℕ
count_waiting_of t = count_waiting + number_by (kind_of trait_meaning t)

-- a turn beside a mark: how many tokens are complete, the state, where the mark began, and the first that is refused; n is none
abbrev pub count_beside : ℕ → ℕ
count_beside turn = cond (eqb turn 4) 0 1

abbrev pub state_beside : ℕ → ℕ → ℕ
state_beside turn state = cond (eqb turn 4) state (cond (eqb turn 6) 9 (cond (eqb turn 7) 1 (cond (eqb state 1) 5 8)))

abbrev pub mark_beside : ℕ → ℕ → ℕ → ℕ
mark_beside turn q at = cond (eqb turn 5) at q

abbrev pub refused_beside : ℕ → ℕ → ℕ → ℕ → ℕ
refused_beside turn refused q n = cond (eqb turn 7) (cond (eqb refused n) q refused) refused

-- how many tokens are pending where nothing follows: the one under way, and a medial that waits
abbrev pub count_pending_of : ℕ → ℕ
count_pending_of n = cond (eqb n 0) 0 (cond (ltb n count_waiting) 1 2)
