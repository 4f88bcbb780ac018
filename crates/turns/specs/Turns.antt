-- Inner: no public statement cites this file.
-- The reader's state and turns on numbers (docs/RULES.md, "Tokens"). `proofs/TurnLaws.antt` joins them to the steps of `grammar`.
--
--   number_by                   the number of a kind; 0 is none
--   trait_meaning               what a character's traits tell of it: its class, its kind of White, a medial or not
--   Phase                      the state: what is under way
--   waiting, states            the first number of a state in which a medial waits; how many numbers there are
--   phase_named                 the state with a number
--   begun_by                    a turn, if a token begins; else 4
--   turn_by, turn_of             the turn of a character in a state; on numbers
--   after_of                    the state after a character with which a token goes on or begins
--   waiting_of                  the state after a medial that waits
--   start_by                    where the token under way after a turn began
--   turn_table                  the code's table of turn_of
--   after_table, waiting_table   the code's tables of after_of and waiting_of
use Rattle.std.specs.Prelude.{ℕ, zero, suc, ◌+◌, ◌%◌, cond, List, [], ◌∷◌, leb}
use Rattle.std.proofs.Math.Option.{Option, none, some}
use Rattle.character.specs.Traits.{part_class, part_white}
use Rattle.grammar.specs.White.{blank, line_end, mark}
use Rattle.grammar.specs.Meaning.{Meaning}
use Rattle.grammar.specs.Grammar.{Kind, identifier, syntax, whitespace}
use Rattle.grammar.specs.Kinds.{kind_number, kind_of, goes_with, links_with}

abbrev pub number_by : Option Kind → ℕ
number_by none = 0
number_by (some k) = kind_number k

abbrev pub trait_meaning : Meaning ℕ
trait_meaning = record { class = λ (t : ℕ). part_class (t % 8); white = λ (t : ℕ). part_white (t % 8); medial = λ (t : ℕ). leb 8 t }

-- nothing yet; a token of a kind; an identifier, and a medial after it that waits
pub data Phase : Type 0 where
  nothing : Phase
  within : Kind → Phase
  waits : Phase

-- a state's number: 0, the token's kind, or `waiting` and the kind of token that the medial itself begins
abbrev pub waiting : ℕ
waiting = 6

abbrev pub states : ℕ
states = 12

abbrev pub phase_named : ℕ → Phase
phase_named zero = nothing
phase_named (suc zero) = within identifier
phase_named (suc (suc zero)) = within syntax
phase_named (suc (suc (suc zero))) = within (whitespace blank)
phase_named (suc (suc (suc (suc zero)))) = within (whitespace line_end)
phase_named (suc (suc (suc (suc (suc zero))))) = within (whitespace mark)
phase_named (suc (suc (suc (suc (suc (suc n)))))) = waits

abbrev pub begun_by : ℕ → Option Kind → ℕ
begun_by r none = 4
begun_by r (some k) = r

-- no token is complete, 0; the one under way is, and another begins, 1; a medial waits, 2;
-- the one that waits is settled, and the character has another turn after that, 3; no token begins, 4
abbrev pub turn_by : {A : Type 0} → Meaning A → Phase → A → ℕ
turn_by m nothing c = begun_by 0 (kind_of m c)
turn_by m (within k) c = cond (goes_with m k c) 0 (cond (links_with m k c) 2 (begun_by 1 (kind_of m c)))
turn_by m waits c = cond (goes_with m identifier c) 0 3

unfoldable pub turn_of : ℕ → ℕ → ℕ
turn_of n t = turn_by trait_meaning (phase_named n) t

unfoldable pub after_of : ℕ → ℕ
after_of t = cond (goes_with trait_meaning identifier t) (kind_number identifier) (number_by (kind_of trait_meaning t))

unfoldable pub waiting_of : ℕ → ℕ
waiting_of t = waiting + number_by (kind_of trait_meaning t)

-- where it began before, or at this place
abbrev pub start_by : ℕ → ℕ → ℕ → ℕ
start_by zero start at = start
start_by (suc r) start at = at

-- `proofs/TableLaws.antt` shows what the tables hold
abbrev pub turn_table : List ℕ
turn_table =
    4 ∷ 0 ∷ 4 ∷ 0 ∷ 0 ∷ 4 ∷ 0 ∷ 0 ∷ 4 ∷ 0 ∷ 4 ∷ 0 ∷ 0 ∷ 4 ∷ 0 ∷ 0 ∷
    4 ∷ 0 ∷ 0 ∷ 1 ∷ 1 ∷ 4 ∷ 1 ∷ 1 ∷ 2 ∷ 0 ∷ 0 ∷ 2 ∷ 2 ∷ 2 ∷ 2 ∷ 2 ∷
    4 ∷ 1 ∷ 4 ∷ 1 ∷ 1 ∷ 4 ∷ 1 ∷ 1 ∷ 4 ∷ 1 ∷ 4 ∷ 1 ∷ 1 ∷ 4 ∷ 1 ∷ 1 ∷
    4 ∷ 1 ∷ 4 ∷ 1 ∷ 0 ∷ 4 ∷ 1 ∷ 1 ∷ 4 ∷ 1 ∷ 4 ∷ 1 ∷ 0 ∷ 4 ∷ 1 ∷ 1 ∷
    4 ∷ 1 ∷ 4 ∷ 1 ∷ 1 ∷ 4 ∷ 0 ∷ 1 ∷ 4 ∷ 1 ∷ 4 ∷ 1 ∷ 1 ∷ 4 ∷ 0 ∷ 1 ∷
    4 ∷ 1 ∷ 4 ∷ 1 ∷ 1 ∷ 4 ∷ 1 ∷ 0 ∷ 4 ∷ 1 ∷ 4 ∷ 1 ∷ 1 ∷ 4 ∷ 1 ∷ 0 ∷
    3 ∷ 0 ∷ 0 ∷ 3 ∷ 3 ∷ 3 ∷ 3 ∷ 3 ∷ 3 ∷ 0 ∷ 0 ∷ 3 ∷ 3 ∷ 3 ∷ 3 ∷ 3 ∷
    3 ∷ 0 ∷ 0 ∷ 3 ∷ 3 ∷ 3 ∷ 3 ∷ 3 ∷ 3 ∷ 0 ∷ 0 ∷ 3 ∷ 3 ∷ 3 ∷ 3 ∷ 3 ∷
    3 ∷ 0 ∷ 0 ∷ 3 ∷ 3 ∷ 3 ∷ 3 ∷ 3 ∷ 3 ∷ 0 ∷ 0 ∷ 3 ∷ 3 ∷ 3 ∷ 3 ∷ 3 ∷
    3 ∷ 0 ∷ 0 ∷ 3 ∷ 3 ∷ 3 ∷ 3 ∷ 3 ∷ 3 ∷ 0 ∷ 0 ∷ 3 ∷ 3 ∷ 3 ∷ 3 ∷ 3 ∷
    3 ∷ 0 ∷ 0 ∷ 3 ∷ 3 ∷ 3 ∷ 3 ∷ 3 ∷ 3 ∷ 0 ∷ 0 ∷ 3 ∷ 3 ∷ 3 ∷ 3 ∷ 3 ∷
    3 ∷ 0 ∷ 0 ∷ 3 ∷ 3 ∷ 3 ∷ 3 ∷ 3 ∷ 3 ∷ 0 ∷ 0 ∷ 3 ∷ 3 ∷ 3 ∷ 3 ∷ 3 ∷ []

abbrev pub after_table : List ℕ
after_table = 0 ∷ 1 ∷ 1 ∷ 2 ∷ 3 ∷ 0 ∷ 4 ∷ 5 ∷ 0 ∷ 1 ∷ 1 ∷ 2 ∷ 3 ∷ 0 ∷ 4 ∷ 5 ∷ []

abbrev pub waiting_table : List ℕ
waiting_table = 6 ∷ 7 ∷ 6 ∷ 8 ∷ 9 ∷ 6 ∷ 10 ∷ 11 ∷ 6 ∷ 7 ∷ 6 ∷ 8 ∷ 9 ∷ 6 ∷ 10 ∷ 11 ∷ []
