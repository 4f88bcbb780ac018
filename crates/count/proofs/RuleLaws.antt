-- The code's table holds the rules, each of its parts by its rows. Assumes nothing.
use Prim.Native.Nat.{ℕ, ◌+◌, ◌-◌, ◌*◌, ◌<◌}
use mathlib.Core.Path.{◌≡◌, refl, ap, ◌∙◌}
use mathlib.Core.List.{List}
use native.Mathlib.Omega.{arith}
use lib.ListN.{get_or}
use borrow.Author.Tests.{lt-ltb, le-ltb}
use Rattle.lists.specs.Each.{each_from, each, column}
use Rattle.turns.specs.Turns.{turn_of, after_of}
use Rattle.turns.proofs.TableLaws.{rows_of, rows_at}
use Rattle.count.specs.Turns.{count_states, count_turn_of, count_after_of, count_waiting_of}
use Rattle.count.specs.Steps.{row_state, state_rows, step_for}
use Rattle.count.specs.Rules.{traits_for, rule_rows, rule_for, rule_table}

rules_hold : rule_table ≡ column 592 (rows_of rule_for) 592
unfolding column each each_from turn_of after_of count_turn_of count_after_of count_waiting_of row_state step_for traits_for rule_for
rules_hold = refl

pub rule_at : (row t : ℕ) → row < rule_rows → t < 16 → get_or rule_table (row * 16 + t) 0 ≡ rule_for row t
rule_at row t h l = ap (λ (xs : List ℕ). get_or xs (row * 16 + t) 0) rules_hold ∙ rows_at rule_for 592 row t (omega arith) l

pub rule_step : (row t : ℕ) → row < 16 → rule_for row t ≡ step_for row t
unfolding rule_for
rule_step row t h = rw (lt-ltb row 16 h)

pub rule_turn : (n t : ℕ) → n < count_states → rule_for (16 + n) t ≡ count_turn_of n t
unfolding rule_for
rule_turn n t h = let e : 16 + n - 16 ≡ n = omega arith in rw (le-ltb (16 + n) 16 (omega arith), lt-ltb (16 + n) 32 (omega arith), e)

pub rule_after : (t : ℕ) → rule_for 32 t ≡ count_after_of t
unfolding rule_for
rule_after t = refl

pub rule_waits : (t : ℕ) → rule_for 33 t ≡ count_waiting_of t
unfolding rule_for
rule_waits t = refl

pub rule_state : (t : ℕ) → rule_for 34 t ≡ row_state t
unfolding rule_for
rule_state t = refl

pub rule_row : (n : ℕ) → rule_for 35 n ≡ get_or state_rows n 0
unfolding rule_for
rule_row n = refl

pub rule_traits : (n : ℕ) → rule_for 36 n ≡ traits_for n
unfolding rule_for
rule_traits n = refl
