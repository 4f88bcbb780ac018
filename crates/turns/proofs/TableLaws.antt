-- The code's tables hold the turns and the states after them. Assumes nothing.
use Prim.Native.Nat.{ℕ, ◌+◌, ◌*◌, ◌/◌, ◌%◌, ◌<◌}
use mathlib.Core.Path.{◌≡◌, refl, ap, ◌∙◌}
use mathlib.Core.List.{List}
use native.Mathlib.Omega.{arith}
use lib.ListN.{get_or}
use Rattle.lists.specs.Each.{each_from, each, column}
use Rattle.lists.proofs.EachLaws.{column_at}
use Rattle.turns.specs.Turns.{states, waiting_of, turn_of, after_of, turn_table, after_table, waiting_table}

-- a table of rows of sixteen
abbrev pub rows_of : (ℕ → ℕ → ℕ) → ℕ → ℕ
rows_of f i = f (i / 16) (i % 16)

pub rows_at : (f : ℕ → ℕ → ℕ) (size n t : ℕ) → n * 16 + t < size → t < 16 → get_or (column size (rows_of f) size) (n * 16 + t) 0 ≡ f n t
rows_at f size n t h l =
    let q : (n * 16 + t) / 16 ≡ n = omega arith in
    let r : (n * 16 + t) % 16 ≡ t = omega arith in
    column_at size (rows_of f) size (n * 16 + t) h ∙ (λ i. f (q i) (r i))

turns_hold : turn_table ≡ column 192 (rows_of turn_of) 192
unfolding column each each_from turn_of
turns_hold = refl

after_holds : after_table ≡ column 16 after_of 16
unfolding column each each_from after_of
after_holds = refl

waiting_holds : waiting_table ≡ column 16 waiting_of 16
unfolding column each each_from waiting_of
waiting_holds = refl

pub turn_at : (n t : ℕ) → n < states → t < 16 → get_or turn_table (n * 16 + t) 0 ≡ turn_of n t
turn_at n t h l = ap (λ (xs : List ℕ). get_or xs (n * 16 + t) 0) turns_hold ∙ rows_at turn_of 192 n t (omega arith) l

pub after_at : (t : ℕ) → t < 16 → get_or after_table t 0 ≡ after_of t
after_at t l = ap (λ (xs : List ℕ). get_or xs t 0) after_holds ∙ column_at 16 after_of 16 t l

pub waiting_at : (t : ℕ) → t < 16 → get_or waiting_table t 0 ≡ waiting_of t
waiting_at t l = ap (λ (xs : List ℕ). get_or xs t 0) waiting_holds ∙ column_at 16 waiting_of 16 t l
