-- What the rules tell of each other, by tests of all their numbers, and what a step tells of the turn. Assumes nothing.
use Prim.Native.Nat.{ℕ, zero, suc, ◌+◌, ◌-◌, ◌*◌, ◌%◌, ◌≤◌, ◌<◌}
use mathlib.Core.Path.{◌≡◌, refl, sym, ap, ◌∙◌}
use mathlib.Core.Bool.{Bool, true, false, cond}
use mathlib.Core.List.{List}
use native.Mathlib.Omega.{arith}
use lib.ListN.{get_or}
use lib.Dec.{leb, eqb, ltb}
use borrow.Author.Tests.{eqb-true, lt-ltb, le-leb}
use Rattle.lists.specs.Each.{each_from, each, column}
use Rattle.lists.proofs.EachLaws.{column_at}
use Rattle.turns.specs.Turns.{turn_of, after_of}
use Rattle.turns.proofs.TableLaws.{rows_of, rows_at}
use Rattle.turns.proofs.StartLaws.{under_kind}
use Rattle.count.specs.Turns.{plain_of, count_waiting, count_states, count_turn_of, count_after_of, count_waiting_of}
use Rattle.count.specs.Steps.{row_state, state_rows, odd, step_by, step_for}
use Rattle.count.specs.Rules.{traits_for}

-- two functions are the same below a size, or one is 0 at all pairs below 16
pub same_at : (size : ℕ) (f g : ℕ → ℕ) → column size f size ≡ column size g size → (n : ℕ) → n < size → f n ≡ g n
same_at size f g e n h = sym (column_at size f size n h) ∙ ap (λ (xs : List ℕ). get_or xs n 0) e ∙ column_at size g size n h

zero_at : (f : ℕ → ℕ → ℕ) → column 256 (rows_of f) 256 ≡ column 256 (λ _. 0) 256 → (n t : ℕ) → n < 16 → t < 16 → f n t ≡ 0
zero_at f e n t h l =
    sym (rows_at f 256 n t (omega arith) l) ∙ ap (λ (xs : List ℕ). get_or xs (n * 16 + t) 0) e ∙ column_at 256 (λ _. 0) 256 (n * 16 + t) (omega arith)

-- the row of a state has that state
back_by : ℕ → ℕ
back_by n = cond (ltb (get_or state_rows n 0) 16) (row_state (get_or state_rows n 0)) n

rows_hold : column 16 back_by 16 ≡ column 16 (λ n. n) 16
unfolding column each each_from row_state back_by
rows_hold = refl

pub row_at : (n : ℕ) → n < 16 → get_or state_rows n 0 < 16 → n ≡ row_state (get_or state_rows n 0)
unfolding back_by
row_at n h l = let e = same_at 16 back_by (λ n. n) rows_hold n h in sym (rw (lt-ltb (get_or state_rows n 0) 16 l) at e)

-- the traits of a state are of the kind under way
traits_hold : column 16 (λ n. after_of (traits_for n)) 16 ≡ column 16 (λ n. under_kind (plain_of n)) 16
unfolding column each each_from after_of traits_for
traits_hold = refl

pub traits_kind : (n : ℕ) → n < count_states → after_of (traits_for n) ≡ under_kind (plain_of n)
traits_kind n h = same_at 16 _ _ traits_hold n h

-- no step where nothing is known
no_steps : column 16 (λ r. step_for r 0) 16 ≡ column 16 (λ r. odd) 16
unfolding column each each_from turn_of after_of count_turn_of count_after_of count_waiting_of row_state step_for
no_steps = refl

pub some_known : (r t : ℕ) → r < 16 → step_for r t < 128 → 0 < t
some_known r zero h l = absurd (omega (arith, same_at 16 _ _ no_steps r h))
some_known r (suc t) h l = omega arith

-- a known step leads to a state in which something is under way
idle_by : ℕ → ℕ → ℕ
idle_by r t = cond (ltb (step_for r t) 128) (1 - row_state t) 0

none_idle : column 256 (rows_of idle_by) 256 ≡ column 256 (λ _. 0) 256
unfolding column each each_from turn_of after_of count_turn_of count_after_of count_waiting_of row_state step_for idle_by
none_idle = refl

pub known_some : (row t : ℕ) → row < 16 → t < 16 → step_for row t < 128 → 0 < row_state t
unfolding idle_by
known_some row t h l s =
    let e = zero_at idle_by none_idle row t h l in
    omega (arith, rw (lt-ltb (step_for row t) 128 s) at e)

-- so does a turn: one that goes on or begins; while a medial waits there are only two turns, and where nothing is under way too
faults_by : ℕ → ℕ → ℕ
faults_by n t =
    cond (leb (count_turn_of n t) 1) (1 - count_after_of t) 0 + cond (leb count_waiting n) (count_turn_of n t % 3 + (count_turn_of n t - 3)) 0 + cond (ltb 0 (count_turn_of n t % 8)) (1 - n) 0

no_faults : column 256 (rows_of faults_by) 256 ≡ column 256 (λ _. 0) 256
unfolding column each each_from turn_of after_of count_turn_of count_after_of faults_by
no_faults = refl

module _ (n t : ℕ) (h : n < 16) (l : t < 16) where
  pub turn_some : count_turn_of n t ≤ 1 → 0 < count_after_of t
  unfolding faults_by
  turn_some s = let e = zero_at faults_by no_faults n t h l in omega (arith, rw (le-leb (count_turn_of n t) 1 s) at e)

  pub turn_waiting : count_waiting ≤ n → (count_turn_of n t ≡ 3 → ⊥) → count_turn_of n t ≡ 0
  unfolding faults_by
  turn_waiting s z = let e = zero_at faults_by no_faults n t h l in omega (arith, rw (le-leb count_waiting n s) at e)

  pub turn_first : 0 < count_turn_of n t % 8 → 0 < n
  unfolding faults_by
  turn_first s = let e = zero_at faults_by no_faults n t h l in omega (arith, rw (lt-ltb 0 (count_turn_of n t % 8) s) at e)

-- what a step tells of the turn
pub data Stepped (r t : ℕ) : ℕ → Type 0 where
  moves : {n : ℕ} → count_turn_of (row_state r) t ≡ n → n ≤ 1 → row_state t ≡ count_after_of t → Stepped r t n
  waits : count_turn_of (row_state r) t ≡ 2 → row_state t ≡ count_waiting_of t → Stepped r t 0

pub stepped : (r t : ℕ) → step_for r t < 128 → Stepped r t (step_for r t)
unfolding step_for
stepped r t = go (count_turn_of (row_state r) t) (eqb (row_state t) (count_after_of t)) (eqb (row_state t) (count_waiting_of t)) refl (eqb-true _ _) (eqb-true _ _)
  where
    go : (n : ℕ) (a b : Bool) → count_turn_of (row_state r) t ≡ n → (a ≡ true → row_state t ≡ count_after_of t) → (b ≡ true → row_state t ≡ count_waiting_of t) → step_by n a b < 128 →
        Stepped r t (step_by n a b)
    go zero true b e f g l = moves e (omega arith) (f refl)
    go zero false b e f g l = absurd (omega arith)
    go (suc zero) true b e f g l = moves e (omega arith) (f refl)
    go (suc zero) false b e f g l = absurd (omega arith)
    go (suc (suc zero)) a true e f g l = waits e (g refl)
    go (suc (suc zero)) a false e f g l = absurd (omega arith)
    go (suc (suc (suc n))) a b e f g l = absurd (omega arith)

-- a known step is 0 or 1, and each is a byte
pub step_few : (r t : ℕ) → step_for r t < 128 → step_for r t ≤ 1
step_few r t l = go (stepped r t l)
  where
    go : {n : ℕ} → Stepped r t n → n ≤ 1
    go (moves e h f) = h
    go (waits e f) = omega arith

pub step_most : (r t : ℕ) → step_for r t ≤ 255
unfolding step_for
step_most r t = go (count_turn_of (row_state r) t) (eqb (row_state t) (count_after_of t)) (eqb (row_state t) (count_waiting_of t))
  where
    go : (n : ℕ) (a b : Bool) → step_by n a b ≤ 255
    go zero true b = omega arith
    go zero false b = omega arith
    go (suc zero) true b = omega arith
    go (suc zero) false b = omega arith
    go (suc (suc zero)) a true = omega arith
    go (suc (suc zero)) a false = omega arith
    go (suc (suc (suc n))) a b = omega arith
