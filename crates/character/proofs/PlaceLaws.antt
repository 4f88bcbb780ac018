-- The place of a number among ranges, by halving, and by a walk from a lower one, step by step. Assumes nothing.
use Prim.Native.Nat.{ℕ, ◌+◌, ◌-◌, ◌/◌, ◌≤◌, ◌<◌}
use mathlib.Core.Path.{◌≡◌}
use native.Mathlib.Omega.{arith}
use native.Mathlib.Decide.{ℕ_discrete}
use Rattle.std.specs.Option.{MatchOption, unwrap_or}
use Rattle.std.specs.Prelude.{Option, Some, None}
use Rattle.image.specs.declared.Range.{Range}
use mathlib.Core.List.{List}
use Rattle.image.specs.declared.records.Section.TheVariants.{Ranges, Entries}
use Rattle.image.specs.Records.{record_at, record_count}
use Rattle.image.specs.Placed.{Passed, Placed}
use Rattle.character.specs.Read.{MemoOf, MemoAt}
use Rattle.character.specs.declared.Memo.{Memo}

module _ (at : ℕ → Range) (n x : ℕ) where
  passed_next : (i : ℕ) (r : Range) → r ≡ at i → i < n → r.last < x → Passed at n (i + 1) x
  passed_next i r e l h =
      let z : i ≡ i + 1 - 1 = omega arith in
      let k : (at i).last < x = rw e at h in
      record { within = omega arith; before = λ _. rw z at k }

  passed_from : {from i : ℕ} → Passed at n from x → from ≤ i → i ≤ n → ((k : ℕ) → from ≤ k → k < i → (at k).last < x) → Passed at n i x
  passed_from {from} {i} p l u f = record { within = u; before = λ h. go h (ℕ_discrete from i) }
    where
      go : 0 < i → Dec (from ≡ i) → (at (i - 1)).last < x
      go h (yes e) = rw e at (p.before (omega arith))
      go h (no d) = f (i - 1) (omega arith) (omega arith)

  -- the place of x is from lo to hi
  pub record Between (lo hi : ℕ) : Type 0 where
    pub ordered : lo ≤ hi
    pub within : hi ≤ n
    pub passed : Passed at n lo x
    pub reached : hi < n → x ≤ (at hi).last

  pub between_begins : Between 0 n
  between_begins =
      record {
        ordered = omega arith;
        within = omega arith;
        passed = record { within = omega arith; before = λ l. absurd (omega arith) };
        reached = λ l. absurd (omega arith);
      }

  module _ (lo hi : ℕ) (b : Between lo hi) where
    module _ (r : Range) (e : r ≡ at ((lo + hi) / 2)) (l : lo < hi) where
      pub between_above : r.last < x → Between ((lo + hi) / 2 + 1) hi
      between_above h =
          let w = b.within in
          record { ordered = omega arith; within = w; passed = passed_next ((lo + hi) / 2) r e (omega arith) h; reached = b.reached }

      pub between_below : x ≤ r.last → Between lo ((lo + hi) / 2)
      between_below h =
          let k : x ≤ (at ((lo + hi) / 2)).last = rw e at h in
          let w = b.within in
          record { ordered = omega arith; within = omega arith; passed = b.passed; reached = λ _. k }

    pub between_placed : hi ≤ lo → Placed at n lo x
    between_placed h =
        let o = b.ordered in
        let z : hi ≡ lo = omega arith in
        let k : lo < n → x ≤ (at lo).last = rw z at b.reached in
        record { passed = b.passed; reached = k }

  -- the first place at which x is reached, from one on that it has passed
  pub placed_first :
      {from m i : ℕ} (r : Option ℕ) → Passed at n from x → m ≡ n → i ≡ unwrap_or r m
      → MatchOption r ((k : ℕ) → from ≤ k → k < m → (at k).last < x) (λ i. (from ≤ i) × (i < m) × (x ≤ (at i).last) × ((k : ℕ) → from ≤ k → k < i → (at k).last < x))
      → Placed at n i x
  placed_first None p e q f =
      let w = p.within in
      rw (q, e) (record { passed = passed_from p w (omega arith) (λ k l u. f k l (omega arith)); reached = λ l. absurd (omega arith) })
  placed_first (Some i) p e q f =
      rw q (record { passed = passed_from p f.0 (omega (arith, f.1)) f.3; reached = λ _. f.2 })

pub passed_begins : (at : ℕ → Range) (n x : ℕ) → Passed at n 0 x
passed_begins at n x = record { within = omega arith; before = λ l. absurd (omega arith) }

passed_more : (at : ℕ → Range) (n i x y : ℕ) → x ≤ y → Passed at n i x → Passed at n i y
passed_more at n i x y h p = record { within = p.within; before = λ l. let b = p.before l in omega arith }

-- a walk has passed places for x, and its memo is right
pub record WalkOf (s : List ℕ) (x r e : ℕ) (m : Memo) : Type 0 where
  pub range : Passed (record_at s Ranges) (record_count s Ranges) r x
  pub entry : Passed (record_at s Entries) (record_count s Entries) e x
  pub memo : MemoOf s m

-- it begins at x, and goes on to higher ones
pub walk_begins :
    (s : List ℕ) (x range entry : ℕ) (m : Memo) → Passed (record_at s Ranges) (record_count s Ranges) range x → Passed (record_at s Entries) (record_count s Entries) entry x
    → MemoOf s m → WalkOf s (x + 0) range entry m
walk_begins s x range entry m p q a =
    record { range = passed_more _ _ range x (x + 0) (omega arith) p; entry = passed_more _ _ entry x (x + 0) (omega arith) q; memo = a }

pub walk_on : (s : List ℕ) (x y : ℕ) {range entry : ℕ} {m : Memo} → x ≤ y → WalkOf s x range entry m → WalkOf s y range entry m
walk_on s x y {range} {entry} h i = record { range = passed_more _ _ range x y h i.range; entry = passed_more _ _ entry x y h i.entry; memo = i.memo }

-- x is in the memo
pub record WalkAt (s : List ℕ) (x range entry : ℕ) (m : Memo) : Type 0 where
  pub walk : WalkOf s x range entry m
  pub here : MemoAt s x m

pub walk_same : {s : List ℕ} {x r e r' e' : ℕ} {m m' : Memo} → WalkAt s x r e m → r' ≡ r → e' ≡ e → m' ≡ m → WalkAt s x r' e' m'
walk_same w p q o = rw (p, q, o) w
