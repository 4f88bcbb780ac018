-- `lookup::seek` meets its contract: one step of the search, and the search in the half that remains. Assumes nothing.
use Prim.Native.Nat.{ℕ, ◌+◌, ◌-◌, ◌/◌, ◌<◌}
use mathlib.Core.Path.{◌≡◌, sym, ◌∙◌}
use native.Mathlib.Omega.{arith}
use Rattle.lookup.proofs.HalvingLaws.{seek_none, seek_low, seek_high, seek_here, seek_fits}
use Rattle.lookup.proofs.+seek.Goals as goal

pub returns-then-hi-lo : goal.returns-then-hi-lo
returns-then-hi-lo t c = sym (seek_none _ _ _ _ c.if-hi-lo.true)

-- the middle of two places, as it is computed and as it is defined
middle : (lo hi : ℕ) → lo < hi → lo + (hi - lo) / 2 ≡ (lo + hi) / 2
middle lo hi h = omega arith

pub add_step-requires : goal.add_step-requires
add_step-requires t c = seek_fits _ _ _ _ _ c.seek.ensures (omega arith)

pub returns-then-x-range : goal.returns-then-x-range
returns-then-x-range t c =
    let m = middle c.args.lo c.args.hi c.if-hi-lo.false in
    c.add_step.ensures ∙ seek_low _ _ _ _ _ (rw m at c.record_at-range.ensures) c.if-hi-lo.false _ (rw m at c.seek.ensures) c.if-x-range.true

pub add_step-requires-then-range-x : goal.add_step-requires-then-range-x
add_step-requires-then-range-x t c = seek_fits _ _ _ _ _ c.seek-then-range-x.ensures (omega arith)

pub returns-then-range-x : goal.returns-then-range-x
returns-then-range-x t c =
    let m = middle c.args.lo c.args.hi c.if-hi-lo.false in
    c.add_step-then-range-x.ensures
    ∙ seek_high _ _ _ _ _ (rw m at c.record_at-range.ensures) c.if-hi-lo.false _ (rw m at c.seek-then-range-x.ensures) c.if-x-range.false
    c.if-range-x.true

pub returns : goal.returns
returns t c =
    seek_here _ _ _ _ _ (rw (middle c.args.lo c.args.hi c.if-hi-lo.false) at c.record_at-range.ensures) c.if-hi-lo.false c.if-x-range.false
    c.if-range-x.false
