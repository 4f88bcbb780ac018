-- `character::place_of` meets its contract. Assumes nothing.
use native.Mathlib.Omega.{arith}
use Rattle.image.proofs.SectionLaws.{few_records}
use Rattle.character.proofs.PlaceLaws.{between_begins, between_above, between_below, between_placed}
use Rattle.character.proofs.place_of.Goals as goal

pub loop-lo-init : goal.loop-lo-init
loop-lo-init c = (c.count_records-hi.ensures.accepted, rw c.count_records-hi.ensures.count (between_begins _ _ _))

pub overflow_add-mid : goal.overflow_add-mid
overflow_add-mid c = omega (arith, few_records _ c.loop-lo.invariant.0 c.args.section, c.loop-lo.invariant.1.within)

pub record_at-r-requires : goal.record_at-r-requires
record_at-r-requires c = omega (arith, c.loop-lo.invariant.1.within)

pub overflow_add-lo : goal.overflow_add-lo
overflow_add-lo c = omega (arith, few_records _ c.loop-lo.invariant.0 c.args.section, c.loop-lo.invariant.1.within)

pub loop-lo-smaller-then-r-x : goal.loop-lo-smaller-then-r-x
loop-lo-smaller-then-r-x c = omega arith

pub loop-lo-preserved-then-r-x : goal.loop-lo-preserved-then-r-x
loop-lo-preserved-then-r-x c = (c.loop-lo.invariant.0, between_above _ _ _ _ _ c.loop-lo.invariant.1 _ c.record_at-r.ensures c.loop-lo-test.true c.if-r-x.true)

pub loop-lo-smaller : goal.loop-lo-smaller
loop-lo-smaller c = omega arith

pub loop-lo-preserved : goal.loop-lo-preserved
loop-lo-preserved c = (c.loop-lo.invariant.0, between_below _ _ _ _ _ c.loop-lo.invariant.1 _ c.record_at-r.ensures c.loop-lo-test.true c.if-r-x.false)

pub returns : goal.returns
returns c = between_placed _ _ _ _ _ c.loop-lo.invariant.1 c.loop-lo-test.false
