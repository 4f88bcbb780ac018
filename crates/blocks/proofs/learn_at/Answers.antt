-- `blocks::learn_at` meets its contract: the block of a sequence that stands somewhere is learned. Assumes nothing.
use native.Mathlib.Omega.{arith}
use lib.ListN.{drop, length-drop}
use Rattle.utf8.proofs.TextLaws.{step_bounds, unpacked}
use Rattle.blocks.proofs.ByteLaws.{block_long}
use Rattle.blocks.proofs.learn_at.Goals as goal

pub learn-requires-clause-block_in_bounds : goal.learn-requires-clause-block_in_bounds
learn-requires-clause-block_in_bounds c =
    let r = drop c.args.at c.args.text.now in
    let e = (unpacked r _ c.decode_packed-packed.ensures (omega (arith, length-drop c.args.at c.args.text.now, c.requires.at_in_bounds))).some (omega arith) in (
      omega (arith, c.if-index-lt-BLOCKS.false),
      c.if-len-lt2.false,
      (step_bounds r _ _ e).short,
      block_long r _ _ _ e (omega arith),
      record { some = omega arith; from = omega arith; to = omega arith; small = c.if-block-ge-BLOCKS.false },
    )
