-- `hashtag::look_four` meets its contract. Assumes nothing.
use mathlib.Core.Bool.{true}
use native.Mathlib.Omega.{arith}
use lib.ListN.{get_or}
use Rattle.hashtag.proofs.SeekLaws.{small}
use Rattle.hashtag.proofs.CountedLaws.{sum_four}
use Rattle.hashtag.proofs.look_four.Goals as goal

pub overflow_add-result : goal.overflow_add-result
overflow_add-result c = omega (arith, small (get_or c.args.s.now 1 0) (c.look-2.ensures true c.requires.stops_of), small (get_or c.args.s.now 0 0) (c.look.ensures true c.requires.stops_of))

pub overflow_add-result-2 : goal.overflow_add-result-2
overflow_add-result-2 c =
    omega (
      arith,
      small (get_or c.args.s.now 2 0) (c.look-3.ensures true c.requires.stops_of),
      small (get_or c.args.s.now 1 0) (c.look-2.ensures true c.requires.stops_of),
      small (get_or c.args.s.now 0 0) (c.look.ensures true c.requires.stops_of),
    )

pub overflow_add-result-3 : goal.overflow_add-result-3
overflow_add-result-3 c =
    omega (
      arith,
      small (get_or c.args.s.now 3 0) (c.look-4.ensures true c.requires.stops_of),
      small (get_or c.args.s.now 2 0) (c.look-3.ensures true c.requires.stops_of),
      small (get_or c.args.s.now 1 0) (c.look-2.ensures true c.requires.stops_of),
      small (get_or c.args.s.now 0 0) (c.look.ensures true c.requires.stops_of),
    )

pub returns : goal.returns
returns c = sum_four c.args.s.now _ _ _ _ (c.look.ensures true c.requires.stops_of) (c.look-2.ensures true c.requires.stops_of) (c.look-3.ensures true c.requires.stops_of) (c.look-4.ensures true c.requires.stops_of)
