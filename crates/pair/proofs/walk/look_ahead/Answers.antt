-- `pair::walk::look_ahead` meets its contract. Assumes nothing.
use native.Mathlib.Omega.{arith}
use Rattle.pair.proofs.WalkLaws.{ends_ahead, gap_ahead, range_ahead}
use Rattle.pair.proofs.walk.look_ahead.Goals as goal

pub returns-then-n-i : goal.returns-then-n-i
returns-then-n-i c = ends_ahead c.requires.walk c.requires.n_value c.requires.x_le_last_code_point (omega (arith, c.requires.n_value, c.if-n-i.true))

pub returns-then-x-r : goal.returns-then-x-r
returns-then-x-r c = gap_ahead c.requires.walk c.requires.n_value c.requires.x_le_last_code_point (omega (arith, c.requires.n_value, c.if-n-i.false)) c.record_at-r.ensures c.if-x-r.true

pub returns : goal.returns
returns c = range_ahead c.requires.walk c.requires.n_value c.requires.x_le_last_code_point (omega (arith, c.requires.n_value, c.if-n-i.false)) c.record_at-r.ensures c.if-x-r.false
