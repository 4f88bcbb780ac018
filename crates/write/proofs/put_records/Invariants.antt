-- The loop of `write::put_records`: k records more are written, and the line is that of the byte after them.
use Prim.Native.Nat.{◌/◌}
use Rattle.grammar.specs.Record.{record_size}
use Rattle.write.proofs.WriteLaws.{Going}
use Rattle.write.proofs.put_records.Given as goal

abbrev pub invariant-loop-k : goal.invariant-loop-k
invariant-loop-k l = Going l.image l.text l.initial.out (l.initial.w / record_size) l.total l.out l.w l.line l.k
