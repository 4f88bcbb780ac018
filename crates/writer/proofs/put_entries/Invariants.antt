-- The loop of `writer::put_entries`: the bytes of the first i entries stand in the buffer.
use Rattle.std.proofs.Common.{ℕ, List}
use Rattle.lists.specs.Writing.{Writing}
use Rattle.image.specs.Limits.{entry_bytes}
use Rattle.image.specs.Profile.{profile_by}
use Rattle.image.specs.Image.{entry_words, bytes_of_all}
use Rattle.writer.specs.declared.parts.Entries.{Entries}
use Rattle.writer.proofs.put_entries.Given as goal

abbrev pub bytes_in : Entries → ℕ → List ℕ
bytes_in e i = bytes_of_all (entry_words (profile_by e.points.now e.roles.now e.used) i)

abbrev pub invariant-loop-i : goal.invariant-loop-i
invariant-loop-i l = Writing (bytes_in l.entries) entry_bytes l.entries.used l.initial.out l.out l.i
