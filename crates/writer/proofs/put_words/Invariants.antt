-- The loop of `writer::put_words`: the bytes of the first i numbers stand in the buffer.
use Rattle.std.proofs.Common.{ℕ, List, length, get_or}
use Rattle.lists.specs.Writing.{Writing}
use Rattle.image.specs.Limits.{word_bytes}
use Rattle.image.specs.Word.{bytes_of}
use Rattle.writer.proofs.put_words.Given as goal

abbrev pub bytes_in : List ℕ → ℕ → List ℕ
bytes_in words i = bytes_of (get_or words i 0)

abbrev pub invariant-loop-i : goal.invariant-loop-i
invariant-loop-i l = Writing (bytes_in l.words) word_bytes (length l.words) l.initial.out l.out l.i
