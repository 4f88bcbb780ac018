-- The loop of `image::write_ranges`: the first i ranges stand in the buffer.
use Rattle.std.proofs.Common.{ℕ, List}
use Rattle.image.specs.Limits.{words_per_range}
use Rattle.image.specs.Ranges.{range_at, range_words}
use Rattle.lists.specs.Writing.{Writing}
use Rattle.image.proofs.write_ranges.Given as goal

abbrev pub words_of : List ℕ → ℕ → List ℕ
words_of s i = range_words (range_at s i)

abbrev pub invariant-loop-i : goal.invariant-loop-i
invariant-loop-i l = Writing (words_of l.image) words_per_range l.n l.initial.out l.out l.i
