-- The records of a text's tokens, written piece by piece from their starts. Assumes nothing.
use Prim.Native.Nat.{ℕ, ◌+◌, ◌-◌, ◌/◌, ◌≤◌, ◌<◌}
use mathlib.Core.Path.{◌≡◌, refl, sym, ap, subst, ◌∙◌}
use mathlib.Core.Bool.{cond}
use mathlib.Core.List.{List}
use mathlib.Core.Logic.{◌⊎◌, inl, inr}
use native.Mathlib.Omega.{arith}
use native.Mathlib.Decide.{dec_lt}
use lib.ListN.{length, get_or, set, length-set}
use lib.Dec.{ltb}
use borrow.Author.Tests.{lt-ltb, le-ltb}
use Rattle.std.specs.Prelude.{Ok, Err}
use Rattle.refusal.specs.declared.Refusal.{Refusal}
use Rattle.lists.proofs.BoolLaws.{impossible}
use Rattle.lists.specs.Laid.{laid}
use Rattle.lists.specs.Each.{each}
use Rattle.lists.specs.Writing.{Writing}
use Rattle.lists.proofs.WritingLaws.{writing_begins, writing_ends}
use Rattle.line.proofs.LineLaws.{line_begins}
use Rattle.grammar.specs.Record.{record_size, listed_words}
use Rattle.grammar.specs.Reading.{tokens_of}
use Rattle.grammar.specs.Counted.{count_through}
use Rattle.blocks.specs.Blocks.{Learning, Learnt}
use Rattle.blocks.proofs.DoneLaws.{learnt_whole}
use Rattle.turns.specs.Starts.{Started}
use Rattle.turns.proofs.StartLaws.{started_fewer, started_next}
use Rattle.count.specs.declared.Run.{Run}
use Rattle.count.specs.Counting.{run_with}
use Rattle.count.proofs.CountLaws.{counting_few}
use Rattle.mark.specs.Marking.{Marking, MarkedOn, margin}
use Rattle.write.specs.declared.Written.{Written}
use Rattle.write.specs.Records.{record_at, Listing, Piece, WrittenTo, Wrote}
use Rattle.write.proofs.StartLaws.{each_record, place_here}
use Rattle.token.specs.Ended.{Ended}
use Rattle.token.proofs.EndLaws.{whole, start_few}

-- `done` records of an accepted text stand in the buffer that was `before`, and the starts of the next tokens are marked
pub record Filling (s text : List ℕ) (total : ℕ) (before index cells starts out : List ℕ) (run : Run) (done : ℕ) (from : Written) : Type 0 where
  pub counted : count_through s text ≡ Ok total
  pub marking : Marking s text starts done run
  pub learning : Learning s index cells run.rows
  pub written : WrittenTo s text done from
  pub wrote : (b : List ℕ) → Writing (record_at s text) record_size total b before 0 → Writing (record_at s text) record_size total b out done
  pub size : length out ≡ length before
  pub long : 8 ≤ length starts

pub words_done : {s text : List ℕ} {done : ℕ} {r : Written} → WrittenTo s text done r → r.w / record_size ≡ done
words_done h = omega (arith, h.words)

-- a run whose rows are all given away
run_whole : {s text starts : List ℕ} {done n : ℕ} (run r : Run) → r ≡ run_with run n → Marking s text starts done run → Marking s text starts done r
run_whole {s} {text} {starts} {done} run r e m =
    subst (Marking s text starts done) (sym e)
    (record { counting = record { start = m.counting.start; counting = m.counting.counting; memo = m.counting.memo }; some = m.some; from = m.from; room = m.room; started = m.started })

pub filling_begins : {s text index cells starts out : List ℕ} {total : ℕ} (run r : Run) → count_through s text ≡ Ok total → r ≡ run_with run (length cells) → Marking s text starts 0 run →
    Learnt s index cells → 8 ≤ length starts → Filling s text total out index cells starts out r 0 (record { w = 0; line = 1 })
filling_begins {s} {text} {index} {cells} run r e z m l h =
    record {
      counted = e;
      marking = run_whole run r z m;
      learning = subst (λ (q : Run). Learning s index cells q.rows) (sym z) (learnt_whole l.learning);
      written = record { words = refl; lined = line_begins text };
      wrote = λ b w. w;
      size = refl;
      long = h;
    }

module _ {s text before index cells starts out : List ℕ} {total done : ℕ} {run : Run} {from : Written}
    (f : Filling s text total before index cells starts out run done from) where
  abbrev n : ℕ
  n = run.count - done

  pub filling_listing : Listing s text before total → Listing s text out total
  filling_listing h = record { counted = h.counted; short = h.short; room = omega (arith, h.room, f.size) }

  -- the tokens that are complete
  pub filling_piece : Piece s text starts (from.w / record_size) n total
  filling_piece =
      let m = f.marking in
      let c = m.started.each n (omega arith) in
      subst (λ (d : ℕ). Piece s text starts d n total) (sym (words_done f.written))
      (record { started = started_fewer (n + 1) n (omega arith) m.started; ended = sym (place_here c); few = omega (arith, start_few c f.counted) })

  pub filling_written : WrittenTo s text (from.w / record_size) from
  filling_written = subst (λ (d : ℕ). WrittenTo s text d from) (sym (words_done f.written)) f.written

  -- .. are written, and the one under way is the first of the next piece
  module _ (out' : List ℕ) (r : Written) (w : Wrote s text out out' (from.w / record_size) n total) (l : length out' ≡ length out) (t : WrittenTo s text (from.w / record_size + n) r) where
    abbrev next : List ℕ
    next = set starts 0 (get_or starts n 0)

    e : from.w / record_size + n ≡ run.count
    e = omega (arith, words_done f.written, f.marking.from)

    pub filling_moved : Marking s text next run.count run
    filling_moved =
        let m = f.marking in
        let z : done + n ≡ run.count = omega (arith, m.from) in
        let k : 1 ≡ run.count - run.count + 1 = omega arith in
        record {
          counting = m.counting;
          some = m.some;
          from = omega arith;
          room = omega (arith, f.long, length-set starts 0 (get_or starts n 0));
          started = subst (Started s text next run.count) k (subst (λ (d : ℕ). Started s text next d 1) z (started_next n (omega (arith, f.long)) m.started));
        }

    pub filling_next : {index' cells' starts' : List ℕ} {run' : Run} → Marking s text starts' run.count run' → Learning s index' cells' run'.rows → length starts' ≡ length next →
        Filling s text total before index' cells' starts' out' run' run.count r
    filling_next m h z =
        record {
          counted = f.counted;
          marking = m;
          learning = h;
          written = subst (λ (d : ℕ). WrittenTo s text d r) e t;
          wrote = λ b x. subst (λ (d : ℕ). Writing (record_at s text) record_size total b out' d) e (w b (subst (λ (d : ℕ). Writing (record_at s text) record_size total b out d) (sym (words_done f.written)) (f.wrote b x)));
          size = l ∙ f.size;
          long = omega (arith, f.long, z, length-set starts 0 (get_or starts n 0));
        }

  -- at the text's end the last records are written
  module _ (starts' : List ℕ) (k : ℕ) (ends : Ended s text starts' done k) where
    pub filling_last : Piece s text starts' (from.w / record_size) k total
    filling_last = subst (λ (d : ℕ). Piece s text starts' d k total) (sym (words_done f.written)) (ends.piece total f.counted)

    pub filling_ends : (out' : List ℕ) → Wrote s text out out' (from.w / record_size) k total → out' ≡ laid before 0 (listed_words text (tokens_of s text))
    filling_ends out' w =
        let a = ends.all total f.counted in
        let d = words_done f.written in
        let x = w before (subst (λ (d : ℕ). Writing (record_at s text) record_size total before out d) (sym d) (f.wrote before writing_begins)) in
        let q : total ≤ from.w / record_size + k = omega arith in
        writing_ends x q ∙ ap (λ (m : ℕ). laid before 0 (each (record_at s text) m)) (sym (whole s text total f.counted).number) ∙ ap (laid before 0) (each_record s text)

-- how much is left: the tokens, and whether the text is
pub left_over : List ℕ → Run → ℕ
left_over text run = length text - run.count + cond {A = ℕ} (ltb run.at (length text)) 1 0

pub left_less : {s text starts : List ℕ} (run run' : Run) → run.at < length text → 8 ≤ length starts → MarkedOn s text starts run.count run' → left_over text run' < left_over text run
unfolding left_over
left_less {s} {text} {starts} run run' h l m = go (dec_lt run'.at (length text)) m.far
  where
    few : run'.count ≤ length text
    few = counting_few m.marking.counting.counting

    go : Dec (run'.at < length text) → (length text ≤ run'.at) ⊎ (length starts ≤ run'.count - run.count + margin) → left_over text run' < left_over text run
    go (yes y) (inl z) = absurd (omega arith)
    go (yes y) (inr z) = rw (lt-ltb run'.at (length text) y, lt-ltb run.at (length text) h) (omega (arith, few))
    go (no y) z = rw (le-ltb run'.at (length text) (omega arith), lt-ltb run.at (length text) h) (omega (arith, m.marking.from))

-- a text that is counted isn't refused
pub never_refused : {A : Type 0} (s text : List ℕ) (x : Refusal) (total : ℕ) → Err x ≡ count_through s text → count_through s text ≡ Ok total → A
never_refused s text x total e f = let z : Err x ≡ Ok total = e ∙ f in impossible (cc)
