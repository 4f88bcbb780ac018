-- One character: what it leaves, by its turn, and where the token under way began. Assumes nothing.
use Prim.Native.Nat.{ℕ, zero, suc, ◌+◌, ◌%◌, ◌≤◌, ◌<◌}
use mathlib.Core.Path.{◌≡◌, refl, ap, subst, ◌∙◌}
use mathlib.Core.Bool.{Bool, true, false, cond, ◌&&◌}
use mathlib.Core.List.{List}
use native.Mathlib.Omega.{arith}
use native.Mathlib.Decide.{dec_lt}
use lib.ListN.{length}
use lib.Dec.{leb, eqb}
use borrow.Author.Tests.{eqb-true, eq-eqb, ne_eqb, le-leb, lt-leb}
use Rattle.std.specs.Prelude.{Err, Result, Ok}
use Rattle.refusal.specs.declared.Refusal.{Refusal}
use Rattle.character.specs.Read.{MemoOf}
use Rattle.character.specs.declared.Memo.{Memo}
use Rattle.turns.specs.Turns.{start_by}
use Rattle.turns.proofs.ReachLaws.{here_small}
use Rattle.count.specs.Turns.{count_waiting, count_states, count_after_of, count_waiting_of, count_beside, state_beside, mark_beside, refused_beside}
use Rattle.count.specs.Counting.{CountLook, CountingFrom, CountingAs, AdvancedOn, Advanced, settled_run, start_after, LookedOn, Looked, run_with}
use Rattle.count.specs.declared.Run.{Run}
use Rattle.count.proofs.StepLaws.{turn_some, turn_waiting, turn_first}
use Rattle.count.proofs.CountLaws.{counting_few, counting_same, counting_turn, counting_waits, counting_beside}

-- the run after a character
abbrev ran_by : Run → (at state count mid mark refused : ℕ) → Memo → Run
ran_by run at state count mid mark refused memo =
    record { at = at; state = state; count = count; mid = mid; mark = mark; refused = refused; rows = run.rows; memo = memo }

beside_some : (turn state : ℕ) → (turn ≡ 4 → 0 < state) → 0 < state_beside turn state
beside_some turn state h = go (eqb turn 4) (eqb turn 6) (eqb turn 7) (eqb state 1) (λ e. h (eqb-true turn 4 e))
  where
    go : (a b c d : Bool) → (a ≡ true → 0 < state) → 0 < cond a state (cond b 9 (cond c 1 (cond d 5 8)))
    go true b c d e = e refl
    go false true c d e = omega arith
    go false false true d e = omega arith
    go false false false true e = omega arith
    go false false false false e = omega arith

beside_few : (turn : ℕ) → count_beside turn ≤ 1
beside_few turn = go (eqb turn 4)
  where
    go : (a : Bool) → cond {A = ℕ} a 0 1 ≤ 1
    go true = omega arith
    go false = omega arith

module _ {s text : List ℕ} (run : Run) {len traits turn : ℕ} (l : run.state < count_states) (k : CountLook s text run.state run.at len traits turn) {m : Memo} (a : MemoOf s m) where
  small : traits < 16
  small = here_small k.accepted k.here

  -- while a medial waits no token is complete
  free : (turn ≡ 3 → ⊥) → 0 < turn → run.state < count_waiting
  free z p = go (dec_lt run.state count_waiting)
    where
      go : Dec (run.state < count_waiting) → run.state < count_waiting
      go (yes h) = h
      go (no h) = absurd (omega (arith, k.known, turn_waiting run.state traits l small (omega arith) (λ e. z (k.known ∙ e))))

  -- nor with the first character
  started : 0 < turn % 8 → 0 < run.state
  started p = turn_first run.state traits l small (omega (arith, k.known))

  pub advanced_turn : (n : ℕ) → n ≡ count_after_of traits → turn ≤ 1 →
      AdvancedOn s text run (ran_by run (run.at + len) n (run.count + turn) run.mid run.mark run.refused m)
  advanced_turn n e h =
      record {
        on = omega (arith, k.here.some_bytes);
        some = omega (arith, turn_some run.state traits l small (omega (arith, k.known)));
        done = turn;
        counted = refl;
        most = h;
        free = λ p. (started (omega arith), free (λ z. absurd (omega arith)) p);
        rows = refl;
        memo = a;
        counting = λ start i. counting_turn i k h n e;
      }

  pub advanced_waits : (n : ℕ) → n ≡ count_waiting_of traits → turn ≡ 2 →
      AdvancedOn s text run (ran_by run (run.at + len) n run.count run.at run.mark run.refused m)
  unfolding count_waiting_of
  advanced_waits n e h =
      record {
        on = omega (arith, k.here.some_bytes);
        some = omega (arith, e);
        done = 0;
        counted = omega arith;
        most = omega arith;
        free = λ p. absurd (omega arith);
        rows = refl;
        memo = a;
        counting = λ start i. counting_waits i k h n e;
      }

  pub advanced_beside : (d n q r : ℕ) → d ≡ count_beside turn → n ≡ state_beside turn run.state → q ≡ mark_beside turn run.mark run.at →
      r ≡ refused_beside turn run.refused q (length text) → 4 ≤ turn → turn ≤ 7 → AdvancedOn s text run (ran_by run (run.at + len) n (run.count + d) run.mid q r m)
  advanced_beside d n q r e f g y h j =
      let c = ap (λ (d : ℕ). run.count + d) e in
      record {
        on = omega (arith, k.here.some_bytes);
        some = omega (arith, f, beside_some turn run.state (λ z. started (omega arith)));
        done = count_beside turn;
        counted = c;
        most = beside_few turn;
        free = λ p. (started (omega arith), free (λ z. absurd (omega arith)) (omega arith));
        rows = refl;
        memo = a;
        counting = λ start i. counting_same (counting_beside i k h j) f c g (y ∙ ap (λ (q : ℕ). refused_beside turn run.refused q (length text)) g);
      }

pub advanced_few : {s text : List ℕ} {run r : Run} → AdvancedOn s text run r → CountingAs s text run → r.count ≤ length text
advanced_few x i = counting_few (x.counting i.start i.counting)

-- where the token under way began: nothing was settled, or a medial was
start_plain : (n start at state mid c c' : ℕ) → n ≤ 1 → (0 < n → state < count_waiting) → c' ≡ c + n →
    start_by n start at ≡ cond (eqb c' c) start (cond (leb count_waiting state && eqb c' (c + 1)) mid at)
start_plain zero start at state mid c c' l f e = rw (eq-eqb c' c (omega arith))
start_plain (suc zero) start at state mid c c' l f e = rw (ne_eqb c' c (λ z. absurd (omega arith)), lt-leb count_waiting state (f (omega arith)))
start_plain (suc (suc n)) start at state mid c c' l f e = absurd (omega arith)

start_settled : (n start at state mid c c' : ℕ) → n ≤ 1 → count_waiting ≤ state → c' ≡ c + 1 + n →
    start_by n mid at ≡ cond (eqb c' c) start (cond (leb count_waiting state && eqb c' (c + 1)) mid at)
start_settled zero start at state mid c c' l f e = rw (ne_eqb c' c (λ z. absurd (omega arith)), le-leb count_waiting state f, eq-eqb c' (c + 1) (omega arith))
start_settled (suc zero) start at state mid c c' l f e =
    rw (ne_eqb c' c (λ z. absurd (omega arith)), le-leb count_waiting state f, ne_eqb c' (c + 1) (λ z. absurd (omega arith)))
start_settled (suc (suc n)) start at state mid c c' l f e = absurd (omega arith)

first_none : (n : ℕ) {c c' : ℕ} → c' ≡ c + n → (0 < n → ⊥) → c' ≡ c
first_none zero e f = omega arith
first_none (suc n) e f = absurd (f (omega arith))

pub looked_plain : (s text : List ℕ) (run : Run) (g : Result Run Refusal) → Advanced s text run g → Looked s text run g
looked_plain s text run (Err x) e = e
looked_plain s text run (Ok r) x =
    record {
      on = x.on;
      some = x.some;
      least = omega (arith, x.counted);
      most = omega (arith, x.counted, x.most);
      first = λ z. first_none x.done x.counted (λ p. absurd (omega (arith, (x.free p).0)));
      settled = λ z. absurd (omega (arith, x.counted, x.most));
      medial = λ z. absurd (omega (arith, x.counted, x.most));
      rows = x.rows;
      memo = x.memo;
      counting =
          λ start i.
          subst (CountingFrom s text r) (start_plain x.done start run.at run.state run.mid run.count r.count x.most (λ p. (x.free p).1) x.counted) (x.counting start i);
    }

pub looked_settled : (s text : List ℕ) (run : Run) (g : Result Run Refusal) → count_waiting < run.state →
    ((start : ℕ) → CountingFrom s text run start → CountingFrom s text (settled_run run) run.mid) → Advanced s text (settled_run run) g → Looked s text run g
looked_settled s text run (Err x) w f e = e
looked_settled s text run (Ok r) w f x =
    record {
      on = x.on;
      some = x.some;
      least = omega (arith, x.counted);
      most = omega (arith, x.counted, x.most);
      first = λ z. absurd (omega arith);
      settled = λ z. w;
      medial = λ z. f;
      rows = x.rows;
      memo = x.memo;
      counting =
          λ start i.
          subst (CountingFrom s text r) (start_settled x.done start run.at run.state run.mid run.count r.count x.most (omega arith) x.counted) (x.counting run.mid (f start i));
    }

-- the run after a character was read, with what was learnt
pub looked_on : (s text : List ℕ) (run next : Run) (rows : ℕ) → LookedOn s text run next → CountingAs s text run → CountingAs s text (run_with next rows)
looked_on s text run next rows x i = record { start = start_after i.start run next; counting = x.counting i.start i.counting; memo = x.memo }
