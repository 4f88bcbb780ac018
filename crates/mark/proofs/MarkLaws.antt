-- Marking while tokens are counted: each step marks the token that it begins, and what one character begins is marked after it. Assumes
-- nothing.
use Prim.Native.Nat.{ℕ, zero, suc, ◌+◌, ◌-◌, ◌*◌, ◌/◌, ◌%◌, ◌≤◌, ◌<◌}
use mathlib.Core.Path.{◌≡◌, refl, sym, ap, subst, ◌∙◌}
use mathlib.Core.List.{List}
use mathlib.Core.Option.{none}
use native.Mathlib.Omega.{arith}
use lib.ListN.{length, get_or, set, length-set}
use borrow.Author.Tests.{le-leb, lt-leb, eq-eqb, ne_eqb}
use Rattle.lists.specs.Each.{each_from, each, column}
use Rattle.image.specs.Check.{refusal_of}
use Rattle.character.specs.Read.{MemoOf, TokenTableOf}
use Rattle.character.specs.declared.Memo.{Memo}
use Rattle.grammar.specs.Before.{max_text}
use Rattle.blocks.specs.Blocks.{Cached, FoundAt}
use Rattle.turns.specs.Turns.{after_of, start_by}
use Rattle.turns.specs.Starts.{StartOf, Started}
use Rattle.turns.proofs.ReachLaws.{Here, here_small}
use Rattle.turns.proofs.StartLaws.{under_kind, start_under, started_set, started_more}
use Rattle.count.specs.Turns.{plain_of, count_states, count_waiting, count_after_of}
use Rattle.count.specs.Steps.{row_state, step_for}
use Rattle.count.specs.Rules.{traits_for, rule_for}
use Rattle.count.specs.Four.{cell_for, FourSteps}
use Rattle.count.specs.Counting.{Counting, CountingFrom, LookedOn, start_after, run_with}
use Rattle.count.specs.declared.Run.{Run}
use Rattle.count.proofs.BesideTurnLaws.{stated}
use Rattle.count.proofs.CountLaws.{counting_few}
use Rattle.count.proofs.StepLaws.{same_at, traits_kind, Stepped, moves, waits, stepped, step_few, some_known, known_some}
use Rattle.count.proofs.RuleLaws.{rule_step}
use Rattle.count.proofs.KnownLaws.{here_ascii, here_known, known_step}
use Rattle.mark.specs.Marking.{Marking, Putting, count_four, put_at, four_put, margin}

-- the kind under way is that of a character after which nothing waits
after_holds : column 16 after_of 16 ≡ column 16 (λ t. under_kind (plain_of (count_after_of t))) 16
unfolding column each each_from after_of count_after_of
after_holds = refl

after_under : (t : ℕ) → t < 16 → after_of t ≡ under_kind (plain_of (count_after_of t))
after_under t h = same_at 16 _ _ after_holds t h

smalls_hold : column 16 traits_for 16 ≡ column 16 (λ n. traits_for n % 16) 16
unfolding column each each_from traits_for
smalls_hold = refl

pub traits_small : (n : ℕ) → n < count_states → traits_for n < 16
traits_small n h = omega (arith, same_at 16 traits_for (λ n. traits_for n % 16) smalls_hold n h)

-- the start of the token under way
pub start_counted : {s text : List ℕ} {state count start mid q refused at : ℕ} → Counting s text state count start mid q refused at → 0 < state → (t : ℕ) → t < 16 →
    after_of t ≡ under_kind (plain_of state) → StartOf s text count (16 * start + t)
start_counted {s} {text} {state} {count} {start} i h t l e =
    let p : (16 * start + t) / 16 ≡ start = omega arith in
    let k : (16 * start + t) % 16 ≡ t = omega arith in
    let z : 0 < plain_of state = some_plain (plain_of state) (λ z. absurd (omega (arith, (stated state).nothing z))) in
    subst (λ (n : ℕ). StartOf s text n (16 * start + t)) (sym i.counted) (start_under _ i.reached z (16 * start + t) (p ∙ i.began) (ap after_of k ∙ e))
  where
    some_plain : (n : ℕ) → (n ≡ 0 → ⊥) → 0 < n
    some_plain zero f = absurd (f refl)
    some_plain (suc n) f = omega arith

-- what is counted and marked from the place `first` and the count `least` on, in the state of a row
pub record Walked (s text : List ℕ) (done mark refused size first least : ℕ) (starts : List ℕ) (row k last at : ℕ) : Type 0 where
  pub fits : length text ≤ max_text
  pub small : row < 16
  pub some : 0 < row_state row
  pub start : ℕ
  pub counting : Counting s text (row_state row) (done + k) start last mark refused at
  pub started : Started s text starts done (k + 1)
  pub long : length starts ≡ size
  pub room : k + 2 < size
  pub on : first ≤ at
  pub more : least ≤ done + k

-- .. and after a step of n tokens over a character, whose start x is put
pub record Stepping (s text : List ℕ) (done mark refused size first least : ℕ) (starts : List ℕ) (t n k at len : ℕ) : Type 0 where
  pub next : (x : ℕ) → x ≡ 16 * at + t → Walked s text done mark refused size first least (set starts (k + 1) x) t (k + n) at (at + len)
  pub small : t < 16
  pub fits : length text ≤ max_text
  pub few : done + (k + n) ≤ length text
  pub place : k + 1 < length starts
  pub bytes : 0 < len
  pub within : at + len ≤ length text

module _ {s text : List ℕ} {done mark refused size first least : ℕ} {starts : List ℕ} {row k last at : ℕ} (a : refusal_of s ≡ none)
    (i : Walked s text done mark refused size first least starts row k last at) (room : k + margin < length starts) where
  once : {t n : ℕ} → Stepped row t n → n ≤ 1
  once (moves e h f) = h
  once (waits e f) = omega arith

  begins_kind : {t n : ℕ} → t < 16 → Stepped row t n → n ≡ 1 → after_of t ≡ under_kind (plain_of (row_state t))
  begins_kind {t} l (moves e h f) o = after_under t l ∙ ap (λ (n : ℕ). under_kind (plain_of n)) (sym f)
  begins_kind l (waits e f) o = absurd (omega arith)

  -- where the step completes a token, the next begins with the character
  marks : (t n len : ℕ) → t < 16 → Stepped row t n → n ≤ 1 → 0 < row_state t → Counting s text (row_state t) (done + (k + n)) (start_by n i.start at) at mark refused (at + len) →
      Started s text (set starts (k + 1) (16 * at + t)) done (k + n + 1)
  marks t zero len l st o z c =
      let e : k + 1 ≡ k + 0 + 1 = omega arith in
      subst (Started s text (set starts (k + 1) (16 * at + t)) done) e (started_set (k + 1) (k + 1) (16 * at + t) (omega arith) i.started)
  marks t (suc zero) len l st o z c =
      started_more (k + 1) (16 * at + t) (omega (arith, i.long)) (start_counted c z t l (begins_kind l st refl)) i.started
  marks t (suc (suc n)) len l st o z c = absurd (omega arith)

  pub steps : {t n len : ℕ} → n ≡ rule_for row t → n < 128 → Here s text at len t → Stepping s text done mark refused size first least starts t n k at len
  steps {t} {n} {len} e l c =
      let f = e ∙ rule_step row t i.small in
      let h = here_small a c in
      let st : Stepped row t n = subst (Stepped row t) (sym f) (stepped row t (omega arith)) in
      let z = known_some row t i.small h (omega (arith, f)) in
      let p : done + k + n ≡ done + (k + n) = omega arith in
      let x = subst (λ (m : ℕ). Counting s text (row_state t) m (start_by n i.start at) at mark refused (at + len)) p (known_step row t n f l a i.counting c) in
      let w : Walked s text done mark refused size first least (set starts (k + 1) (16 * at + t)) t (k + n) at (at + len) =
      record {
        fits = i.fits;
        small = h;
        some = z;
        start = _;
        counting = x;
        started = marks t n len h st (once st) z x;
        long = length-set starts (k + 1) (16 * at + t) ∙ i.long;
        room = omega (arith, once st, i.long);
        on = omega (arith, i.on);
        more = omega (arith, i.more);
      } in
      record {
        next = λ (y : ℕ) (q : y ≡ 16 * at + t). subst (λ (y : ℕ). Walked s text done mark refused size first least (set starts (k + 1) y) t (k + n) at (at + len)) (sym q) w;
        small = h;
        fits = i.fits;
        few = counting_few x;
        place = omega (arith, i.long);
        bytes = c.some_bytes;
        within = c.within;
      }

  pub steps_known : {index cells : List ℕ} {t n len : ℕ} → at < length text → Cached s index cells → FoundAt index cells text at len t → n ≡ rule_for row t → n < 128 →
      Stepping s text done mark refused size first least starts t n k at len
  steps_known {t = t} h c f e l = steps e l (here_known h (f.shown _ c (some_known row t i.small (omega (arith, e ∙ rule_step row t i.small)))))

-- the steps of four characters of ASCII
pub record FourFew (cells text : List ℕ) (at row : ℕ) : Type 0 where
  pub few0 : step_for row (cell_for cells text at) ≤ 1
  pub few1 : step_for (cell_for cells text at) (cell_for cells text (at + 1)) ≤ 1
  pub few2 : step_for (cell_for cells text (at + 1)) (cell_for cells text (at + 2)) ≤ 1
  pub few3 : step_for (cell_for cells text (at + 2)) (cell_for cells text (at + 3)) ≤ 1

pub four_few : {cells text : List ℕ} {at row n : ℕ} → FourSteps cells text at row n → FourFew cells text at row
four_few {cells} {text} {at} {row} k =
    record {
      few0 = step_few row (cell_for cells text at) (omega (arith, k.known, k.steps));
      few1 = step_few (cell_for cells text at) (cell_for cells text (at + 1)) (omega (arith, k.known, k.steps));
      few2 = step_few (cell_for cells text (at + 1)) (cell_for cells text (at + 2)) (omega (arith, k.known, k.steps));
      few3 = step_few (cell_for cells text (at + 2)) (cell_for cells text (at + 3)) (omega (arith, k.known, k.steps));
    }

-- a start put, by other numbers
pub put_same : (cells text : List ℕ) (at : ℕ) {xs ys : List ℕ} {k j x t : ℕ} → xs ≡ ys → k ≡ j → x ≡ 16 * at + t → t ≡ cell_for cells text at → set xs (k + 1) x ≡ put_at cells text ys j at
put_same cells text at {ys = ys} {k} {j} {x} e f g h =
    ap (λ (zs : List ℕ). set zs (k + 1) x) e ∙ ap (λ (i : ℕ). set ys (i + 1) x) f ∙ ap (set ys (j + 1)) (g ∙ ap (λ (y : ℕ). 16 * at + y) h)

-- four starts put
module _ {s cells text : List ℕ} {done mark refused size first least : ℕ} (f : TokenTableOf s cells) (a : refusal_of s ≡ none) where
  one_walk : {starts : List ℕ} {row k last at : ℕ} (next : ℕ) → at + 1 ≡ next → Walked s text done mark refused size first least starts row k last at → k + margin < size → at < length text →
      get_or text at 0 < 0x80 → step_for row (cell_for cells text at) ≤ 1 →
      Walked s text done mark refused size first least (put_at cells text starts k at) (cell_for cells text at) (k + step_for row (cell_for cells text at)) at next
  one_walk {starts} {row} {k} {at = at} next e i room h b l =
      let t = cell_for cells text at in
      let n = step_for row t in
      subst (λ (m : ℕ). Walked s text done mark refused size first least (put_at cells text starts k at) t (k + n) at m) e
      ((steps a i (omega (arith, i.long)) (sym (rule_step row t i.small)) (omega arith) (here_ascii s text cells at t f h b refl)).next _ refl)

  pub four_walk : {starts : List ℕ} {row k last at n : ℕ} → Walked s text done mark refused size first least starts row k last at → k + 8 < length starts → FourSteps cells text at row n → at + 4 ≤ length text →
      (xs : List ℕ) → xs ≡ four_put cells text starts at row k → (r t : ℕ) → r ≡ count_four cells text at row k → t ≡ cell_for cells text (at + 3) →
      Walked s text done mark refused size first least xs t r (at + 3) (at + 4)
  four_walk {starts} {row} {k} {at = at} i room p h xs ex r t er et =
      let d = four_few p in
      let i1 = one_walk (at + 1) refl i (omega (arith, i.long)) (omega arith) p.first d.few0 in
      let i2 = one_walk (at + 2) (omega arith) i1 (omega (arith, i.long, d.few0)) (omega arith) p.second d.few1 in
      let i3 = one_walk (at + 3) (omega arith) i2 (omega (arith, i.long, d.few0, d.few1)) (omega arith) p.third d.few2 in
      let i4 = one_walk (at + 4) (omega arith) i3 (omega (arith, i.long, d.few0, d.few1, d.few2)) (omega arith) p.fourth d.few3 in
      let j = subst (λ (ys : List ℕ). Walked s text done mark refused size first least ys (cell_for cells text (at + 3)) (count_four cells text at row k) (at + 3) (at + 4)) (sym ex) i4 in
      let m = subst (λ (y : ℕ). Walked s text done mark refused size first least xs (cell_for cells text (at + 3)) y (at + 3) (at + 4)) (sym er) j in
      subst (λ (y : ℕ). Walked s text done mark refused size first least xs y r (at + 3) (at + 4)) (sym et) m

-- where it begins
pub walk_begins : {s text starts : List ℕ} {done : ℕ} {run : Run} (row : ℕ) → Marking s text starts done run → length text ≤ max_text → row < 16 → run.state ≡ row_state row →
    Walked s text done run.mark run.refused (length starts) run.at (done + (run.count - done)) starts row (run.count - done) run.mid run.at
walk_begins {s} {text} {starts} {done} {run} row m h l e =
    let o : run.count ≡ done + (run.count - done) = omega (arith, m.from) in
    record {
      fits = h;
      small = l;
      some = omega (arith, m.some);
      start = m.counting.start;
      counting = subst (λ (n : ℕ). Counting s text (row_state row) n m.counting.start run.mid run.mark run.refused run.at) o (rw e at m.counting.counting);
      started = m.started;
      long = refl;
      room = m.room;
      on = omega arith;
      more = omega arith;
    }

-- .. and where it ends
pub walk_ends : {s text starts : List ℕ} {done mark refused size first least row k last at : ℕ} (state rows : ℕ) (memo : Memo) →
    Walked s text done mark refused size first least starts row k last at → state ≡ row_state row → MemoOf s memo →
    Marking s text starts done (record { at = at; state = state; count = done + k; mid = last; mark = mark; refused = refused; rows = rows; memo = memo })
walk_ends {s} {text} {starts} {done} {k = k} state rows memo i e m =
    let o : done + k - done ≡ k = omega arith in
    record {
      counting = record { start = i.start; counting = rw e i.counting; memo = m };
      some = omega (arith, i.some);
      from = omega arith;
      room = omega (arith, i.room, i.long);
      started = rw o i.started;
    }

-- a character was read: what began with it, and the medial that waited
module _ {s text starts : List ℕ} {done : ℕ} {run next : Run} (m : Marking s text starts done run) (l : LookedOn s text run next) where
  abbrev n : ℕ
  n = run.count - done + 1

  abbrev All : List ℕ → Type 0
  All xs = Started s text xs done (next.count - done + 1)

  i : CountingFrom s text next (start_after m.counting.start run next)
  i = l.counting m.counting.start m.counting.counting

  pub put_none : next.count ≡ run.count → All starts
  put_none e = rw e m.started

  -- one more, whose start is known
  last_put : (xs : List ℕ) (p : ℕ) → start_after m.counting.start run next ≡ p → (j : ℕ) → next.count ≡ done + j → j < length xs → Started s text xs done j →
      All (set xs j (16 * p + traits_for next.state))
  last_put xs p e j c h a =
      let x = start_counted i l.some (traits_for next.state) (traits_small next.state i.less) (traits_kind next.state i.less) in
      let o : next.count - done + 1 ≡ j + 1 = omega arith in
      rw o (started_more j (16 * p + traits_for next.state) h (subst (λ (n : ℕ). StartOf s text n (16 * p + traits_for next.state)) c (rw (← e) x)) a)

  abbrev first_place : ℕ
  first_place = start_after m.counting.start run next

  pub put_one : run.state < count_waiting → (next.count ≡ run.count → ⊥) → All (set starts n (16 * run.at + traits_for next.state))
  put_one w f =
      let e : first_place ≡ run.at = rw (ne_eqb next.count run.count f, lt-leb count_waiting run.state w) in
      let g : next.count ≡ run.count + 2 → ⊥ = λ z. absurd (omega (arith, l.settled z)) in
      let c : next.count ≡ run.count + 1 = omega (arith, l.least, l.most, f, g) in
      last_put starts run.at e n (omega (arith, m.from)) (omega (arith, m.room)) m.started

  pub put_medial : count_waiting ≤ run.state → next.count ≡ run.count + 1 → All (set starts n (16 * run.mid + traits_for next.state))
  put_medial w c =
      let e : first_place ≡ run.mid = rw (ne_eqb next.count run.count (λ z. absurd (omega arith)), le-leb count_waiting run.state w, eq-eqb next.count (run.count + 1) c) in
      last_put starts run.mid e n (omega (arith, m.from)) (omega (arith, m.room)) m.started

  pub put_both : count_waiting ≤ run.state → (next.count ≡ run.count → ⊥) → (next.count ≡ run.count + 1 → ⊥) →
      All (set (set starts n (16 * run.mid + traits_for (run.state - count_waiting))) (run.count - done + 2) (16 * run.at + traits_for next.state))
  put_both w f g =
      let c : next.count ≡ run.count + 2 = omega (arith, l.least, l.most, f, g) in
      let x = l.medial c m.counting.start m.counting.counting in
      let d = run.state - count_waiting in
      let b = start_counted x (omega (arith, l.settled c)) (traits_for d) (traits_small d x.less) (traits_kind d x.less) in
      let e : first_place ≡ run.at =
      rw (ne_eqb next.count run.count f, le-leb count_waiting run.state w, ne_eqb next.count (run.count + 1) g) in
      let o : run.count + 1 ≡ done + n = omega (arith, m.from) in
      let q : n + 1 ≡ run.count - done + 2 = omega arith in
      let v = 16 * run.mid + traits_for d in
      let a = started_more n v (omega (arith, m.room)) (subst (λ (j : ℕ). StartOf s text j v) o b) m.started in
      last_put (set starts n v) run.at e (run.count - done + 2) (omega (arith, m.from)) (omega (arith, m.room, length-set starts n v)) (subst (Started s text (set starts n v) done) q a)

  -- what the put of starts asks
  pub putting : length text ≤ max_text → Putting starts done run next
  putting h =
      let c = m.counting.counting in
      record {
        from = m.from;
        room = m.room;
        fits = omega (arith, counting_few c);
        place = omega (arith, c.reached.place.within);
        medial = omega (arith, c.reached.medial.within);
        state = c.less;
        after = i.less;
      }

  -- the next run, with what was learnt
  pub marks_on : {xs : List ℕ} (rows : ℕ) → run.count - done + margin < length starts → Started s text xs done (next.count - done + 1) → length xs ≡ length starts →
      Marking s text xs done (run_with next rows)
  marks_on {xs} rows h a g =
      record {
        counting = record { start = first_place; counting = i; memo = l.memo };
        some = l.some;
        from = omega (arith, m.from, l.least);
        room = omega (arith, l.most, m.from);
        started = a;
      }

-- the first character begins the first token
pub marks_first : {s text xs : List ℕ} {first next : Run} (starts : List ℕ) (rows : ℕ) → CountingFrom s text first 0 → first.state ≡ 0 → first.count ≡ 0 → LookedOn s text first next →
    margin < length starts → xs ≡ set starts 0 (16 * 0 + traits_for next.state) → Marking s text xs 0 (run_with next rows)
marks_first {s} {text} {first = first} {next = next} starts rows f z n l h g =
    let c : next.count ≡ 0 = l.first z ∙ n in
    let o : start_after 0 first next ≡ 0 = rw (eq-eqb next.count first.count (l.first z)) in
    let i : CountingFrom s text next 0 = subst (CountingFrom s text next) o (l.counting 0 f) in
    let x = start_counted i l.some (traits_for next.state) (traits_small next.state i.less) (traits_kind next.state i.less) in
    let a = started_more {starts = starts} {done = 0} 0 (16 * 0 + traits_for next.state) (omega arith) (subst (λ (k : ℕ). StartOf s text k (16 * 0 + traits_for next.state)) c x) (record { each = λ (j : ℕ) (b : j < 0). absurd (omega arith) }) in
    let d : 0 + 1 ≡ next.count - 0 + 1 = omega arith in
    rw g
    (record {
      counting = record { start = 0; counting = i; memo = l.memo };
      some = l.some;
      from = omega arith;
      room = omega (arith, length-set starts 0 (16 * 0 + traits_for next.state));
      started = subst (Started s text (set starts 0 (16 * 0 + traits_for next.state)) 0) d a;
    })
