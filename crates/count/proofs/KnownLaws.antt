-- Counting on over characters whose steps are known: each step keeps what is counted. Assumes nothing.
use Prim.Native.Nat.{ℕ, zero, suc, ◌+◌, ◌-◌, ◌≤◌, ◌<◌}
use mathlib.Core.Path.{◌≡◌, refl, sym, subst, ◌∙◌}
use mathlib.Core.List.{List}
use mathlib.Core.Option.{none}
use native.Mathlib.Omega.{arith}
use lib.ListN.{length, get_or}
use Rattle.utf8.proofs.TextLaws.{turn, ascii_at, characters_step}
use Rattle.image.specs.Check.{refusal_of}
use Rattle.character.specs.Read.{TokenTableOf}
use Rattle.grammar.specs.Step.{idle, under, held}
use Rattle.grammar.specs.Record.{tokens_width}
use Rattle.blocks.specs.Blocks.{Cached, Shown, FoundAt}
use Rattle.turns.specs.Turns.{after_of, start_by}
use Rattle.turns.proofs.TurnLaws.{Under, Stands}
use Rattle.turns.proofs.ReachLaws.{Place, Here, here_small}
use Rattle.count.specs.Turns.{plain_of, count_waiting, count_after_of, state_for}
use Rattle.count.specs.Counting.{Counting, CountLook}
use Rattle.count.proofs.BesideTurnLaws.{stated}
use Rattle.count.proofs.CountLaws.{counting_few, counting_turn, counting_waits}
use Rattle.count.specs.Steps.{row_state, step_for}
use Rattle.count.specs.Rules.{rule_for}
use Rattle.count.proofs.RuleLaws.{rule_step}
use Rattle.count.proofs.StepLaws.{some_known, Stepped, moves, waits, stepped}

-- at a place before `known_end` four bytes stand
pub four_bytes : {at end n : ℕ} → at < end → end ≡ n - 3 → at + 4 ≤ n
four_bytes h e = omega arith

-- the character at a place: what was found, or an ASCII byte
pub here_known : {s text : List ℕ} {at len t : ℕ} → at < length text → Shown s text at len t → Here s text at len t
here_known {s} {text} {at} {len} {t} h k =
    let e = turn text at k.code len (omega arith) k.stands in
    record {
      code = k.code;
      stands = k.stands;
      some_bytes = e.some_bytes;
      within = e.within;
      decoded = characters_step text at k.code len k.stands;
      known = k.known;
      same = e.same;
    }

pub here_ascii : (s text table : List ℕ) (at t : ℕ) → TokenTableOf s table → at < length text → get_or text at 0 < 0x80 → t ≡ get_or table (get_or text at 0) 0 →
    Here s text at 1 t
here_ascii s text table at t f h b e = here_known h (record { code = get_or text at 0; stands = ascii_at text at h b; known = e ∙ f.each _ b })

-- where no medial waits its place is free
free_medial : {s text : List ℕ} {state count start mid q refused at : ℕ} → Counting s text state count start mid q refused at → state < count_waiting → (m : ℕ) → Place text m →
    Counting s text state count start m q refused at
free_medial {s} {state = state} {mid = mid} {at = at} i h m p =
    record {
      tokens = i.tokens;
      under_way = i.under_way;
      reached = record { place = i.reached.place; medial = p; stands = go i.under_way i.reached.stands; same = i.reached.same };
      less = i.less;
      counted = i.counted;
      began = i.began;
      place = i.place;
      seen = i.seen;
    }
  where
    go : (u : Under) → Stands s u (plain_of state) (tokens_width i.tokens) mid at → Stands s u (plain_of state) (tokens_width i.tokens) m at
    go idle e = e
    go (under k u) e = e
    go (held k u d) e = absurd (omega (arith, (stated state).plain (omega (arith, e.0))))

-- none waits after a token that goes on or begins
after_less : (t : ℕ) → count_after_of t < count_waiting
unfolding count_after_of
after_less t = go (after_of t)
  where
    go : (n : ℕ) → state_for n < count_waiting
    go zero = omega arith
    go (suc zero) = omega arith
    go (suc (suc zero)) = omega arith
    go (suc (suc (suc zero))) = omega arith
    go (suc (suc (suc (suc zero)))) = omega arith
    go (suc (suc (suc (suc (suc n))))) = omega arith

-- a step of n tokens
pub known_step : {s text : List ℕ} {count start last q refused at len : ℕ} (row t n : ℕ) → n ≡ step_for row t → n < 128 → refusal_of s ≡ none →
    Counting s text (row_state row) count start last q refused at → Here s text at len t → Counting s text (row_state t) (count + n) (start_by n start at) at q refused (at + len)
known_step {s} {text} {count} {start} {last} {q} {refused} {at} {len} row t n e l a i c = go (subst (Stepped row t) (sym e) (stepped row t (omega arith)))
  where
    go : {n : ℕ} → Stepped row t n → Counting s text (row_state t) (count + n) (start_by n start at) at q refused (at + len)
    go {n} (moves e h f) =
        let k : CountLook s text (row_state row) at len t n = record { accepted = a; here = c; known = sym e } in
        free_medial (counting_turn i k h (row_state t) f) (omega (arith, f, after_less t)) at i.reached.place
    go (waits e f) =
        let k : CountLook s text (row_state row) at len t 2 = record { accepted = a; here = c; known = sym e } in
        let z : count ≡ count + 0 = omega arith in
        subst (λ (n : ℕ). Counting s text (row_state t) n start at q refused (at + len)) z (counting_waits i k refl (row_state t) f)

-- what is counted from the place `first` on, in the state of a row
pub record Running (s text : List ℕ) (mark refused first row count last at : ℕ) : Type 0 where
  pub small : row < 16
  pub start : ℕ
  pub counting : Counting s text (row_state row) count start last mark refused at
  pub on : first ≤ at

-- .. and after a step of n tokens over a character
pub record Ran (s text : List ℕ) (mark refused first t n count at len : ℕ) : Type 0 where
  pub next : Running s text mark refused first t (count + n) at (at + len)
  pub few : count + n ≤ length text
  pub some : 0 < len
  pub within : at + len ≤ length text

module _ {s text : List ℕ} {mark refused first row count last at : ℕ} (a : refusal_of s ≡ none) (i : Running s text mark refused first row count last at) (h : at < length text) where
  pub ran : {t n len : ℕ} → n ≡ rule_for row t → n < 128 → Here s text at len t → Ran s text mark refused first t n count at len
  ran {t} {n} e l c =
      let k = known_step row t n (e ∙ rule_step row t i.small) l a i.counting c in
      record { next = record { small = here_small a c; start = _; counting = k; on = omega (arith, i.on) }; few = counting_few k; some = c.some_bytes; within = c.within }

  pub ran_known : {index cells : List ℕ} {t n len : ℕ} → Cached s index cells → FoundAt index cells text at len t → n ≡ rule_for row t → n < 128 →
      Ran s text mark refused first t n count at len
  ran_known {t = t} c f e l =
      ran e l (here_known h (f.shown s c (some_known row t i.small (omega (arith, e, rule_step row t i.small)))))
