-- Inner: no public statement cites this file.
-- How far a count has come, and what its parts give. No public contract of a call cites these definitions: those of the readers of
-- texts do.
use Rattle.refusal.specs.declared.Refusal.{Refusal}
use Rattle.std.specs.Prelude.{ℕ, ◌+◌, ◌-◌, ◌≤◌, ◌<◌, ◌≡◌, cond, ◌&&◌, List, ◌++◌, length, drop, leb, ltb, eqb, Result, Ok, Err, MatchResult}
use Rattle.std.proofs.Math.Option.{Option, none, some}
use Rattle.refusal.specs.declared.Refusal.{Refusal}
use Rattle.refusal.specs.declared.Refusal.TheVariants.{Mark}
use Rattle.utf8.specs.Text.{text_of}
use Rattle.image.specs.Check.{refusal_of}
use Rattle.grammar.specs.Step.{under_way_of}
use Rattle.grammar.specs.Beside.{other, refused_from}
use Rattle.grammar.specs.Record.{tokens_width}
use Rattle.grammar.specs.Reading.{meaning_of}
use Rattle.grammar.proofs.BesideLaws.{view_of}
use Rattle.character.specs.Read.{MemoOf}
use Rattle.grammar.specs.Counted.{count_through, stop_refusal}
use Rattle.turns.specs.Turns.{start_by}
use Rattle.turns.proofs.TurnLaws.{Tokens, Under}
use Rattle.turns.proofs.ReachLaws.{Here, Reached}
use Rattle.count.specs.Turns.{plain_of, view_by, count_states, count_waiting, count_turn_of, count_pending_of}
use Rattle.count.specs.declared.Run.{Run}

-- the first mark that is refused, as a number: n is none
abbrev pub RefusedAt : ℕ → Option ℕ → ℕ → Type 0
RefusedAt n none r = r ≡ n
RefusedAt n (some p) r = (r ≡ p) × (p < n)

-- the tokens so far, the last of them under way: the state and the mark tell the view of them, and `refused` their first mark that is refused
pub record Seen (s text : List ℕ) (ts : Tokens) (state q refused : ℕ) : Type 0 where
  pub view : view_by state q ≡ view_of (meaning_of s) ts
  pub first : RefusedAt (length text) (refused_from (meaning_of s) other 0 ts) refused

-- `count` tokens are complete before what is under way since byte `start` at the place `at`; q is the byte of the last mark that may be refused
pub record Counting (s text : List ℕ) (state count start mid q refused at : ℕ) : Type 0 where
  pub tokens : Tokens
  pub under_way : Under
  pub reached : Reached s text (plain_of state) mid at tokens under_way
  pub less : state < count_states
  pub counted : count ≡ length tokens
  pub began : start ≡ tokens_width tokens
  pub place : q ≤ at
  pub seen : Seen s text (tokens ++ under_way_of under_way) state q refused

-- a turn at a place: what it is of the character there, under an accepted image
pub record CountLook (s text : List ℕ) (state at len traits turn : ℕ) : Type 0 where
  pub accepted : refusal_of s ≡ none
  pub here : Here s text at len traits
  pub known : turn ≡ count_turn_of state traits

abbrev pub CountingFrom : List ℕ → List ℕ → Run → ℕ → Type 0
CountingFrom s text run start = Counting s text run.state run.count start run.mid run.mark run.refused run.at

-- .. since some byte
pub record CountingAs (s text : List ℕ) (run : Run) : Type 0 where
  pub start : ℕ
  pub counting : CountingFrom s text run start
  pub memo : MemoOf s run.memo

-- a character was read that settled nothing: `done` tokens are complete with it
pub record AdvancedOn (s text : List ℕ) (run r : Run) : Type 0 where
  pub on : run.at < r.at
  pub some : 0 < r.state
  pub done : ℕ
  pub counted : r.count ≡ run.count + done
  pub most : done ≤ 1
  pub free : 0 < done → (0 < run.state) × (run.state < count_waiting)
  pub rows : r.rows ≡ run.rows
  pub memo : MemoOf s r.memo
  pub counting : (start : ℕ) → CountingFrom s text run start → CountingFrom s text r (start_by done start run.at)

-- .. or the text is refused
abbrev pub Advanced : List ℕ → List ℕ → Run → Result Run Refusal → Type 0
Advanced s text run r = MatchResult r (AdvancedOn s text run) (λ x. Err x ≡ count_through s text)

-- the run after the medial that waits was settled
abbrev pub settled_run : Run → Run
settled_run run =
    record {
      at = run.at;
      state = run.state - count_waiting;
      count = run.count + 1;
      mid = run.mid;
      mark = run.mid;
      refused = run.refused;
      rows = run.rows;
      memo = run.memo;
    }

-- where the token began that is under way after a character was read in a run and left r: where it did before, or with the medial that
-- waited, or with the character
abbrev pub start_after : ℕ → Run → Run → ℕ
start_after start run r = cond (eqb r.count run.count) start (cond (leb count_waiting run.state && eqb r.count (run.count + 1)) run.mid run.at)

-- a character was read: some token is under way, and what is counted is so from each start
pub record LookedOn (s text : List ℕ) (run r : Run) : Type 0 where
  pub on : run.at < r.at
  pub some : 0 < r.state
  pub least : run.count ≤ r.count
  pub most : r.count ≤ run.count + 2
  pub first : run.state ≡ 0 → r.count ≡ run.count
  pub settled : r.count ≡ run.count + 2 → count_waiting < run.state
  pub medial : r.count ≡ run.count + 2 → (start : ℕ) → CountingFrom s text run start → CountingFrom s text (settled_run run) run.mid
  pub rows : r.rows ≡ run.rows
  pub memo : MemoOf s r.memo
  pub counting : (start : ℕ) → CountingFrom s text run start → CountingFrom s text r (start_after start run r)

-- .. or the text is refused
abbrev pub Looked : List ℕ → List ℕ → Run → Result Run Refusal → Type 0
Looked s text run r = MatchResult r (LookedOn s text run) (λ x. Err x ≡ count_through s text)

abbrev pub run_with : Run → ℕ → Run
run_with run n =
    record {
      at = run.at;
      state = run.state;
      count = run.count;
      mid = run.mid;
      mark = run.mark;
      refused = run.refused;
      rows = n;
      memo = run.memo;
    }

-- the answer of a count that has come to the text's end
abbrev pub finished_by : List ℕ → Run → Result ℕ Refusal
finished_by text run =
    cond (eqb run.state count_waiting) (Err (stop_refusal run.mid (text_of (drop run.mid text))))
    (cond (ltb run.refused (length text)) (Err (Mark run.refused)) (Ok (run.count + count_pending_of run.state)))
