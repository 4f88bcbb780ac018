-- Inner: no public statement cites this file.
-- How far the starts of a text's tokens are marked.
use Rattle.std.specs.Prelude.{ℕ, ◌+◌, ◌-◌, ◌*◌, ◌≤◌, ◌<◌, ◌≡◌, List, ◌⊎◌, length, set, Err, Result, MatchResult, IfOk}
use Rattle.refusal.specs.declared.Refusal.{Refusal}
use Rattle.grammar.specs.Counted.{count_through}
use Rattle.grammar.specs.Before.{max_text}
use Rattle.blocks.specs.Blocks.{Learning}
use Rattle.turns.specs.Starts.{Started}
use Rattle.count.specs.Turns.{count_states}
use Rattle.count.specs.declared.Run.{Run}
use Rattle.count.specs.Counting.{CountingAs}
use Rattle.count.specs.Steps.{step_for}
use Rattle.count.specs.Four.{cell_for, FourSteps}

-- starts that are left free
abbrev pub margin : ℕ
margin = 4

-- a token is under way, and the starts from token number `done` on up to it are marked; a medial that waits and the text's end have room
pub record Marking (s text starts : List ℕ) (done : ℕ) (run : Run) : Type 0 where
  pub counting : CountingAs s text run
  pub some : 0 < run.state
  pub from : done ≤ run.count
  pub room : run.count - done + 2 < length starts
  pub started : Started s text starts done (run.count - done + 1)

-- the text is refused, or it is marked to its end, or to where starts run out
pub record MarkedOn (s text starts : List ℕ) (done : ℕ) (run : Run) : Type 0 where
  pub marking : Marking s text starts done run
  pub far : (length text ≤ run.at) ⊎ (length starts ≤ run.count - done + margin)

abbrev pub Marked : List ℕ → List ℕ → List ℕ → ℕ → Result Run Refusal → Type 0
Marked s text starts done r = MatchResult r (MarkedOn s text starts done) (λ x. Err x ≡ count_through s text)

-- what was learnt meanwhile
abbrev pub LearningOn : List ℕ → List ℕ → List ℕ → Result Run Refusal → Type 0
LearningOn s index cells r = IfOk r (λ run. Learning s index cells run.rows)

-- the starts of what began between two runs are put: there is room, and the numbers are small
pub record Putting (starts : List ℕ) (done : ℕ) (run next : Run) : Type 0 where
  pub from : done ≤ run.count
  pub room : run.count - done + 2 < length starts
  pub fits : run.count ≤ max_text
  pub place : run.at ≤ max_text
  pub medial : run.mid ≤ max_text
  pub state : run.state < count_states
  pub after : next.state < count_states

-- four characters of ASCII stand at a place whose steps are known
pub record FourAt (cells text : List ℕ) (at row : ℕ) : Type 0 where
  pub number : ℕ
  pub steps : FourSteps cells text at row number

-- how many tokens are complete after the first of them, and so on
abbrev pub count_one : List ℕ → List ℕ → ℕ → ℕ → ℕ → ℕ
count_one cells text at row k = k + step_for row (cell_for cells text at)

abbrev pub count_two : List ℕ → List ℕ → ℕ → ℕ → ℕ → ℕ
count_two cells text at row k = count_one cells text at row k + step_for (cell_for cells text at) (cell_for cells text (at + 1))

abbrev pub count_three : List ℕ → List ℕ → ℕ → ℕ → ℕ → ℕ
count_three cells text at row k = count_two cells text at row k + step_for (cell_for cells text (at + 1)) (cell_for cells text (at + 2))

abbrev pub count_four : List ℕ → List ℕ → ℕ → ℕ → ℕ → ℕ
count_four cells text at row k = count_three cells text at row k + step_for (cell_for cells text (at + 2)) (cell_for cells text (at + 3))

-- a start put
abbrev pub put_at : List ℕ → List ℕ → List ℕ → ℕ → ℕ → List ℕ
put_at cells text starts k at = set starts (k + 1) (16 * at + cell_for cells text at)

-- four starts put
abbrev pub four_put : List ℕ → List ℕ → List ℕ → ℕ → ℕ → ℕ → List ℕ
four_put cells text starts at row k =
    put_at cells text
    (put_at cells text (put_at cells text (put_at cells text starts k at) (count_one cells text at row k) (at + 1)) (count_two cells text at row k) (at + 2))
    (count_three cells text at row k) (at + 3)
