-- Counting on over four characters of ASCII. Assumes nothing.
use Prim.Native.Nat.{ℕ, ◌+◌, ◌≤◌, ◌<◌}
use mathlib.Core.Path.{◌≡◌, refl, ap, subst, ◌∙◌}
use mathlib.Core.List.{List}
use mathlib.Core.Option.{none}
use native.Mathlib.Omega.{arith}
use lib.ListN.{length, get_or}
use Rattle.image.specs.Check.{refusal_of}
use Rattle.character.specs.Read.{TokenTableOf}
use Rattle.character.proofs.TraitLaws.{token_small}
use Rattle.turns.specs.Turns.{start_by}
use Rattle.count.specs.Counting.{Counting}
use Rattle.count.specs.Steps.{row_state, step_for}
use Rattle.count.specs.Four.{SmallCells, cell_for, FourSteps}
use Rattle.count.specs.Rules.{rule_for}
use Rattle.count.proofs.RuleLaws.{rule_step}
use Rattle.count.proofs.StepLaws.{step_few, step_most}
use Rattle.count.proofs.CountLaws.{counting_same, counting_few}
use Rattle.count.proofs.KnownLaws.{here_ascii, known_step, Running}

-- what is counted after each of four characters with the traits t0 to t3, and that each step is 0 or 1
pub record FourKnown (s text : List ℕ) (row t0 t1 t2 t3 count start q refused at : ℕ) : Type 0 where
  pub few0 : step_for row t0 ≤ 1
  pub few1 : step_for t0 t1 ≤ 1
  pub few2 : step_for t1 t2 ≤ 1
  pub few3 : step_for t2 t3 ≤ 1
  pub one : Counting s text (row_state t0) (count + step_for row t0) (start_by (step_for row t0) start at) at q refused (at + 1)
  pub two :
      Counting s text (row_state t1) (count + step_for row t0 + step_for t0 t1) (start_by (step_for t0 t1) (start_by (step_for row t0) start at) (at + 1)) (at + 1) q refused
      (at + 2)
  pub three :
      Counting s text (row_state t2) (count + step_for row t0 + step_for t0 t1 + step_for t1 t2)
      (start_by (step_for t1 t2) (start_by (step_for t0 t1) (start_by (step_for row t0) start at) (at + 1)) (at + 2)) (at + 2) q refused (at + 3)
  pub four :
      Counting s text (row_state t3) (count + step_for row t0 + step_for t0 t1 + step_for t1 t2 + step_for t2 t3)
      (start_by (step_for t2 t3) (start_by (step_for t1 t2) (start_by (step_for t0 t1) (start_by (step_for row t0) start at) (at + 1)) (at + 2)) (at + 3)) (at + 3) q refused
      (at + 4)

-- the first cells are small under an accepted image
pub small_cells : {s cells : List ℕ} → TokenTableOf s cells → refusal_of s ≡ none → SmallCells cells
small_cells {s} f a = record { long = f.long; small = λ y h. omega (arith, f.each y h, token_small s y a) }

-- a number of the rules is a step, and a byte
pub rule_same : {row t n r x : ℕ} → row < 16 → n ≡ rule_for row t → row ≡ r → t ≡ x → n ≡ step_for r x
rule_same {row} {t} {r = r} h e f g = e ∙ rule_step row t h ∙ ap (λ (y : ℕ). step_for y t) f ∙ ap (step_for r) g

pub rule_most : {row n : ℕ} (t : ℕ) → row < 16 → n ≡ rule_for row t → n ≤ 255
rule_most {row} t h e = omega (arith, e ∙ rule_step row t h, step_most row t)

-- what is counted from the place `first` on after four characters, the last with the traits t
pub record RanFour (s text : List ℕ) (mark refused first t n count at : ℕ) : Type 0 where
  pub next : Running s text mark refused first t (count + n) (at + 3) (at + 4)
  pub few : count + n ≤ length text

module _ {s cells text : List ℕ} (f : TokenTableOf s cells) (a : refusal_of s ≡ none) where
  one_known : {count start last q refused at : ℕ} (row next : ℕ) → at + 1 ≡ next → Counting s text (row_state row) count start last q refused at → at < length text →
      get_or text at 0 < 0x80 → step_for row (cell_for cells text at) < 128 →
      Counting s text (row_state (cell_for cells text at)) (count + step_for row (cell_for cells text at)) (start_by (step_for row (cell_for cells text at)) start at) at q refused next
  one_known {count} {start} {q = q} {refused} {at} row next e i h b l =
      let t = cell_for cells text at in
      let n = step_for row t in
      subst (λ (m : ℕ). Counting s text (row_state t) (count + n) (start_by n start at) at q refused m) e (known_step row _ _ refl l a i (here_ascii s text cells at _ f h b refl))

  pub four_known : {row count start last q refused at n : ℕ} → Counting s text (row_state row) count start last q refused at → FourSteps cells text at row n → at + 4 ≤ length text →
      FourKnown s text row (cell_for cells text at) (cell_for cells text (at + 1)) (cell_for cells text (at + 2)) (cell_for cells text (at + 3)) count start q refused at
  four_known {row} {at = at} i k h =
      let t0 = cell_for cells text at in
      let t1 = cell_for cells text (at + 1) in
      let t2 = cell_for cells text (at + 2) in
      let t3 = cell_for cells text (at + 3) in
      let l0 : step_for row t0 < 128 = omega (arith, k.known, k.steps) in
      let l1 : step_for t0 t1 < 128 = omega (arith, k.known, k.steps) in
      let l2 : step_for t1 t2 < 128 = omega (arith, k.known, k.steps) in
      let l3 : step_for t2 t3 < 128 = omega (arith, k.known, k.steps) in
      let i1 = one_known row (at + 1) refl i (omega arith) k.first l0 in
      let i2 = one_known t0 (at + 2) (omega arith) i1 (omega arith) k.second l1 in
      let i3 = one_known t1 (at + 3) (omega arith) i2 (omega arith) k.third l2 in
      let i4 = one_known t2 (at + 4) (omega arith) i3 (omega arith) k.fourth l3 in
      record {
        few0 = step_few row t0 l0;
        few1 = step_few t0 t1 l1;
        few2 = step_few t1 t2 l2;
        few3 = step_few t2 t3 l3;
        one = i1;
        two = i2;
        three = i3;
        four = i4;
      }

  pub ran_four : {mark refused first row count last at n : ℕ} → Running s text mark refused first row count last at → FourSteps cells text at row n → at + 4 ≤ length text →
      RanFour s text mark refused first (cell_for cells text (at + 3)) n count at
  ran_four {count = count} {n = n} i k h =
      let j = (four_known i.counting k h).four in
      let m = counting_same {count' = count + n} j refl (omega (arith, k.steps)) refl refl in
      record { next = record { small = (small_cells f a).small _ k.fourth; start = _; counting = m; on = omega (arith, i.on) }; few = counting_few m }
