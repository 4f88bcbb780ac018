-- `input::find_end` meets its contract. Assumes nothing.
use mathlib.Core.Path.{sym, ap, ◌∙◌}
use native.Mathlib.Omega.{arith}
use Rattle.std.specs.Prelude.{Some}
use Rattle.input.proofs.FrontLaws.{found_whole, found_cut}
use Rattle.input.proofs.find_end.Goals as goal
use Rattle.input.proofs.find_end.Goals.{
  then-total-lt-HEADER_BYTES-via-then-total-lt-HEADER_BYTES as short,
  then-total-lt-HEADER_BYTES-via-else-total-lt-HEADER_BYTES+then-total-gt-MAX_IMAGE as long,
  then-total-lt-HEADER_BYTES-via-else-total-lt-HEADER_BYTES+else-total-gt-MAX_IMAGE+then-input-total as cut_off,
}

pub returns : goal.returns
returns c = ap Some c.word-total.ensures ∙ sym (found_whole _ (record { header = omega arith; long = omega arith; short = omega arith; comes = omega arith }))

pub returns-then-input-lt-HEADER_BYTES : goal.returns-then-input-lt-HEADER_BYTES
returns-then-input-lt-HEADER_BYTES c = sym (found_cut _ (λ w. omega arith))

pub returns-then-total-lt-HEADER_BYTES : goal.returns-then-total-lt-HEADER_BYTES
returns-then-total-lt-HEADER_BYTES c =
    sym (found_cut _ (λ w. elim c.then-total-lt-HEADER_BYTES.branch [ short v ↦ omega arith | long v ↦ omega arith | cut_off v ↦ omega arith ]))
