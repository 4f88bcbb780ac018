-- `utf8::measure_row` meets its contract: the text is too short, or the bytes after the first fit or not. Assumes nothing.
use mathlib.Core.Bool.{cond}
use mathlib.Core.Path.{◌≡◌, refl, sym, ap, ◌∙◌}
use Prim.Native.Nat.{suc, ◌+◌, ◌≤◌}
use native.Mathlib.Omega.{arith}
use lib.ListN.{length, drop, length-drop, drop_of_length-le}
use Rattle.utf8.specs.Table.{Row, fits}
use Rattle.utf8.proofs.TableLaws.{fits_short, fits_next, fits_not}
use Rattle.utf8.proofs.measure_row.Goals as goal

pub returns-then-s : goal.returns-then-s
returns-then-s g c =
    sym (ap (λ t. cond t (suc (length c.args.trail)) 0) (fits_short c.args.trail (drop 1 c.args.s.now) (omega (arith, length-drop 1 c.args.s.now))))

pub loop-i-init : goal.loop-i-init
loop-i-init g c = refl

pub returns-then-not-fits : goal.returns-then-not-fits
returns-then-not-fits g c =
    let i = c.loop-i.i in
    let next : i + 1 ≡ suc i = omega arith in
    let f = sym c.fits.ensures ∙ c.if-not-fits.true in
    let n = rw next at f in
    sym (ap (λ t. cond t (suc (length c.args.trail)) 0) (c.loop-i.invariant ∙ fits_not c.args.trail c.args.s.now i _ (omega arith) n))

pub loop-i-preserved : goal.loop-i-preserved
loop-i-preserved g c =
    let i = c.loop-i.i in
    let next : i + 1 ≡ suc i = omega arith in
    let f = sym c.fits.ensures ∙ c.if-not-fits.false in
    let n = rw next at f in
    rw next (c.loop-i.invariant ∙ fits_next c.args.trail c.args.s.now i _ (omega arith) n)

pub returns : goal.returns
returns g c =
    let i = c.loop-i.i in
    let past = drop_of_length-le c.args.trail (let l : length c.args.trail ≤ i = omega arith in l) in
    let all : g.row.N + 1 ≡ suc (length c.args.trail) = omega arith in
    all
    ∙ sym
    (ap (λ t. cond t (suc (length c.args.trail)) 0) (c.loop-i.invariant ∙ ap (λ (r : Row). fits r (drop (suc i) c.args.s.now)) past))
