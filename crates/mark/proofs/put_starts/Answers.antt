-- `mark::put_starts` meets its contract: by how many tokens began, and whether a medial waited. Assumes nothing.
use Prim.Native.Nat.{ℕ, ◌+◌, ◌-◌, ◌*◌}
use mathlib.Core.Path.{refl, sym, ap, subst, ◌∙◌}
use mathlib.Core.List.{List}
use native.Mathlib.Omega.{arith}
use lib.ListN.{length, set, length-set}
use Rattle.turns.specs.Starts.{Started}
use Rattle.count.specs.Rules.{traits_for}
use Rattle.mark.proofs.MarkLaws.{put_none, put_one, put_medial, put_both}
use Rattle.mark.proofs.put_starts.Goals as goal

pub returns-then-next-run : goal.returns-then-next-run
returns-then-next-run c = (λ s text m l. put_none m l c.if-next-run.true, refl)

pub put_start-requires : goal.put_start-requires
put_start-requires c = (omega (arith, c.requires.putting.room), c.requires.putting.place, c.requires.putting.after)

pub returns-then-run-lt-WAITING : goal.returns-then-run-lt-WAITING
returns-then-run-lt-WAITING c = (λ s text m l. subst (λ (xs : List ℕ). Started s text xs c.args.done (c.args.next.count - c.args.done + 1)) (sym c.put_start.ensures) (put_one m l c.if-run-lt-WAITING.true c.if-next-run.false), ap length c.put_start.ensures ∙ simp length-set)

pub put_start-requires-then-next-run-2 : goal.put_start-requires-then-next-run-2
put_start-requires-then-next-run-2 c = (omega (arith, c.requires.putting.room), c.requires.putting.medial, c.requires.putting.after)

pub returns-then-next-run-2 : goal.returns-then-next-run-2
returns-then-next-run-2 c = (λ s text m l. subst (λ (xs : List ℕ). Started s text xs c.args.done (c.args.next.count - c.args.done + 1)) (sym c.put_start-then-next-run-2.ensures) (put_medial m l c.if-run-lt-WAITING.false c.if-next-run-2.true), ap length c.put_start-then-next-run-2.ensures ∙ simp length-set)

pub put_start-requires-2 : goal.put_start-requires-2
put_start-requires-2 c = (omega (arith, c.requires.putting.room), c.requires.putting.medial, omega (arith, c.requires.putting.state))

pub overflow_add-k-3 : goal.overflow_add-k-3
overflow_add-k-3 c = omega (arith, c.requires.putting.fits)

pub put_start-requires-3 : goal.put_start-requires-3
put_start-requires-3 c = (simp (c.put_start-2.ensures, length-set) (omega (arith, c.requires.putting.room)), c.requires.putting.place, c.requires.putting.after)

pub returns : goal.returns
returns c =
    let e = c.put_start-3.ensures ∙ ap (λ (xs : List ℕ). set xs (c.args.run.count - c.args.done + 2) (16 * c.args.run.at + traits_for c.args.next.state)) c.put_start-2.ensures in
    (λ s text m l. subst (λ (xs : List ℕ). Started s text xs c.args.done (c.args.next.count - c.args.done + 1)) (sym e) (put_both m l c.if-run-lt-WAITING.false c.if-next-run.false c.if-next-run-2.false), ap length e ∙ simp length-set)
