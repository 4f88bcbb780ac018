-- `token::count_with` meets its contract. Assumes nothing.
use Prim.Native.Nat.{ℕ}
use mathlib.Core.Path.{◌≡◌, sym, subst}
use mathlib.Core.List.{List}
use Rattle.blocks.specs.Blocks.{Learning}
use Rattle.token.proofs.count_with.Goals as goal

learning_from : {s index cells : List ℕ} {n m : ℕ} → m ≡ n → Learning s index cells n → Learning s index cells m
learning_from {s = s} {index = index} {cells = cells} e l = subst (Learning s index cells) (sym e) l

pub count_on-requires : goal.count_on-requires
count_on-requires c =
    let counting = c.begin-run.ensures.0 c.args.image.now in
    record {
      learning = learning_from c.begin-run.ensures.1 (c.begin-rows.ensures.0 c.args.index.now c.requires.blank.0);
      counting_as = record { start = 0; counting = counting.0; memo = counting.1 };
    }
