-- An answer's words lie in the buffers where those of each number of tokens, or of runs and entries, that it can have do. Assumes nothing.
use Prim.Native.Nat.{ℕ}
use mathlib.Core.Path.{◌≡◌, refl}
use mathlib.Core.List.{List}
use Rattle.refusal.specs.declared.Refusal.{Refusal}
use Rattle.std.specs.Prelude.{Result, Ok, Err}
use Rattle.pair.specs.declared.PairRefusal.{PairRefusal}
use Rattle.changes.specs.declared.Lists.{Lists}
use Rattle.printing.specs.Fits.{TokensFit, ChangesFit}

pub tokens_fit : (a : Result ℕ Refusal) (words : List ℕ) → ((n : ℕ) → a ≡ Ok n → TokensFit (Ok n) words) → TokensFit a words
tokens_fit (Err r) words f = tt
tokens_fit (Ok n) words f = f n refl

pub changes_fit :
    (a : Result Lists PairRefusal) (runs entries : List ℕ) → ((l : Lists) → a ≡ Ok l → ChangesFit (Ok l) runs entries) → ChangesFit a runs entries
changes_fit (Err r) runs entries f = tt
changes_fit (Ok l) runs entries f = f l refl
