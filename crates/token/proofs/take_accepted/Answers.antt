-- `token::take_accepted` meets its contract: the text from the place on is handed on, and its first token is the token at the place. Assumes nothing.
use Prim.Native.Nat.{ℕ, ◌+◌}
use mathlib.Core.Path.{◌≡◌, sym, ap, ◌∙◌}
use mathlib.Core.List.{List}
use native.Mathlib.Nat.{zero-add}
use native.Mathlib.Omega.{arith}
use lib.ListN.{drop, length-drop}
use Rattle.std.specs.Prelude.{Err}
use Rattle.lists.specs.Filled.{Filled}
use Rattle.lists.proofs.LaidLaws.{rest}
use Rattle.character.specs.Traits.{token_traits}
use Rattle.character.specs.Read.{TokenTableOf}
use Rattle.turns.specs.declared.First.{First}
use Rattle.turns.specs.First.{first_of}
use Rattle.token.specs.Taken.{taken_of}
use Rattle.token.proofs.TakenLaws.{taken_by, stops_ill, taken_past, taken_first, first_within}
use Rattle.token.proofs.take_accepted.Goals as goal
use Rattle.token.proofs.take_accepted.Goals.{After-first_token-first}

-- a table of ASCII that was filled
table_of : (s : List ℕ) {t : List ℕ} → Filled 128 (λ (j : ℕ). 0 + token_traits s (0 + j)) t 128 → TokenTableOf s t
table_of s f =
    record {
      long = let l = f.long in omega arith;
      each = λ y h. f.each y h ∙ zero-add (token_traits s (0 + y)) ∙ ap (token_traits s) (zero-add y);
    }

-- what is lent to the call, after the first token was looked for
module _ (c : goal.After-first_token-first) where
  -- what the call on the text from the place on says of it
  module _ (f : First) (e : c.first_token-first.result ≡ f) where
    found : first_of c.args.image.now (drop c.args.place c.args.text.now) ≡ f
    found = ap (first_of c.args.image.now) (sym (rest c.args.text.now c.args.place)) ∙ sym c.first_token-first.ensures ∙ e

    stands : taken_by c.args.text.now c.args.place f ≡ taken_of c.args.image.now c.args.text.now c.args.place
    stands = taken_first _ _ _ c.requires c.if-text-place.false f found

pub returns-then-text-place : goal.returns-then-text-place
returns-then-text-place c = taken_past _ _ _ c.requires c.if-text-place.true

pub fill_cells-requires : goal.fill_cells-requires
fill_cells-requires c = record { out_bound = omega arith; tag_bound = omega arith }

pub first_token-first-requires : goal.first_token-first-requires
first_token-first-requires c = record { token_table_of = table_of _ c.fill_cells.ensures }

pub overflow_add-result : goal.overflow_add-result
overflow_add-result c =
    let w = first_within _ _ _ _ (found (goal.at.overflow_add-result c).After-first_token-first _ c.in-Token.is) in
    omega (arith, length-drop c.args.place c.args.text.now)

pub returns-in-Nothing : goal.returns-in-Nothing
returns-in-Nothing c = stands (goal.at.returns-in-Nothing c).After-first_token-first _ c.in-Nothing.is

pub returns-in-IllFormed : goal.returns-in-IllFormed
returns-in-IllFormed c =
    let b = (goal.at.returns-in-IllFormed c).After-first_token-first in
    ap Err c.refuse_at.ensures ∙ stops_ill _ _ _ (found b _ c.in-IllFormed.is) ∙ stands b _ c.in-IllFormed.is

pub returns-in-NoToken : goal.returns-in-NoToken
returns-in-NoToken c = stands (goal.at.returns-in-NoToken c).After-first_token-first _ c.in-NoToken.is

pub returns-in-Token : goal.returns-in-Token
returns-in-Token c = stands (goal.at.returns-in-Token c).After-first_token-first _ c.in-Token.is
