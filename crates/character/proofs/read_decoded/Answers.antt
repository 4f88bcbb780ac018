-- `character::read_decoded` meets its contract: the sequence there, unpacked and settled. Assumes nothing.
use native.Mathlib.Omega.{arith}
use lib.ListN.{drop, length-drop}
use Rattle.utf8.proofs.TextLaws.{Unpacked, unpacked}
use Rattle.character.proofs.CharacterLaws.{read_settled}
use Rattle.character.proofs.read_decoded.Goals as goal
use Rattle.character.proofs.read_decoded.Goals.{After-decode_packed-packed}

-- what the packed sequence tells
told : (c : goal.After-decode_packed-packed) → Unpacked (drop c.args.at c.args.text.now) c.decode_packed-packed.result
told c =
    unpacked (drop c.args.at c.args.text.now) _ c.decode_packed-packed.ensures (let l = length-drop c.args.at c.args.text.now in omega (arith, c.requires.at_in_bounds))

pub settle-requires : goal.settle-requires
settle-requires c = record { memo_of = c.requires.memo_of; packed_bound = omega (arith, (told c).small) }

pub returns : goal.returns
returns c = read_settled _ _ _ _ _ (told (goal.at.returns c).After-decode_packed-packed) c.settle.ensures
