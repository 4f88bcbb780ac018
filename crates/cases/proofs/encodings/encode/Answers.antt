-- A row of Table 3-6 to each length.
use Rattle.std.proofs.Common.{arith, sym}
use Rattle.utf8.proofs.EncodingLaws.{encoding_1, encoding_2, encoding_3, encoding_4}
use Rattle.cases.proofs.encodings.encode.Goals as goal

pub returns-then-x-lt128 : goal.returns-then-x-lt128
returns-then-x-lt128 c = sym (encoding_1 c.args.x (omega arith))

pub returns-then-x-lt2048 : goal.returns-then-x-lt2048
returns-then-x-lt2048 c = sym (encoding_2 c.args.x (omega arith) (omega arith))

pub returns-then-x-lt65536 : goal.returns-then-x-lt65536
returns-then-x-lt65536 c = sym (encoding_3 c.args.x (omega arith) (omega arith))

pub returns-else-x-lt65536 : goal.returns-else-x-lt65536
returns-else-x-lt65536 c = sym (encoding_4 c.args.x (omega arith))
