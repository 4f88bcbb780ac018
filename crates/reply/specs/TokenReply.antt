-- The replies of the calls on tokens and hashtags (docs/RULES.md, "The calls").
use Rattle.token.specs.declared.Token.{Token}
use Rattle.refusal.specs.declared.Refusal.{Refusal}
use Rattle.std.specs.Prelude.{ℕ, List, [], ◌∷◌, length, get_or, take, drop, Result, Option, Some, None}
use Rattle.refusal.specs.Outcome.{Outcome, given, refused}
use Rattle.reply.specs.Reply.{Reply, gives, refuses, reply_by, number_reply}

-- counting and writing a list: the number of tokens, or of hashtags
abbrev pub counted_reply : Result ℕ Refusal → Reply
counted_reply r = reply_by number_reply refuses r

-- the result where a place is the text's end; no refusal has it
abbrev pub done : ℕ
done = 255

-- taking one token: its kind, its first byte, and one past its last
abbrev pub token_reply : Option Token → Reply
token_reply None = record { number = done; values = 0 ∷ 0 ∷ 0 ∷ 0 ∷ [] }
token_reply (Some t) = gives t.kind t.start t.end

abbrev pub taken_reply : Result (Option Token) Refusal → Reply
taken_reply r = reply_by token_reply refuses r

-- handing back a part: its first byte and its number of bytes
abbrev pub part_reply : Outcome (List ℕ) → ℕ → Reply
part_reply (refused r) start = refuses r
part_reply (given part) start = gives start (length part) 0

-- the bytes that an answer array tells of: from the first number on, as many as the second
abbrev pub told_part : List ℕ → List ℕ → List ℕ
told_part text answer = take (get_or answer 1 0) (drop (get_or answer 0 0) text)
