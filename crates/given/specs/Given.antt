-- Inner: no public statement cites this file.
-- What is judged before a text is read or a number looked up (docs/RULES.md, "Named refusals").
use Rattle.std.specs.Prelude.{List, ℕ}
use Rattle.std.proofs.Math.Option.{Option}
use Rattle.refusal.specs.declared.Refusal.{Refusal}
use Rattle.image.specs.Check.{refusal_of}

-- 1 to 4 of the image
abbrev pub given_refusal : List ℕ → Option Refusal
given_refusal s = refusal_of s
