-- What the answers of counting and of writing a list say of the outcome that they come from, of tokens or of hashtags. Assumes nothing.
use Prim.Native.Nat.{ℕ, ◌≤◌, ◌<◌}
use mathlib.Core.Path.{◌≡◌, refl, ap}
use mathlib.Core.Bool.{Bool, true, false}
use mathlib.Core.List.{List}
use mathlib.Core.Logic.{◌⊎◌, inl, inr}
use lib.ListN.{length}
use Rattle.std.specs.Prelude.{Result, Ok, Err}
use Rattle.lists.specs.Laid.{laid}
use lib.Dec.{ltb}
use borrow.Author.Tests.{ltb-true, ltb-false, lt-ltb, le-ltb}
use Rattle.lists.proofs.BoolLaws.{impossible}
use Rattle.refusal.specs.declared.Refusal.{Refusal}
use Rattle.refusal.specs.declared.Refusal.TheVariants as refusal
use Rattle.refusal.specs.Outcome.{Outcome, given, refused, unless, refused_if, outcome_map}
use Rattle.grammar.specs.Record.{room_of}
use Rattle.grammar.specs.Reading.{roomed, laid_by}
use Rattle.grammar.specs.Counted.{counted_by}

-- of tokens, or of anything that has a record each
module _ {T : Type 0} where
  pub counts_given : (o : Outcome (List T)) (n : ℕ) → outcome_map length o ≡ given n → (ts : List T) × (o ≡ given ts) × (length ts ≡ n)
  counts_given (given ts) n e = (ts, refl, cc)
  counts_given (refused r) n e = impossible (cc)

  pub counts_refused : (o : Outcome (List T)) (r : Refusal) → outcome_map length o ≡ refused r → o ≡ refused r
  counts_refused (given ts) r e = impossible (cc)
  counts_refused (refused q) r e = let f : q ≡ r = cc in ap refused f

  -- they are written where there is room for them
  pub roomed_in : (words : ℕ) (ts : List T) → length ts ≤ room_of words → roomed words (given ts) ≡ given ts
  roomed_in words ts h = rw (le-ltb (room_of words) (length ts) h)

  pub roomed_out : (words : ℕ) (ts : List T) → room_of words < length ts → roomed words (given ts) ≡ refused (refusal.Room (length ts))
  roomed_out words ts h = rw (lt-ltb (room_of words) (length ts) h)

  -- what is written was given, and has room; what is refused was refused, or lacks room
  abbrev pub Roomed : ℕ → Outcome (List T) → Outcome (List T) → Type 0
  Roomed words o (given ts) = (o ≡ given ts) × (length ts ≤ room_of words)
  Roomed words o (refused r) = (o ≡ refused r) ⊎ ((ts : List T) × (o ≡ given ts) × (r ≡ refusal.Room (length ts)) × (room_of words < length ts))

  pub roomed_cases : (words : ℕ) (o : Outcome (List T)) → Roomed words o (roomed words o)
  roomed_cases words (refused r) = inl refl
  roomed_cases words (given ts) = go (ltb (room_of words) (length ts)) refl
    where
      go : (b : Bool) → ltb (room_of words) (length ts) ≡ b → Roomed words (given ts) (unless (refused_if b (refusal.Room (length ts))) (given ts))
      go true e = inr (ts, refl, refl, ltb-true (room_of words) (length ts) e)
      go false e = (refl, ltb-false (room_of words) (length ts) e)

  pub roomed_given : (words : ℕ) (o : Outcome (List T)) (ts : List T) → roomed words o ≡ given ts → Roomed words o (given ts)
  roomed_given words o ts e = rw e at (roomed_cases words o)

  -- counting, by its enum
  pub by_refused : (o : Outcome (List T)) {r : Refusal} → Err r ≡ counted_by (outcome_map length o) → o ≡ refused r
  by_refused (given ts) e = impossible (cc)
  by_refused (refused q) {r} e = let f : q ≡ r = cc in ap refused f

  pub by_count : (o : Outcome (List T)) {n : ℕ} → Ok n ≡ counted_by (outcome_map length o) → (ts : List T) × (o ≡ given ts) × (n ≡ length ts)
  by_count (given ts) e = (ts, refl, cc)
  by_count (refused r) e = impossible (cc)

  -- writing the words of what is given into a buffer: the answer, and what the buffer then holds
  module _ (words : List T → List ℕ) (out : List ℕ) where
    abbrev pub Writes : Outcome (List T) → Result ℕ Refusal → List ℕ → Type 0
    Writes o c out' = (c ≡ counted_by (outcome_map length (roomed (length out) o))) × (out' ≡ laid_by words out (roomed (length out) o))

    pub writes_refused : {o : Outcome (List T)} {r : Refusal} → o ≡ refused r → Writes o (Err r) out
    writes_refused e = rw e (refl, refl)

    module _ {o : Outcome (List T)} {ts : List T} {n : ℕ} (e : o ≡ given ts) (l : n ≡ length ts) where
      -- 8: nothing is written
      pub writes_no_room : room_of (length out) < n → Writes o (Err (refusal.Room n)) out
      writes_no_room h = rw (e, l, roomed_out (length out) ts (rw l at h)) (refl, refl)

      pub writes_given : n ≤ room_of (length out) → Writes o (Ok n) (laid out 0 (words ts))
      writes_given h = rw (e, l, roomed_in (length out) ts (rw l at h)) (refl, refl)
