-- The readers before, which allowed 64 profile entries, and those now, which allow 512 (docs/RULES.md, "Readers with a lower limit").
-- Assumes nothing.
use Prim.Native.Nat.{ℕ, ◌≤◌, ◌<◌}
use mathlib.Core.Path.{◌≡◌, refl, sym, ◌∙◌}
use mathlib.Core.List.{List}
use mathlib.Core.Option.{none}
use native.Mathlib.Omega.{arith}
use Rattle.image.specs.declared.Profile.{Profile}
use Rattle.image.specs.Limits.{max_entries, largest_within, max_image}
use Rattle.image.specs.Same.{SameEntries}
use Rattle.image.specs.Header.{entry_count}
use Rattle.image.specs.Accepted.{HeadedWithin}
use Rattle.image.specs.Check.{refusal_within, refusal_of, check_within, check_of}
use Rattle.image.proofs.ImageLaws.{accepted}
use Rattle.image.proofs.LimitLaws.{same_refusal, only_above}
use Rattle.writer.specs.Writable.{Shaped}
use Rattle.writer.proofs.LimitLaws.{answer_above, bytes_above}
use Rattle.input.specs.Front.{image_in, rest_in}
use Rattle.limit.specs.Former.{former_entries, refusal_above}
use Rattle.limit.specs.Agree.{AgreeOnImage, AgreeOnPair, AgreeOnWriting, AgreeOnScript, AgreeOnChanges}
use Rattle.limit.specs.Refuses.{RefusesWriting, RefusesImage}
use Rattle.limit.proofs.AgreeLaws.{agree, pair_agree, writing_agree, script_agree, changes_agree}
use Rattle.limit.proofs.RefusesLaws.{refuses_above}

-- the largest image before; the most entries and the largest image now
pub former_largest : largest_within former_entries ≡ 49696
former_largest = refl

pub most_entries : max_entries ≡ 512
most_entries = refl

pub largest : max_image ≡ 53280
largest = refl

-- an image whose length and header the readers before find right is refused with the same, or with nothing, and every call agrees
pub former_judges : (s : List ℕ) → HeadedWithin former_entries s → (refusal_within former_entries s ≡ refusal_of s) × AgreeOnImage former_entries max_entries s
former_judges s h = (same_refusal former_entries max_entries s (omega arith) h, agree former_entries max_entries (omega arith) s h)

-- so one that they accept is accepted, with the same version, ranges and profile, and every call answers the same for it
pub former_agrees : (s : List ℕ) → refusal_within former_entries s ≡ none → (refusal_of s ≡ none) × AgreeOnImage former_entries max_entries s
former_agrees s e = let (same, agrees) = former_judges s (accepted s e).header in (sym same ∙ e, agrees)

-- the check says the same, version and number of ranges among it, and gives the same profile
pub former_reads :
    (s : List ℕ) → refusal_within former_entries s ≡ none
    → ((check_within former_entries s).answer ≡ (check_of s).answer) × SameEntries (check_within former_entries s).profile (check_of s).profile
former_reads s e = let (_, agrees) = former_agrees s e in (agrees.checked.answer, agrees.checked.entries)

pub former_agrees_pair :
    (older newer : List ℕ) → refusal_within former_entries older ≡ none → refusal_within former_entries newer ≡ none
    → AgreeOnPair former_entries max_entries older newer
former_agrees_pair older newer e f = pair_agree former_entries max_entries (omega arith) older newer (accepted older e).header (accepted newer f).header

pub former_agrees_writing : (words : List ℕ) (p q : Profile) → SameEntries p q → p.used ≤ former_entries → AgreeOnWriting former_entries max_entries words p q
former_agrees_writing words p q same h = writing_agree former_entries max_entries (omega arith) words p q same h

-- so it is with the two listers
pub former_agrees_script : (input : List ℕ) → refusal_within former_entries (image_in input) ≡ none → AgreeOnScript former_entries max_entries input
former_agrees_script input e = script_agree former_entries max_entries (omega arith) input (accepted (image_in input) e).header

pub former_agrees_changes :
    (input : List ℕ) → refusal_within former_entries (image_in input) ≡ none → refusal_within former_entries (rest_in input) ≡ none
    → AgreeOnChanges former_entries max_entries input
former_agrees_changes input e f =
    changes_agree former_entries max_entries (omega arith) input (accepted (image_in input) e).header (accepted (rest_in input) f).header (omega arith)

-- an image that is accepted now alone has more entries than they allow, and they refuse it in every call: with 1 where it is longer than
-- 49,696 bytes, else with 2
pub former_refuses :
    (s : List ℕ) → refusal_of s ≡ none → (refusal_within former_entries s ≡ none → ⊥)
    → (former_entries < entry_count s) × RefusesImage former_entries s (refusal_above former_entries s)
former_refuses s e f =
    let a = accepted s e in
    let many = only_above former_entries max_entries s a f in
    (many, refuses_above former_entries max_entries s a many)

-- what has more entries, the writers before refuse with 2
pub former_refuses_writing : (words : List ℕ) (p : Profile) → Shaped words → former_entries < p.used → RefusesWriting former_entries words p
former_refuses_writing words p shaped many = record { answer = answer_above former_entries words p shaped many; bytes = bytes_above former_entries words p shaped many }
