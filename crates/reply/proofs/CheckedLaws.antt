-- What `luffinarc_check` and `luffinarc_read` accept is what the functions with `_checked` require. Assumes nothing.
use Prim.Native.Nat.{ℕ, ◌/◌, ◌≤◌}
use mathlib.Core.Path.{◌≡◌, refl, sym, ◌∙◌}
use mathlib.Core.List.{List}
use mathlib.Core.Option.{none}
use mathlib.Core.Logic.{◌↔◌}
use lib.ListN.{length}
use Rattle.std.specs.Prelude.{Result, Ok, Err}
use Rattle.lists.proofs.BoolLaws.{impossible}
use Rattle.refusal.specs.declared.Refusal.{Refusal}
use Rattle.image.specs.Limits.{words_per_range}
use Rattle.image.specs.Header.{range_count}
use Rattle.image.specs.Check.{refusal_of, check_of, read_of, accepted_with}
use Rattle.image.specs.declared.Summary.{Summary}
use Rattle.image.specs.declared.Checked.{Checked}
use Rattle.image.proofs.ImageLaws.{check_accepts}
use Rattle.image.proofs.ReadLaws.{read_accepts}
use Rattle.reply.specs.ImageReply.{checked_by, TellsChecked}
use Rattle.reply.proofs.ReplyLaws.{apart}

module _ {ps rs : List ℕ} {n : ℕ} {a new_ps new_rs : List ℕ} where
  -- the result is 0 exactly where the answer is no refusal
  zero_iff : (k : Checked) → TellsChecked k ps rs n a new_ps new_rs → (n ≡ 0) ↔ ((v m : ℕ) × (k.answer ≡ accepted_with v m))
  zero_iff k t = go k.answer refl t.told.number
    where
      go : (x : Result Summary Refusal) → k.answer ≡ x → n ≡ (checked_by x k.profile.used).number → (n ≡ 0) ↔ ((v m : ℕ) × (k.answer ≡ accepted_with v m))
      go (Err r) f e = (λ z. absurd ((apart r).0 (sym e ∙ z)), λ (v, m, g). impossible (cc))
      go (Ok x) f e = (λ z. (x.version, x.ranges, f), λ g. e)

  pub zero_checked : (s : List ℕ) → TellsChecked (check_of s) ps rs n a new_ps new_rs → (n ≡ 0) ↔ (refusal_of s ≡ none)
  zero_checked s t = (
    λ z. let (v, m, g) = (zero_iff (check_of s) t).0 z in ((check_accepts s v m).0 g).0,
    λ e. (zero_iff (check_of s) t).1 (_, _, (check_accepts s _ _).1 (e, refl, refl)),
  )

  pub zero_read : (s out : List ℕ) → TellsChecked (read_of s (length out)) ps rs n a new_ps new_rs → (n ≡ 0) ↔ ((refusal_of s ≡ none) × (range_count s ≤ length out / words_per_range))
  zero_read s out t = (
    λ z. let (v, m, g) = (zero_iff (read_of s (length out)) t).0 z in let h = (read_accepts s out v m).0 g in (h.0, h.1),
    λ (e, l). (zero_iff (read_of s (length out)) t).1 (_, _, (read_accepts s out _ _).1 (e, l, refl, refl)),
  )
