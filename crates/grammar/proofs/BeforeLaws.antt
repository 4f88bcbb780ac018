-- What is judged before a text, exactly when. Assumes nothing.
use Prim.Native.Nat.{ℕ, ◌≤◌}
use mathlib.Core.Path.{◌≡◌, refl, subst}
use mathlib.Core.Bool.{Bool, true, false}
use mathlib.Core.List.{List}
use mathlib.Core.Option.{Option, none, some}
use lib.ListN.{length}
use lib.Dec.{ltb}
use borrow.Author.Tests.{ltb-true, ltb-false, lt-ltb, le-ltb}
use Rattle.refusal.specs.declared.Refusal.{Refusal}
use Rattle.refusal.specs.declared.Refusal.TheVariants as refusal
use Rattle.refusal.specs.Outcome.{or_else, refused_if}
use Rattle.image.specs.Check.{refusal_of}
use Rattle.image.proofs.ImageLaws.{refusal_means, means_refusal, accepted, refused_none}
use Rattle.grammar.specs.Before.{length_refusal, before_within, before_text, BeforeMeans, of_image, too_long, allowed}

module _ (most : ℕ) (s text : List ℕ) where
  pub before_means : BeforeMeans most s text (before_text most s text)
  unfolding before_within length_refusal
  before_means = go (refusal_of s) refl (ltb most (length text)) refl
    where
      go : (o : Option Refusal) → refusal_of s ≡ o → (b : Bool) → ltb most (length text) ≡ b
          → BeforeMeans most s text (or_else o (refused_if b refusal.TextLength))
      go (some r) e b f = of_image (refusal_means s (some r) e)
      go none e true f = too_long (accepted s e) (ltb-true _ _ f)
      go none e false f = allowed (accepted s e) (ltb-false _ _ f)

  pub means_before : {o : Option Refusal} → BeforeMeans most s text o → before_text most s text ≡ o
  unfolding before_within length_refusal
  means_before (of_image m) = rw (means_refusal s _ m)
  means_before (too_long a h) = rw (refused_none s a, lt-ltb most (length text) h)
  means_before (allowed a h) = rw (refused_none s a, le-ltb most (length text) h)

  -- where nothing is refused the image is accepted, and the text is short enough
  pub nothing_refused : before_text most s text ≡ none → (refusal_of s ≡ none) × (length text ≤ most)
  nothing_refused e = go (subst (BeforeMeans most s text) e before_means)
    where
      go : BeforeMeans most s text none → (refusal_of s ≡ none) × (length text ≤ most)
      go (allowed a h) = (refused_none s a, h)
