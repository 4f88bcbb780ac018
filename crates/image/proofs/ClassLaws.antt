-- Classes in good ranges: good ranges rise, hold scalar values only, and have classes 1 to 5. Assumes nothing.
use Prim.Native.Nat.{ℕ, ◌-◌, ◌≤◌, ◌<◌}
use mathlib.Core.Path.{◌≡◌}
use mathlib.Core.Bool.{false}
use native.Mathlib.Omega.{arith}
use Rattle.utf8.specs.Scalar.{is_scalar, ScalarMeans, surrogate, past_last}
use Rattle.utf8.proofs.ScalarLaws.{scalar_means}
use Rattle.image.specs.Ranges.{class_in}
use Rattle.image.specs.Good.{GoodRange}
use Rattle.image.specs.declared.Range.{Range}
use Rattle.image.specs.Placed.{GoodRanges, Rising}
use Rattle.image.specs.Records.{HasClass, held, in_none}
use Rattle.image.proofs.RisingLaws as rising

module _ (at : ℕ → Range) (n : ℕ) (good : GoodRanges at n) where
  pub good_alone : (i : ℕ) → i < n → GoodRange at i
  good_alone i l = good i l

  -- a range begins after the end of the one before
  pub good_follows : (i : ℕ) → 0 < i → i < n → (at (i - 1)).last < (at i).first
  good_follows i h l = (good_alone i l).after h

  pub ranges_rise : Rising at n
  ranges_rise = record { ordered = λ i l. (good_alone i l).ordered; after = good_follows }

  -- every x within range i has its class, and between neighbours the class is 0
  pub class_held : (i x : ℕ) → i < n → (at i).first ≤ x → x ≤ (at i).last → class_in at n x ≡ (at i).class
  class_held = rising.class_held at n ranges_rise

  pub class_gap : (i x : ℕ) → i ≤ n → (0 < i → (at (i - 1)).last < x) → (i < n → x < (at i).first) → class_in at n x ≡ 0
  class_gap = rising.class_gap at n ranges_rise

  module _ (x : ℕ) where
    -- no number but a scalar value has a class in the ranges
    pub class_scalar : is_scalar x ≡ false → class_in at n x ≡ 0
    class_scalar e = rising.class_none at n x (λ i l a b. outside i l a b (scalar_means x false e))
      where
        outside : (i : ℕ) → i < n → (at i).first ≤ x → x ≤ (at i).last → ScalarMeans x false → ⊥
        outside i l a b (surrogate p q) = (good_alone i l).no_surrogate x a b p (omega arith)
        outside i l a b (past_last p) = let r = (good_alone i l).below in omega arith

    -- classes go to 5
    pub class_known : class_in at n x ≤ 5
    class_known = go _ (rising.class_cases at n x)
      where
        go : (c : ℕ) → HasClass at n x c → c ≤ 5
        go c (held i l a b) = (good_alone i l).known_class
        go c (in_none f) = omega arith
