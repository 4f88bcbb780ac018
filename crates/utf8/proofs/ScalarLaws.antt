-- Scalar values: whether a number is one, exactly when. Assumes nothing.
use Prim.Native.Nat.{ℕ, ◌≤◌, ◌<◌}
use mathlib.Core.Path.{◌≡◌, sym, subst, ◌∙◌}
use mathlib.Core.Bool.{Bool, true, false}
use native.Mathlib.Omega.{arith}
use native.Mathlib.Decide.{dec_lt}
use borrow.Author.Tests.{lt-ltb, le-ltb, le-leb, lt-leb}
use Rattle.utf8.specs.Scalar.{is_scalar, ScalarMeans, below_surrogates, above_surrogates, surrogate, past_last}

pub means_scalar : (x : ℕ) (b : Bool) → ScalarMeans x b → is_scalar x ≡ b
unfolding is_scalar
means_scalar x b (below_surrogates h) = simp (lt-ltb x 0xD800 h)
means_scalar x b (above_surrogates h l) = simp (le-ltb x 0xD800 (omega arith), le-ltb x 0xE000 h, le-leb x 0x10FFFF l)
means_scalar x b (surrogate h l) = simp (le-ltb x 0xD800 h, lt-ltb x 0xE000 l)
means_scalar x b (past_last h) = simp (le-ltb x 0xD800 (omega arith), le-ltb x 0xE000 (omega arith), lt-leb x 0x10FFFF h)

pub scalar_means : (x : ℕ) (b : Bool) → is_scalar x ≡ b → ScalarMeans x b
scalar_means x b e = go (dec_lt x 0xD800) (dec_lt x 0xE000) (dec_lt 0x10FFFF x)
  where
    told : (c : Bool) → ScalarMeans x c → ScalarMeans x b
    told c m = subst (ScalarMeans x) (sym (means_scalar x c m) ∙ e) m

    go : Dec (x < 0xD800) → Dec (x < 0xE000) → Dec (0x10FFFF < x) → ScalarMeans x b
    go (yes h) k l = told true (below_surrogates h)
    go (no h) (yes k) l = told false (surrogate (omega arith) k)
    go (no h) (no k) (yes l) = told false (past_last l)
    go (no h) (no k) (no l) = told true (above_surrogates (omega arith) (omega arith))

-- scalar values are code points
pub scalar_le : (x : ℕ) → is_scalar x ≡ true → x ≤ 0x10FFFF
scalar_le x e = go (scalar_means x true e)
  where
    go : ScalarMeans x true → x ≤ 0x10FFFF
    go (below_surrogates h) = omega arith
    go (above_surrogates h l) = l
