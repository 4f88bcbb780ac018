-- Unicode scalar values (docs/RULES.md, "Rules"; the Unicode Standard, D76).
use Rattle.std.specs.Prelude.{ℕ, ◌≤◌, ◌<◌, Bool, true, false, cond, leb, ltb}

-- 0 to D7FF and E000 to 10FFFF
unfoldable pub is_scalar : ℕ → Bool
is_scalar x = cond (ltb x 0xD800) true (cond (ltb x 0xE000) false (leb x 0x10FFFF))

-- what `is_scalar` means
pub data ScalarMeans (x : ℕ) : Bool → Type 0 where
  below_surrogates : x < 0xD800 → ScalarMeans x true
  above_surrogates : 0xE000 ≤ x → x ≤ 0x10FFFF → ScalarMeans x true
  surrogate : 0xD800 ≤ x → x < 0xE000 → ScalarMeans x false
  past_last : 0x10FFFF < x → ScalarMeans x false
