-- Maximal subparts (docs/RULES.md, "UTF-8 by its first byte"; the Unicode Standard, section 3.9, D93b): how many bytes are bad at a place
-- where no well-formed sequence begins.
use Rattle.std.specs.Prelude.{ℕ, suc, ◌≤◌, ◌≡◌, cond, List, [], ◌∷◌, ◌++◌, ◌⊎◌, ltb, length}
use Rattle.utf8.specs.Table.{Row, rows, inside, Sequence}

-- how many bytes at the head of a text are as the row says, one for each range, up to the first that is not
abbrev pub begun : Row → List ℕ → ℕ
begun [] s = 0
begun (g ∷ gs) [] = 0
begun (g ∷ gs) (b ∷ s) = cond (inside g b) (suc (begun gs s)) 0

abbrev pub larger : ℕ → ℕ → ℕ
larger a b = cond (ltb a b) b a

-- the most that a row has of them; one byte where no row has any
abbrev pub subpart_in : List Row → List ℕ → ℕ
subpart_in [] s = 1
subpart_in (r ∷ rs) s = larger (begun r s) (subpart_in rs s)

-- the length of the maximal subpart at the head of bytes
unfoldable pub subpart_of : List ℕ → ℕ
subpart_of s = subpart_in rows s

-- an initial subsequence of a well-formed sequence: others can follow the bytes q so that all together fill a row of the table
pub record Initial (q : List ℕ) : Type 0 where
  pub others : List ℕ
  pub sequence : Sequence (q ++ others)

-- "the initial subsequence of a well-formed code unit sequence, or a subsequence of length one"
abbrev pub Subpart : List ℕ → Type 0
Subpart q = Initial q ⊎ (length q ≡ 1)

-- what `subpart_of` means: n is the length of the longest of them that begins the bytes s
pub record MaximalSubpart (s : List ℕ) (n : ℕ) : Type 0 where
  pub bytes : List ℕ
  pub others : List ℕ
  pub whole : s ≡ bytes ++ others
  pub subpart : Subpart bytes
  pub long : n ≡ length bytes
  pub longest : (q r : List ℕ) → s ≡ q ++ r → Subpart q → length q ≤ n
