-- Lists made from a function of the index: one index at a time, lengths, and what stands at a place. Assumes nothing.
use Prim.Native.Nat.{ℕ, zero, suc, ◌+◌, ◌-◌, ◌*◌, ◌≤◌, ◌<◌}
use mathlib.Core.Path.{◌≡◌, refl, sym, ap, ◌∙◌}
use mathlib.Core.List.{List, [], ◌∷◌, ◌++◌, append_assoc, append-nil}
use native.Mathlib.Numerals.{add-one}
use native.Mathlib.Nat.{zero-add, mul-suc, add-zero, mul-zero}
use native.Mathlib.Omega.{arith}
use lib.ListN.{length, get_or, set, replicate, length-append, length-replicate, get_or-append}
use lib.Seq.{set_at, append_snoc, get_or-append-add}
use Rattle.lists.specs.Each.{each_from, each, single, column}

-- for loops: k - i indexes left from i on
pub each_next : (f : ℕ → List ℕ) (n i : ℕ) → i < n → each_from f (n - i) i ≡ f i ++ each_from f (n - (i + 1)) (i + 1)
unfolding each_from
each_next f n i h = ap (λ (k : ℕ). each_from f k i) (let z : n - i ≡ suc (n - (i + 1)) = omega arith in z) ∙ simp add-one

pub each_end : (f : ℕ → List ℕ) (n i : ℕ) → n ≤ i → each_from f (n - i) i ≡ []
unfolding each_from
each_end f n i h = ap (λ (k : ℕ). each_from f k i) (let z : n - i ≡ 0 = omega arith in z)

pub each_begins : (f : ℕ → List ℕ) (n : ℕ) → each_from f (n - 0) 0 ≡ each f n
unfolding each
each_begins f n = ap (λ (k : ℕ). each_from f k 0) (let z : n - 0 ≡ n = omega arith in z)

-- lists of one length each
module _ (f : ℕ → List ℕ) (w : ℕ) (long : (i : ℕ) → length (f i) ≡ w) where
  pub length_from : (k i : ℕ) → length (each_from f k i) ≡ w * k
  unfolding each_from
  length_from zero i = sym (mul-zero w)
  length_from (suc k) i =
      simp (length-append, long, length_from k (suc i), mul-suc) (omega arith)

  pub length-each : (n : ℕ) → length (each f n) ≡ w * n
  unfolding each
  length-each n = length_from n 0

  at_from : (n j i k : ℕ) → i < n → k < w → get_or (each_from f n j) (w * i + k) 0 ≡ get_or (f (j + i)) k 0
  unfolding each_from
  at_from zero j i k h l = absurd (omega arith)
  at_from (suc n) j zero k h l =
      let z = long j in
      rw (mul-zero w, zero-add k, add-zero j) (get_or-append (f j) (each_from f n (suc j)) 0 k (omega arith))
  at_from (suc n) j (suc i) k h l =
      let z : w * suc i + k ≡ length (f j) + (w * i + k) = omega (arith, long j, mul-suc w i) in
      let t : suc j + i ≡ j + suc i = omega arith in
      rw (z, get_or-append-add) (at_from n (suc j) i k (omega arith) l ∙ ap (λ (m : ℕ). get_or (f m) k 0) t)

  -- the k-th value of the i-th list
  pub each_at : (n i k : ℕ) → i < n → k < w → get_or (each f n) (w * i + k) 0 ≡ get_or (f i) k 0
  unfolding each
  each_at n i k h l = at_from n 0 i k h l ∙ ap (λ (m : ℕ). get_or (f m) k 0) (zero-add i)

-- the same function at each index gives the same list
pub each_same : (f g : ℕ → List ℕ) (k i : ℕ) → ((j : ℕ) → i ≤ j → j < i + k → f j ≡ g j) → each_from f k i ≡ each_from g k i
unfolding each_from
each_same f g zero i e = refl
each_same f g (suc k) i e =
    let h = each_same f g k (suc i) (λ j l u. e j (omega arith) (omega arith)) in
    let a = e i (omega arith) (omega arith) in
    (λ d. a d ++ h d)

-- one more at the end
pub each_snoc : (f : ℕ → List ℕ) (k i : ℕ) → each_from f (suc k) i ≡ each_from f k i ++ f (i + k)
unfolding each_from
each_snoc f zero i = rw (append-nil (f i), add-zero i)
each_snoc f (suc k) i =
    let h = each_snoc f k (suc i) in
    let t : suc i + k ≡ i + suc k = omega arith in
    ap (λ (l : List ℕ). f i ++ l) h ∙ sym (append_assoc (f i) (each_from f k (suc i)) (f (suc i + k))) ∙ (λ d. (f i ++ each_from f k (suc i)) ++ f (t d))

-- columns: an array that is filled from the front
module _ (size : ℕ) (f : ℕ → ℕ) where
  one : (i : ℕ) → length (single f i) ≡ 1
  one i = refl

  pub length_singles : (m : ℕ) → length (each (single f) m) ≡ m
  length_singles m = length-each (single f) 1 one m ∙ (let z : 1 * m ≡ m = omega arith in z)

  pub column_none : replicate size 0 ≡ column size f 0
  unfolding column each each_from
  column_none = ap (λ (k : ℕ). replicate k 0) (let z : size ≡ size - 0 = omega arith in z)

  pub column-set : (i : ℕ) → i < size → set (column size f i) i (f i) ≡ column size f (i + 1)
  unfolding column each
  column-set i h =
      let left = size - (i + 1) in
      ap (λ (k : ℕ). set (each_from (single f) i 0 ++ replicate k 0) i (f i)) (let z : size - i ≡ suc left = omega arith in z)
      ∙ set_at (each_from (single f) i 0) 0 (replicate left 0) (f i) i (length_singles i)
      ∙ sym (append_snoc (each_from (single f) i 0) (f i) (replicate left 0))
      ∙ ap (λ (l : List ℕ). l ++ replicate left 0) (sym (each_snoc (single f) i 0 ∙ ap (λ (j : ℕ). each_from (single f) i 0 ++ single f j) (zero-add i)))
      ∙ ap (λ (j : ℕ). each_from (single f) j 0 ++ replicate left 0) (sym (add-one i))

  -- a column fills its room
  pub length-column : (m : ℕ) → m ≤ size → length (column size f m) ≡ size
  unfolding column
  length-column m h =
      let a = length-append (each (single f) m) (replicate (size - m) 0) in
      omega (arith, length_singles m, length-replicate {A = ℕ} (size - m) 0)

  -- what a column holds: f below m, and zero past it
  pub column_at : (m j : ℕ) → j < m → get_or (column size f m) j 0 ≡ f j
  unfolding column
  column_at m j h =
      let l = length_singles m in
      let z : j ≡ 1 * j + 0 = omega arith in
      get_or-append (each (single f) m) (replicate (size - m) 0) 0 j (omega arith)
      ∙ ap (λ (k : ℕ). get_or (each (single f) m) k 0) z
      ∙ each_at (single f) 1 one m j 0 h (omega arith)

  zeros_at : (k j : ℕ) → ◌≡◌ {A = ℕ} (get_or (replicate k 0) j 0) 0
  zeros_at zero j = refl
  zeros_at (suc k) zero = refl
  zeros_at (suc k) (suc j) = zeros_at k j

  pub column_past : (m j : ℕ) → m ≤ j → get_or (column size f m) j 0 ≡ 0
  unfolding column
  column_past m j h =
      let l = length_singles m in
      let z : j ≡ length (each (single f) m) + (j - m) = omega arith in
      ap (λ (k : ℕ). get_or (each (single f) m ++ replicate (size - m) 0) k 0) z
      ∙ get_or-append-add (each (single f) m) (replicate (size - m) 0) (j - m) 0
      ∙ zeros_at (size - m) (j - m)

-- the same values below m give the same column
pub column_same : (size : ℕ) (f g : ℕ → ℕ) (m : ℕ) → ((j : ℕ) → j < m → f j ≡ g j) → column size f m ≡ column size g m
unfolding column each
column_same size f g m e =
    ap (λ (l : List ℕ). l ++ replicate (size - m) 0) (each_same (single f) (single g) m 0 (λ j l u. ap (λ (v : ℕ). v ∷ []) (e j (omega arith))))
