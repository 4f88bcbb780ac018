-- Line ends that a search for signs passes over in a text that is known to be well-formed: they add up. Assumes nothing.
use Prim.Native.Nat.{ℕ, zero, suc, ◌+◌, ◌-◌, ◌≤◌, ◌<◌}
use mathlib.Core.Path.{◌≡◌, refl, ap, subst, ◌∙◌}
use mathlib.Core.Bool.{true}
use mathlib.Core.List.{List}
use native.Mathlib.Omega.{arith}
use native.Mathlib.Decide.{dec_lt}
use lib.ListN.{length, get_or, take, drop}
use lib.Seq.{get_or-drop}
use Rattle.lists.proofs.LaidLaws.{rest as part_rest}
use Rattle.line.specs.Ends.{look}
use Rattle.hashtag.specs.Seek.{stop_for, sum_of, LinesCounted}
use Rattle.hashtag.specs.declared.Reach.{Reach}
use Rattle.hashtag.proofs.SeekLaws.{passed_begins}

abbrev reach : ℕ → ℕ → Reach
reach at line = record { at = at; line = line }

module _ (text : List ℕ) where
  abbrev entry : ℕ → ℕ
  entry i = stop_for true (get_or text i 0)

  -- of bytes, and then of more
  pub sum_split : (from n k : ℕ) → sum_of text from (n + k) ≡ sum_of text from n + sum_of text (from + n) k
  unfolding sum_of
  sum_split from n zero = let z : n + 0 ≡ n = omega arith in ap (sum_of text from) z ∙ omega arith
  sum_split from n (suc k) =
      let z : n + suc k ≡ suc (n + k) = omega arith in
      let q : from + (n + k) ≡ from + n + k = omega arith in
      ap (sum_of text from) z ∙ (λ j. sum_split from n k j + entry (q j)) ∙ omega arith

  -- of no byte, of one, and of bytes of which only the first counts
  pub sum_none : (at : ℕ) → sum_of text at 0 ≡ 0
  unfolding sum_of
  sum_none at = refl

  pub sum_one : (at : ℕ) → sum_of text at 1 ≡ entry at
  unfolding sum_of
  sum_one at = let q : at + 0 ≡ at = omega arith in omega (arith, ap entry q)

  pub sum_first : (at n : ℕ) → ((i : ℕ) → at < i → i < at + suc n → entry i ≡ 0) → sum_of text at (suc n) ≡ entry at
  unfolding sum_of
  sum_first at zero h = sum_one at
  sum_first at (suc n) h =
      let i = sum_first at n (λ i l u. h i l (omega arith)) in
      let e = h (at + suc n) (omega arith) (omega arith) in
      omega arith

  -- where the sum is small, every byte is
  sum-each : (at n : ℕ) → sum_of text at n < look → (i : ℕ) → at ≤ i → i < at + n → entry i < look
  unfolding sum_of
  sum-each at zero h i l u = absurd (omega arith)
  sum-each at (suc n) h i l u = go (dec_lt i (at + n)) (sum-each at n (omega arith))
    where
      go : Dec (i < at + n) → ((j : ℕ) → at ≤ j → j < at + n → entry j < look) → entry i < look
      go (yes v) f = f i l v
      go (no v) f = let q : at + n ≡ i = omega arith in let e = ap entry q in omega arith

  -- the same bytes in a part of the text
  sum-shift : (s : List ℕ) (at n : ℕ) → ((i : ℕ) → get_or s i 0 ≡ get_or text (at + i) 0) → sum_of s 0 n ≡ sum_of text at n
  unfolding sum_of
  sum-shift s at zero h = refl
  sum-shift s at (suc n) h =
      let z : 0 + n ≡ n = omega arith in
      (λ j. sum-shift s at n h j + stop_for true (get_or s (z j) 0)) ∙ ap (λ (b : ℕ). sum_of text at n + stop_for true b) (h n)

  pub sum_part : (at n : ℕ) → sum_of (take (length text - at) (drop at text)) 0 n ≡ sum_of text at n
  sum_part at n =
      sum-shift (take (length text - at) (drop at text)) at n (λ i. ap (λ (s : List ℕ). get_or s i 0) (part_rest text at) ∙ get_or-drop at text i 0)

pub sum_four : (s : List ℕ) (k l m n : ℕ) → k ≡ stop_for true (get_or s 0 0) → l ≡ stop_for true (get_or s 1 0) → m ≡ stop_for true (get_or s 2 0) → n ≡ stop_for true (get_or s 3 0)
    → k + l + m + n ≡ sum_of s 0 4
unfolding sum_of
sum_four s k l m n a b c d = omega arith

module _ {text : List ℕ} {from first : ℕ} where
  pub counted_begins : from ≤ length text → LinesCounted text from first (reach from first)
  unfolding sum_of
  counted_begins h =
      let z : 0 ≡ from - from = omega arith in
      record { passed = passed_begins true text from h; sum = subst (λ (k : ℕ). first ≡ first + sum_of text from k) z (omega arith); few = omega arith }

  -- some bytes more
  pub counted_more : {at line : ℕ} → LinesCounted text from first (reach at line) → (n s : ℕ) → 0 < n → at + n ≤ length text → s ≡ sum_of text at n → s < look →
      LinesCounted text from first (reach (at + n) (line + s))
  counted_more {at} {line} i n s o h e l =
      let p = i.passed in
      let b = p.above in
      let q : at + n - from ≡ at - from + n = omega arith in
      let r : from + (at - from) ≡ at = omega arith in
      record {
        passed = record { above = omega arith; within = h; each = λ j u v. go j u v (dec_lt j at) };
        sum = omega (arith, i.sum, e, ap (sum_of text from) q, sum_split text from (at - from) n, ap (λ (k : ℕ). sum_of text k n) r);
        few = omega (arith, i.few);
      }
    where
      go : (j : ℕ) → from ≤ j → j < at + n → Dec (j < at) → stop_for true (get_or text j 0) < look
      go j u v (yes w) = i.passed.each j u w
      go j u v (no w) = sum-each text at n (omega arith) j (omega arith) v

  -- on from there
  pub counted_on : {r q : Reach} → LinesCounted text from first r → LinesCounted text r.at r.line q → LinesCounted text from first q
  counted_on {r} {q} i k =
      let a = i.passed.above in
      let b = k.passed.above in
      let x : q.at - from ≡ r.at - from + (q.at - r.at) = omega arith in
      let y : from + (r.at - from) ≡ r.at = omega arith in
      record {
        passed = record { above = omega arith; within = k.passed.within; each = λ j u v. go j u v (dec_lt j r.at) };
        sum =
            omega (
              arith,
              i.sum,
              k.sum,
              ap (sum_of text from) x,
              sum_split text from (r.at - from) (q.at - r.at),
              ap (λ (m : ℕ). sum_of text m (q.at - r.at)) y,
            );
        few = omega (arith, i.few, k.few);
      }
    where
      go : (j : ℕ) → from ≤ j → j < q.at → Dec (j < r.at) → stop_for true (get_or text j 0) < look
      go j u v (yes w) = i.passed.each j u w
      go j u v (no w) = k.passed.each j (omega arith) v
