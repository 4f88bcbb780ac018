-- The bytes of numbers: lengths, joining, one number at a time, and the numbers read from bytes. Assumes nothing.
use Prim.Native.Nat.{ℕ, zero, suc, ◌+◌, ◌*◌, ◌/◌, ◌%◌, ◌≤◌, ◌<◌}
use mathlib.Core.Path.{◌≡◌, refl, sym, ap, ◌∙◌}
use mathlib.Core.List.{List, [], ◌∷◌, ◌++◌, append_assoc}
use native.Mathlib.Nat.{add-zero, add_assoc, mul-zero, mul-suc, div-div-eq-div-mul, mod-add-div, mod-eq_of_lt}
use native.Mathlib.Omega.{arith}
use lib.ListN.{length, take, drop, get_or, length-append, length-drop, drop_of_length-le}
use lib.Seq.{drop-cons, drop-drop, take-add, get_or-drop, get_or-append-add}
use Rattle.lists.specs.Each.{each_from}
use Rattle.utf8.proofs.TableLaws.{four_bytes}
use Rattle.image.specs.Word.{AllBytes, IsWord, word_at, bytes_of, join_of}
use Rattle.image.specs.Image.{bytes_of_all}

pub length_four : (w : ℕ) → length (bytes_of w) ≡ 4
unfolding bytes_of
length_four w = refl

pub length_all : (ws : List ℕ) → length (bytes_of_all ws) ≡ 4 * length ws
unfolding bytes_of_all
length_all [] = refl
length_all (w ∷ ws) = let h = length_all ws in simp (length-append, length_four) (omega arith)

pub all_append : (a b : List ℕ) → bytes_of_all (a ++ b) ≡ bytes_of_all a ++ bytes_of_all b
unfolding bytes_of_all
all_append [] b = refl
all_append (w ∷ a) b = let h = all_append a b in rw (h, append_assoc)

-- the bytes of numbers, and of lists of numbers, index by index
pub bytes_each_word : (ws : List ℕ) (k i : ℕ) → i + k ≡ length ws → each_from (λ (j : ℕ). bytes_of (get_or ws j 0)) k i ≡ bytes_of_all (drop i ws)
unfolding bytes_of_all each_from
bytes_each_word ws zero i e = let h : length ws ≤ i = omega arith in rw drop_of_length-le
bytes_each_word ws (suc k) i e =
    let h : i < length ws = omega arith in
    rw (drop-cons ws i 0) (ap (λ (l : List ℕ). bytes_of (get_or ws i 0) ++ l) (bytes_each_word ws k (suc i) (omega arith)))

pub bytes_each_list : (f : ℕ → List ℕ) (k i : ℕ) → each_from (λ (j : ℕ). bytes_of_all (f j)) k i ≡ bytes_of_all (each_from f k i)
unfolding bytes_of_all each_from
bytes_each_list f zero i = refl
bytes_each_list f (suc k) i = rw (all_append, bytes_each_list f k (suc i))

regroup :
    (w a b c d q r t : ℕ) → a + 0x100 * q ≡ w → b + 0x100 * r ≡ q → c + 0x100 * t ≡ r → d ≡ t → join_of a b c d ≡ w
regroup w a b c d q r t e f g h = omega arith

-- four bytes make the number that has them
join_four : (w : ℕ) → IsWord w → join_of (w % 0x100) (w / 0x100 % 0x100) (w / 0x10000 % 0x100) (w / 0x1000000 % 0x100) ≡ w
join_four w h =
    let q = w / 0x100 in
    let r = w / 0x10000 in
    let t = w / 0x1000000 in
    let small : t < 0x100 = omega arith in
    regroup w _ _ _ _ q r t (mod-add-div w 0x100)
    (ap (λ (x : ℕ). q % 0x100 + 0x100 * x) (sym (div-div-eq-div-mul w 0x100 0x100)) ∙ mod-add-div q 0x100)
    (ap (λ (x : ℕ). r % 0x100 + 0x100 * x) (sym (div-div-eq-div-mul w 0x10000 0x100)) ∙ mod-add-div r 0x100)
    (mod-eq_of_lt small)

-- and the bytes of that number are the four
byte_0 : (a b c d : ℕ) → a < 0x100 → join_of a b c d % 0x100 ≡ a
byte_0 a b c d ha = omega arith

byte_1 : (a b c d : ℕ) → a < 0x100 → b < 0x100 → join_of a b c d / 0x100 % 0x100 ≡ b
byte_1 a b c d ha hb = omega arith

byte_2 : (a b c d : ℕ) → a < 0x100 → b < 0x100 → c < 0x100 → join_of a b c d / 0x10000 % 0x100 ≡ c
byte_2 a b c d ha hb hc = omega arith

byte_3 : (a b c d : ℕ) → a < 0x100 → b < 0x100 → c < 0x100 → d < 0x100 → join_of a b c d / 0x1000000 % 0x100 ≡ d
byte_3 a b c d ha hb hc hd = omega arith

bytes_join : (a b c d : ℕ) → a < 0x100 → b < 0x100 → c < 0x100 → d < 0x100 → bytes_of (join_of a b c d) ≡ a ∷ b ∷ c ∷ d ∷ []
unfolding bytes_of
bytes_join a b c d ha hb hc hd =
    λ x. byte_0 a b c d ha x ∷ byte_1 a b c d ha hb x ∷ byte_2 a b c d ha hb hc x ∷ byte_3 a b c d ha hb hc hd x ∷ []

-- a number after others
word_past : (p s : List ℕ) (i : ℕ) → word_at (p ++ s) (length p + i) ≡ word_at s i
unfolding word_at
word_past p s i = simp (add_assoc, get_or-append-add)

word_front : (v : ℕ) (s : List ℕ) → IsWord v → word_at (bytes_of v ++ s) 0 ≡ v
unfolding word_at bytes_of
word_front v s l = join_four v l

-- the number at index i, read from the bytes
pub word_is : (ws : List ℕ) (i v : ℕ) → i < length ws → get_or ws i 0 ≡ v → IsWord v → word_at (bytes_of_all ws) (4 * i) ≡ v
unfolding bytes_of_all
word_is [] i v h e l = absurd (omega arith)
word_is (w ∷ ws) zero v h e l = rw e (word_front v (bytes_of_all ws) l)
word_is (w ∷ ws) (suc i) v h e l =
    let z : 4 * suc i ≡ length (bytes_of w) + 4 * i = omega (arith, length_four w) in
    ap (word_at (bytes_of w ++ bytes_of_all ws)) z ∙ word_past (bytes_of w) (bytes_of_all ws) (4 * i) ∙ word_is ws i v (omega arith) e l

-- k numbers from byte i on
abbrev pub words_from : List ℕ → ℕ → ℕ → List ℕ
words_from s zero i = []
words_from s (suc k) i = word_at s i ∷ words_from s k (i + 4)

module _ (s : List ℕ) (b : AllBytes s) where
  bytes_four : (i : ℕ) → i + 4 ≤ length s → bytes_of (word_at s i) ≡ take 4 (drop i s)
  unfolding word_at
  bytes_four i h =
      bytes_join (get_or s i 0) (get_or s (i + 1) 0) (get_or s (i + 2) 0) (get_or s (i + 3) 0) (b i) (b (i + 1)) (b (i + 2)) (b (i + 3))
      ∙ sym (four_bytes (drop i s) (rw length-drop (omega arith)) ∙ simp (get_or-drop, add-zero))

  -- their bytes are those of the list
  pub bytes_from : (k i : ℕ) → i + 4 * k ≤ length s → bytes_of_all (words_from s k i) ≡ take (4 * k) (drop i s)
  unfolding bytes_of_all
  bytes_from zero i h = refl
  bytes_from (suc k) i h =
      let z : 4 * suc k ≡ 4 + 4 * k = omega arith in
      let f = bytes_four i (omega arith) in
      let r = bytes_from k (i + 4) (omega arith) in
      rw (z, take-add, drop-drop, f, r)

  -- records of k numbers, w bytes each, one after the other from byte `base` on
  module _ (f : ℕ → List ℕ) (k w base : ℕ) (wide : 4 * k ≡ w) (e : (j : ℕ) → f j ≡ words_from s k (base + w * j)) where
    pub bytes_each : (n i at : ℕ) → base + w * i ≡ at → at + w * n ≤ length s → bytes_of_all (each_from f n i) ≡ take (w * n) (drop at s)
    unfolding bytes_of_all each_from
    bytes_each zero i at a h = rw mul-zero
    bytes_each (suc n) i at a h =
        let z : w * suc n ≡ w + w * n = omega (arith, mul-suc w n) in
        let q : bytes_of_all (f i) ≡ take w (drop at s) =
        ap bytes_of_all (e i ∙ ap (words_from s k) a) ∙ bytes_from k at (omega arith) ∙ ap (λ (x : ℕ). take x (drop at s)) wide in
        let r = bytes_each n (suc i) (at + w) (omega (arith, mul-suc w i)) (omega arith) in
        all_append (f i) (each_from f n (suc i)) ∙ rw (z, take-add, drop-drop, q, r)
