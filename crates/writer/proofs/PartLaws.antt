-- The ranges of a list of words are its words, and an image is its header, its ranges and its entries, one after the other.
-- Assumes nothing.
use Prim.Native.Nat.{ℕ, zero, suc, ◌+◌, ◌*◌, ◌≤◌}
use mathlib.Core.Path.{◌≡◌, refl, sym, ap, ◌∙◌}
use mathlib.Core.List.{List, [], ◌∷◌, ◌++◌, append_assoc}
use native.Mathlib.Nat.{add-zero}
use native.Mathlib.Omega.{arith}
use lib.ListN.{length, drop, get_or, length-append, length-drop, drop_of_length-le}
use lib.Seq.{get_or-drop, drop-drop}
use Rattle.lists.specs.Each.{each, each_from}
use Rattle.lists.proofs.EachLaws.{length-each}
use Rattle.image.specs.declared.Profile.{Profile}
use Rattle.image.specs.Limits.{words_per_range}
use Rattle.image.specs.Header.{image_end}
use Rattle.image.specs.Ranges.{range_in, range_words}
use Rattle.image.specs.Image.{header_words, entry_words, image_words, bytes_of_all, image_of}
use Rattle.writer.specs.Write.{ranges_in}
use Rattle.writer.specs.Writable.{Shaped}
use Rattle.writer.proofs.WordLaws.{length_all, all_append}

three : (l : List ℕ) → 3 ≤ length l → l ≡ get_or l 0 0 ∷ get_or l 1 0 ∷ get_or l 2 0 ∷ drop 3 l
three [] h = absurd (omega arith)
three (x ∷ []) h = absurd (omega arith)
three (x ∷ y ∷ []) h = absurd (omega arith)
three (x ∷ y ∷ z ∷ l) h = refl

three_from : (l : List ℕ) (i : ℕ) → i + 3 ≤ length l → drop i l ≡ get_or l i 0 ∷ get_or l (i + 1) 0 ∷ get_or l (i + 2) 0 ∷ drop (i + 3) l
three_from l i h = three (drop i l) (rw length-drop (omega arith)) ∙ simp (get_or-drop, drop-drop, add-zero)

-- the words of range i of a list of words
abbrev pub words_of : List ℕ → ℕ → List ℕ
words_of words i = range_words (range_in words i)

words_from : (words : List ℕ) (k i : ℕ) → length words ≡ words_per_range * (i + k) → each_from (words_of words) k i ≡ drop (words_per_range * i) words
unfolding each_from range_in
words_from words zero i h = let z : length words ≤ words_per_range * i = omega arith in sym (drop_of_length-le words z)
words_from words (suc k) i h =
    let r = words_from words k (suc i) (omega arith) in
    let z : words_per_range * suc i ≡ words_per_range * i + words_per_range = omega arith in
    ap (λ (l : List ℕ). words_of words i ++ l) (r ∙ ap (λ (j : ℕ). drop j words) z) ∙ sym (three_from words (words_per_range * i) (omega arith))

pub whole : (words : List ℕ) → Shaped words → length words ≡ words_per_range * ranges_in words
whole words e = omega arith

-- the words of all ranges are the words
pub words_back : (words : List ℕ) → Shaped words → each (words_of words) (ranges_in words) ≡ words
unfolding each
words_back words e = let w = whole words e in words_from words (ranges_in words) 0 (omega arith)

module _ (version : ℕ) (words : List ℕ) (p : Profile) (e : Shaped words) where
  abbrev header : List ℕ
  header = header_words version (ranges_in words) p.used

  abbrev entries : List ℕ
  entries = each (entry_words p) p.used

  -- the image's numbers: those of the header, the words, and the entries
  pub image_words_lem : image_words version (range_in words) (ranges_in words) p ≡ header ++ (words ++ entries)
  unfolding image_words
  image_words_lem = ap (λ (l : List ℕ). header ++ (l ++ entries)) (words_back words e)

  -- its bytes
  pub image_parts : image_of version (range_in words) (ranges_in words) p ≡ (bytes_of_all header ++ bytes_of_all words) ++ bytes_of_all entries
  unfolding image_of
  image_parts =
      ap bytes_of_all image_words_lem
      ∙ all_append header (words ++ entries)
      ∙ ap (λ (l : List ℕ). bytes_of_all header ++ l) (all_append words entries)
      ∙ sym (append_assoc (bytes_of_all header) (bytes_of_all words) (bytes_of_all entries))

  pub length_entries : length entries ≡ 2 * p.used
  length_entries = length-each (entry_words p) 2 (λ i. refl) p.used

  pub length_words : length (image_words version (range_in words) (ranges_in words) p) ≡ 8 + words_per_range * ranges_in words + 2 * p.used
  length_words =
      let w = whole words e in
      let l = length_entries in
      ap length image_words_lem ∙ (let n = length-append words entries in omega arith)

  pub length_image : length (image_of version (range_in words) (ranges_in words) p) ≡ image_end (ranges_in words) p.used
  unfolding image_of
  length_image = let l = length_words in length_all (image_words version (range_in words) (ranges_in words) p) ∙ omega arith
