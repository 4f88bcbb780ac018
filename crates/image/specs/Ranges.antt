-- Ranges of code points with a class (docs/RULES.md, "The class image"; refusal 3).
-- Ranges are given by a function of the index, so that the same rules serve the bytes of an image and a list of words.
use Rattle.std.specs.Prelude.{ℕ, ◌+◌, ◌-◌, ◌*◌, List, [], ◌∷◌, Bool, not, ◌&&◌, ◌||◌, cond, leb, ltb, eqb, get_or}
use Rattle.lists.specs.First.{first_where}
use Rattle.image.specs.Word.{word_at}
use Rattle.image.specs.Limits.{header_bytes, range_bytes, words_per_range, first_class, last_class, last_code_point, first_surrogate, last_surrogate}
use Rattle.image.specs.declared.Range.{Range}

-- range i of an image
unfoldable pub range_at : List ℕ → ℕ → Range
range_at s i =
    let at = header_bytes + range_bytes * i in
    record { first = word_at s at; last = word_at s (at + 4); class = word_at s (at + 8) }

-- range i of a list of words, three each
unfoldable pub range_in : List ℕ → ℕ → Range
range_in w i =
    let at = words_per_range * i in
    record { first = get_or w at 0; last = get_or w (at + 1) 0; class = get_or w (at + 2) 0 }

-- a range's three words
abbrev pub range_words : Range → List ℕ
range_words r = r.first ∷ r.last ∷ r.class ∷ []

-- first ≤ last ≤ 10FFFF, none of D800 to DFFF, class 1 to 5
unfoldable pub good_alone : Range → Bool
good_alone r =
    leb r.first r.last
    && (leb r.last last_code_point
    && ((ltb last_surrogate r.first || ltb r.last first_surrogate)
    && (leb first_class r.class && leb r.class last_class)))

-- r begins after the end of p, and doesn't touch p where their classes are the same
unfoldable pub follows : Range → Range → Bool
follows p r = ltb p.last r.first && (not (eqb r.class p.class) || not (eqb (p.last + 1) r.first))

unfoldable pub good_range : (ℕ → Range) → ℕ → Bool
good_range at i = good_alone (at i) && (eqb i 0 || follows (at (i - 1)) (at i))

-- the index of the first bad range of n, or n
unfoldable pub first_bad_range : (ℕ → Range) → ℕ → ℕ
first_bad_range at n = first_where (λ (i : ℕ). not (good_range at i)) n

abbrev pub holds : Range → ℕ → Bool
holds r x = leb r.first x && leb x r.last

-- the class of the range that holds x, of n ranges; 0 where none does
unfoldable pub class_in : (ℕ → Range) → ℕ → ℕ → ℕ
class_in at n x =
    let i = first_where (λ (i : ℕ). holds (at i) x) n in
    cond (ltb i n) (at i).class 0
