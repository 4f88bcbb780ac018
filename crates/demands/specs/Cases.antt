-- The small images, and the marked cases of docs/CASES.md.
--
--   Numbers                             an answer in the rules' numbers
--   numbers_of, hashtag_numbers_of         the numbers of an outcome: of the token list, of the list of hashtags
--   M, M2, P, N                         the small image, and three with a range or an entry more
--   K, K1, K2, K3, K4, K5, K6, K7, K8   images for lines, white space and direction marks
--   Case                                an image, a text, and the answer
--   cases, line_cases, mark_cases         the marked cases: of tokens; of lines; of white space and direction marks
--   hashtag_cases                        the marked cases of hashtags
use Rattle.std.specs.Prelude.{ℕ, ◌+◌, ◌*◌, ◌/◌, ◌%◌, List, [], ◌∷◌, ◌++◌, length}
use Rattle.refusal.specs.Refusal.{number_of, carried_by}
use Rattle.utf8.specs.Text.{Character}
use Rattle.grammar.specs.Scan.{Tok}
use Rattle.grammar.specs.Grammar.{Kind}
use Rattle.refusal.specs.Outcome.{Outcome, given, refused}
use Rattle.grammar.specs.Record.{listed_words}
use Rattle.hashtag.specs.Find.{Span}
use Rattle.hashtag.specs.Listed.{spans_words}

-- the words of the list, or a refusal's number and what it carries
pub data Numbers : Type 0 where
  words : List ℕ → Numbers
  refusal : ℕ → List ℕ → Numbers

abbrev pub numbers_of : List ℕ → Outcome (List (Tok Character Kind)) → Numbers
numbers_of text (given ts) = words (listed_words text ts)
numbers_of text (refused r) = refusal (number_of r) (carried_by r)

abbrev pub hashtag_numbers_of : List ℕ → Outcome (List Span) → Numbers
hashtag_numbers_of text (given ts) = words (spans_words text ts)
hashtag_numbers_of text (refused r) = refusal (number_of r) (carried_by r)

-- version 1,048,576; ranges 20-20 White, 2E-2E Syntax, 30-39 Nonstart, 41-5A Start, 61-7A Start; profile 2E role 3: 100 bytes
unfoldable pub M : List ℕ
M =
    0x01 ∷ 0x00 ∷ 0x00 ∷ 0x00 ∷ 0x00 ∷ 0x00 ∷ 0x10 ∷ 0x00 ∷ 0x64 ∷ 0x00 ∷ 0x00 ∷ 0x00 ∷ 0x05 ∷ 0x00 ∷ 0x00 ∷ 0x00
    ∷ 0x20 ∷ 0x00 ∷ 0x00 ∷ 0x00 ∷ 0x01 ∷ 0x00 ∷ 0x00 ∷ 0x00 ∷ 0x5C ∷ 0x00 ∷ 0x00 ∷ 0x00 ∷ 0x00 ∷ 0x00 ∷ 0x00 ∷ 0x00
    ∷ 0x20 ∷ 0x00 ∷ 0x00 ∷ 0x00 ∷ 0x20 ∷ 0x00 ∷ 0x00 ∷ 0x00 ∷ 0x04 ∷ 0x00 ∷ 0x00 ∷ 0x00
    ∷ 0x2E ∷ 0x00 ∷ 0x00 ∷ 0x00 ∷ 0x2E ∷ 0x00 ∷ 0x00 ∷ 0x00 ∷ 0x03 ∷ 0x00 ∷ 0x00 ∷ 0x00
    ∷ 0x30 ∷ 0x00 ∷ 0x00 ∷ 0x00 ∷ 0x39 ∷ 0x00 ∷ 0x00 ∷ 0x00 ∷ 0x02 ∷ 0x00 ∷ 0x00 ∷ 0x00
    ∷ 0x41 ∷ 0x00 ∷ 0x00 ∷ 0x00 ∷ 0x5A ∷ 0x00 ∷ 0x00 ∷ 0x00 ∷ 0x01 ∷ 0x00 ∷ 0x00 ∷ 0x00
    ∷ 0x61 ∷ 0x00 ∷ 0x00 ∷ 0x00 ∷ 0x7A ∷ 0x00 ∷ 0x00 ∷ 0x00 ∷ 0x01 ∷ 0x00 ∷ 0x00 ∷ 0x00
    ∷ 0x2E ∷ 0x00 ∷ 0x00 ∷ 0x00 ∷ 0x03 ∷ 0x00 ∷ 0x00 ∷ 0x00
    ∷ []

-- M with E9-E9 Start: 112 bytes
unfoldable pub M2 : List ℕ
M2 =
    0x01 ∷ 0x00 ∷ 0x00 ∷ 0x00 ∷ 0x00 ∷ 0x00 ∷ 0x10 ∷ 0x00 ∷ 0x70 ∷ 0x00 ∷ 0x00 ∷ 0x00 ∷ 0x06 ∷ 0x00 ∷ 0x00 ∷ 0x00
    ∷ 0x20 ∷ 0x00 ∷ 0x00 ∷ 0x00 ∷ 0x01 ∷ 0x00 ∷ 0x00 ∷ 0x00 ∷ 0x68 ∷ 0x00 ∷ 0x00 ∷ 0x00 ∷ 0x00 ∷ 0x00 ∷ 0x00 ∷ 0x00
    ∷ 0x20 ∷ 0x00 ∷ 0x00 ∷ 0x00 ∷ 0x20 ∷ 0x00 ∷ 0x00 ∷ 0x00 ∷ 0x04 ∷ 0x00 ∷ 0x00 ∷ 0x00
    ∷ 0x2E ∷ 0x00 ∷ 0x00 ∷ 0x00 ∷ 0x2E ∷ 0x00 ∷ 0x00 ∷ 0x00 ∷ 0x03 ∷ 0x00 ∷ 0x00 ∷ 0x00
    ∷ 0x30 ∷ 0x00 ∷ 0x00 ∷ 0x00 ∷ 0x39 ∷ 0x00 ∷ 0x00 ∷ 0x00 ∷ 0x02 ∷ 0x00 ∷ 0x00 ∷ 0x00
    ∷ 0x41 ∷ 0x00 ∷ 0x00 ∷ 0x00 ∷ 0x5A ∷ 0x00 ∷ 0x00 ∷ 0x00 ∷ 0x01 ∷ 0x00 ∷ 0x00 ∷ 0x00
    ∷ 0x61 ∷ 0x00 ∷ 0x00 ∷ 0x00 ∷ 0x7A ∷ 0x00 ∷ 0x00 ∷ 0x00 ∷ 0x01 ∷ 0x00 ∷ 0x00 ∷ 0x00
    ∷ 0xE9 ∷ 0x00 ∷ 0x00 ∷ 0x00 ∷ 0xE9 ∷ 0x00 ∷ 0x00 ∷ 0x00 ∷ 0x01 ∷ 0x00 ∷ 0x00 ∷ 0x00
    ∷ 0x2E ∷ 0x00 ∷ 0x00 ∷ 0x00 ∷ 0x03 ∷ 0x00 ∷ 0x00 ∷ 0x00
    ∷ []

-- the bytes of numbers, and of an image of version 1,048,576 with these words of ranges, three each, and of entries, two each
abbrev bytes : List ℕ → List ℕ
bytes [] = []
bytes (n ∷ ns) = (n % 256) ∷ (n / 256 % 256) ∷ (n / 65536 % 256) ∷ (n / 16777216) ∷ bytes ns

abbrev image_of : List ℕ → List ℕ → List ℕ
image_of ranges entries =
    let n = length ranges / 3 in
    let m = length entries / 2 in
    bytes (1 ∷ 1048576 ∷ (32 + 12 * n + 8 * m) ∷ n ∷ 32 ∷ m ∷ (32 + 12 * n) ∷ 0 ∷ []) ++ bytes ranges ++ bytes entries

-- the ranges of M
abbrev ranges_of_m : List ℕ
ranges_of_m = 0x20 ∷ 0x20 ∷ 4 ∷ 0x2E ∷ 0x2E ∷ 3 ∷ 0x30 ∷ 0x39 ∷ 2 ∷ 0x41 ∷ 0x5A ∷ 1 ∷ 0x61 ∷ 0x7A ∷ 1 ∷ []

-- M with these entries
abbrev with_entries : List ℕ → List ℕ
with_entries entries = image_of ranges_of_m entries

-- M with 5F role 5 added
unfoldable pub P : List ℕ
P = with_entries (0x2E ∷ 3 ∷ 0x5F ∷ 5 ∷ [])

-- M with 23 role 2 added
unfoldable pub N : List ℕ
N = with_entries (0x23 ∷ 2 ∷ 0x2E ∷ 3 ∷ [])

-- M with the ranges 0A-0D White, these, and 200E-200F White, and with these entries before its own
abbrev with_lines : List ℕ → List ℕ → List ℕ → List ℕ
with_lines next last entries = image_of (0x0A ∷ 0x0D ∷ 4 ∷ ranges_of_m ++ next ++ (0x200E ∷ 0x200F ∷ 4 ∷ last)) (entries ++ (0x2E ∷ 3 ∷ []))

-- M with the ranges 0A-0D White and 200E-200F of a class, and with these entries after its own
abbrev with_marks : ℕ → List ℕ → List ℕ
with_marks class entries = image_of (0x0A ∷ 0x0D ∷ 4 ∷ ranges_of_m ++ (0x200E ∷ 0x200F ∷ class ∷ [])) (0x2E ∷ 3 ∷ entries)

unfoldable pub K : List ℕ
K = with_lines [] [] []

-- K with 0A role 1
unfoldable pub K1 : List ℕ
K1 = with_lines [] [] (0x0A ∷ 1 ∷ [])

-- K with 85 and 2028-2029 Syntax
unfoldable pub K2 : List ℕ
K2 = with_lines (0x85 ∷ 0x85 ∷ 3 ∷ []) (0x2028 ∷ 0x2029 ∷ 3 ∷ []) []

-- 20 and 0A-0D White, and Start: a-z and the code points next to line ends, 00-09, 0E-1F, 84-86, 2027-202A and FEFF
unfoldable pub K3 : List ℕ
K3 =
    image_of
    (0x00 ∷ 0x09 ∷ 1 ∷ 0x0A ∷ 0x0D ∷ 4 ∷ 0x0E ∷ 0x1F ∷ 1 ∷ 0x20 ∷ 0x20 ∷ 4 ∷ 0x61 ∷ 0x7A ∷ 1 ∷ 0x84 ∷ 0x86 ∷ 1 ∷ 0x2027 ∷ 0x202A ∷ 1 ∷ 0xFEFF ∷ 0xFEFF ∷ 1 ∷ [])
    []

-- K with 200E role 3
unfoldable pub K4 : List ℕ
K4 = with_marks 4 (0x200E ∷ 3 ∷ [])

-- K with 200E-200F Syntax
unfoldable pub K5 : List ℕ
K5 = with_marks 3 []

-- Start a-z, and White: the line ends and the marks with the code points next to them, 09-0E, 84-86, 200D-2010 and 2027-202A
unfoldable pub K6 : List ℕ
K6 = image_of (0x09 ∷ 0x0E ∷ 4 ∷ 0x61 ∷ 0x7A ∷ 1 ∷ 0x84 ∷ 0x86 ∷ 4 ∷ 0x200D ∷ 0x2010 ∷ 4 ∷ 0x2027 ∷ 0x202A ∷ 4 ∷ []) []

-- K with 0A and 20 role 3
unfoldable pub K7 : List ℕ
K7 = with_lines [] [] (0x0A ∷ 3 ∷ 0x20 ∷ 3 ∷ [])

-- White, and neither line ends nor marks: 08, 1C, A0, 61C, 180E, 2007, 200B-200C, 202E, 2060, 2066, 2069, 3000 and FEFF
unfoldable pub K8 : List ℕ
K8 =
    image_of
    (0x08 ∷ 0x08 ∷ 4 ∷ 0x1C ∷ 0x1C ∷ 4 ∷ 0xA0 ∷ 0xA0 ∷ 4 ∷ 0x61C ∷ 0x61C ∷ 4 ∷ 0x180E ∷ 0x180E ∷ 4 ∷ 0x2007 ∷ 0x2007 ∷ 4 ∷ 0x200B ∷ 0x200C ∷ 4 ∷ 0x202E ∷ 0x202E ∷ 4 ∷ 0x2060 ∷ 0x2060 ∷ 4 ∷ 0x2066 ∷ 0x2066 ∷ 4 ∷ 0x2069 ∷ 0x2069 ∷ 4 ∷ 0x3000 ∷ 0x3000 ∷ 4 ∷ 0xFEFF ∷ 0xFEFF ∷ 4 ∷ [])
    []

pub record Case : Type 0 where
  pub image : List ℕ
  pub text : List ℕ
  pub answer : Numbers

abbrev on : List ℕ → List ℕ → Numbers → Case
on image text answer = record { image = image; text = text; answer = answer }

unfoldable pub cases : List Case
cases =
    on M [] (words [])
    ∷ on M (0x61 ∷ 0x62 ∷ 0x2E ∷ 0x63 ∷ 0x31 ∷ 0x20 ∷ 0x2E ∷ []) (words (1 ∷ 0 ∷ 5 ∷ 1 ∷ 3 ∷ 5 ∷ 6 ∷ 1 ∷ 2 ∷ 6 ∷ 7 ∷ 1 ∷ []))
    ∷ on M (0x61 ∷ 0x2E ∷ []) (words (1 ∷ 0 ∷ 1 ∷ 1 ∷ 2 ∷ 1 ∷ 2 ∷ 1 ∷ []))
    ∷ on M (0x61 ∷ 0x2E ∷ 0x2E ∷ 0x62 ∷ []) (words (1 ∷ 0 ∷ 1 ∷ 1 ∷ 2 ∷ 1 ∷ 2 ∷ 1 ∷ 2 ∷ 2 ∷ 3 ∷ 1 ∷ 1 ∷ 3 ∷ 4 ∷ 1 ∷ []))
    ∷ on M (0x2E ∷ 0x61 ∷ []) (words (2 ∷ 0 ∷ 1 ∷ 1 ∷ 1 ∷ 1 ∷ 2 ∷ 1 ∷ []))
    ∷ on M (0x31 ∷ 0x61 ∷ []) (refusal 7 (0 ∷ []))
    ∷ on M (0x61 ∷ 0x20 ∷ 0x31 ∷ []) (refusal 7 (2 ∷ []))
    ∷ on M (0xC0 ∷ 0x80 ∷ []) (refusal 6 (0 ∷ 1 ∷ []))
    ∷ on M (0x61 ∷ 0xE2 ∷ 0x82 ∷ []) (refusal 6 (1 ∷ 2 ∷ []))
    ∷ on M (0x61 ∷ 0xED ∷ 0xA0 ∷ 0x80 ∷ []) (refusal 6 (1 ∷ 1 ∷ []))
    ∷ on M (0xF4 ∷ 0x90 ∷ 0x80 ∷ 0x80 ∷ []) (refusal 6 (0 ∷ 1 ∷ []))
    ∷ on M (0x61 ∷ 0xC3 ∷ 0xA9 ∷ []) (refusal 7 (1 ∷ []))
    ∷ on M2 (0x61 ∷ 0xC3 ∷ 0xA9 ∷ []) (words (1 ∷ 0 ∷ 3 ∷ 1 ∷ []))
    ∷ on P (0x5F ∷ []) (refusal 7 (0 ∷ []))
    ∷ []

unfoldable pub line_cases : List Case
line_cases =
    on K (0x61 ∷ 0x0D ∷ 0x0A ∷ 0x62 ∷ []) (words (1 ∷ 0 ∷ 1 ∷ 1 ∷ 4 ∷ 1 ∷ 3 ∷ 1 ∷ 1 ∷ 3 ∷ 4 ∷ 2 ∷ []))
    ∷ on K (0x0D ∷ 0x0D ∷ 0x0A ∷ 0x61 ∷ []) (words (4 ∷ 0 ∷ 3 ∷ 1 ∷ 1 ∷ 3 ∷ 4 ∷ 3 ∷ []))
    ∷ on K (0x0A ∷ 0x0D ∷ 0x61 ∷ []) (words (4 ∷ 0 ∷ 2 ∷ 1 ∷ 1 ∷ 2 ∷ 3 ∷ 3 ∷ []))
    ∷ on K (0x0B ∷ 0x61 ∷ 0x0C ∷ 0x62 ∷ 0x0D ∷ []) (words (4 ∷ 0 ∷ 1 ∷ 1 ∷ 1 ∷ 1 ∷ 2 ∷ 2 ∷ 4 ∷ 2 ∷ 3 ∷ 2 ∷ 1 ∷ 3 ∷ 4 ∷ 3 ∷ 4 ∷ 4 ∷ 5 ∷ 3 ∷ []))
    ∷ on K1 (0x0D ∷ 0x0A ∷ 0x62 ∷ 0x20 ∷ []) (words (4 ∷ 0 ∷ 1 ∷ 1 ∷ 1 ∷ 1 ∷ 3 ∷ 1 ∷ 3 ∷ 3 ∷ 4 ∷ 2 ∷ []))
    ∷ on K1 (0x61 ∷ 0x0A ∷ 0x62 ∷ 0x20 ∷ []) (words (1 ∷ 0 ∷ 3 ∷ 1 ∷ 3 ∷ 3 ∷ 4 ∷ 2 ∷ []))
    ∷ on K2 (0xE2 ∷ 0x80 ∷ 0xA8 ∷ 0x61 ∷ []) (words (2 ∷ 0 ∷ 3 ∷ 1 ∷ 1 ∷ 3 ∷ 4 ∷ 2 ∷ []))
    ∷ on K (0x0B ∷ 0x0A ∷ 0x0C ∷ 0x0A ∷ 0x0A ∷ 0x61 ∷ []) (words (4 ∷ 0 ∷ 5 ∷ 1 ∷ 1 ∷ 5 ∷ 6 ∷ 6 ∷ []))
    ∷ on K2 (0x0D ∷ 0xC2 ∷ 0x85 ∷ 0x0A ∷ 0xE2 ∷ 0x80 ∷ 0xA8 ∷ 0x0A ∷ [])
    (words (4 ∷ 0 ∷ 1 ∷ 1 ∷ 2 ∷ 1 ∷ 3 ∷ 2 ∷ 4 ∷ 3 ∷ 4 ∷ 3 ∷ 2 ∷ 4 ∷ 7 ∷ 4 ∷ 4 ∷ 7 ∷ 8 ∷ 5 ∷ []))
    ∷ on K3 (0x00 ∷ 0x09 ∷ 0x0E ∷ 0x1C ∷ 0x1D ∷ 0x1E ∷ 0x1F ∷ 0xC2 ∷ 0x84 ∷ 0xC2 ∷ 0x86 ∷ 0xE2 ∷ 0x80 ∷ 0xA7 ∷ 0xE2 ∷ 0x80 ∷ 0xAA ∷ 0xEF ∷ 0xBB ∷ 0xBF ∷ 0x20 ∷ [])
    (words (1 ∷ 0 ∷ 20 ∷ 1 ∷ 3 ∷ 20 ∷ 21 ∷ 1 ∷ []))
    ∷ on K2 (0xC2 ∷ 0x85 ∷ 0x61 ∷ 0xE2 ∷ 0x80 ∷ 0xA9 ∷ 0x62 ∷ []) (words (2 ∷ 0 ∷ 2 ∷ 1 ∷ 1 ∷ 2 ∷ 3 ∷ 2 ∷ 2 ∷ 3 ∷ 6 ∷ 2 ∷ 1 ∷ 6 ∷ 7 ∷ 3 ∷ []))
    ∷ []

-- the bytes of the two marks before a text
abbrev left : List ℕ → List ℕ
left text = 0xE2 ∷ 0x80 ∷ 0x8E ∷ text

abbrev right : List ℕ → List ℕ
right text = 0xE2 ∷ 0x80 ∷ 0x8F ∷ text

unfoldable pub mark_cases : List Case
mark_cases =
    on K (0x61 ∷ left (0x62 ∷ [])) (refusal 14 (1 ∷ []))
    ∷ on K (0x61 ∷ left (right (0x62 ∷ []))) (refusal 14 (1 ∷ []))
    ∷ on K (0x61 ∷ left (0x2E ∷ 0x62 ∷ [])) (refusal 14 (1 ∷ []))
    ∷ on K (0x61 ∷ 0x2E ∷ left (0x62 ∷ [])) (refusal 14 (2 ∷ []))
    ∷ on K (0x2E ∷ left (0x62 ∷ [])) (words (2 ∷ 0 ∷ 1 ∷ 1 ∷ 5 ∷ 1 ∷ 4 ∷ 1 ∷ 1 ∷ 4 ∷ 5 ∷ 1 ∷ []))
    ∷ on K (0x61 ∷ left (0x2E ∷ [])) (words (1 ∷ 0 ∷ 1 ∷ 1 ∷ 5 ∷ 1 ∷ 4 ∷ 1 ∷ 2 ∷ 4 ∷ 5 ∷ 1 ∷ []))
    ∷ on K (left (0x61 ∷ left [])) (words (5 ∷ 0 ∷ 3 ∷ 1 ∷ 1 ∷ 3 ∷ 4 ∷ 1 ∷ 5 ∷ 4 ∷ 7 ∷ 1 ∷ []))
    ∷ on K (0x61 ∷ 0x20 ∷ left (0x62 ∷ [])) (words (1 ∷ 0 ∷ 1 ∷ 1 ∷ 3 ∷ 1 ∷ 2 ∷ 1 ∷ 5 ∷ 2 ∷ 5 ∷ 1 ∷ 1 ∷ 5 ∷ 6 ∷ 1 ∷ []))
    ∷ on K (0x61 ∷ left (0x2E ∷ left (0x62 ∷ []))) (words (1 ∷ 0 ∷ 1 ∷ 1 ∷ 5 ∷ 1 ∷ 4 ∷ 1 ∷ 2 ∷ 4 ∷ 5 ∷ 1 ∷ 5 ∷ 5 ∷ 8 ∷ 1 ∷ 1 ∷ 8 ∷ 9 ∷ 1 ∷ []))
    ∷ on K (0x61 ∷ 0x2E ∷ 0x2E ∷ left (0x62 ∷ [])) (words (1 ∷ 0 ∷ 1 ∷ 1 ∷ 2 ∷ 1 ∷ 2 ∷ 1 ∷ 2 ∷ 2 ∷ 3 ∷ 1 ∷ 5 ∷ 3 ∷ 6 ∷ 1 ∷ 1 ∷ 6 ∷ 7 ∷ 1 ∷ []))
    ∷ on K (0x61 ∷ 0x0A ∷ left (0x62 ∷ [])) (words (1 ∷ 0 ∷ 1 ∷ 1 ∷ 4 ∷ 1 ∷ 2 ∷ 1 ∷ 5 ∷ 2 ∷ 5 ∷ 2 ∷ 1 ∷ 5 ∷ 6 ∷ 2 ∷ []))
    ∷ on K (0x61 ∷ left (0x0A ∷ 0x62 ∷ [])) (words (1 ∷ 0 ∷ 1 ∷ 1 ∷ 5 ∷ 1 ∷ 4 ∷ 1 ∷ 4 ∷ 4 ∷ 5 ∷ 1 ∷ 1 ∷ 5 ∷ 6 ∷ 2 ∷ []))
    ∷ on K (0x20 ∷ 0x0A ∷ left (0x20 ∷ [])) (words (3 ∷ 0 ∷ 1 ∷ 1 ∷ 4 ∷ 1 ∷ 2 ∷ 1 ∷ 5 ∷ 2 ∷ 5 ∷ 2 ∷ 3 ∷ 5 ∷ 6 ∷ 2 ∷ []))
    ∷ on K (0x2E ∷ left (0x61 ∷ left (0x62 ∷ left (0x63 ∷ [])))) (refusal 14 (5 ∷ []))
    ∷ on K (0x61 ∷ left (0x31 ∷ [])) (refusal 7 (4 ∷ []))
    ∷ on K (0x61 ∷ left (0x2E ∷ 0x31 ∷ [])) (refusal 7 (5 ∷ []))
    ∷ on K (0x61 ∷ left (0x62 ∷ 0x25 ∷ [])) (refusal 7 (5 ∷ []))
    ∷ on K (0x61 ∷ left (0x62 ∷ 0xC0 ∷ [])) (refusal 6 (5 ∷ 1 ∷ []))
    ∷ on K (0x0A ∷ left (0x0A ∷ [])) (words (4 ∷ 0 ∷ 1 ∷ 1 ∷ 5 ∷ 1 ∷ 4 ∷ 2 ∷ 4 ∷ 4 ∷ 5 ∷ 2 ∷ []))
    ∷ on K7 (0x61 ∷ 0x20 ∷ left (0x62 ∷ [])) (words (1 ∷ 0 ∷ 1 ∷ 1 ∷ 3 ∷ 1 ∷ 2 ∷ 1 ∷ 5 ∷ 2 ∷ 5 ∷ 1 ∷ 1 ∷ 5 ∷ 6 ∷ 1 ∷ []))
    ∷ on K7 (0x61 ∷ left (0x20 ∷ 0x62 ∷ [])) (words (1 ∷ 0 ∷ 1 ∷ 1 ∷ 5 ∷ 1 ∷ 4 ∷ 1 ∷ 3 ∷ 4 ∷ 5 ∷ 1 ∷ 1 ∷ 5 ∷ 6 ∷ 1 ∷ []))
    ∷ on K7 (0x61 ∷ 0x0A ∷ left (0x62 ∷ [])) (words (1 ∷ 0 ∷ 1 ∷ 1 ∷ 4 ∷ 1 ∷ 2 ∷ 1 ∷ 5 ∷ 2 ∷ 5 ∷ 2 ∷ 1 ∷ 5 ∷ 6 ∷ 2 ∷ []))
    ∷ on K7 (0x61 ∷ left (0x0A ∷ 0x62 ∷ [])) (words (1 ∷ 0 ∷ 1 ∷ 1 ∷ 5 ∷ 1 ∷ 4 ∷ 1 ∷ 4 ∷ 4 ∷ 5 ∷ 1 ∷ 1 ∷ 5 ∷ 6 ∷ 2 ∷ []))
    ∷ on K4 (0x61 ∷ left (0x62 ∷ [])) (words (1 ∷ 0 ∷ 5 ∷ 1 ∷ []))
    ∷ on K4 (0x61 ∷ left (left (0x62 ∷ []))) (refusal 14 (1 ∷ []))
    ∷ on K5 (0x61 ∷ left (0x62 ∷ [])) (words (1 ∷ 0 ∷ 1 ∷ 1 ∷ 2 ∷ 1 ∷ 4 ∷ 1 ∷ 1 ∷ 4 ∷ 5 ∷ 1 ∷ []))
    ∷ on K6 (0xE2 ∷ 0x80 ∷ 0x8D ∷ left (right (0xE2 ∷ 0x80 ∷ 0x90 ∷ []))) (words (3 ∷ 0 ∷ 3 ∷ 1 ∷ 5 ∷ 3 ∷ 9 ∷ 1 ∷ 3 ∷ 9 ∷ 12 ∷ 1 ∷ []))
    ∷ on K6 (0x61 ∷ 0xE2 ∷ 0x80 ∷ 0x8D ∷ 0x62 ∷ []) (words (1 ∷ 0 ∷ 1 ∷ 1 ∷ 3 ∷ 1 ∷ 4 ∷ 1 ∷ 1 ∷ 4 ∷ 5 ∷ 1 ∷ []))
    ∷ on K6 (0x09 ∷ 0x0A ∷ 0x0D ∷ 0x0E ∷ []) (words (3 ∷ 0 ∷ 1 ∷ 1 ∷ 4 ∷ 1 ∷ 3 ∷ 1 ∷ 3 ∷ 3 ∷ 4 ∷ 3 ∷ []))
    ∷ on K6 (0xC2 ∷ 0x84 ∷ 0xC2 ∷ 0x85 ∷ 0xC2 ∷ 0x86 ∷ []) (words (3 ∷ 0 ∷ 2 ∷ 1 ∷ 4 ∷ 2 ∷ 4 ∷ 1 ∷ 3 ∷ 4 ∷ 6 ∷ 2 ∷ []))
    ∷ on K6 (0xE2 ∷ 0x80 ∷ 0xA7 ∷ 0xE2 ∷ 0x80 ∷ 0xA8 ∷ 0xE2 ∷ 0x80 ∷ 0xA9 ∷ 0xE2 ∷ 0x80 ∷ 0xAA ∷ []) (words (3 ∷ 0 ∷ 3 ∷ 1 ∷ 4 ∷ 3 ∷ 9 ∷ 1 ∷ 3 ∷ 9 ∷ 12 ∷ 3 ∷ []))
    ∷ on K8
    (0x08 ∷ 0x1C ∷ 0xC2 ∷ 0xA0 ∷ 0xD8 ∷ 0x9C ∷ 0xE1 ∷ 0xA0 ∷ 0x8E ∷ 0xE2 ∷ 0x80 ∷ 0x87 ∷ 0xE2 ∷ 0x80 ∷ 0x8B ∷ 0xE2 ∷ 0x80 ∷ 0x8C ∷ 0xE2 ∷ 0x80 ∷ 0xAE ∷ 0xE2 ∷ 0x81 ∷ 0xA0 ∷ 0xE2 ∷ 0x81 ∷ 0xA6 ∷ 0xE2 ∷ 0x81 ∷ 0xA9 ∷ 0xE3 ∷ 0x80 ∷ 0x80 ∷ 0xEF ∷ 0xBB ∷ 0xBF ∷ [])
    (words (3 ∷ 0 ∷ 36 ∷ 1 ∷ []))
    ∷ []

unfoldable pub hashtag_cases : List Case
hashtag_cases =
    on P [] (words [])
    ∷ on P (0x23 ∷ []) (words [])
    ∷ on P (0x61 ∷ 0x23 ∷ 0x62 ∷ []) (words [])
    ∷ on P (0x23 ∷ 0x23 ∷ 0x61 ∷ []) (words (6 ∷ 1 ∷ 3 ∷ 1 ∷ []))
    ∷ on P (0x23 ∷ 0x31 ∷ 0x2E ∷ 0x78 ∷ []) (words (6 ∷ 0 ∷ 2 ∷ 1 ∷ []))
    ∷ on P (0x23 ∷ 0x5F ∷ 0x20 ∷ 0x5F ∷ 0x23 ∷ 0x61 ∷ []) (words (6 ∷ 0 ∷ 2 ∷ 1 ∷ []))
    ∷ on P (0x23 ∷ 0x61 ∷ 0x23 ∷ 0x62 ∷ []) (words (6 ∷ 0 ∷ 2 ∷ 1 ∷ []))
    ∷ on P (0x61 ∷ 0x2E ∷ 0x23 ∷ 0x62 ∷ 0x20 ∷ 0x23 ∷ []) (words (6 ∷ 2 ∷ 4 ∷ 1 ∷ []))
    ∷ on P (0x25 ∷ 0x23 ∷ 0x61 ∷ 0x25 ∷ []) (words (6 ∷ 1 ∷ 3 ∷ 1 ∷ []))
    ∷ on P (0xEF ∷ 0xBC ∷ 0x83 ∷ 0x61 ∷ 0x20 ∷ 0xEF ∷ 0xB9 ∷ 0x9F ∷ 0x31 ∷ []) (words (6 ∷ 0 ∷ 4 ∷ 1 ∷ 6 ∷ 5 ∷ 9 ∷ 1 ∷ []))
    ∷ on N (0x23 ∷ 0x23 ∷ 0x61 ∷ []) (words (6 ∷ 1 ∷ 3 ∷ 1 ∷ []))
    ∷ on P (0x0D ∷ 0x0A ∷ 0x23 ∷ 0x61 ∷ 0x0D ∷ 0x23 ∷ 0x62 ∷ []) (words (6 ∷ 2 ∷ 4 ∷ 2 ∷ 6 ∷ 5 ∷ 7 ∷ 3 ∷ []))
    ∷ on (with_entries (0x0A ∷ 5 ∷ [])) (0x23 ∷ 0x61 ∷ 0x0A ∷ 0x62 ∷ 0x20 ∷ 0x23 ∷ 0x63 ∷ []) (words (6 ∷ 0 ∷ 4 ∷ 1 ∷ 6 ∷ 5 ∷ 7 ∷ 2 ∷ []))
    ∷ on P (0x23 ∷ 0x61 ∷ 0xE2 ∷ 0x82 ∷ []) (refusal 6 (2 ∷ 2 ∷ []))
    ∷ on (with_entries (0x2E ∷ 3 ∷ 0x5F ∷ 6 ∷ [])) (0x23 ∷ 0x61 ∷ []) (refusal 4 (1 ∷ []))
    ∷ []
