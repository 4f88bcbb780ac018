-- The numbers and small tables of docs/RULES.md, each beside what the definitions give. A definition and the code that meets it can be
-- changed together and stay proved; the rows here then fail. `proofs/TablesHold.antt` computes them.
--
--   Limits, TextLimits, Sizes      "The class image", "Tokens": limits, and the sizes of records
--   HeaderPlaces, HeaderWords      the header: the byte of each word; the words in order, and what is right
--   ClassNumbers, RoleEffects      the classes; the roles, and what each does to each class
--   RangesJudged, EntriesJudged    good and bad ranges and profile entries
--   Lookups                        "Lookup and its count": M's, and the most steps
--   KindNumbers, TokensGoOn        "Tokens": the kinds; what begins a token, and what goes on with it
--   RecordWords, Rooms             the words of each record; room
--   CodePoints, Lines              line ends, direction marks and signs; the kinds of White; CR LF
--   HashtagContinues               "Hashtags"
--   RefusalNumbers                 "Named refusals": numbers, and what each carries
--   ImageReplies, TokenReplies     "The calls", from C
--   PermittedChanges               "Permitted changes"
--   ScalarValues, Subparts         "UTF-8 by its first byte"
use Rattle.std.specs.Prelude.{ℕ, zero, suc, ◌+◌, ◌*◌, ◌/◌, ◌≡◌, Bool, true, false, cond, List, [], ◌∷◌, ◌++◌, map, length, take, set, replicate, ltb, Err, Ok}
use Rattle.std.proofs.Math.Option.{Option, none, some}
use Rattle.refusal.specs.declared.Refusal.{Refusal}
use Rattle.refusal.specs.declared.Refusal.TheVariants as refusal
use Rattle.refusal.specs.Refusal.{number_of, carried_by}
use Rattle.refusal.specs.Outcome.{given, refused, unless, refused_if}
use Rattle.utf8.specs.Scalar.{is_scalar}
use Rattle.utf8.specs.declared.Step.TheVariants as step
use Rattle.utf8.specs.Head.{step_of}
use Rattle.line.specs.Line.{one, is_line_end, line_of}
use Rattle.image.specs.Word.{word_at, bytes_of}
use Rattle.image.specs.Limits.{
  max_ranges,
  max_entries,
  max_image,
  word_bytes,
  header_bytes,
  range_bytes,
  entry_bytes,
  words_per_range,
}
use Rattle.image.specs.Class.{Unassigned, Start, Nonstart, Syntax, White, Other, class_number, class_named}
use Rattle.image.specs.Header.{
  format_of,
  version_of,
  total_of,
  range_count,
  range_offset,
  entry_count,
  entry_offset,
  zero_word,
  entries_at,
  image_end,
  length_right,
  header_right,
}
use Rattle.image.specs.Ranges.{range_in, range_words}
use Rattle.image.specs.Profile.{
  profile_by,
  no_profile,
  start_role,
  nonstart_role,
  medial_role,
  other_role,
  hashtag_role,
  after_role,
  is_medial,
  is_hashtag,
}
use Rattle.image.specs.Image.{header_words, entry_words, bytes_of_all, image_of}
use Rattle.image.specs.Check.{accepted_with, refusal_of, read_refusal, ranges_of, check_of}
use Rattle.image.specs.declared.records.Section.TheVariants.{Ranges, Entries}
use Rattle.lookup.specs.Halving.{seek_of}
use Rattle.lookup.specs.Lookup.{lookup_of, found_with}
use Rattle.writer.specs.Write.{write_of}
use Rattle.pair.specs.Walk.{code_points}
use Rattle.pair.specs.declared.PairRefusal.TheVariants as pair
use Rattle.pair.specs.Change.{permitted}
use Rattle.changes.specs.Answer.{change_words, change_size}
use Rattle.grammar.specs.White.{WhiteKind, blank, line_end, mark, is_mark, white_of}
use Rattle.grammar.specs.Meaning.{Meaning}
use Rattle.grammar.specs.Grammar.{Kind, identifier, syntax, whitespace}
use Rattle.grammar.specs.Kinds.{kind_number, is_continue, is_white, kind_by, goes_with, links_with}
use Rattle.grammar.specs.Record.{record_words, record_size, room_of}
use Rattle.grammar.specs.Before.{max_text}
use Rattle.grammar.specs.Reading.{read_through, outcome_of, room_refusal}
use Rattle.token.specs.Taken.{unless_taken, place_refusal, token_at, taken_of, at_end, token_with}
use Rattle.hashtag.specs.Sign.{is_sign, is_hashtag_continue}
use Rattle.hashtag.specs.Listed.{hashtag_kind, span_words, hashtags_through, hashtags_found}
use Rattle.input.specs.Script.{max_script, script_written}
use Rattle.input.specs.Images.{max_run_words, max_entry_words}
use Rattle.reply.specs.Reply.{Reply}
use Rattle.reply.specs.ImageReply.{checked_by, check_reply, found_reply, written_reply, pair_reply, changes_reply}
use Rattle.reply.specs.TokenReply.{counted_reply, taken_reply, part_reply}
use Rattle.demands.specs.Cases.{M, P, N}

-- n numbers from x on, and from 0 on; those of a list of which a test holds
abbrev count_from : ℕ → ℕ → List ℕ
count_from x zero = []
count_from x (suc n) = x ∷ count_from (suc x) n

abbrev up_to : ℕ → List ℕ
up_to n = count_from 0 n

abbrev chosen : (ℕ → Bool) → List ℕ → List ℕ
chosen test [] = []
chosen test (x ∷ xs) = cond (test x) (x ∷ chosen test xs) (chosen test xs)

-- the classes; the roles, with 0 for no entry, and 6, which no entry may have; numbers at the edges of the scalar values
abbrev class_numbers : List ℕ
class_numbers = up_to 6

abbrev role_numbers : List ℕ
role_numbers = up_to 7

abbrev scalar_edges : List ℕ
scalar_edges = 0 ∷ 0xD7FF ∷ 0xD800 ∷ 0xDFFF ∷ 0xE000 ∷ 0x10FFFF ∷ 0x110000 ∷ []

-- ranges and profile entries of an image, and its bytes; bytes of a text; those of the token lister's text; words of the change
-- lister's runs and entries; code points
abbrev pub Limits : Type 0
Limits =
    (max_ranges ≡ 4096)
    × (max_entries ≡ 512)
    × (max_image ≡ 53280)
    × (max_text ≡ 1048576)
    × (max_script ≡ 8192)
    × (max_run_words ≡ 4 * 16383)
    × (max_entry_words ≡ 3 * 1024)
    × (code_points ≡ 0x110000)

-- 5 by these limits: of counting and listing, of hashtags and of one token, before anything else of the text; of the token lister, which
-- gives it before 6, and not a byte sooner
abbrev too_long : List ℕ → Option Refusal
too_long text = refused_if (ltb 1048576 (length text)) refusal.TextLength

abbrev pub TextLimits : List ℕ → ℕ → Type 0
TextLimits text place =
    (outcome_of M text ≡ unless (too_long text) (read_through M text))
    × (hashtags_found M text ≡ unless (too_long text) (hashtags_through M text))
    × (taken_of M text place ≡ unless_taken (too_long text) (unless_taken (place_refusal text place) (token_at M text place)))
    × (script_written M (0xFF ∷ replicate 8191 0) 0 ≡ refused (refusal.IllFormed 0 1))
    × (script_written M (0xFF ∷ replicate 8192 0) 0 ≡ refused refusal.TextLength)

-- bytes of a number, of the header, of a range, of a profile entry; words of a range, of a token or hashtag, of a run, of a changed entry;
-- where the entries begin after n ranges, and where the image ends after m entries
abbrev pub Sizes : ℕ → ℕ → Type 0
Sizes n m =
    (word_bytes ≡ 4)
    × (header_bytes ≡ 32)
    × (range_bytes ≡ 12)
    × (entry_bytes ≡ 8)
    × (words_per_range ≡ 3)
    × (record_size ≡ 4)
    × (change_size Ranges ≡ 4)
    × (change_size Entries ≡ 3)
    × (entries_at n ≡ 32 + 12 * n)
    × (image_end n m ≡ 32 + 12 * n + 8 * m)

-- little-endian numbers; the header's words, each at its byte
abbrev pub HeaderPlaces : List ℕ → Type 0
HeaderPlaces s =
    (word_at (0x78 ∷ 0x56 ∷ 0x34 ∷ 0x12 ∷ []) 0 ≡ 0x12345678)
    × (bytes_of 0x12345678 ≡ 0x78 ∷ 0x56 ∷ 0x34 ∷ 0x12 ∷ [])
    × (format_of s ≡ word_at s 0)
    × (version_of s ≡ word_at s 4)
    × (total_of s ≡ word_at s 8)
    × (range_count s ≡ word_at s 12)
    × (range_offset s ≡ word_at s 16)
    × (entry_count s ≡ word_at s 20)
    × (entry_offset s ≡ word_at s 24)
    × (zero_word s ≡ word_at s 28)

-- a header with n ranges and m entries, the same with another word at index i, and so many bytes of which the header says so
abbrev header_with : ℕ → ℕ → List ℕ
header_with n m = bytes_of_all (header_words 7 n m)

abbrev header_changed : ℕ → List ℕ
header_changed i = bytes_of_all (set (header_words 7 1 1) i 9)

abbrev image_of_length : ℕ → List ℕ
image_of_length n = take n (replicate 8 0 ++ (bytes_of n ++ replicate n 0))

-- the header's words in order, and what is right: every word but the version counts; n and m up to their limits; the length up to its own
abbrev pub HeaderWords : ℕ → ℕ → ℕ → Type 0
HeaderWords version n m =
    (header_words version n m ≡ 1 ∷ version ∷ (32 + 12 * n + 8 * m) ∷ n ∷ 32 ∷ m ∷ (32 + 12 * n) ∷ 0 ∷ [])
    × (chosen (λ (i : ℕ). header_right (header_changed i)) (up_to 8) ≡ 1 ∷ [])
    × (chosen (λ (i : ℕ). header_right (header_with i 0)) (0 ∷ 4096 ∷ 4097 ∷ []) ≡ 0 ∷ 4096 ∷ [])
    × (chosen (λ (i : ℕ). header_right (header_with 0 i)) (0 ∷ 512 ∷ 513 ∷ []) ≡ 0 ∷ 512 ∷ [])
    × (chosen (λ (i : ℕ). length_right (image_of_length i)) (31 ∷ 32 ∷ 53280 ∷ 53281 ∷ []) ≡ 32 ∷ 53280 ∷ [])
    × (length_right (image_of_length 32 ++ 0 ∷ []) ≡ false)

abbrev pub ClassNumbers : Type 0
ClassNumbers =
    (map class_number (Unassigned ∷ Start ∷ Nonstart ∷ Syntax ∷ White ∷ Other ∷ []) ≡ 0 ∷ 1 ∷ 2 ∷ 3 ∷ 4 ∷ 5 ∷ [])
    × (map class_named (0 ∷ 1 ∷ 2 ∷ 3 ∷ 4 ∷ 5 ∷ []) ≡ Unassigned ∷ Start ∷ Nonstart ∷ Syntax ∷ White ∷ Other ∷ [])

-- the refusal of an image with these ranges, three words each, and with these entries, a code point and a role each
abbrev ranges_refusal : List ℕ → Option Refusal
ranges_refusal words = refusal_of (image_of 7 (range_in words) (length words / 3) no_profile)

abbrev entries_refusal : List ℕ → List ℕ → Option Refusal
entries_refusal points rs = refusal_of (image_of 7 (range_in []) 0 (profile_by points rs (length points)))

abbrev is_none : Option Refusal → Bool
is_none none = true
is_none (some r) = false

-- the code points and the classes that a range may have; of two ranges that touch, the later is bad if it touches its like
abbrev pub RangesJudged : Type 0
RangesJudged =
    (chosen (λ (x : ℕ). is_none (ranges_refusal (x ∷ x ∷ 1 ∷ []))) scalar_edges ≡ 0 ∷ 0xD7FF ∷ 0xE000 ∷ 0x10FFFF ∷ [])
    × (chosen (λ (class : ℕ). is_none (ranges_refusal (0x41 ∷ 0x41 ∷ class ∷ []))) (up_to 7) ≡ 1 ∷ 2 ∷ 3 ∷ 4 ∷ 5 ∷ [])
    × (ranges_refusal (0x41 ∷ 0x42 ∷ 1 ∷ []) ≡ none)
    × (ranges_refusal (0x42 ∷ 0x41 ∷ 1 ∷ []) ≡ some (refusal.Range 0))
    × (ranges_refusal (0xD7FF ∷ 0xE000 ∷ 1 ∷ []) ≡ some (refusal.Range 0))
    × (ranges_refusal (0x10FFFF ∷ 0x110000 ∷ 1 ∷ []) ≡ some (refusal.Range 0))
    × (ranges_refusal (0x41 ∷ 0x42 ∷ 1 ∷ 0x43 ∷ 0x44 ∷ 1 ∷ []) ≡ some (refusal.Range 1))
    × (ranges_refusal (0x41 ∷ 0x42 ∷ 1 ∷ 0x43 ∷ 0x44 ∷ 2 ∷ []) ≡ none)
    × (ranges_refusal (0x41 ∷ 0x42 ∷ 1 ∷ 0x44 ∷ 0x44 ∷ 1 ∷ []) ≡ none)
    × (ranges_refusal (0x41 ∷ 0x42 ∷ 1 ∷ 0x42 ∷ 0x44 ∷ 2 ∷ []) ≡ some (refusal.Range 1))
    × (ranges_refusal (0xD7FF ∷ 0xD7FF ∷ 5 ∷ 0xE000 ∷ 0xE000 ∷ 5 ∷ []) ≡ none)

-- the code points and the roles that an entry may have; code points rise
abbrev pub EntriesJudged : Type 0
EntriesJudged =
    (chosen (λ (x : ℕ). is_none (entries_refusal (x ∷ []) (1 ∷ []))) scalar_edges ≡ 0 ∷ 0xD7FF ∷ 0xE000 ∷ 0x10FFFF ∷ [])
    × (chosen (λ (role : ℕ). is_none (entries_refusal (0x41 ∷ []) (role ∷ []))) role_numbers ≡ 1 ∷ 2 ∷ 3 ∷ 4 ∷ 5 ∷ [])
    × (entries_refusal (0x41 ∷ 0x42 ∷ []) (1 ∷ 1 ∷ []) ≡ none)
    × (entries_refusal (0x41 ∷ 0x41 ∷ []) (1 ∷ 2 ∷ []) ≡ some (refusal.Entry 1))
    × (entries_refusal (0x42 ∷ 0x41 ∷ []) (1 ∷ 1 ∷ []) ≡ some (refusal.Entry 1))

-- the roles by name; what each does to the classes 0 to 5, first none; which is that of a medial, and which that of hashtags
abbrev pub RoleEffects : Type 0
RoleEffects =
    (start_role ∷ nonstart_role ∷ medial_role ∷ other_role ∷ hashtag_role ∷ [] ≡ 1 ∷ 2 ∷ 3 ∷ 4 ∷ 5 ∷ [])
    × (map (after_role 0) class_numbers ≡ 0 ∷ 1 ∷ 2 ∷ 3 ∷ 4 ∷ 5 ∷ [])
    × (map (after_role 1) class_numbers ≡ 1 ∷ 1 ∷ 1 ∷ 1 ∷ 1 ∷ 1 ∷ [])
    × (map (after_role 2) class_numbers ≡ 2 ∷ 2 ∷ 2 ∷ 2 ∷ 2 ∷ 2 ∷ [])
    × (map (after_role 3) class_numbers ≡ 0 ∷ 1 ∷ 2 ∷ 3 ∷ 4 ∷ 5 ∷ [])
    × (map (after_role 4) class_numbers ≡ 5 ∷ 5 ∷ 5 ∷ 5 ∷ 5 ∷ 5 ∷ [])
    × (map (after_role 5) class_numbers ≡ 0 ∷ 1 ∷ 2 ∷ 3 ∷ 4 ∷ 5 ∷ [])
    × (chosen is_medial role_numbers ≡ 3 ∷ [])
    × (chosen is_hashtag role_numbers ≡ 5 ∷ [])

-- M's ranges; class and count of a lookup in M; the most steps, of the first of 4,096 ranges
abbrev pub Lookups : Type 0
Lookups =
    (ranges_of M ≡ 0x20 ∷ 0x20 ∷ 4 ∷ 0x2E ∷ 0x2E ∷ 3 ∷ 0x30 ∷ 0x39 ∷ 2 ∷ 0x41 ∷ 0x5A ∷ 1 ∷ 0x61 ∷ 0x7A ∷ 1 ∷ [])
    × (lookup_of M 0x20 ≡ found_with 4 3)
    × (lookup_of M 0x2E ≡ found_with 3 2)
    × (lookup_of M 0x7A ≡ found_with 1 2)
    × (lookup_of M 0x62 ≡ found_with 1 2)
    × (lookup_of M 0x2D ≡ found_with 0 3)
    × (lookup_of M 0xD800 ≡ Err (refusal.NotScalar 55296))
    × ((seek_of (λ (i : ℕ). record { first = i; last = i; class = 1 }) 0 4096 0).count ≡ 13)

-- the number of the kind of token that a unit of a class begins, 0 for none; w is its kind of White
abbrev number_or_zero : Option Kind → ℕ
number_or_zero none = 0
number_or_zero (some k) = kind_number k

abbrev kind_begun : WhiteKind → ℕ → ℕ
kind_begun w class = number_or_zero (kind_by w (class_named class))

-- the kinds by number; those that the classes 0 to 5 begin; the classes that are Continue, and White
abbrev pub KindNumbers : Type 0
KindNumbers =
    (map kind_number (identifier ∷ syntax ∷ whitespace blank ∷ whitespace line_end ∷ whitespace mark ∷ []) ≡ 1 ∷ 2 ∷ 3 ∷ 4 ∷ 5 ∷ [])
    × (hashtag_kind ≡ 6)
    × (map (kind_begun blank) class_numbers ≡ 0 ∷ 1 ∷ 0 ∷ 2 ∷ 3 ∷ 0 ∷ [])
    × (map (kind_begun line_end) class_numbers ≡ 0 ∷ 1 ∷ 0 ∷ 2 ∷ 4 ∷ 0 ∷ [])
    × (map (kind_begun mark) class_numbers ≡ 0 ∷ 1 ∷ 0 ∷ 2 ∷ 5 ∷ 0 ∷ [])
    × (chosen (λ (class : ℕ). is_continue (class_named class)) class_numbers ≡ 1 ∷ 2 ∷ [])
    × (chosen (λ (class : ℕ). is_white (class_named class)) class_numbers ≡ 4 ∷ [])

-- units that are class numbers, of a kind of White, medials or not
abbrev meaning_for : WhiteKind → Bool → Meaning ℕ
meaning_for w b = record { class = class_named; white = λ (x : ℕ). w; medial = λ (x : ℕ). b }

abbrev going_on : Kind → WhiteKind → List ℕ
going_on k w = chosen (goes_with (meaning_for w false) k) class_numbers

abbrev linked_by : Kind → Bool → List ℕ
linked_by k b = chosen (links_with (meaning_for blank b) k) class_numbers

-- the classes that a token goes on with, by its kind and the unit's kind of White; and those of medials that may link it
abbrev pub TokensGoOn : WhiteKind → Type 0
TokensGoOn w =
    (going_on identifier w ≡ 1 ∷ 2 ∷ [])
    × (going_on syntax w ≡ [])
    × (map (going_on (whitespace blank)) (blank ∷ line_end ∷ mark ∷ []) ≡ (4 ∷ []) ∷ [] ∷ [] ∷ [])
    × (map (going_on (whitespace line_end)) (blank ∷ line_end ∷ mark ∷ []) ≡ [] ∷ (4 ∷ []) ∷ [] ∷ [])
    × (map (going_on (whitespace mark)) (blank ∷ line_end ∷ mark ∷ []) ≡ [] ∷ [] ∷ (4 ∷ []) ∷ [])
    × (linked_by identifier true ≡ 0 ∷ 1 ∷ 2 ∷ 3 ∷ 4 ∷ 5 ∷ [])
    × (linked_by identifier false ≡ [])
    × (linked_by syntax true ≡ [])
    × (linked_by (whitespace w) true ≡ [])

-- the words of a token, of a hashtag, of a range, of a profile entry, of a run and of a changed entry, in order
abbrev pub RecordWords : List ℕ → ℕ → ℕ → ℕ → ℕ → Type 0
RecordWords text a b c d =
    (record_words (record { kind = syntax; start = a; end = b; line = c }) ≡ 2 ∷ a ∷ b ∷ c ∷ [])
    × (span_words text (record { start = a; end = b }) ≡ 6 ∷ a ∷ b ∷ line_of text a ∷ [])
    × (range_words (record { first = a; last = b; class = c }) ≡ a ∷ b ∷ c ∷ [])
    × (entry_words (profile_by (a ∷ []) (b ∷ []) 1) 0 ≡ a ∷ b ∷ [])
    × (change_words Ranges (record { first = a; last = b; older = c; newer = d }) ≡ a ∷ b ∷ c ∷ d ∷ [])
    × (change_words Entries (record { first = a; last = b; older = c; newer = d }) ≡ a ∷ c ∷ d ∷ [])

-- room for tokens and hashtags, by four; for the ranges of an image being read, by three; words of ranges to be written, and its bytes
abbrev pub Rooms : Type 0
Rooms =
    (map room_of (0 ∷ 3 ∷ 4 ∷ 7 ∷ 8 ∷ []) ≡ 0 ∷ 0 ∷ 1 ∷ 1 ∷ 2 ∷ [])
    × (room_refusal {T = ℕ} 7 (0 ∷ 0 ∷ []) ≡ some (refusal.Room 2))
    × (room_refusal {T = ℕ} 8 (0 ∷ 0 ∷ []) ≡ none)
    × (map (λ (words : ℕ). read_refusal (header_with 1 0) words none) (2 ∷ 3 ∷ []) ≡ some (refusal.Room 1) ∷ none ∷ [])
    × (map (λ (words : ℕ). read_refusal (header_with 2 0) words none) (5 ∷ 6 ∷ []) ≡ some (refusal.Room 2) ∷ none ∷ [])
    × (write_of (0x7A ∷ 0x7A ∷ 5 ∷ 0 ∷ []) no_profile 0 ≡ Err refusal.Shape)
    × (write_of (0x7A ∷ 0x7A ∷ 5 ∷ []) no_profile 43 ≡ Err (refusal.Buffer 44))
    × (write_of (0x7A ∷ 0x7A ∷ 5 ∷ []) no_profile 44 ≡ Ok 44)

-- of the code points 0 to 2FFF and FE00 to FFFF hex, the line ends, the direction marks and the signs; White of the first is of kind 4,
-- of the second of kind 5, other White of kind 3
abbrev watched : List ℕ
watched = up_to 0x3000 ++ count_from 0xFE00 0x200

abbrev white_kind : ℕ → ℕ
white_kind x = kind_begun (white_of x) 4

abbrev pub CodePoints : Type 0
CodePoints =
    (chosen is_line_end watched ≡ 0x0A ∷ 0x0B ∷ 0x0C ∷ 0x0D ∷ 0x85 ∷ 0x2028 ∷ 0x2029 ∷ [])
    × (chosen is_mark watched ≡ 0x200E ∷ 0x200F ∷ [])
    × (chosen is_sign watched ≡ 0x23 ∷ 0xFE5F ∷ 0xFF03 ∷ [])
    × (map white_kind (0x09 ∷ 0x0A ∷ 0x0D ∷ 0x0E ∷ 0x20 ∷ 0x84 ∷ 0x85 ∷ 0x86 ∷ []) ≡ 3 ∷ 4 ∷ 4 ∷ 3 ∷ 3 ∷ 3 ∷ 4 ∷ 3 ∷ [])
    × (map white_kind (0x200D ∷ 0x200E ∷ 0x200F ∷ 0x2010 ∷ 0x2027 ∷ 0x2028 ∷ 0x2029 ∷ 0x202A ∷ []) ≡ 3 ∷ 5 ∷ 5 ∷ 3 ∷ 3 ∷ 4 ∷ 4 ∷ 3 ∷ [])

-- the line of each byte: lines count from 1, and CR LF is one line end
abbrev pub Lines : Type 0
Lines =
    (map (line_of (0x0D ∷ 0x0A ∷ 0x61 ∷ [])) (up_to 3) ≡ 1 ∷ 1 ∷ 2 ∷ [])
    × (map (line_of (0x0D ∷ 0x0D ∷ 0x0A ∷ 0x61 ∷ [])) (up_to 4) ≡ 1 ∷ 2 ∷ 2 ∷ 3 ∷ [])
    × (map (line_of (0x0A ∷ 0x0D ∷ 0x61 ∷ [])) (up_to 3) ≡ 1 ∷ 2 ∷ 3 ∷ [])

-- hashtag Continue: Start, Nonstart and role 5, under P; neither White nor Syntax that is a medial, nor a sign, though role 2 makes it
-- Nonstart under N
abbrev pub HashtagContinues : Type 0
HashtagContinues =
    (chosen (is_hashtag_continue P) (0x20 ∷ 0x2E ∷ 0x31 ∷ 0x41 ∷ 0x5F ∷ []) ≡ 0x31 ∷ 0x41 ∷ 0x5F ∷ [])
    × (chosen (is_hashtag_continue N) (0x23 ∷ 0x31 ∷ []) ≡ 0x31 ∷ [])

-- a refusal's number, and what it carries
abbrev refusal_row : Refusal → List ℕ
refusal_row r = number_of r ∷ carried_by r

abbrev pub RefusalNumbers : ℕ → ℕ → Type 0
RefusalNumbers a b =
    (refusal_row refusal.Length ≡ 1 ∷ [])
    × (refusal_row refusal.Header ≡ 2 ∷ [])
    × (refusal_row (refusal.Range a) ≡ 3 ∷ a ∷ [])
    × (refusal_row (refusal.Entry a) ≡ 4 ∷ a ∷ [])
    × (refusal_row refusal.TextLength ≡ 5 ∷ [])
    × (refusal_row (refusal.IllFormed a b) ≡ 6 ∷ a ∷ b ∷ [])
    × (refusal_row (refusal.Characters a) ≡ 7 ∷ a ∷ [])
    × (refusal_row (refusal.Room a) ≡ 8 ∷ a ∷ [])
    × (refusal_row (refusal.NotScalar a) ≡ 9 ∷ a ∷ [])
    × (refusal_row (refusal.Change a) ≡ 10 ∷ a ∷ [])
    × (refusal_row refusal.Profiles ≡ 11 ∷ [])
    × (refusal_row (refusal.Buffer a) ≡ 12 ∷ a ∷ [])
    × (refusal_row refusal.Shape ≡ 13 ∷ [])
    × (refusal_row (refusal.Mark a) ≡ 14 ∷ a ∷ [])

-- from C: the result, and the four numbers of the answer; the third of a refusal is 1 for the older image, 2 for the newer, else 0
abbrev reply_row : Reply → List ℕ
reply_row r = r.number ∷ r.values

abbrev pub ImageReplies : ℕ → ℕ → ℕ → Type 0
ImageReplies a b c =
    (reply_row (checked_by (accepted_with a b) c) ≡ 0 ∷ a ∷ b ∷ c ∷ 0 ∷ [])
    × (reply_row (checked_by (Err (refusal.Range a)) c) ≡ 3 ∷ a ∷ 0 ∷ 0 ∷ 0 ∷ [])
    × (reply_row (check_reply (check_of M)) ≡ 0 ∷ 1048576 ∷ 5 ∷ 1 ∷ 0 ∷ [])
    × (reply_row (found_reply (found_with a b)) ≡ 0 ∷ a ∷ b ∷ 0 ∷ 0 ∷ [])
    × (reply_row (found_reply (Err (refusal.NotScalar a))) ≡ 9 ∷ a ∷ 0 ∷ 0 ∷ 0 ∷ [])
    × (reply_row (written_reply (Ok a)) ≡ 0 ∷ a ∷ 0 ∷ 0 ∷ 0 ∷ [])
    × (reply_row (written_reply (Err (refusal.Buffer a))) ≡ 12 ∷ a ∷ 0 ∷ 0 ∷ 0 ∷ [])
    × (reply_row (pair_reply (Ok tt)) ≡ 0 ∷ 0 ∷ 0 ∷ 0 ∷ 0 ∷ [])
    × (reply_row (pair_reply (Err (pair.Older (refusal.Entry a)))) ≡ 4 ∷ a ∷ 0 ∷ 1 ∷ 0 ∷ [])
    × (reply_row (pair_reply (Err (pair.Newer (refusal.Entry a)))) ≡ 4 ∷ a ∷ 0 ∷ 2 ∷ 0 ∷ [])
    × (reply_row (pair_reply (Err (pair.Neither (refusal.Change a)))) ≡ 10 ∷ a ∷ 0 ∷ 0 ∷ 0 ∷ [])
    × (reply_row (changes_reply (Ok (record { runs = a; entries = b }))) ≡ 0 ∷ a ∷ b ∷ 0 ∷ 0 ∷ [])
    × (reply_row (changes_reply (Err (pair.Older (refusal.Entry a)))) ≡ 4 ∷ a ∷ 0 ∷ 1 ∷ 0 ∷ [])
    × (reply_row (changes_reply (Err (pair.Newer (refusal.Entry a)))) ≡ 4 ∷ a ∷ 0 ∷ 2 ∷ 0 ∷ [])
    × (reply_row (changes_reply (Err (pair.Neither (refusal.Room a)))) ≡ 8 ∷ a ∷ 0 ∷ 0 ∷ 0 ∷ [])

abbrev pub TokenReplies : ℕ → ℕ → ℕ → Type 0
TokenReplies a b c =
    (reply_row (counted_reply (Ok a)) ≡ 0 ∷ a ∷ 0 ∷ 0 ∷ 0 ∷ [])
    × (reply_row (counted_reply (Err (refusal.IllFormed a b))) ≡ 6 ∷ a ∷ b ∷ 0 ∷ 0 ∷ [])
    × (reply_row (taken_reply (token_with a b c)) ≡ 0 ∷ a ∷ b ∷ c ∷ 0 ∷ [])
    × (reply_row (taken_reply at_end) ≡ 255 ∷ 0 ∷ 0 ∷ 0 ∷ 0 ∷ [])
    × (reply_row (taken_reply (Err (refusal.IllFormed a b))) ≡ 6 ∷ a ∷ b ∷ 0 ∷ 0 ∷ [])
    × (reply_row (part_reply (given (b ∷ c ∷ [])) a) ≡ 0 ∷ a ∷ 2 ∷ 0 ∷ 0 ∷ [])
    × (reply_row (part_reply (refused refusal.Shape) a) ≡ 13 ∷ 0 ∷ 0 ∷ 0 ∷ 0 ∷ [])

-- 1 for each of the newer classes 0 to 5 that a class may become or stay, else 0. `pair/proofs/ChangeLaws.antt` joins `permitted` to the
-- data type `Permitted`
abbrev becomes : ℕ → List ℕ
becomes older = map (λ (newer : ℕ). one (permitted older newer)) class_numbers

abbrev pub PermittedChanges : Type 0
PermittedChanges =
    (becomes 0 ≡ 1 ∷ 1 ∷ 1 ∷ 0 ∷ 0 ∷ 1 ∷ [])
    × (becomes 1 ≡ 0 ∷ 1 ∷ 0 ∷ 0 ∷ 0 ∷ 0 ∷ [])
    × (becomes 2 ≡ 0 ∷ 1 ∷ 1 ∷ 0 ∷ 0 ∷ 0 ∷ [])
    × (becomes 3 ≡ 0 ∷ 0 ∷ 0 ∷ 1 ∷ 0 ∷ 0 ∷ [])
    × (becomes 4 ≡ 0 ∷ 0 ∷ 0 ∷ 0 ∷ 1 ∷ 0 ∷ [])
    × (becomes 5 ≡ 0 ∷ 1 ∷ 1 ∷ 0 ∷ 0 ∷ 1 ∷ [])

abbrev pub ScalarValues : Type 0
ScalarValues = chosen is_scalar scalar_edges ≡ 0 ∷ 0xD7FF ∷ 0xE000 ∷ 0x10FFFF ∷ []

-- the length of the maximal subpart at the front of bytes
abbrev pub Subparts : Type 0
Subparts =
    (map step_of ((0x80 ∷ []) ∷ (0xC0 ∷ []) ∷ (0xC0 ∷ 0xA9 ∷ []) ∷ (0xFF ∷ []) ∷ []) ≡ replicate 4 (step.IllFormed 1))
    × (map step_of ((0xE0 ∷ 0x80 ∷ []) ∷ (0xED ∷ 0xA0 ∷ 0x80 ∷ []) ∷ (0xF0 ∷ 0x8F ∷ []) ∷ []) ≡ replicate 3 (step.IllFormed 1))
    × (step_of (0xF4 ∷ 0x90 ∷ 0x80 ∷ 0x80 ∷ []) ≡ step.IllFormed 1)
    × (map step_of ((0xE2 ∷ 0x82 ∷ []) ∷ (0xE2 ∷ 0x82 ∷ 0x41 ∷ []) ∷ (0xE1 ∷ 0x80 ∷ 0xE1 ∷ []) ∷ []) ≡ replicate 3 (step.IllFormed 2))
    × (step_of (0xF0 ∷ 0x9F ∷ []) ≡ step.IllFormed 2)
    × (map step_of ((0xF0 ∷ 0x9F ∷ 0x98 ∷ []) ∷ (0xF0 ∷ 0x9F ∷ 0x98 ∷ 0x41 ∷ []) ∷ []) ≡ replicate 2 (step.IllFormed 3))
