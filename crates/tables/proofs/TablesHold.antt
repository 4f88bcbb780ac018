-- The numbers and small tables of docs/RULES.md hold of the definitions, by computation. Assumes nothing.
use Prim.Native.Nat.{ℕ}
use mathlib.Core.Path.{refl}
use mathlib.Core.List.{List}
use Rattle.lists.specs.First.{first_from, first_where}
use Rattle.lists.specs.Each.{each_from, each}
use Rattle.utf8.specs.Scalar.{is_scalar}
use Rattle.utf8.specs.Subpart.{subpart_of}
use Rattle.utf8.specs.Head.{step_of}
use Rattle.utf8.specs.Text.{decode_in, decode, text_of}
use Rattle.line.specs.Line.{is_line_end, ends_line, line_ends, line_of}
use Rattle.image.specs.Word.{word_at, bytes_of}
use Rattle.image.specs.Header.{length_within, header_within}
use Rattle.image.specs.Ranges.{range_at, range_in, good_alone, follows, good_range, first_bad_range, class_in}
use Rattle.image.specs.Profile.{
  point_at,
  role_at,
  good_entry_alone,
  good_entry,
  first_bad_entry,
  profile_within,
  no_profile_within,
  role_by,
  after_role,
  is_medial,
  is_hashtag,
}
use Rattle.image.specs.Image.{image_words, bytes_of_all, image_of}
use Rattle.image.specs.Check.{records_refusal, refusal_within, check_within, range_class, entry_role, class_of, hashtag_of}
use Rattle.lookup.specs.Halving.{seek_of}
use Rattle.lookup.specs.Lookup.{lookup_within}
use Rattle.writer.specs.Write.{write_refusal_within, write_within}
use Rattle.pair.specs.Change.{is_continue_class, permitted}
use Rattle.grammar.specs.White.{WhiteKind, is_mark, white_of}
use Rattle.grammar.specs.Before.{length_refusal, before_within}
use Rattle.grammar.specs.Reading.{read_through, outcome_within, written_within}
use Rattle.token.specs.Taken.{taken_within}
use Rattle.hashtag.specs.Listed.{found_within}
use Rattle.hashtag.specs.Sign.{is_sign, is_hashtag_continue}
use Rattle.input.specs.Script.{script_within}
use Rattle.demands.specs.Cases.{M, P, N}
use Rattle.tables.specs.Tables.{
  Limits,
  TextLimits,
  Sizes,
  HeaderPlaces,
  HeaderWords,
  ClassNumbers,
  RangesJudged,
  EntriesJudged,
  RoleEffects,
  Lookups,
  KindNumbers,
  TokensGoOn,
  RecordWords,
  Rooms,
  CodePoints,
  Lines,
  HashtagContinues,
  RefusalNumbers,
  ImageReplies,
  TokenReplies,
  PermittedChanges,
  ScalarValues,
  Subparts,
}

-- the definitions that are computed
computed : Unit {0}
unfolding first_from first_where each_from each is_scalar subpart_of step_of decode_in decode text_of is_line_end ends_line line_ends line_of word_at
    bytes_of length_within header_within range_at range_in good_alone follows good_range first_bad_range class_in point_at role_at good_entry_alone
    good_entry first_bad_entry profile_within no_profile_within role_by after_role is_medial is_hashtag image_words bytes_of_all image_of
    records_refusal refusal_within check_within range_class entry_role class_of hashtag_of seek_of lookup_within write_refusal_within write_within
    is_continue_class permitted is_mark white_of length_refusal before_within read_through outcome_within written_within is_sign is_hashtag_continue script_within M P N
computed = record {}

pub limits : Limits
limits = (refl, refl, refl, refl, refl, refl, refl, refl)

pub text_limits : (text : List ℕ) (place : ℕ) → TextLimits text place
unfolding computed found_within taken_within
text_limits text place = (refl, refl, refl, refl, refl)

pub sizes : (n m : ℕ) → Sizes n m
sizes n m = (refl, refl, refl, refl, refl, refl, refl, refl, refl, refl)

pub header_places : (s : List ℕ) → HeaderPlaces s
unfolding computed
header_places s = (refl, refl, refl, refl, refl, refl, refl, refl, refl, refl)

pub header_words : (version n m : ℕ) → HeaderWords version n m
unfolding computed
header_words version n m = (refl, refl, refl, refl, refl, refl)

pub class_numbers : ClassNumbers
class_numbers = (refl, refl)

pub ranges_judged : RangesJudged
unfolding computed
ranges_judged = (refl, refl, refl, refl, refl, refl, refl, refl, refl, refl, refl)

pub entries_judged : EntriesJudged
unfolding computed
entries_judged = (refl, refl, refl, refl, refl)

pub role_effects : RoleEffects
unfolding computed
role_effects = (refl, refl, refl, refl, refl, refl, refl, refl, refl)

pub lookups : Lookups
unfolding computed
lookups = (refl, refl, refl, refl, refl, refl, refl, refl)

pub kind_numbers : KindNumbers
kind_numbers = (refl, refl, refl, refl, refl, refl, refl)

pub tokens_go_on : (w : WhiteKind) → TokensGoOn w
tokens_go_on w = (refl, refl, refl, refl, refl, refl, refl, refl, refl)

pub record_words : (text : List ℕ) (a b c d : ℕ) → RecordWords text a b c d
record_words text a b c d = (refl, refl, refl, refl, refl, refl)

pub rooms : Rooms
unfolding computed
rooms = (refl, refl, refl, refl, refl, refl, refl, refl)

pub code_points : CodePoints
unfolding computed
code_points = (refl, refl, refl, refl, refl)

pub lines : Lines
unfolding computed
lines = (refl, refl, refl)

pub hashtag_continues : HashtagContinues
unfolding computed
hashtag_continues = (refl, refl)

pub refusal_numbers : (a b : ℕ) → RefusalNumbers a b
refusal_numbers a b = (refl, refl, refl, refl, refl, refl, refl, refl, refl, refl, refl, refl, refl, refl)

pub image_replies : (a b c : ℕ) → ImageReplies a b c
unfolding computed
image_replies a b c = (refl, refl, refl, refl, refl, refl, refl, refl, refl, refl, refl, refl, refl, refl, refl)

pub token_replies : (a b c : ℕ) → TokenReplies a b c
token_replies a b c = (refl, refl, refl, refl, refl, refl, refl)

pub permitted_changes : PermittedChanges
unfolding computed
permitted_changes = (refl, refl, refl, refl, refl, refl)

pub scalar_values : ScalarValues
unfolding computed
scalar_values = refl

pub subparts : Subparts
unfolding computed
subparts = (refl, refl, refl, refl, refl, refl)
