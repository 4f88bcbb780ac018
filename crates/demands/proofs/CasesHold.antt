-- The marked cases of docs/CASES.md hold of the definitions, from the images' bytes on. Assumes nothing.
use mathlib.Core.Path.{◌≡◌, refl}
use mathlib.Core.List.{map}
use Rattle.lists.specs.First.{first_from, first_where}
use Rattle.utf8.specs.Scalar.{is_scalar}
use Rattle.utf8.specs.Subpart.{subpart_of}
use Rattle.utf8.specs.Head.{step_of}
use Rattle.utf8.specs.Text.{decode_in, decode, text_of}
use Rattle.line.specs.Line.{is_line_end, ends_line, line_ends, line_of}
use Rattle.image.specs.Word.{word_at}
use Rattle.image.specs.Header.{length_within, header_within}
use Rattle.image.specs.Ranges.{range_at, good_alone, follows, good_range, first_bad_range, class_in}
use Rattle.image.specs.Profile.{point_at, role_at, good_entry_alone, good_entry, first_bad_entry, role_by, after_role, is_medial, is_hashtag}
use Rattle.image.specs.Check.{records_refusal, refusal_within, range_class, entry_role, class_of, medial_of, hashtag_of}
use Rattle.grammar.specs.White.{is_mark, white_of}
use Rattle.grammar.specs.Scan.{walk}
use Rattle.grammar.specs.Second.{parts_still, refuses_mark, first_refused}
use Rattle.grammar.specs.Before.{length_refusal, before_within}
use Rattle.grammar.specs.Reading.{meaning_of, reading_of, mark_refusal, read_through, outcome_within, outcome_of}
use Rattle.hashtag.specs.Sign.{is_sign, is_hashtag_continue}
use Rattle.hashtag.specs.Find.{run_of, hashtags_from, hashtags_of}
use Rattle.hashtag.specs.Listed.{hashtags_through, found_within, hashtags_found}
use Rattle.demands.specs.Cases.{Case, M, M2, P, N, K, K1, K2, K3, K4, K5, K6, K7, K8, cases, line_cases, mark_cases, hashtag_cases, numbers_of, hashtag_numbers_of}

pub cases_hold : map (λ (c : Case). numbers_of c.text (outcome_of c.image c.text)) cases ≡ map (λ (c : Case). c.answer) cases
unfolding first_from first_where is_scalar subpart_of step_of decode_in decode text_of word_at length_within header_within range_at good_alone follows good_range first_bad_range class_in point_at role_at good_entry_alone good_entry first_bad_entry role_by after_role is_medial records_refusal refusal_within range_class entry_role class_of medial_of is_mark white_of walk parts_still refuses_mark first_refused meaning_of reading_of length_refusal before_within mark_refusal read_through outcome_within is_line_end ends_line line_ends line_of M M2 P cases
cases_hold = refl

pub line_cases_hold : map (λ (c : Case). numbers_of c.text (outcome_of c.image c.text)) line_cases ≡ map (λ (c : Case). c.answer) line_cases
unfolding first_from first_where is_scalar subpart_of step_of decode_in decode text_of word_at length_within header_within range_at good_alone follows good_range first_bad_range class_in point_at role_at good_entry_alone good_entry first_bad_entry role_by after_role is_medial records_refusal refusal_within range_class entry_role class_of medial_of is_mark white_of walk parts_still refuses_mark first_refused meaning_of reading_of length_refusal before_within mark_refusal read_through outcome_within is_line_end ends_line line_ends line_of K K1 K2 K3 line_cases
line_cases_hold = refl

pub mark_cases_hold : map (λ (c : Case). numbers_of c.text (outcome_of c.image c.text)) mark_cases ≡ map (λ (c : Case). c.answer) mark_cases
unfolding first_from first_where is_scalar subpart_of step_of decode_in decode text_of word_at length_within header_within range_at good_alone follows good_range first_bad_range class_in point_at role_at good_entry_alone good_entry first_bad_entry role_by after_role is_medial records_refusal refusal_within range_class entry_role class_of medial_of is_mark white_of walk parts_still refuses_mark first_refused meaning_of reading_of length_refusal before_within mark_refusal read_through outcome_within is_line_end ends_line line_ends line_of K K4 K5 K6 K7 K8 mark_cases
mark_cases_hold = refl

pub hashtag_cases_hold :
    map (λ (c : Case). hashtag_numbers_of c.text (hashtags_found c.image c.text)) hashtag_cases ≡ map (λ (c : Case). c.answer) hashtag_cases
unfolding first_from first_where is_scalar subpart_of step_of decode_in decode text_of word_at length_within header_within range_at good_alone follows good_range first_bad_range class_in point_at role_at good_entry_alone good_entry first_bad_entry role_by after_role is_hashtag records_refusal refusal_within range_class entry_role class_of hashtag_of length_refusal before_within is_sign is_hashtag_continue run_of hashtags_from hashtags_of hashtags_through found_within is_line_end ends_line line_ends line_of P N hashtag_cases
hashtag_cases_hold = refl
