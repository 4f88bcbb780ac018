-- What writing the list of a text's hashtags answers under an image, and what the buffer then holds
-- (docs/RULES.md, "Hashtags", "Lines" and "Named refusals").
-- `limit` is how many profile entries an image may have; the names without `_within` have the limit in force.
--
--   hashtag_kind                              the kind of a hashtag in its record
--   span_words, spans_words                    the words of a hashtag's record; of the records of hashtags
--   hashtags_through                          the hashtags of a text under an accepted image: 6, else all hashtags
--   counted_through                           the same as an answer: 6, or how many there are
--   closed_by                                 the answer where the characters end, by the text from there on
--   found_within, hashtags_found               the hashtags of a text: what is judged before it, 6, else all hashtags
--   hashtags_written_within, hashtags_written   those written into a buffer of so many words; 8 where they need more room
--   hashtag_list_within, hashtag_list_of         the answer of writing the list
--   hashtag_words_within, hashtag_list_words     what the buffer then holds
use Rattle.refusal.specs.declared.Refusal.{Refusal}
use Rattle.std.specs.Prelude.{ℕ, ◌+◌, List, [], ◌∷◌, ◌++◌, length, Result, Ok, Err}
use Rattle.utf8.specs.Text.{Form}
use Rattle.refusal.specs.Outcome.{Outcome, given, unless, outcome_map}
use Rattle.refusal.specs.declared.Refusal.TheVariants as refusal
use Rattle.line.specs.Line.{line_of}
use Rattle.image.specs.Limits.{max_entries}
use Rattle.grammar.specs.Record.{token_words}
use Rattle.grammar.specs.Before.{max_text, before_within}
use Rattle.grammar.specs.Counted.{counted_by}
use Rattle.grammar.specs.Reading.{form_refusal, roomed, laid_by}
use Rattle.hashtag.specs.Find.{Span, hashtags_of}

-- no token has it
abbrev pub hashtag_kind : ℕ
hashtag_kind = 6

-- kind, first byte, one past the last, the line of the first byte
abbrev pub span_words : List ℕ → Span → List ℕ
span_words text t = token_words hashtag_kind t.start t.end (line_of text t.start)

abbrev pub spans_words : List ℕ → List Span → List ℕ
spans_words text [] = []
spans_words text (t ∷ ts) = span_words text t ++ spans_words text ts

unfoldable pub hashtags_through : List ℕ → List ℕ → Outcome (List Span)
hashtags_through s text = unless (form_refusal text) (given (hashtags_of s text))

unfoldable pub counted_through : List ℕ → List ℕ → Result ℕ Refusal
counted_through s text = counted_by (outcome_map length (hashtags_through s text))

-- n hashtags were found, and the characters end at the place `at`
abbrev pub closed_by : ℕ → ℕ → Form → Result ℕ Refusal
closed_by at n (Ok u) = Ok n
closed_by at n (Err e) = Err (refusal.IllFormed (at + e.place) e.len)

unfoldable pub found_within : ℕ → List ℕ → List ℕ → Outcome (List Span)
found_within limit s text = unless (before_within limit max_text s text) (hashtags_through s text)

abbrev pub hashtags_found : List ℕ → List ℕ → Outcome (List Span)
hashtags_found s text = found_within max_entries s text

unfoldable pub hashtags_written_within : ℕ → List ℕ → List ℕ → ℕ → Outcome (List Span)
hashtags_written_within limit s text words = roomed words (found_within limit s text)

abbrev pub hashtags_written : List ℕ → List ℕ → ℕ → Outcome (List Span)
hashtags_written s text words = hashtags_written_within max_entries s text words

unfoldable pub hashtag_list_within : ℕ → List ℕ → List ℕ → ℕ → Outcome ℕ
hashtag_list_within limit s text words = outcome_map length (hashtags_written_within limit s text words)

abbrev pub hashtag_list_of : List ℕ → List ℕ → ℕ → Outcome ℕ
hashtag_list_of s text words = hashtag_list_within max_entries s text words

unfoldable pub hashtag_words_within : ℕ → List ℕ → List ℕ → List ℕ → List ℕ
hashtag_words_within limit s text out = laid_by (spans_words text) out (hashtags_written_within limit s text (length out))

abbrev pub hashtag_list_words : List ℕ → List ℕ → List ℕ → List ℕ
hashtag_list_words s text out = hashtag_words_within max_entries s text out
