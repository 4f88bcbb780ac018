-- The bytes of tokens and the number of words in their list. Assumes nothing.
use Prim.Native.Nat.{ℕ, ◌+◌, ◌*◌}
use mathlib.Core.Path.{◌≡◌, refl, sym, ap, ◌∙◌}
use mathlib.Core.List.{List, [], ◌∷◌, ◌++◌}
use native.Mathlib.Nat.{add_assoc, add-zero, zero-add}
use native.Mathlib.Omega.{arith}
use lib.ListN.{length}
use Rattle.utf8.specs.Text.{Character, width_of}
use Rattle.utf8.proofs.TextLaws.{width_append}
use Rattle.grammar.specs.Scan.{Tok, units_of}
use Rattle.grammar.specs.Grammar.{Kind}
use Rattle.grammar.specs.Record.{Record, record_size, token_width, tokens_width, records_from, words_of, listed_words}

-- the bytes of tokens are those of their characters
pub tokens_width_lem : (ts : List (Tok Character Kind)) → tokens_width ts ≡ width_of (units_of ts)
tokens_width_lem [] = refl
tokens_width_lem (t ∷ ts) = rw (width_append t.units (units_of ts), tokens_width_lem ts)

pub length_records : (text : List ℕ) (p : ℕ) (ts : List (Tok Character Kind)) → length (records_from text p ts) ≡ length ts
length_records text p [] = refl
length_records text p (t ∷ ts) = let h = length_records text (p + token_width t) ts in omega arith

pub length_words : (rs : List Record) → length (words_of rs) ≡ record_size * length rs
length_words [] = refl
length_words (r ∷ rs) = let h = length_words rs in omega arith

pub length_listed : (text : List ℕ) (ts : List (Tok Character Kind)) → length (listed_words text ts) ≡ record_size * length ts
length_listed text ts = length_words (records_from text 0 ts) ∙ ap (λ (n : ℕ). record_size * n) (length_records text 0 ts)

pub tokens_append : (ts us : List (Tok Character Kind)) → tokens_width (ts ++ us) ≡ tokens_width ts + tokens_width us
tokens_append [] us = sym (zero-add (tokens_width us))
tokens_append (t ∷ ts) us = rw (tokens_append ts us, add_assoc)

pub records_append : (text : List ℕ) (p : ℕ) (ts us : List (Tok Character Kind)) → records_from text p (ts ++ us) ≡ records_from text p ts ++ records_from text (p + tokens_width ts) us
records_append text p [] us = rw add-zero
records_append text p (t ∷ ts) us = rw (records_append text (p + token_width t) ts us, add_assoc p (token_width t) (tokens_width ts))

words_append : (rs qs : List Record) → words_of (rs ++ qs) ≡ words_of rs ++ words_of qs
words_append [] qs = refl
words_append (r ∷ rs) qs = rw (words_append rs qs)

-- the list of tokens, then of more
pub listed_append : (text : List ℕ) (ts us : List (Tok Character Kind)) → listed_words text (ts ++ us) ≡ listed_words text ts ++ words_of (records_from text (tokens_width ts) us)
listed_append text ts us =
    ap words_of (records_append text 0 ts us ∙ ap (λ (n : ℕ). records_from text 0 ts ++ records_from text n us) (zero-add (tokens_width ts)))
    ∙ words_append (records_from text 0 ts) (records_from text (tokens_width ts) us)
