-- Inner: no public statement cites this file.
-- The local test of refusal 14 (docs/RULES.md, "Direction marks"): what a reader keeps of the tokens before a place, to know at the next
-- token whether a mark is refused. `proofs/BesideLaws.antt` shows that it is the second reading's answer.
--
--   View                     what the last tokens are to a mark
--   medial_view, marked_view   the view after a medial Syntax; after a mark
--   white_view, next_view      the view after White; after a token of a kind
--   parted_by, refused_by      the mark that is refused if an identifier comes next; if a token of a kind does
--   either                   the first of two places, if there is one; else the second
--   medial_first              whether the first of units is a medial
--   view_next, view_after      the view after a token; after tokens
--   refused_from              the first mark among tokens that is refused
--   Parts                    the three cases in which a mark is refused, by the tokens before it and after it
use Rattle.std.specs.Prelude.{ℕ, ◌+◌, ◌≡◌, Bool, true, false, cond, List, [], ◌∷◌, ◌++◌}
use Rattle.std.proofs.Math.Option.{Option, none, some}
use Rattle.utf8.specs.Text.{Character}
use Rattle.grammar.specs.White.{WhiteKind, blank, line_end, mark}
use Rattle.grammar.specs.Scan.{Tok}
use Rattle.grammar.specs.Step.{tok}
use Rattle.grammar.specs.Meaning.{Meaning}
use Rattle.grammar.specs.Grammar.{Kind, identifier, syntax, whitespace}
use Rattle.grammar.specs.Record.{token_width}

-- nothing that a mark could part; an identifier; a medial Syntax right after an identifier; a mark at a byte after an identifier; one
-- after such a medial; a medial Syntax after a mark after an identifier
pub data View : Type 0 where
  other after_identifier after_medial : View
  mark_after_identifier mark_after_medial medial_after_mark : ℕ → View

abbrev pub medial_view : View → View
medial_view other = other
medial_view after_identifier = after_medial
medial_view after_medial = other
medial_view (mark_after_identifier q) = medial_after_mark q
medial_view (mark_after_medial q) = other
medial_view (medial_after_mark q) = other

-- the mark stands at byte p
abbrev pub marked_view : View → ℕ → View
marked_view other p = other
marked_view after_identifier p = mark_after_identifier p
marked_view after_medial p = mark_after_medial p
marked_view (mark_after_identifier q) p = other
marked_view (mark_after_medial q) p = other
marked_view (medial_after_mark q) p = other

abbrev pub white_view : View → ℕ → WhiteKind → View
white_view v p blank = other
white_view v p line_end = other
white_view v p mark = marked_view v p

-- the token stands at byte p; b: whether its first unit is a medial
abbrev pub next_view : View → ℕ → Kind → Bool → View
next_view v p identifier b = after_identifier
next_view v p syntax b = cond b (medial_view v) other
next_view v p (whitespace w) b = white_view v p w

abbrev pub parted_by : View → Option ℕ
parted_by other = none
parted_by after_identifier = none
parted_by after_medial = none
parted_by (mark_after_identifier q) = some q
parted_by (mark_after_medial q) = some q
parted_by (medial_after_mark q) = some q

abbrev pub refused_by : View → Kind → Option ℕ
refused_by v identifier = parted_by v
refused_by v syntax = none
refused_by v (whitespace w) = none

abbrev pub either : Option ℕ → Option ℕ → Option ℕ
either none o = o
either (some p) o = some p

abbrev pub medial_first : {A : Type 0} → Meaning A → List A → Bool
medial_first m [] = false
medial_first m (c ∷ r) = m.medial c

module _ (m : Meaning Character) where
  abbrev pub view_next : View → ℕ → Tok Character Kind → View
  view_next v p t = next_view v p t.kind (medial_first m t.units)

  -- the tokens begin at byte p
  abbrev pub view_after : View → ℕ → List (Tok Character Kind) → View
  view_after v p [] = v
  view_after v p (t ∷ ts) = view_after (view_next v p t) (p + token_width t) ts

  abbrev pub refused_from : View → ℕ → List (Tok Character Kind) → Option ℕ
  refused_from v p [] = none
  refused_from v p (t ∷ ts) = either (refused_by v t.kind) (refused_from (view_next v p t) (p + token_width t) ts)

pub data Parts (m : Meaning Character) (before after : List (Tok Character Kind)) : Type 0 where
  -- both neighbours are identifiers
  identifiers :
      (ts us : List (Tok Character Kind)) (u v : List Character) → before ≡ ts ++ tok identifier u ∷ [] → after ≡ tok identifier v ∷ us → Parts m before after
  -- an identifier on the left; on the right a medial Syntax, after which an identifier begins
  medial_right :
      (ts us : List (Tok Character Kind)) (u v : List Character) (d : Character) → before ≡ ts ++ tok identifier u ∷ [] →
      after ≡ tok syntax (d ∷ []) ∷ tok identifier v ∷ us → m.medial d ≡ true → Parts m before after
  -- on the left a medial Syntax right after an identifier; an identifier on the right
  medial_left :
      (ts us : List (Tok Character Kind)) (u v : List Character) (d : Character) → before ≡ ts ++ tok identifier u ∷ tok syntax (d ∷ []) ∷ [] →
      m.medial d ≡ true → after ≡ tok identifier v ∷ us → Parts m before after
