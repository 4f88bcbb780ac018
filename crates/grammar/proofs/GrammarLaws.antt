-- The one-pass reader of the kinds of tokens gives the one division of a text into the tokens of the grammar. Assumes nothing.
use mathlib.Core.Path.{◌≡◌, refl, sym, ap, ◌∙◌}
use mathlib.Core.Bool.{Bool, true, false, false≢true, ◌&&◌}
use mathlib.Core.List.{List, [], ◌∷◌, ◌++◌}
use mathlib.Core.Option.{some}
use mathlib.Core.Logic.{◌↔◌, ◌⊎◌, inl, inr}
use Prim.Native.Nat.{◌≤◌, zero-le, suc-le-suc}
use lib.ListN.{length}
use Rattle.lists.proofs.BoolLaws.{impossible, or_cases, and_left, and_right, and_in, or_left, or_right, or_none}
use Rattle.image.specs.Class.{Class, Unassigned, Start, Nonstart, Syntax, White, Other}
use Rattle.grammar.specs.All.{All}
use Rattle.grammar.specs.Scan.{Tok, walk, reading}
use Rattle.grammar.specs.Division.{Division}
use Rattle.grammar.specs.White.{WhiteKind, blank, line_end, mark, same_white}
use Rattle.grammar.specs.Meaning.{Meaning}
use Rattle.grammar.specs.Grammar.{Kind, identifier, syntax, whitespace, Continue, IsContinue, IsMedial, IsWhite, Token}
use Rattle.grammar.specs.Kinds.{is_continue, is_white, kind_by, continues, kind_of, goes_with, local_rules, rules}
use Rattle.grammar.specs.Step.{Local, goes_first, more_by}
use Rattle.grammar.proofs.TailLaws.{Tail, no_more, continued, linked, identifier_begun, begun_identifier, tail_from}
use Rattle.grammar.proofs.ScanLaws.{walk_nil, walk_more, run_ends}
use Rattle.grammar.proofs.DivisionLaws.{Fits, divides, unique, fits_one_kind}

-- the reader's tests of a class, and what they mean
pub continue_test : (a : Class) → Continue a → is_continue a ≡ true
continue_test a (inl e) = ap is_continue e
continue_test a (inr e) = ap is_continue e

pub continue_means : (a : Class) → is_continue a ≡ true → Continue a
continue_means Unassigned e = absurd (false≢true e)
continue_means Start e = inl refl
continue_means Nonstart e = inr refl
continue_means Syntax e = absurd (false≢true e)
continue_means White e = absurd (false≢true e)
continue_means Other e = absurd (false≢true e)

pub white_means : (a : Class) → is_white a ≡ true → a ≡ White
white_means Unassigned e = absurd (false≢true e)
white_means Start e = absurd (false≢true e)
white_means Nonstart e = absurd (false≢true e)
white_means Syntax e = absurd (false≢true e)
white_means White e = refl
white_means Other e = absurd (false≢true e)

pub white_same : (w v : WhiteKind) → same_white w v ≡ true → v ≡ w
white_same blank blank e = refl
white_same blank line_end e = absurd (false≢true e)
white_same blank mark e = absurd (false≢true e)
white_same line_end blank e = absurd (false≢true e)
white_same line_end line_end e = refl
white_same line_end mark e = absurd (false≢true e)
white_same mark blank e = absurd (false≢true e)
white_same mark line_end e = absurd (false≢true e)
white_same mark mark e = refl

same_white_lem : (w : WhiteKind) → same_white w w ≡ true
same_white_lem blank = refl
same_white_lem line_end = refl
same_white_lem mark = refl

-- the class and the kind of White that begin a kind of token
abbrev First : Kind → Class → WhiteKind → Type 0
First identifier a v = a ≡ Start
First syntax a v = a ≡ Syntax
First (whitespace w) a v = (a ≡ White) × (v ≡ w)

pub first_class : (a : Class) (v : WhiteKind) (k : Kind) → kind_by v a ≡ some k → First k a v
first_class Unassigned v k e = impossible (cc)
first_class Start v k e = let p : identifier ≡ k = cc in rw (← p)
first_class Nonstart v k e = impossible (cc)
first_class Syntax v k e = let p : syntax ≡ k = cc in rw (← p)
first_class White v k e = let p : whitespace v ≡ k = cc in rw (← p) (refl, refl)
first_class Other v k e = impossible (cc)

module _ {A : Type 0} (m : Meaning A) where
  abbrev L : Local A Kind
  L = local_rules m

  -- white space goes on with White of its kind alone
  more_white : (w : WhiteKind) (c : A) (r : List A) → more_by L (whitespace w) (c ∷ r) ≡ goes_with m (whitespace w) c
  more_white w c r = or_none (goes_with m (whitespace w) c)

  pub goes_white : (w : WhiteKind) (c : A) → IsWhite m w c → goes_with m (whitespace w) c ≡ true
  goes_white w c e = and_in (is_white (m.class c)) (same_white w (m.white c)) (ap is_white e.0) (ap (same_white w) e.1 ∙ same_white_lem w)

  pub white_goes : (w : WhiteKind) (c : A) → goes_with m (whitespace w) c ≡ true → IsWhite m w c
  white_goes w c e =
      (white_means (m.class c) (and_left (is_white (m.class c)) (same_white w (m.white c)) e), white_same w (m.white c) (and_right (is_white (m.class c)) (same_white w (m.white c)) e))

  abbrev run : Kind → List A → List A
  run k r = (walk (rules m) (some k) r).run

  run_nil : (k : Kind) → run k [] ≡ []
  run_nil k = ap (λ w. w.run) (walk_nil (rules m) (some k))

  run_more : (k : Kind) (c : A) (r : List A) → more_by L k (c ∷ r) ≡ true → run k (c ∷ r) ≡ c ∷ run k r
  run_more k c r e = ap (λ w. w.run) (walk_more (rules m) (some k) c r e)

  -- a property of the run, from where it goes on
  run_step : (P : List A → Type 0) (k : Kind) (c : A) (r : List A) → P [] → (more_by L k (c ∷ r) ≡ true → P (c ∷ run k r)) → P (run k (c ∷ r))
  run_step P k c r z s = go (more_by L k (c ∷ r)) refl
    where
      go : (b : Bool) → more_by L k (c ∷ r) ≡ b → P (run k (c ∷ r))
      go true e = rw (run_more k c r e) (s e)
      go false e = rw (run_ends (rules m) (some k) c r e) z

  -- an identifier goes on with a Continue, and through a medial before one
  goes_continue : (c : A) (r : List A) → IsContinue m c → more_by L identifier (c ∷ r) ≡ true
  goes_continue c r e = or_left (continues m c) (m.medial c && goes_first L identifier r) (continue_test (m.class c) e)

  goes_medial : (d c : A) (r : List A) → IsMedial m d → IsContinue m c → more_by L identifier (d ∷ c ∷ r) ≡ true
  goes_medial d c r e h = or_right (continues m d) (m.medial d && continues m c) (and_in (m.medial d) (continues m c) e (continue_test (m.class c) h))

  first_run : (r : List A) → goes_first L identifier r ≡ true → goes_first L identifier (run identifier r) ≡ true
  first_run [] e = absurd (false≢true e)
  first_run (d ∷ r) e = rw (run_more identifier d r (or_left (continues m d) (m.medial d && goes_first L identifier r) e)) e

  link : (d : A) (x : List A) → IsMedial m d → goes_first L identifier x ≡ true → Tail m x → Tail m (d ∷ x)
  link d [] e h t = absurd (false≢true h)
  link d (c ∷ x) e h t = linked e (continue_means (m.class c) h) (tail_from m (c ∷ []) t)

  tail_run : (r : List A) → Tail m (run identifier r)
  tail_run [] = rw (run_nil identifier) no_more
  tail_run (c ∷ r) = run_step (Tail m) identifier c r no_more (λ e. go (tail_run r) (or_cases (continues m c) (m.medial c && goes_first L identifier r) e))
    where
      go : Tail m (run identifier r) → (continues m c ≡ true) ⊎ ((m.medial c && goes_first L identifier r) ≡ true) → Tail m (c ∷ run identifier r)
      go t (inl h) = continued (continue_means (m.class c) h) t
      go t (inr h) = link c (run identifier r) (and_left (m.medial c) (goes_first L identifier r) h) (first_run r (and_right (m.medial c) (goes_first L identifier r) h)) t

  white_run : (w : WhiteKind) (r : List A) → All (IsWhite m w) (run (whitespace w) r)
  white_run w [] = rw (run_nil (whitespace w)) tt
  white_run w (c ∷ r) = let t = white_run w r in run_step (All (IsWhite m w)) (whitespace w) c r tt (λ e. (white_goes w c (sym (more_white w c r) ∙ e), t))

  nothing_run : (r : List A) → run syntax r ≡ []
  nothing_run [] = run_nil syntax
  nothing_run (c ∷ r) = run_ends (rules m) (some syntax) c r refl

  tail_bound : {v : List A} → Tail m v → (w : List A) → length v ≤ length (run identifier (v ++ w))
  tail_bound no_more w = zero-le
  tail_bound (continued {c = c} {r = r} e t) w = rw (run_more identifier c (r ++ w) (goes_continue c (r ++ w) e)) (suc-le-suc (tail_bound t w))
  tail_bound (linked {d = d} {c = c} {r = r} e h t) w =
      rw (run_more identifier d (c ∷ (r ++ w)) (goes_medial d c (r ++ w) e h), run_more identifier c (r ++ w) (goes_continue c (r ++ w) h))
      (suc-le-suc (suc-le-suc (tail_bound t w)))

  white_bound : (k : WhiteKind) (v : List A) → All (IsWhite m k) v → (w : List A) → length v ≤ length (run (whitespace k) (v ++ w))
  white_bound k [] a w = zero-le
  white_bound k (c ∷ v) a w = rw (run_more (whitespace k) c (v ++ w) (more_white k c (v ++ w) ∙ goes_white k c a.0)) (suc-le-suc (white_bound k v a.1 w))

  token_starts : (k : Kind) (u : List A) → Token m k u → (c : A) × (v : List A) × (u ≡ c ∷ v) × (kind_of m c ≡ some k)
  token_starts identifier u t = (t.first, t.plain ++ t.groups, t.whole, ap (kind_by (m.white t.first)) t.start)
  token_starts syntax u t = (t.only, [], t.whole, ap (kind_by (m.white t.only)) t.class)
  token_starts (whitespace w) u t = (t.first, t.others, t.whole, (λ i. kind_by (t.white.0.1 i) (t.white.0.0 i)))

  token_sound : (k : Kind) (c : A) (r : List A) → First k (m.class c) (m.white c) → Token m k (c ∷ run k r)
  token_sound identifier c r e = begun_identifier m (record { first = c; after = run identifier r; whole = refl; start = e; tail = tail_run r })
  token_sound syntax c r e = record { only = c; whole = ap (λ x. c ∷ x) (nothing_run r); class = e }
  token_sound (whitespace w) c r e = record { first = c; others = run (whitespace w) r; whole = refl; white = (e, white_run w r) }

  token_bound : (k : Kind) (c : A) (v w : List A) → Token m k (c ∷ v) → length v ≤ length (run k (v ++ w))
  token_bound identifier c v w t =
      let b = identifier_begun m t in
      let e : v ≡ b.after = cc b.whole in
      tail_bound {v = v} (rw e b.tail) w
  token_bound syntax c v w t = let e : v ≡ [] = cc t.whole in rw e zero-le
  token_bound (whitespace k) c v w t = let e : v ≡ t.others = cc t.whole in white_bound k v (rw e t.white.1) w

  pub fits : Fits (Token m) (rules m)
  fits = record { starts = token_starts; sound = λ k c r e. token_sound k c r (first_class (m.class c) (m.white c) k e); bound = token_bound }

  -- the reading of a text is its division into tokens, and there is no other
  pub tokens_divide : (s : List A) → Division (Token m) s (reading (rules m) s).tokens (reading (rules m) s).left
  tokens_divide s = divides (Token m) (rules m) fits s

  pub tokens_unique : {s l l' : List A} {ts ts' : List (Tok A Kind)} → Division (Token m) s ts l → Division (Token m) s ts' l' → (ts ≡ ts') × (l ≡ l')
  tokens_unique d e = unique (Token m) (fits_one_kind (Token m) (rules m) fits) d e

  -- the reading leaves nothing exactly where the text has a division that leaves nothing
  pub accepted_iff : (s : List A) → ((reading (rules m) s).left ≡ []) ↔ ((ts : List (Tok A Kind)) × Division (Token m) s ts [])
  accepted_iff s = (λ e. ((reading (rules m) s).tokens, rw e at (tokens_divide s)), λ d. (tokens_unique (tokens_divide s) d.1).1)
