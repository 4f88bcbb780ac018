-- A newer meaning of the units keeps the older division of a text, unless that ended at a unit that changed, or at a medial before one.
-- Over the tokens of the grammar: no reader is known here, but the local test of marks, whose answer stays. Assumes nothing.
use Prim.Native.Nat.{ℕ, ◌+◌, ◌≤◌, ◌<◌}
use mathlib.Core.Path.{◌≡◌, refl, sym, ap, subst, ◌∙◌}
use mathlib.Core.Bool.{Bool, true, false, true≢false}
use mathlib.Core.List.{List, [], ◌∷◌, ◌++◌, append_assoc}
use mathlib.Core.Option.{some}
use mathlib.Core.Logic.{◌⊎◌, inl, inr}
use native.Mathlib.Omega.{arith}
use native.Mathlib.Decide.{dec_lt}
use lib.ListN.{length, length-append}
use Rattle.lists.proofs.BoolLaws.{impossible}
use Rattle.utf8.specs.Text.{Character}
use Rattle.image.specs.Class.{Class, White, class_discrete}
use Rattle.image.specs.Permitted.{
  Permitted,
  same,
  unassigned_start,
  unassigned_nonstart,
  unassigned_other,
  other_start,
  other_nonstart,
  nonstart_start,
}
use Rattle.grammar.specs.All.{All}
use Rattle.grammar.specs.Scan.{Tok}
use Rattle.grammar.specs.Division.{Longest, NoToken, Division, ends, takes}
use Rattle.grammar.specs.White.{WhiteKind, blank}
use Rattle.grammar.specs.Meaning.{Meaning}
use Rattle.grammar.specs.Grammar.{Kind, identifier, syntax, whitespace, Continue, IsContinue, IsMedial, IsWhite, Identifier, Token}
use Rattle.grammar.specs.Kinds.{kind_by, kind_of}
use Rattle.grammar.specs.Record.{token_width}
use Rattle.grammar.specs.Beside.{View, next_view, refused_by, either, medial_first, view_next, refused_from}
use Rattle.grammar.proofs.GrammarLaws.{first_class, fits, tokens_divide}
use Rattle.grammar.proofs.TailLaws.{Tail, no_more, continued, linked, identifier_begun, tail_identifier, tail_append, tail_from}
use Rattle.demands.specs.Firm.{Allowed, ClassSettled, Changed, Firm, Touched}

-- a Continue stays one; a class that begins a token doesn't change; nothing becomes White
keeps_continue : {a b : Class} → Permitted a b → Continue a → Continue b
keeps_continue (same p) e = subst Continue p e
keeps_continue unassigned_start e = inl refl
keeps_continue unassigned_nonstart e = inr refl
keeps_continue unassigned_other (inl e) = impossible (cc)
keeps_continue unassigned_other (inr e) = impossible (cc)
keeps_continue other_start e = inl refl
keeps_continue other_nonstart e = inr refl
keeps_continue nonstart_start e = inl refl

keeps_first : {a b : Class} → Permitted a b → (w : WhiteKind) (k : Kind) → kind_by w a ≡ some k → b ≡ a
keeps_first (same p) w k e = sym p
keeps_first unassigned_start w k e = cc
keeps_first unassigned_nonstart w k e = cc
keeps_first unassigned_other w k e = cc
keeps_first other_start w k e = cc
keeps_first other_nonstart w k e = cc
keeps_first nonstart_start w k e = cc

was_white : {a b : Class} → Permitted a b → b ≡ White → a ≡ White
was_white (same p) e = p ∙ e
was_white unassigned_start e = cc
was_white unassigned_nonstart e = cc
was_white unassigned_other e = cc
was_white other_start e = cc
was_white other_nonstart e = cc
was_white nonstart_start e = cc

module _ {A : Type 0} where
  all_split : (P : A → Type 0) (u r : List A) → All P (u ++ r) → All P u × All P r
  all_split P [] r a = (tt, a)
  all_split P (c ∷ u) r a = let b = all_split P u r a.1 in ((a.0, b.0), b.1)

  all_map : {P Q R : A → Type 0} → ((c : A) → P c → Q c → R c) → (u : List A) → All P u → All Q u → All R u
  all_map f [] a b = tt
  all_map f (c ∷ u) a b = (f c a.0 b.0, all_map f u a.1 b.1)

  -- of two beginnings of one text the longer goes on after the shorter
  beyond : (u v r w : List A) → u ++ r ≡ v ++ w → length u < length v → (d : A) × (x : List A) × (v ≡ u ++ d ∷ x) × (r ≡ d ∷ (x ++ w))
  beyond u [] r w e h = absurd (omega arith)
  beyond [] (d ∷ v) r w e h = (d, v, refl, e)
  beyond (c ∷ u) (d ∷ v) r w e h =
      let f : u ++ r ≡ v ++ w = cc in
      let b = beyond u v r w f (omega arith) in
      let g : d ≡ c = cc in
      (b.0, b.1, (λ i. g i ∷ b.2 i), b.3)

-- a list without its last two
abbrev pub but_two : {T : Type 0} → List T → List T
but_two [] = []
but_two (a ∷ []) = []
but_two (a ∷ b ∷ []) = []
but_two (a ∷ b ∷ c ∷ r) = a ∷ but_two (b ∷ c ∷ r)

module _ {A : Type 0} (older newer : Meaning A) where
  abbrev AllAllowed : List A → Type 0
  AllAllowed s = All (Allowed older newer) s

  settled_or_changed : (r : List A) → ClassSettled older newer r ⊎ Changed older newer r
  settled_or_changed [] = inl tt
  settled_or_changed (c ∷ r) = go (class_discrete (newer.class c) (older.class c))
    where
      go : Dec (newer.class c ≡ older.class c) → ClassSettled older newer (c ∷ r) ⊎ Changed older newer (c ∷ r)
      go (yes p) = inl p
      go (no n) = inr n

  -- units are firm, or they are touched
  pub firm_or_touched : (r : List A) → Firm older newer r ⊎ Touched older newer r
  firm_or_touched [] = inl tt
  firm_or_touched (c ∷ r) = go (settled_or_changed (c ∷ r)) (older.medial c) refl (settled_or_changed r)
    where
      go : ClassSettled older newer (c ∷ r) ⊎ Changed older newer (c ∷ r) → (b : Bool) → older.medial c ≡ b → ClassSettled older newer r ⊎ Changed older newer r →
          Firm older newer (c ∷ r) ⊎ Touched older newer (c ∷ r)
      go (inr n) b m d = inr (inl n)
      go (inl p) false m d = inl (p, λ t. absurd (true≢false (sym t ∙ m)))
      go (inl p) true m (inl q) = inl (p, λ t. q)
      go (inl p) true m (inr n) = inr (inr (m, n))

  -- a token stays a token
  tail_stays : {r : List A} → AllAllowed r → Tail older r → Tail newer r
  tail_stays a no_more = no_more
  tail_stays a (continued e t) = continued (keeps_continue a.0.permitted e) (tail_stays a.1 t)
  tail_stays a (linked e h t) = linked (a.0.medial ∙ e) (keeps_continue a.1.0.permitted h) (tail_stays a.1.1 t)

  token_stays : (k : Kind) (u : List A) → AllAllowed u → Token older k u → Token newer k u
  token_stays identifier u a t =
      let i = identifier_begun older t in
      let b : AllAllowed (i.first ∷ i.after) = rw i.whole at a in
      rw i.whole (tail_identifier newer (keeps_first b.0.permitted blank identifier (ap (kind_by blank) i.start) ∙ i.start) (tail_stays b.1 i.tail))
  token_stays syntax u a t =
      let c : AllAllowed (t.only ∷ []) = rw t.whole at a in
      record { only = t.only; whole = t.whole; class = keeps_first c.0.permitted blank syntax (ap (kind_by blank) t.class) ∙ t.class }
  token_stays (whitespace w) u a t =
      let c : AllAllowed (t.first ∷ t.others) = rw t.whole at a in
      record {
        first = t.first;
        others = t.others;
        whole = t.whole;
        white = all_map (λ d p e. (keeps_first p.permitted w (whitespace w) (ap (kind_by w) e.0) ∙ e.0, p.white ∙ e.1)) (t.first ∷ t.others) c t.white;
      }

  -- the first unit of a text that begins with a token has the class that it had
  token_settled : (k : Kind) (u r : List A) → AllAllowed (u ++ r) → Token older k u → ClassSettled older newer (u ++ r)
  token_settled k u r a t =
      let (c, v, e, f) = (fits older).starts k u t in
      let b : AllAllowed (c ∷ (v ++ r)) = rw e at a in
      rw e (keeps_first b.0.permitted (older.white c) k f)

  -- at least n tokens follow, or firm units
  data Sure (n : ℕ) (ts : List (Tok A Kind)) (left : List A) : Type 0 where
    enough : n ≤ length ts → Sure n ts left
    firm : Firm older newer left → Sure n ts left

  less : {ts : List (Tok A Kind)} {left : List A} → Sure 2 ts left → Sure 1 ts left
  less (enough h) = enough (omega arith)
  less (firm g) = firm g

  after_one : {t : Tok A Kind} {ts : List (Tok A Kind)} {left : List A} → Sure 2 (t ∷ ts) left → Sure 1 ts left
  after_one (enough h) = enough (omega arith)
  after_one (firm g) = firm g

  settled : {r left : List A} {ts : List (Tok A Kind)} → AllAllowed r → Division (Token older) r ts left → Sure 1 ts left → ClassSettled older newer r
  settled a (ends n) (enough h) = absurd (omega arith)
  settled {r} a (ends n) (firm g) = go r g
    where
      go : (s : List A) → Firm older newer s → ClassSettled older newer s
      go [] f = tt
      go (c ∷ s) f = f.0
  settled a (takes {k = k} {u = u} {rest = r} L d) g = rw L.whole (token_settled k u r (rw L.whole at a) L.token)

  -- and so has the second, where the first is a medial and no Continue
  next_settled : {c : A} {r left : List A} {ts : List (Tok A Kind)} → AllAllowed (c ∷ r) → (IsContinue older c → ⊥) → IsMedial older c →
      Division (Token older) (c ∷ r) ts left → Sure 2 ts left → ClassSettled older newer r
  next_settled a n m (ends x) (enough h) = absurd (omega arith)
  next_settled a n m (ends x) (firm g) = g.1 m
  next_settled {c} {r} {left} a n m (takes {k = k} {u = u} {rest = rest} {ts = ts} L d) g = go k L.token L.whole
    where
      after : (w : WhiteKind) (x : A) (v : List A) → c ∷ r ≡ x ∷ (v ++ rest) → All (IsWhite older w) v → ClassSettled older newer r
      after w x [] e h = let f : r ≡ rest = cc in rw f (settled (rw f at a.1) d (after_one g))
      after w x (y ∷ v) e h =
          let f : r ≡ y ∷ (v ++ rest) = cc in
          let b : AllAllowed (y ∷ (v ++ rest)) = rw f at a.1 in
          rw f (keeps_first b.0.permitted w (whitespace w) (ap (kind_by w) h.0.0))

      go : (j : Kind) → Token older j u → c ∷ r ≡ u ++ rest → ClassSettled older newer r
      go identifier t e =
          let i = identifier_begun older t in
          let h : c ≡ i.first = let z = ap (λ y. y ++ rest) i.whole in cc in
          absurd (n (inl (ap older.class h ∙ i.start)))
      go syntax t e = after blank t.only [] (e ∙ ap (λ x. x ++ rest) t.whole) tt
      go (whitespace w) t e = after w t.first t.others (e ∙ ap (λ x. x ++ rest) t.whole) t.white.1

  -- an identifier that is the longest is followed by no tail
  grows : {s u rest : List A} → Longest (Token older) s identifier u rest → (x y : List A) → rest ≡ x ++ y → Tail older x → length x ≤ 0
  grows {s} {u} {rest} L x y e t =
      let i = identifier_begun older L.token in
      let j : Identifier older (u ++ x) = rw i.whole (tail_identifier older i.start (tail_append older i.tail t)) in
      let l = L.longest identifier (u ++ x) y (L.whole ∙ ap (λ z. u ++ z) e ∙ sym (append_assoc u x y)) j in
      omega (arith, length-append u x)

  no_continue : {s u r : List A} {x : A} → Longest (Token older) s identifier u (x ∷ r) → IsContinue older x → ⊥
  no_continue {r = r} {x = x} L c = let l = grows L (x ∷ []) r refl (continued c no_more) in omega arith

  -- nor by what is a tail for the newer meaning
  stops : {s u left : List A} {ts : List (Tok A Kind)} (x : A) (r w : List A) → AllAllowed (x ∷ (r ++ w)) → Longest (Token older) s identifier u (x ∷ (r ++ w)) →
      Division (Token older) (x ∷ (r ++ w)) ts left → Sure 2 ts left → Tail newer (x ∷ r) → ⊥
  stops x r w a L d g (continued c t) = no_continue L (subst Continue (settled a d (less g)) c)
  stops x r w a L d g (linked {c = y} {r = z} m c t) =
      let e = sym a.0.medial ∙ m in
      let k : newer.class y ≡ older.class y = next_settled a (no_continue L) e d g in
      let l = grows L (x ∷ y ∷ []) (z ++ w) refl (linked e (subst Continue k c) no_more) in
      omega arith

  -- no identifier of the newer meaning is longer than the older's longest
  identifier_bound : {s u rest left : List A} {ts : List (Tok A Kind)} → AllAllowed s → Longest (Token older) s identifier u rest → Division (Token older) rest ts left → Sure 2 ts left →
      (v w : List A) → s ≡ v ++ w → Identifier newer v → length u < length v → ⊥
  identifier_bound {s} {u} {rest} {left} {ts} a L d g v w e t h =
      let (x, z, p, q) = beyond u v rest w (sym L.whole ∙ e) h in
      let b = identifier_begun older L.token in
      let i = identifier_begun newer t in
      let f : i.after ≡ b.after ++ x ∷ z = let r = ap (λ y. y ++ x ∷ z) b.whole in let k = i.whole in cc in
      let c = (all_split (Allowed older newer) u (x ∷ (z ++ w)) (rw (L.whole, q) at a)).1 in
      stops x z w c (rw q at L) (rw q at d) g (tail_from newer b.after (rw f at i.tail))

  -- the longest token stays the longest
  keeps : {s u rest left : List A} {k : Kind} {ts : List (Tok A Kind)} → AllAllowed s → Longest (Token older) s k u rest → Division (Token older) rest ts left → Sure 2 ts left →
      Longest (Token newer) s k u rest
  keeps {s} {u} {rest} {left} {k} {ts} a L d g =
      record { whole = L.whole; token = token_stays k u (all_split (Allowed older newer) u rest b).0 L.token; longest = bound }
    where
      b : AllAllowed (u ++ rest)
      b = rw L.whole at a

      not_longer : (v w : List A) → s ≡ v ++ w → Identifier newer v → length u < length v → ⊥
      not_longer v w e t h =
          let (c, x, p, f) = (fits older).starts k u L.token in
          let i = identifier_begun newer t in
          let y : i.first ≡ c = let z = i.whole in let q = ap (λ l. l ++ rest) p in let r = L.whole in cc in
          let o : ClassSettled older newer (c ∷ (x ++ rest)) = rw p at (token_settled k u rest b L.token) in
          let j : identifier ≡ k = let z = ap (kind_by (older.white c)) (sym o ∙ ap newer.class (sym y) ∙ i.start) in cc in
          identifier_bound a (rw (← j) at L) d g v w e t h

      bound : (j : Kind) (v w : List A) → s ≡ v ++ w → Token newer j v → length v ≤ length u
      bound identifier v w e t = go (dec_lt (length u) (length v))
        where
          go : Dec (length u < length v) → length v ≤ length u
          go (yes h) = absurd (not_longer v w e t h)
          go (no h) = omega arith
      bound syntax v w e t =
          let l = ap length ((fits older).starts k u L.token).2 in
          let m = ap length t.whole in
          omega arith
      bound (whitespace j) v w e t =
          let c : AllAllowed (t.first ∷ t.others) = rw t.whole at (all_split (Allowed older newer) v w (rw e at a)).0 in
          L.longest (whitespace j) v w e
          (record { first = t.first; others = t.others; whole = t.whole; white = all_map (λ x p q. (was_white p.permitted q.0, sym p.white ∙ q.1)) (t.first ∷ t.others) c t.white })

  -- one unit of a class that begins a token is one
  single : (k : Kind) (c : A) → kind_of older c ≡ some k → Token older k (c ∷ [])
  single identifier c f = tail_identifier older (first_class (older.class c) (older.white c) identifier f) no_more
  single syntax c f = record { only = c; whole = refl; class = first_class (older.class c) (older.white c) syntax f }
  single (whitespace w) c f = record { first = c; others = []; whole = refl; white = (first_class (older.class c) (older.white c) (whitespace w) f, tt) }

  none_begins : (s : List A) → AllAllowed s → Firm older newer s → NoToken (Token older) s → NoToken (Token newer) s
  none_begins s a g n j v w e t =
      let (c, x, p, f) = (fits newer).starts j v t in
      let q : s ≡ c ∷ (x ++ w) = rw p at e in
      let h : Firm older newer (c ∷ (x ++ w)) = rw q at g in
      let b : AllAllowed (c ∷ (x ++ w)) = rw q at a in
      n j (c ∷ []) (x ++ w) q (single j c (sym (λ i. kind_by (b.0.white i) (h.0 i)) ∙ f))

  -- tokens and what is left stay, where firm units are left
  pub division_stable : {s left : List A} {ts : List (Tok A Kind)} → AllAllowed s → Firm older newer left → Division (Token older) s ts left → Division (Token newer) s ts left
  division_stable {s} a g (ends n) = ends (none_begins s a g n)
  division_stable a g (takes {u = u} {rest = rest} L d) =
      takes (keeps a L d (firm g)) (division_stable (all_split (Allowed older newer) u rest (rw L.whole at a)).1 g d)

  -- whatever is left, the newer division begins with all tokens of the older but the last two
  pub begins_again : {s left : List A} {ts : List (Tok A Kind)} → AllAllowed s → Division (Token older) s ts left →
      (us : List (Tok A Kind)) × (rest : List A) × Division (Token newer) s (but_two ts ++ us) rest
  begins_again {s} a (ends n) = (_, _, tokens_divide newer s)
  begins_again {s} {left} a (takes {k = k} {u = u} {rest = rest} {ts = ts} L d) =
      go ts d (begins_again (all_split (Allowed older newer) u rest (rw L.whole at a)).1 d)
    where
      go : (ts : List (Tok A Kind)) → Division (Token older) rest ts left → (us : List (Tok A Kind)) × (l : List A) × Division (Token newer) rest (but_two ts ++ us) l →
          (us : List (Tok A Kind)) × (l : List A) × Division (Token newer) s (but_two (record { kind = k; units = u } ∷ ts) ++ us) l
      go [] d ih = (_, _, tokens_divide newer s)
      go (t ∷ []) d ih = (_, _, tokens_divide newer s)
      go (t ∷ t' ∷ ts) d ih = (ih.0, ih.1, takes (keeps a L d (enough (omega arith))) ih.2)

-- the local test of marks looks at kinds and medials alone
module _ (older newer : Meaning Character) (same : (c : Character) → newer.medial c ≡ older.medial c) where
  first_same : (u : List Character) → medial_first newer u ≡ medial_first older u
  first_same [] = refl
  first_same (c ∷ r) = same c

  pub refused_stable : (v : View) (p : ℕ) (ts : List (Tok Character Kind)) → refused_from newer v p ts ≡ refused_from older v p ts
  refused_stable v p [] = refl
  refused_stable v p (t ∷ ts) =
      let q = p + token_width t in
      ap (either (refused_by v t.kind))
      (refused_stable (view_next newer v p t) q ts ∙ ap (λ (b : Bool). refused_from older (next_view v p t.kind b) q ts) (first_same t.units))
