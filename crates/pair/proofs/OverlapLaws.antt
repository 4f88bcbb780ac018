-- Two images side by side: what begins at a code point in both, and the first change that is forbidden. Assumes nothing.
use Prim.Native.Nat.{ℕ, ◌+◌, ◌≤◌, ◌<◌, min}
use mathlib.Core.Path.{◌≡◌, refl, sym, ap, ◌∙◌}
use mathlib.Core.Bool.{Bool, true, false, not, ◌&&◌, true≢false}
use mathlib.Core.List.{List}
use mathlib.Core.Logic.{◌⊎◌, inl, inr, ⊎_elim}
use mathlib.Core.Option.{none}
use Rattle.std.specs.Prelude.{Option, Some, None}
use borrow.Author.Tests.{lt-ltb}
use native.Mathlib.Omega.{arith}
use native.Mathlib.Decide.{dec_lt}
use Rattle.lists.proofs.FirstLaws.{first_is, first_none}
use Rattle.utf8.specs.Scalar.{is_scalar, past_last}
use Rattle.utf8.proofs.ScalarLaws.{means_scalar}
use Rattle.image.specs.Limits.{last_code_point}
use Rattle.image.specs.Profile.{point_at}
use Rattle.image.specs.Check.{refusal_of, range_class}
use Rattle.image.proofs.ImageLaws.{accepted}
use Rattle.image.specs.declared.records.Section.{Section}
use Rattle.image.specs.declared.records.Section.TheVariants.{Ranges, Entries}
use Rattle.image.specs.Records.{section_class}
use Rattle.image.proofs.ClassLaws.{class_scalar}
use Rattle.image.proofs.RisingLaws.{class_none}
use Rattle.pair.specs.Change.{permitted}
use Rattle.pair.specs.declared.walk.Ahead.{Ahead}
use Rattle.pair.specs.declared.walk.Overlap.{Overlap}
use Rattle.pair.specs.Walk.{code_points, Stops, AheadOf, StopsBoth, OverlapOf, OverlapAt}
use Rattle.pair.specs.Pair.{forbidden_at, first_forbidden, forbidden_change}

and_false : (b : Bool) → (b && false) ≡ false
and_false true = refl
and_false false = refl

-- no number but a scalar value has a class in the ranges, or a role
pub none_scalar : (s : List ℕ) → refusal_of s ≡ none → (section : Section) (x : ℕ) → is_scalar x ≡ false → section_class s section x ≡ 0
none_scalar s a Ranges x e = class_scalar _ _ (accepted s a).ranges x e
none_scalar s a Entries x e =
    class_none _ _ x (λ i l p q. let z : point_at s i ≡ x = omega arith in true≢false (sym ((accepted s a).entries i l).scalar ∙ ap is_scalar z ∙ e))

-- an overlap ends where the first of the two does
module _ {older newer : List ℕ} {section : Section} {x : ℕ} {a b : Ahead} (f : AheadOf older section x a) (g : AheadOf newer section x b) where
  -- e is the last code point of the one or of the other
  record Least (e : ℕ) : Type 0 where
    older_to : e ≤ a.last
    newer_to : e ≤ b.last
    one : (e ≡ a.last) ⊎ (e ≡ b.last)

  abbrev both : ℕ → Overlap
  both e = record { first = x; last = e; older = a; newer = b }

  stops_both :
      (section : Section) → refusal_of older ≡ none → refusal_of newer ≡ none → Stops older section x a.last a.class
      → Stops newer section x b.last b.class → (e : ℕ) → Least e → x ≤ e → (a.class ≡ b.class → ⊥)
      → StopsBoth older newer section (both e)
  stops_both Ranges o m s t e l k d = λ h j. go h j (dec_lt e last_code_point) l.one
    where
      go : section_class older Ranges (e + 1) ≡ a.class → section_class newer Ranges (e + 1) ≡ b.class → Dec (e < last_code_point)
          → (e ≡ a.last) ⊎ (e ≡ b.last) → ⊥
      go h j (no v) c =
          let z = means_scalar (e + 1) false (past_last (omega arith)) in
          d (sym h ∙ none_scalar older o Ranges (e + 1) z ∙ sym (none_scalar newer m Ranges (e + 1) z) ∙ j)
      go h j (yes v) (inl c) = s (omega arith) (rw c at h)
      go h j (yes v) (inr c) = t (omega arith) (rw c at j)
  stops_both Entries o m s t e l k d = go (dec_lt 0 a.class) (dec_lt 0 b.class)
    where
      go : Dec (0 < a.class) → Dec (0 < b.class) → e ≡ x
      go (yes v) c = omega (arith, s (λ y. omega arith), l.older_to)
      go (no v) (yes c) = omega (arith, t (λ y. omega arith), l.newer_to)
      go (no v) (no c) = absurd (d (omega arith))

  least : (e : ℕ) → e ≡ min a.last b.last → Least e
  least e z = record { older_to = omega (arith, z); newer_to = omega (arith, z); one = go (dec_lt a.last b.last) }
    where
      go : Dec (a.last < b.last) → (e ≡ a.last) ⊎ (e ≡ b.last)
      go (yes l) = inl (omega (arith, z))
      go (no l) = inr (omega (arith, z))

  pub both_ahead : (e : ℕ) → e ≡ min a.last b.last → OverlapOf older newer section (both e)
  both_ahead e z =
      let l = least e z in
      let k : x ≤ e = ⊎_elim (λ z. omega (arith, f.from)) (λ z. omega (arith, g.from)) l.one in
      record {
        from = k;
        to = omega (arith, f.to, l.older_to);
        older_same = λ y r h. f.same y r (omega (arith, l.older_to));
        newer_same = λ y r h. g.same y r (omega (arith, l.newer_to));
        stops = stops_both section f.next.accepted g.next.accepted f.stops g.stops e l k;
        older_next = record { begun = x; ahead = f; from = omega arith; to = omega (arith, l.older_to) };
        newer_next = record { begun = x; ahead = g; from = omega arith; to = omega (arith, l.newer_to) };
      }

-- both images are accepted
module _ {older newer : List ℕ} {section : Section} {r : Overlap} (o : OverlapOf older newer section r) where
  pub older_accepted : refusal_of older ≡ none
  older_accepted = o.older_next.ahead.next.accepted

  pub newer_accepted : refusal_of newer ≡ none
  newer_accepted = o.newer_next.ahead.next.accepted

-- where a walk stands: at an overlap, or past the last code point
abbrev pub stands_at : Option Overlap → ℕ
stands_at (Some t) = t.first
stands_at None = code_points

pub stands : (older newer : List ℕ) (section : Section) {x : ℕ} (o : Option Overlap) → OverlapAt older newer section x o → stands_at o ≡ x
stands older newer section (Some t) h = h.0
stands older newer section None h = sym h

-- no code point before a place has a forbidden change
abbrev pub Clear : List ℕ → List ℕ → ℕ → Type 0
Clear older newer x = (y : ℕ) → y < x → forbidden_at older newer y ≡ false

module _ (older newer : List ℕ) where
  pub clear_ends : Clear older newer code_points → None ≡ forbidden_change older newer
  unfolding forbidden_change first_forbidden
  clear_ends c = rw (first_none (forbidden_at older newer) code_points c) refl

  module _ {t : Overlap} (c : Clear older newer t.first) (o : OverlapOf older newer Ranges t) where
    -- the change of each code point of the overlap
    changes : (y : ℕ) → t.first ≤ y → y ≤ t.last → permitted (range_class older y) (range_class newer y) ≡ permitted t.older.class t.newer.class
    unfolding range_class
    changes y u v = rw (o.older_same y u v, o.newer_same y u v)

    pub clear_next : permitted t.older.class t.newer.class ≡ true → Clear older newer (t.last + 1)
    unfolding forbidden_at
    clear_next e = λ y k. go y k (dec_lt y t.first)
      where
        go : (y : ℕ) → y < t.last + 1 → Dec (y < t.first) → forbidden_at older newer y ≡ false
        go y k (yes v) = c y v
        go y k (no v) = rw (changes y (omega arith) (omega arith), e) (and_false (is_scalar y))

    -- only scalar values have classes in the ranges, so the change is one of a scalar value
    pub clear_here :
        permitted t.older.class t.newer.class ≡ false → Some t.first ≡ forbidden_change older newer
    unfolding forbidden_change first_forbidden forbidden_at range_class permitted
    clear_here e =
        let l : t.first < code_points = omega (arith, o.from, o.to) in
        let z = first_is (forbidden_at older newer) code_points t.first l (go (is_scalar t.first) refl (changes t.first (omega arith) o.from ∙ e)) c in
        rw (z, lt-ltb _ _ l) refl
      where
        go : (b : Bool) → is_scalar t.first ≡ b → permitted (range_class older t.first) (range_class newer t.first) ≡ false
            → (b && not (permitted (range_class older t.first) (range_class newer t.first))) ≡ true
        go true h e = rw e
        go false h e = absurd (true≢false (simp (none_scalar older (older_accepted o) Ranges _ h, none_scalar newer (newer_accepted o) Ranges _ h) at e))
