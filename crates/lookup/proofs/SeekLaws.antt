-- The halving search finds the class of a number in ranges that rise, and so in each section of an accepted image. Assumes nothing.
use Prim.Native.Nat.{ℕ, zero, suc, ◌+◌, ◌-◌, ◌/◌, ◌≤◌, ◌<◌}
use mathlib.Core.Path.{◌≡◌, refl, sym, subst}
use mathlib.Core.List.{List}
use mathlib.Core.Option.{none}
use native.Mathlib.Omega.{arith}
use native.Mathlib.Decide.{dec_lt}
use Rattle.image.specs.Ranges.{class_in}
use Rattle.image.specs.Records.{record_at, record_count, section_class}
use Rattle.image.specs.Placed.{Rising}
use Rattle.image.specs.Check.{refusal_of}
use Rattle.image.specs.declared.Range.{Range}
use Rattle.image.specs.declared.records.Section.{Section}
use Rattle.image.proofs.RisingLaws.{class_held, class_gap}
use Rattle.image.proofs.SectionLaws.{records_rise}
use Rattle.lookup.specs.declared.Probe.{Probe}
use Rattle.lookup.specs.Halving.{seek_of}
use Rattle.lookup.proofs.HalvingLaws.{seek_none, seek_low, seek_high, seek_here}

module _ (at : ℕ → Range) (n : ℕ) (up : Rising at n) (x : ℕ) where
  abbrev Ends : Probe → Type 0
  Ends p = p.class ≡ class_in at n x

  -- of any part of at most k ranges, where the range before it ends before x and the one after it begins after x
  abbrev Finds : ℕ → Type 0
  Finds k =
      (lo hi : ℕ) → hi - lo ≤ k → lo ≤ hi → hi ≤ n → (0 < lo → (at (lo - 1)).last < x) → (hi < n → x < (at hi).first) → Ends (seek_of at lo hi x)

  finds_none : Finds zero
  finds_none lo hi h l u p q =
      let e : hi ≡ lo = omega arith in
      let g : lo < n → x < (at lo).first = rw e at q in
      subst Ends (sym (seek_none at x lo hi (omega arith))) (sym (class_gap at n up lo x (omega arith) p g))

  finds_step :
      (k : ℕ) → Finds k → (lo hi : ℕ) → hi - lo ≤ suc k → lo < hi → hi ≤ n → (0 < lo → (at (lo - 1)).last < x) → (hi < n → x < (at hi).first)
      → Dec (x < (at ((lo + hi) / 2)).first) → Dec ((at ((lo + hi) / 2)).last < x) → Ends (seek_of at lo hi x)
  finds_step k f lo hi h l u p q (yes a) d =
      subst Ends (seek_low at x lo hi _ refl l _ refl a) (f lo ((lo + hi) / 2) (omega arith) (omega arith) (omega arith) p (λ _. a))
  finds_step k f lo hi h l u p q (no a) (yes b) =
      let m = (lo + hi) / 2 in
      let z : m ≡ m + 1 - 1 = omega arith in
      subst Ends (seek_high at x lo hi _ refl l _ refl (omega arith) b) (f (m + 1) hi (omega arith) (omega arith) u (λ _. rw z at b) q)
  finds_step k f lo hi h l u p q (no a) (no b) =
      let m = (lo + hi) / 2 in
      subst Ends (seek_here at x lo hi _ refl l (omega arith) (omega arith)) (sym (class_held at n up m x (omega arith) (omega arith) (omega arith)))

  finds : (k : ℕ) → Finds k
  finds zero lo hi h l u p q = finds_none lo hi h l u p q
  finds (suc k) lo hi h l u p q = go (dec_lt lo hi) (finds k)
    where
      go : Dec (lo < hi) → Finds k → Ends (seek_of at lo hi x)
      go (yes w) f = finds_step k f lo hi h w u p q (dec_lt x _) (dec_lt _ x)
      go (no w) f = finds_none lo hi (omega arith) l u p q

  -- the search from lo to hi, where the range before lo ends before x and range hi begins after it
  pub seek_part :
      (lo hi : ℕ) → lo ≤ hi → hi ≤ n → (0 < lo → (at (lo - 1)).last < x) → (hi < n → x < (at hi).first) → Ends (seek_of at lo hi x)
  seek_part lo hi = finds (hi - lo) lo hi (omega arith)

  pub seek_all : Ends (seek_of at 0 n x)
  seek_all = seek_part 0 n (omega arith) (omega arith) (λ l. absurd (omega arith)) (λ l. absurd (omega arith))

-- what the search in a section finds
pub found_at :
    (s : List ℕ) → refusal_of s ≡ none → (section : Section) (x : ℕ)
    → (seek_of (record_at s section) 0 (record_count s section) x).class ≡ section_class s section x
found_at s a section x = seek_all (record_at s section) (record_count s section) (records_rise s a section) x
