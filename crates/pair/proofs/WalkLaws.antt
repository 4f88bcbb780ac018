-- What begins at a code point of a walk: nothing more, a gap before the next record, or the rest of a record. Assumes nothing.
use Prim.Native.Nat.{ℕ, ◌+◌, ◌-◌, ◌≤◌, ◌<◌}
use mathlib.Core.Path.{◌≡◌, sym, ◌∙◌}
use mathlib.Core.List.{List}
use mathlib.Core.Option.{none}
use native.Mathlib.Omega.{arith}
use native.Mathlib.Decide.{dec_lt}
use Rattle.utf8.proofs.ScalarLaws.{scalar_le}
use Rattle.image.specs.Limits.{last_code_point}
use Rattle.image.specs.Check.{refusal_of}
use Rattle.image.specs.declared.Range.{Range}
use Rattle.image.proofs.ImageLaws.{accepted}
use Rattle.image.specs.declared.records.Section.{Section}
use Rattle.image.specs.declared.records.Section.TheVariants.{Ranges, Entries}
use Rattle.image.specs.Records.{record_at, record_count, section_class}
use Rattle.image.specs.Placed.{Rising}
use Rattle.image.proofs.RisingLaws.{class_held, class_gap}
use Rattle.image.proofs.SectionLaws.{records_rise}
use Rattle.pair.specs.Walk.{Walk, Stops, AheadOf}

module _ (s : List ℕ) (a : refusal_of s ≡ none) where
  -- no record goes past the last code point
  record_below : (section : Section) (i : ℕ) → i < record_count s section → (record_at s section i).last ≤ last_code_point
  record_below Ranges i l = ((accepted s a).ranges i l).below
  record_below Entries i l = scalar_le _ ((accepted s a).entries i l).scalar

  abbrev range : ℕ → Range
  range = record_at s Ranges

  abbrev class : ℕ → ℕ
  class = section_class s Ranges

  -- a range begins with a class other than 0, and after the one before i comes another class
  begins_class : (i : ℕ) → i < record_count s Ranges → class (range i).first ≡ 0 → ⊥
  begins_class i l e =
      let g = (accepted s a).ranges i l in
      omega (arith, g.some_class, sym (class_held _ _ (records_rise s a Ranges) i _ l (omega arith) g.ordered) ∙ e)

  ends_class : (i : ℕ) → 0 < i → i ≤ record_count s Ranges → class ((range (i - 1)).last + 1) ≡ (range (i - 1)).class → ⊥
  ends_class i h l e = go (dec_lt i _)
    where
      gap : (i < record_count s Ranges → (range (i - 1)).last + 1 < (range i).first) → ⊥
      gap f =
          let c = class_gap _ _ (records_rise s a Ranges) i ((range (i - 1)).last + 1) l (λ _. omega arith) f in
          omega (arith, ((accepted s a).ranges (i - 1) (omega arith)).some_class, sym c ∙ e)

      touch : i < record_count s Ranges → Dec ((range (i - 1)).last + 1 < (range i).first) → ⊥
      touch q (yes t) = gap (λ _. t)
      touch q (no t) =
          let g = (accepted s a).ranges i q in
          let z : (range (i - 1)).last + 1 ≡ (range i).first = omega (arith, g.after h) in
          g.apart h (sym e ∙ class_held _ _ (records_rise s a Ranges) i _ q (omega arith) (omega (arith, g.ordered))) z

      go : Dec (i < record_count s Ranges) → ⊥
      go (yes q) = touch q (dec_lt _ _)
      go (no q) = gap (λ p. absurd (q p))

module _ {s : List ℕ} {section : Section} {i x m : ℕ} (w : Walk s section i x) (c : m ≡ record_count s section) (h : x ≤ last_code_point) where
  abbrev n : ℕ
  n = record_count s section

  abbrev at : ℕ → Range
  at = record_at s section

  up : Rising at n
  up = records_rise s w.accepted section

  -- up to `last` no record is left, or record i has not begun
  empty : (last : ℕ) → x ≤ last → last ≤ last_code_point → (i < n → last < (at i).first) → Stops s section x last 0
      → AheadOf s section x (record { last = last; class = 0; next = i; records = m })
  empty last l u f stops =
      record {
        from = l;
        to = u;
        same = λ y p q. class_gap at n up i y w.place.passed.within (λ k. omega (arith, w.place.passed.before k)) (λ k. omega (arith, f k));
        stops = stops;
        next =
            record {
              accepted = w.accepted;
              place =
                  record {
                    passed = record { within = w.place.passed.within; before = λ k. omega (arith, w.place.passed.before k) };
                    reached = λ k. omega (arith, f k, up.ordered i k);
                  };
            };
        counted = c;
      }

  -- past the last record
  end_stops : (section : Section) → Stops s section x last_code_point 0
  end_stops Ranges = λ l e. omega arith
  end_stops Entries = λ f. absurd (f (omega arith))

  pub ends_ahead : n ≤ i → AheadOf s section x (record { last = last_code_point; class = 0; next = i; records = m })
  ends_ahead k = empty last_code_point h (omega arith) (λ p. absurd (omega arith)) (end_stops section)

  module _ (k : i < n) where
    gap_stops : (section : Section) → i < record_count s section → x < (record_at s section i).first → Stops s section x ((record_at s section i).first - 1) 0
    gap_stops Ranges l p = λ q e. begins_class s w.accepted i l (let z : (record_at s Ranges i).first - 1 + 1 ≡ (record_at s Ranges i).first = omega arith in rw z at e)
    gap_stops Entries l p = λ f. absurd (f (omega arith))

    gap : x < (at i).first → AheadOf s section x (record { last = (at i).first - 1; class = 0; next = i; records = m })
    gap p =
        empty ((at i).first - 1) (omega arith) (omega (arith, up.ordered i k, record_below s w.accepted section i k)) (λ q. omega arith)
        (gap_stops section k p)

    back : i + 1 - 1 ≡ i
    back = omega arith

    range_stops :
        (section : Section) → i < record_count s section → (record_at s section i).first ≤ x → x ≤ (record_at s section i).last
        → Stops s section x (record_at s section i).last (record_at s section i).class
    range_stops Ranges l p q = λ u. rw back at (ends_class s w.accepted (i + 1) (omega arith) (omega arith))
    range_stops Entries l p q = λ f. omega arith

    inside : (at i).first ≤ x → AheadOf s section x (record { last = (at i).last; class = (at i).class; next = i + 1; records = m })
    inside p =
        let to = w.place.reached k in
        record {
          from = to;
          to = record_below s w.accepted section i k;
          same = λ y l u. class_held at n up i y k (omega arith) u;
          stops = range_stops section k p to;
          next =
              record {
                accepted = w.accepted;
                place = record { passed = record { within = omega arith; before = λ q. rw back (omega arith) }; reached = follows };
              };
          counted = c;
        }
      where
        follows : i + 1 < n → (at i).last + 1 ≤ (at (i + 1)).last
        follows q = omega (arith, rw back at (up.after (i + 1) (omega arith) q), up.ordered (i + 1) q)

    module _ {r : Range} (e : r ≡ record_at s section i) where
      -- before record i
      pub gap_ahead : x < r.first → AheadOf s section x (record { last = r.first - 1; class = 0; next = i; records = m })
      gap_ahead p = rw e (gap (rw e at p))

      -- in record i
      pub range_ahead : r.first ≤ x → AheadOf s section x (record { last = r.last; class = r.class; next = i + 1; records = m })
      range_ahead p = rw e (inside (rw e at p))
