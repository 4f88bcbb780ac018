-- The loop over a section of two images: how many changes it passed, and what it wrote. Assumes nothing.
use Prim.Native.Nat.{ℕ, suc, ◌+◌, ◌-◌, ◌*◌, ◌≤◌, ◌<◌}
use mathlib.Core.Path.{◌≡◌, refl, sym, ap, ◌∙◌}
use mathlib.Core.List.{List, [], ◌∷◌, ◌++◌}
use Rattle.std.specs.Prelude.{Option, Some, None}
use native.Mathlib.Nat.{mul-suc, mul-zero}
use native.Mathlib.Omega.{arith}
use lib.ListN.{length, take, drop, length-append, length-take}
use lib.Seq.{take-nil}
use borrow.Rule.Slice.PartMut.{put_mid}
use Rattle.lists.specs.Laid.{laid}
use Rattle.lists.proofs.LaidLaws.{laid_none, laid_step, length-laid, lent}
use Rattle.image.specs.declared.records.Section.{Section}
use Rattle.image.specs.declared.records.Section.TheVariants.{Ranges, Entries}
use Rattle.image.proofs.SectionLaws.{few_records}
use Rattle.pair.specs.declared.walk.Overlap.{Overlap}
use Rattle.pair.specs.Walk.{OverlapOf, OverlapAt}
use Rattle.pair.proofs.OverlapLaws.{stands_at, stands, older_accepted, newer_accepted}
use Rattle.changes.specs.Change.{Change}
use Rattle.changes.specs.Answer.{changes_of, change_words, change_size, list_words}
use Rattle.changes.specs.Walked.{change_of}
use Rattle.changes.proofs.StepLaws.{rest_of, whole_list, rest_none, rest_same, rest_change}
use Rattle.changes.proofs.BoundLaws.{few_changes}

-- a change's words are as many as its section says
words_size : (section : Section) (c : Change) → length (change_words section c) ≡ change_size section
words_size Ranges c = refl
words_size Entries c = refl

list_size : (section : Section) (l : List Change) → length (list_words section l) ≡ change_size section * length l
list_size section [] = sym (mul-zero (change_size section))
list_size section (c ∷ l) =
    let e = list_size section l in
    simp (length-append, words_size section c, e, mul-suc) (omega arith)

-- no more words than there is room for
room_size : (section : Section) (room : ℕ) (l : List Change) → length (list_words section (take room l)) ≤ change_size section * room
room_size Ranges room l = omega (arith, list_size Ranges (take room l), length-take room l)
room_size Entries room l = omega (arith, list_size Entries (take room l), length-take room l)

module _ (section : Section) (room : ℕ) (all : List Change) (before : List ℕ) where
  -- `count` of all changes are passed, and `rest` are left. The first `room` of those that are passed stand in the buffer, up to word
  -- `at`: with those of the rest that have room, it is the first `room` of all laid into the buffer as it was
  pub record Listing (rest : List Change) (out : List ℕ) (count at : ℕ) : Type 0 where
    pub number : count + length rest ≡ length all
    pub size : length out ≡ length before
    pub fits : at + length (list_words section (take (room - count) rest)) ≤ length out
    pub written : laid out at (list_words section (take (room - count) rest)) ≡ laid before 0 (list_words section (take room all))

  pub listing_begins : change_size section * room ≤ length before → {rest : List Change} → all ≡ rest → Listing rest before 0 0
  listing_begins l e =
      let z : room - 0 ≡ room = omega arith in
      rw (← e)
      (record {
        number = omega arith;
        size = refl;
        fits = rw z (omega (arith, room_size section room all));
        written = rw z;
      })

  module _ {rest : List Change} {out : List ℕ} {count at : ℕ} (w : Listing rest out count at) where
    pub listing_ends : rest ≡ [] → (count ≡ length all) × (out ≡ laid before 0 (list_words section (take room all)))
    listing_ends e =
        let z : list_words section (take (room - count) rest) ≡ [] = rw (e, take-nil) in
        (omega (arith, w.number, ap length e), sym (laid_none out at) ∙ ap (laid out at) (sym z) ∙ w.written)

    module _ {c : Change} {others : List Change} (e : rest ≡ c ∷ others) where
      number_next : count + 1 + length others ≡ length all
      number_next = omega (arith, w.number, ap length e)

      -- no room for the change
      pub listing_passed : room ≤ count → Listing others out (count + 1) at
      listing_passed l =
          let z : room - count ≡ 0 = omega arith in
          let y : room - (count + 1) ≡ 0 = omega arith in
          record { number = number_next; size = w.size; fits = rw y (rw z at w.fits); written = rw y (rw z at w.written) }

      module _ (l : count < room) where
        abbrev more : List ℕ
        more = list_words section (take (room - (count + 1)) others)

        split : list_words section (take (room - count) rest) ≡ change_words section c ++ more
        split = let z : room - count ≡ suc (room - (count + 1)) = omega arith in rw (z, e)

        all_fit : at + (length (change_words section c) + length more) ≤ length out
        all_fit = omega (arith, w.fits, ap length split ∙ length-append (change_words section c) more)

        pub change_fits : at + change_size section ≤ length out
        change_fits = omega (arith, words_size section c, all_fit)

        -- the call was lent the part `&mut out[at..]`, and wrote the change at that part's front
        pub listing_next :
            (ys : List ℕ) → ys ≡ laid (take (length out - at) (drop at out)) 0 (change_words section c)
            → Listing others (put_mid at (length out - at) out ys) (count + 1) (at + change_size section)
        listing_next ys f =
            let s = words_size section c in
            let fits : at + length (change_words section c) ≤ length out = omega (arith, all_fit) in
            let put = lent out (change_words section c) at fits ys f in
            let long = ap length put ∙ length-laid out (change_words section c) at fits in
            record {
              number = number_next;
              size = long ∙ w.size;
              fits = rw long (omega (arith, all_fit));
              written =
                  (λ i. laid (put i) (at + sym s i) more)
                  ∙ sym (laid_step out (change_words section c) at fits more)
                  ∙ ap (laid out at) (sym split)
                  ∙ w.written;
            }

-- a turn of the loop is at `next`: `count` changes begin before it
module _ (older newer : List ℕ) (section : Section) (room : ℕ) where
  pub record Turn (before out : List ℕ) (next : Option Overlap) (count at : ℕ) : Type 0 where
    pub here : OverlapAt older newer section (stands_at next) next
    pub listing : Listing section room (changes_of section older newer) before (rest_of section older newer (stands_at next)) out count at

module _ {older newer : List ℕ} {section : Section} {room : ℕ} {before : List ℕ} where
  pub turn_begins :
      {t : Overlap} → change_size section * room ≤ length before → t.first ≡ 0 → OverlapOf older newer section t
      → Turn older newer section room before before (Some t) 0 0
  turn_begins l e o =
      record {
        here = (refl, o);
        listing = listing_begins section room _ before l (sym (whole_list section older newer) ∙ ap (rest_of section older newer) (sym e));
      }

  pub turn_ends :
      {out : List ℕ} {count at : ℕ} → Turn older newer section room before out None count at
      → (count ≡ length (changes_of section older newer)) × (out ≡ laid before 0 (list_words section (take room (changes_of section older newer))))
  turn_ends w = listing_ends _ _ _ _ w.listing (rest_none section older newer _ (omega arith))

  module _ {out : List ℕ} {t : Overlap} {count at : ℕ} (w : Turn older newer section room before out (Some t) count at) where
    -- the overlap after t
    next : {u : Option Overlap} → OverlapAt older newer section (t.last + 1) u → {words : List ℕ} {k at : ℕ}
        → Listing section room (changes_of section older newer) before (rest_of section older newer (t.last + 1)) words k at
        → Turn older newer section room before words u k at
    next {u} o l =
        let e = stands older newer section u o in
        record { here = rw e o; listing = rw e l }

    pub turn_same : t.older.class ≡ t.newer.class → {u : Option Overlap} → OverlapAt older newer section (t.last + 1) u → Turn older newer section room before out u count at
    turn_same s o = next o (rw (rest_same w.here.1 s) at w.listing)

    module _ (d : t.older.class ≡ t.newer.class → ⊥) where
      first : rest_of section older newer t.first ≡ change_of t ∷ rest_of section older newer (t.last + 1)
      first = rest_change w.here.1 d

      pub turn_few : count < 16384
      turn_few =
          let a = older_accepted w.here.1 in
          let b = newer_accepted w.here.1 in
          omega (arith, w.listing.number, ap length first, few_changes section older newer a b, few_records older a section, few_records newer b section)

      pub turn_fits : count < room → at + change_size section ≤ length out
      turn_fits l = change_fits _ _ _ _ w.listing first l

      module _ {u : Option Overlap} (o : OverlapAt older newer section (t.last + 1) u) where
        pub turn_passed : room ≤ count → Turn older newer section room before out u (count + 1) at
        turn_passed l = next o (listing_passed _ _ _ _ w.listing first l)

        pub turn_written :
            count < room → (ys : List ℕ) → ys ≡ laid (take (length out - at) (drop at out)) 0 (change_words section (change_of t))
            → Turn older newer section room before (put_mid at (length out - at) out ys) u (count + 1) (at + change_size section)
        turn_written l ys f = next o (listing_next _ _ _ _ w.listing first l ys f)
