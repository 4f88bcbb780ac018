-- Stretches of one class, and the traits of their code points: a memo and a table hold the traits of their code points.
-- Assumes nothing.
use Prim.Native.Nat.{ℕ, ◌+◌, ◌-◌, ◌%◌, ◌≤◌, ◌<◌}
use mathlib.Core.Path.{◌≡◌, refl, sym, ap, ◌∙◌}
use mathlib.Core.Bool.{Bool, true, false, ◌&&◌}
use mathlib.Core.List.{List}
use mathlib.Core.Option.{none}
use native.Mathlib.Omega.{arith}
use lib.ListN.{length, get_or, set, drop}
use lib.Seq.{get_or-set_other}
use lib.Dec.{leb}
use borrow.Author.Tests.{leb-true}
use Rattle.lists.proofs.BoolLaws.{and_left, and_right}
use Rattle.lists.specs.Filled.{Filled}
use Rattle.lists.proofs.FilledLaws.{filled_none, filled_more}
use Rattle.image.specs.Profile.{after_role, is_medial, is_hashtag}
use Rattle.image.specs.Check.{refusal_of, hashtag_of}
use Rattle.image.specs.declared.Range.{Range}
use Rattle.image.proofs.RoleLaws.{after_known}
use Rattle.image.specs.declared.records.Section.{Section}
use Rattle.image.specs.declared.records.Section.TheVariants.{Ranges, Entries}
use Rattle.image.specs.Records.{record_at, record_count, section_class}
use Rattle.image.proofs.RisingLaws.{class_held, class_gap}
use Rattle.image.proofs.SectionLaws.{records_rise, range_known, class_by_sections, medial_by_sections, hashtag_by_sections}
use Rattle.utf8.specs.declared.Step.TheVariants.{Scalar}
use Rattle.character.specs.Traits.{class_part, medial_part, hashtag_part, token_traits, traits_of}
use Rattle.utf8.proofs.TextLaws.{Unpacked, ascii_at}
use Rattle.character.specs.Stretch.{StretchOf, WhiteStretchOf, Shared}
use Rattle.character.specs.Read.{MemoOf, MemoAt, Settled, ascii_character, ReadBy, ReadAs}
use Rattle.character.specs.declared.Character.{Character}
use Rattle.character.specs.declared.Memo.{Memo}
use Rattle.character.proofs.TraitLaws.{part_other, part_white_lem, token_small, token_traits_lem}

-- traits by the class part and the role
abbrev pub joined : ℕ → ℕ → ℕ
joined part role = part + medial_part (is_medial role) + hashtag_part (is_hashtag role)

traits_by : (s : List ℕ) (x : ℕ) →
    traits_of s x ≡ joined (class_part (after_role (section_class s Entries x) (section_class s Ranges x)) x) (section_class s Entries x)
unfolding traits_of token_traits
traits_by s x = λ i. class_part (class_by_sections s x i) x + medial_part (medial_by_sections s x i) + hashtag_part (hashtag_by_sections s x i)

module _ (s : List ℕ) (x : ℕ) (a : refusal_of s ≡ none) where
  -- traits fit a byte
  pub traits_small : traits_of s x < 32
  unfolding traits_of
  traits_small = go (hashtag_of s x)
    where
      go : (h : Bool) → token_traits s x + hashtag_part h < 32
      go true = omega (arith, token_small s x a)
      go false = omega (arith, token_small s x a)

  -- .. and the class after the profile a part of them
  pub after_small : (c : Range) (role k : ℕ) → StretchOf s Ranges x c → k ≡ after_role role c.class → k ≤ 7
  after_small c role k f e =
      let h : c.class ≤ 5 = omega (arith, f.same x f.from f.to, range_known s a x) in
      omega (arith, after_known role c.class h)

  module _ (section : Section) (i : ℕ) where
    -- the stretch of x between neighbours, and the one of the record that holds it
    pub stretch_gap :
        (first last : ℕ) → i ≤ record_count s section → first ≤ x → x ≤ last → (0 < i → (record_at s section (i - 1)).last < first)
        → (i < record_count s section → last < (record_at s section i).first) → StretchOf s section x (record { first = first; last = last; class = 0 })
    stretch_gap first last n l u f g =
        record {
          from = l;
          to = u;
          same = λ y b c. class_gap _ _ (records_rise s a section) i y n (λ h. let k = f h in omega arith) (λ h. let k = g h in omega arith);
        }

    pub stretch_record :
        (r : Range) → r ≡ record_at s section i → i < record_count s section → r.first ≤ x → x ≤ (record_at s section i).last
        → StretchOf s section x (record { first = r.first; last = r.last; class = r.class })
    stretch_record r e n l u = rw e (record { from = rw e at l; to = u; same = λ y b c. class_held _ _ (records_rise s a section) i y n b c })

-- x is found to be in a memo
pub memo_known : {s : List ℕ} {x : ℕ} {m : Memo} {t : Bool} → t ≡ (leb m.first x && leb x m.last) → t ≡ true → MemoOf s m → MemoAt s x m
memo_known {s} {x} {m} e k a =
    let f = sym e ∙ k in
    record { from = leb-true _ _ (and_left (leb m.first x) (leb x m.last) f); to = leb-true _ _ (and_right (leb m.first x) (leb x m.last) f); all = a }

-- what the two stretches of x share: one class k after the profile
module _ (s : List ℕ) (x : ℕ) (c r b : Range) (k t : ℕ) (f : StretchOf s Ranges x c) (g : StretchOf s Entries x r) (h : Shared c r b)
    (e : k ≡ after_role r.class c.class) where
  traits_in : (y : ℕ) → b.first ≤ y → y ≤ b.last → traits_of s y ≡ joined (class_part k y) r.class
  traits_in y l u =
      let i = h.in_both y l u in
      let p = f.same y i.0 i.1 in
      let q = g.same y i.2 i.3 in
      traits_by s y ∙ (λ j. joined (class_part (after_role (q j) (p j)) y) (q j)) ∙ ap (λ (a : ℕ). joined (class_part a y) r.class) (sym e)

  -- and one class part, if it is not White
  pub memo_other : (k ≡ 4 → ⊥) → t ≡ joined k r.class → MemoAt s x (record { first = b.first; last = b.last; traits = t })
  memo_other n q =
      record {
        from = h.from x f.from g.from;
        to = h.to x f.to g.to;
        all = λ y l u. traits_in y l u ∙ ap (λ (p : ℕ). joined p r.class) (part_other k y n) ∙ sym q;
      }

  -- and the part that they share with the kind of White
  pub memo_white :
      (w a : Range) → k ≡ 4 → WhiteStretchOf x w → Shared b w a → t ≡ joined a.class r.class
      → MemoAt s x (record { first = a.first; last = a.last; traits = t })
  memo_white w a z v m q =
      record {
        from = m.from x (h.from x f.from g.from) v.from;
        to = m.to x (h.to x f.to g.to) v.to;
        all = λ y l u.
            let i = m.in_both y l u in
            let o = part_white_lem k y z ∙ v.same y i.2 i.3 ∙ sym m.class in
            traits_in y i.0 i.1 ∙ ap (λ (p : ℕ). joined p r.class) o ∙ sym q;
      }

-- cells while what the token rules know, with a tag, takes the place of the traits: before k it has
pub record Cut (size tag base : ℕ) (s t : List ℕ) (k : ℕ) : Type 0 where
  pub cut : Filled size (λ (j : ℕ). tag + token_traits s (base + j)) t k
  pub rest : (y : ℕ) → k ≤ y → y < size → get_or t y 0 ≡ traits_of s (base + y)

module _ {size tag base : ℕ} {s t : List ℕ} where
  pub cut_begins : Filled size (λ (j : ℕ). traits_of s (base + j)) t size → Cut (length t) tag base s t 0
  cut_begins f = let e = f.long in record { cut = filled_none refl; rest = λ y _ l. f.each y (omega arith) }

  pub cut_more : {k : ℕ} → refusal_of s ≡ none → k < size → Cut size tag base s t k → Cut size tag base s (set t k (tag + get_or t k 0 % 16)) (k + 1)
  cut_more {k} a h c =
      let v = tag + get_or t k 0 % 16 in
      record {
        cut = filled_more v h c.cut (ap (λ (v : ℕ). tag + v % 16) (c.rest k (omega arith) h) ∙ ap (λ (v : ℕ). tag + v) (token_traits_lem s (base + k) a));
        rest = λ y l u. get_or-set_other t k y v 0 (λ q. absurd (omega arith)) ∙ c.rest y (omega arith) u;
      }

-- a table has what is known of the ASCII character there
pub read_ascii :
    (g : ℕ → ℕ) (s text table : List ℕ) (at : ℕ) (m : Memo) (r : Character) → ((y : ℕ) → y < 128 → get_or table y 0 ≡ g y) → MemoOf s m → at < length text
    → get_or text at 0 < 0x80 → r ≡ ascii_character (get_or text at 0) (get_or table (get_or text at 0) 0) m → ReadBy g s text at r
read_ascii g s text table at m r f a h b e =
    rw e (record { memo = a; none = λ z. absurd (omega arith); some = λ _. (ascii_at text at h b, f _ b) })

-- a sequence that was unpacked and settled is the character there
pub read_settled : (s text : List ℕ) (at d : ℕ) (r : Character) → Unpacked (drop at text) d → Settled s d r → ReadAs s text at r
read_settled s text at d r u t =
    record {
      memo = t.memo;
      none = λ z. u.none (sym t.len ∙ z);
      some = λ z.
          let e = t.len in
          let c = t.code in
          (u.some (omega arith) ∙ sym (λ i. Scalar (c i) (e i)), t.traits ∙ ap (traits_of s) (sym c));
    }
