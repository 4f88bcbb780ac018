-- Looking for the next hashtag in a text that is well-formed: bytes are passed over up to where the search stops, the line grows by the
-- line ends among them, and the character before a sign is found by stepping back. Assumes nothing.
use Prim.Native.Nat.{ℕ, zero, suc, ◌+◌, ◌-◌, ◌≤◌, ◌<◌}
use mathlib.Core.Path.{◌≡◌, refl, sym, ap, subst, ◌∙◌}
use mathlib.Core.Bool.{Bool, true, false, ◌&&◌}
use mathlib.Core.List.{List, []}
use mathlib.Core.Logic.{◌⊎◌, inl, inr}
use native.Mathlib.Omega.{arith}
use native.Mathlib.Decide.{dec_lt}
use lib.ListN.{length, get_or, drop}
use lib.Seq.{get_or-drop}
use Rattle.std.specs.Prelude.{Ok}
use Rattle.lists.proofs.BoolLaws.{impossible}
use Rattle.utf8.specs.Lead.{known_length, is_trail}
use Rattle.utf8.specs.Text.{characters_at, text_of}
use Rattle.utf8.proofs.TextLaws.{first_byte, first_at}
use Rattle.line.specs.Line.{ends_line, one, LineAt}
use Rattle.line.specs.Ends.{look, end_at}
use Rattle.line.proofs.LineLaws.{told, end_at_lem, line_counted, counted_few, line_passes}
use Rattle.hashtag.specs.Sign.{is_sign}
use Rattle.hashtag.specs.Seek.{continues_first, free_at, stop_for, BytesPassed, sum_of, hashtags_at, LinesCounted, Backed, SignFound}
use Rattle.hashtag.specs.declared.Sign.{Sign}
use Rattle.hashtag.specs.declared.Reach.{Reach}
use Rattle.hashtag.proofs.SignLaws.{sign_ends_none, no_sign_here}
use Rattle.hashtag.proofs.SeekLaws.{no_stop, no_stop_end, trail_passes, Stands, stands_known, Seeking, seeking_begins, seeking_known, seeking_over, sought_end, sought_some}
use Rattle.hashtag.proofs.CountedLaws.{sum_none, sum_split, sum_first}

-- stepping back over bytes that only follow others
pub record Back (text : List ℕ) (from to at : ℕ) : Type 0 where
  pub above : from ≤ at
  pub below : at ≤ to
  pub others : (i : ℕ) → at ≤ i → i < to → is_trail (get_or text i 0) ≡ true

module _ (s text : List ℕ) where
  -- the bytes of a character: the first, and those that follow it
  byte_at : (at i : ℕ) → get_or (drop at text) i 0 ≡ get_or text (at + i) 0
  byte_at at i = get_or-drop at text i 0

  first_is : {at n : ℕ} → Stands s text at n → is_trail (get_or text at 0) ≡ false
  first_is {at} {n} h =
      ap is_trail (sym (first_at text at)) ∙ (first_byte (drop at text) h.code n h.step).first

  others_are : {at n : ℕ} → Stands s text at n → (i : ℕ) → at < i → i < at + n → is_trail (get_or text i 0) ≡ true
  others_are {at} {n} h i l u =
      let q : at + (i - at) ≡ i = omega arith in
      ap is_trail (sym (byte_at at (i - at) ∙ ap (λ (k : ℕ). get_or text k 0) q)) ∙ (first_byte (drop at text) h.code n h.step).others (i - at) (omega arith) (omega arith)

  -- where the character begins that ends at a place; nothing was passed over yet, or it begins no sooner than the search
  abbrev LastAt : ℕ → ℕ → ℕ → Type 0
  LastAt from before at = ((from ≡ at) × (before ≡ at)) ⊎ ((from ≤ before) × ((n : ℕ) × Stands s text before n × (before + n ≡ at)))

  pub record Walked (from at line : ℕ) : Type 0 where
    pub before : ℕ
    pub seeking : Seeking s text from before at
    pub last : LastAt from before at
    pub lined : LineAt text at line

  pub walked_begins : {from line : ℕ} → from ≤ length text → LineAt text from line → Walked from from line
  walked_begins {from} h l = record { before = from; seeking = seeking_begins s text from h; last = inl (refl, refl); lined = l }

  to_past : {from at line past : ℕ} → Walked from at line → BytesPassed true text at past → past ≤ at → Walked from past (line + sum_of text at (past - at))
  to_past {from} {at} {line} {past} i p l =
      let e : at ≡ past = omega (arith, p.above) in
      let z : past - at ≡ 0 = omega arith in
      let n : line ≡ line + sum_of text at (past - at) = omega (arith, ap (sum_of text at) z, sum_none text at) in
      subst (λ (k : ℕ). Walked from k (line + sum_of text at (past - at))) e (subst (Walked from at) n i)

  -- over a character that begins no hashtag
  walked_over : {from at line n past : ℕ} (i : Walked from at line) (h : Stands s text at n)
      → (is_sign h.code ≡ false) ⊎ ((free_at s text i.before at && continues_first s (characters_at text (at + n))) ≡ false)
      → LineAt text (at + n) past → Walked from (at + n) past
  walked_over {from} {at} {line} {n} i h g l =
      record { before = at; seeking = seeking_over s text i.seeking h.here g; last = inr (i.seeking.above, (n, h, refl)); lined = l }

  -- a search that passes over the first byte of a character passes over all of it
  module _ {past : ℕ} (stop : past < length text → stop_for true (get_or text past 0) < look → ⊥) where
    apart : {at n : ℕ} → Stands s text at n → at < past → at + n ≤ past
    apart {at} {n} h l = by (dec_lt past (at + n))
      where
        by : Dec (past < at + n) → at + n ≤ past
        by (no m) = omega arith
        by (yes m) = absurd (stop (omega (arith, h.here.within)) (omega (arith, trail_passes (get_or text past 0) (others_are h past l m))))

  -- what it counts of a character is what its first byte tells
  sum_character : {at n : ℕ} → Stands s text at n → sum_of text at n ≡ stop_for true (get_or text at 0)
  sum_character {at} {n} h = go n refl
    where
      go : (k : ℕ) → n ≡ k → sum_of text at k ≡ stop_for true (get_or text at 0)
      go zero e = absurd (omega (arith, h.here.some_bytes))
      go (suc k) e = sum_first text at k (λ i l u. trail_passes (get_or text i 0) (others_are h i l (omega arith)))

  module _ (from : ℕ) (well : text_of (drop from text) ≡ Ok tt) where
    pub stands_here : {at line : ℕ} (n : ℕ) → Walked from at line → at < length text → n ≡ known_length (get_or text at 0) → Stands s text at n
    stands_here {at} {line} n i h e = subst (Stands s text at) (sym e) (stands_known s text at h (seeking_known s text i.seeking well))

    -- over a character at which the search doesn't stop: no sign, and its first byte tells whether a line ends with it
    walked_first : {at line n : ℕ} → Walked from at line → Stands s text at n → stop_for true (get_or text at 0) < look → Walked from (at + n) (line + sum_of text at n)
    walked_first {at} {line} {n} i h z =
        let b = get_or text at 0 in
        let t = no_stop true b z in
        let w : at < length text = omega (arith, h.here.some_bytes, h.here.within) in
        let e = told text at h.code n h.step w (stop_for true b) (no_stop_end b z) z (characters_at text (at + n)) in
        walked_over i h (inl (sym h.sign ∙ sym (no_sign_here text at t.0 t.1))) (line_counted i.lined h.code n h.step (sum_of text at n) (sum_character h ∙ e))

    -- bytes are passed over up to where the search stops: there a character begins
    module _ {past : ℕ} (stop : past < length text → stop_for true (get_or text past 0) < look → ⊥) where
      walked_in : (k at line : ℕ) → Walked from at line → BytesPassed true text at past → past ≤ at + k → Walked from past (line + sum_of text at (past - at))
      walked_in zero at line i p l = to_past i p (omega arith)
      walked_in (suc k) at line i p l = go (dec_lt at past) (λ j m q r t. walked_in k j m q r t)
        where
          go : Dec (at < past) → ((j m : ℕ) → Walked from j m → BytesPassed true text j past → past ≤ j + k → Walked from past (m + sum_of text j (past - j))) →
              Walked from past (line + sum_of text at (past - at))
          go (no m) f = to_past i p (omega arith)
          go (yes m) f =
              let n = known_length (get_or text at 0) in
              let h = stands_here n i (let w = p.within in omega arith) refl in
              let a = apart stop h m in
              let q : past - at ≡ n + (past - (at + n)) = omega arith in
              let e : line + sum_of text at n + sum_of text (at + n) (past - (at + n)) ≡ line + sum_of text at (past - at) =
              omega (arith, ap (sum_of text at) q, sum_split text at n (past - (at + n))) in
              subst (Walked from past) e
              (f (at + n) (line + sum_of text at n) (walked_first i h (p.each at (omega arith) m))
              (record { above = a; within = p.within; each = λ j u v. p.each j (omega arith) v }) (omega (arith, h.here.some_bytes)))

    pub walked_bytes : {at line : ℕ} {r : Reach} → Walked from at line → LinesCounted text at line r → (r.at < length text → stop_for true (get_or text r.at 0) < look → ⊥) →
        Walked from r.at r.line
    walked_bytes {at} {line} {r} i c stop =
        subst (Walked from r.at) (sym c.sum) (walked_in stop (r.at - at) at line i c.passed (omega arith))

  -- stepping back finds where the last character begins
  pub stepped : {from at line r : ℕ} (i : Walked from at line) → Backed text from at r → r ≡ i.before
  stepped {from} {at} {line} {r} i b = go i.last b.first
    where
      other : (n : ℕ) → from ≤ i.before → Stands s text i.before n → i.before + n ≡ at
          → ((r < at) × (is_trail (get_or text r 0) ≡ false)) ⊎ ((r ≡ from) × (r < at → is_trail (get_or text r 0) ≡ true)) → r ≡ i.before
      other n l h e f = by (dec_lt r i.before) (dec_lt i.before r) f
        where
          no_trail : is_trail (get_or text i.before 0) ≡ true → ⊥
          no_trail g = impossible (cc (first_is h))

          by : Dec (r < i.before) → Dec (i.before < r) → ((r < at) × (is_trail (get_or text r 0) ≡ false)) ⊎ ((r ≡ from) × (r < at → is_trail (get_or text r 0) ≡ true)) → r ≡ i.before
          by (yes m) d g = absurd (no_trail (b.others i.before m (omega (arith, h.here.some_bytes))))
          by (no m) (no k) g = omega arith
          by (no m) (yes k) (inl g) = impossible (cc (g.1, others_are h r k (let z = g.0 in omega arith)))
          by (no m) (yes k) (inr g) = absurd (omega (arith, g.0))

      go : LastAt from i.before at → ((r < at) × (is_trail (get_or text r 0) ≡ false)) ⊎ ((r ≡ from) × (r < at → is_trail (get_or text r 0) ≡ true)) → r ≡ i.before
      go (inl e) f = let x = e.0 in let y = e.1 in omega (arith, b.above, b.below)
      go (inr (l, (n, h, e))) f = other n l h e f

  -- a hashtag begins at a place, or none does; nothing is left
  module _ {from at line : ℕ} (i : Walked from at line) where
    abbrev Finds : Sign → Type 0
    Finds r = SignFound s text from r × (LineAt text r.at line × LineAt text r.next line)

    pub known_end : length text ≤ at → hashtags_at s text true from ≡ []
    known_end h = (sought_end s text i.seeking h).none

    -- the line past a character
    module _ {n k : ℕ} (h : Stands s text at n) (e : k ≡ end_at text at) where
      ends : k ≡ one (ends_line h.code (characters_at text (at + n)))
      ends = e ∙ end_at_lem text at h.code n h.step

      pub line_fits : line + k ≤ 2 + length text
      line_fits = counted_few i.lined h.code n h.step k ends

      line_past : LineAt text (at + n) (line + k)
      line_past = line_counted i.lined h.code n h.step k ends

    module _ {n r : ℕ} (h : Stands s text at n) (b : Backed text from at r) where
      free_same : free_at s text r at ≡ free_at s text i.before at
      free_same = ap (λ (k : ℕ). free_at s text k at) (stepped i b)

      -- a hashtag begins here, by what tells so
      abbrev Begins : Bool → Type 0
      Begins b = b ≡ (free_at s text r at && continues_first s (characters_at text (at + n)))

      pub known_some : {b : Bool} → is_sign h.code ≡ true → Begins b → b ≡ true → Finds (record { at = at; next = at + n })
      known_some g d e = (
        sought_some s text i.seeking h.here g (ap (λ (t : Bool). t && continues_first s (characters_at text (at + n))) (sym free_same) ∙ sym d ∙ e),
        (i.lined, line_passes i.lined h.code n h.step (sign_ends_none h.code g)),
      )

      pub known_over : {k : ℕ} {b : Bool} → k ≡ end_at text at → Begins b → b ≡ false → Walked from (at + n) (line + k)
      known_over f d e = walked_over i h (inr (ap (λ (t : Bool). t && continues_first s (characters_at text (at + n))) (sym free_same) ∙ sym d ∙ e)) (line_past h f)

    pub known_passes : {n k : ℕ} (h : Stands s text at n) → k ≡ end_at text at → is_sign h.code ≡ false → Walked from (at + n) (line + k)
    known_passes h f g = walked_over i h (inl g) (line_past h f)
