-- Looking for the next hashtag, character by character: each step keeps what is still to be found. Assumes nothing.
use Prim.Native.Nat.{ℕ, zero, suc, ◌+◌, ◌-◌, ◌≤◌, ◌<◌}
use mathlib.Core.Path.{◌≡◌, refl, sym, ap, subst, ◌∙◌}
use mathlib.Core.Bool.{Bool, true, false, ◌&&◌, cond}
use mathlib.Core.List.{List, [], ◌∷◌}
use mathlib.Core.Logic.{◌⊎◌, inl, inr}
use native.Mathlib.Omega.{arith}
use native.Mathlib.Decide.{dec_lt}
use mathlib.Core.Option.{none}
use lib.ListN.{length, get_or, drop, length-drop}
use lib.Seq.{get_or-drop}
use lib.Dec.{eqb}
use borrow.Author.Tests.{lt-ltb, le-ltb, ne_eqb}
use Rattle.std.specs.Prelude.{Ok, Err}
use Rattle.lists.proofs.BoolLaws.{and_left, and_right, impossible}
use Rattle.utf8.specs.declared.Step.{Step}
use Rattle.utf8.specs.declared.Step.TheVariants.{Scalar, IllFormed, End}
use Rattle.utf8.specs.Head.{step_of, IllHead}
use Rattle.utf8.specs.Lead.{length_of, known_length, is_trail}
use Rattle.utf8.specs.Text.{Character, characters_at, width_of, text_of, shift, Form}
use Rattle.utf8.proofs.SequenceLaws.{trail_range, known_bounds, ill_at, end_empty}
use Rattle.utf8.proofs.TextLaws.{step_bounds, known_length_lem, turn, ascii_at, characters_step, characters_ill, characters_end}
use Rattle.line.specs.Ends.{look, end_of}
use Rattle.line.proofs.LineLaws.{end_most, trail_tells}
use Rattle.image.specs.Check.{refusal_of}
use Rattle.character.specs.Read.{ReadAs}
use Rattle.character.specs.declared.Character.{Character as Read}
use Rattle.hashtag.specs.Sign.{is_sign, continues}
use Rattle.hashtag.specs.Find.{run_of, hashtags_from}
use Rattle.hashtag.specs.Seek.{hashtags_at, continues_first, free_at, stop_for, BytesPassed, Skipped, sign_of, SignFound, NoneFound}
use Rattle.hashtag.proofs.SignLaws.{continues_by, by_traits, no_sign_here}
use Rattle.hashtag.proofs.RunLaws.{Characters, run_yes, run_no, run_none}
use Rattle.hashtag.proofs.FindLaws.{found_none, found_begins, found_passes}

-- the run of characters by the first of them
pub run_first : (s : List ℕ) (cs : Characters) → continues_first s cs ≡ true → 0 < length (run_of s cs)
run_first s (c ∷ r) e = omega (arith, ap length (run_yes s c r e))
run_first s [] e = impossible (cc)

pub no_run_first : (s : List ℕ) (cs : Characters) → continues_first s cs ≡ false → run_of s cs ≡ []
no_run_first s (c ∷ r) e = run_no s c r e
no_run_first s [] e = run_none s

-- what a byte tells where a search doesn't stop
pub no_stop : (known : Bool) (b : ℕ) → stop_for known b < look → (b ≡ 0x23 → ⊥) × (b ≡ 0xEF → ⊥)
no_stop known b h = (λ f. let z : look ≡ stop_for known b = rw f in omega arith, λ f. let z : look ≡ stop_for known b = rw f in omega arith)

pub no_stop_end : (b : ℕ) → stop_for true b < look → stop_for true b ≡ end_of b
no_stop_end b h = let n = no_stop true b h in rw (ne_eqb b 0x23 n.0, ne_eqb b 0xEF n.1)

plain_byte : (b : ℕ) → stop_for false b < look → b < 0x80
plain_byte b h = go (dec_lt b 0x80)
  where
    go : Dec (b < 0x80) → b < 0x80
    go (yes l) = l
    go (no l) =
        let n = no_stop false b h in
        let z : look ≡ stop_for false b = rw (ne_eqb b 0x23 n.0, ne_eqb b 0xEF n.1, le-ltb b 0x80 (let z : 0x80 ≤ b = omega arith in z)) in
        absurd (omega arith)

pub trail_passes : (b : ℕ) → is_trail b ≡ true → stop_for true b ≡ 0
trail_passes b e =
    let r = trail_range b e in
    rw (ne_eqb b 0x23 (λ f. absurd (omega arith)), ne_eqb b 0xEF (λ f. absurd (omega arith))) (trail_tells b e)

-- what the table has for a byte
pub small : (b : ℕ) {n : ℕ} → n ≡ stop_for true b → n ≤ look
small b {n} e = go (eqb b 0x23) (eqb b 0xEF) e
  where
    go : (p q : Bool) → n ≡ cond p look (cond q look (end_of b)) → n ≤ look
    go true q f = omega arith
    go false true f = omega arith
    go false false f = omega (arith, end_most b)

-- bytes that were passed over
pub passed_begins : (known : Bool) (text : List ℕ) (from : ℕ) → from ≤ length text → BytesPassed known text from from
passed_begins known text from h = record { above = omega arith; within = h; each = λ i l u. absurd (omega arith) }

-- the length of the sequence at a place: none begins there, or one of this length
pub measured_none : (text : List ℕ) (at n : ℕ) → at < length text → n ≡ length_of (step_of (drop at text)) → n ≡ 0 → IllHead (drop at text)
measured_none text at n h e z = go (step_of (drop at text)) refl (sym e ∙ z)
  where
    go : (t : Step) → step_of (drop at text) ≡ t → length_of t ≡ 0 → IllHead (drop at text)
    go (Scalar x k) f l = absurd (omega (arith, (step_bounds (drop at text) x k f).some_bytes))
    go (IllFormed k) f l = ill_at (drop at text) k f
    go End f l = absurd (omega (arith, ap length (end_empty (drop at text) f), length-drop at text))

pub measured_some : (text : List ℕ) (at n : ℕ) → n ≡ length_of (step_of (drop at text)) → (n ≡ 0 → ⊥) → (x : ℕ) × (step_of (drop at text) ≡ Scalar x n)
measured_some text at n e z = go (step_of (drop at text)) refl e
  where
    go : (t : Step) → step_of (drop at text) ≡ t → n ≡ length_of t → (x : ℕ) × (step_of (drop at text) ≡ Scalar x n)
    go (Scalar x k) f l = (x, f ∙ ap (Scalar x) (sym l))
    go (IllFormed k) f l = absurd (z l)
    go End f l = absurd (z l)

-- of a text that is well-formed from the place on the first byte tells it
measured_known : (text : List ℕ) (at : ℕ) → at < length text → text_of (drop at text) ≡ Ok tt → known_length (get_or text at 0) ≡ length_of (step_of (drop at text))
measured_known text at h w =
    let z : get_or (drop at text) 0 0 ≡ get_or text at 0 = get_or-drop at text 0 0 ∙ ap (λ (k : ℕ). get_or text k 0) (let q : at + 0 ≡ at = omega arith in q) in
    ap known_length (sym z) ∙ known_length_lem (drop at text) (omega (arith, length-drop at text)) w

pub unshifted : (k : ℕ) (t : Form) → shift k t ≡ Ok tt → t ≡ Ok tt
unshifted k (Ok u) e = refl
unshifted k (Err i) e = impossible (cc)

module _ (s text : List ℕ) where
  -- a character stands at a place
  pub record Here (at x n : ℕ) : Type 0 where
    pub some_bytes : 0 < n
    pub within : at + n ≤ length text
    pub decoded : characters_at text at ≡ record { code = x; width = n } ∷ characters_at text (at + n)
    pub same : shift at (text_of (drop at text)) ≡ shift (at + n) (text_of (drop (at + n) text))

  pub here : (at x n : ℕ) → at < length text → step_of (drop at text) ≡ Scalar x n → Here at x n
  here at x n h e =
      let t = turn text at x n (omega arith) e in
      record {
        some_bytes = t.some_bytes;
        within = t.within;
        decoded = characters_step text at x n e;
        same = t.same;
      }

  -- by the length of the sequence there
  pub record Stands (at n : ℕ) : Type 0 where
    pub code : ℕ
    pub step : step_of (drop at text) ≡ Scalar code n
    pub here : Here at code n
    pub sign : sign_of (step_of (drop at text)) ≡ is_sign code

  -- whether it is a sign, by what the sequence tells
  pub stands_sign : {at n : ℕ} {b v : Bool} (h : Stands at n) → b ≡ sign_of (step_of (drop at text)) → b ≡ v → is_sign h.code ≡ v
  stands_sign h e f = sym h.sign ∙ sym e ∙ f

  stands_at : {x : ℕ} (at n : ℕ) → step_of (drop at text) ≡ Scalar x n → at < length text → Stands at n
  stands_at {x} at n f h = record { code = x; step = f; here = here at x n h f; sign = ap sign_of f }

  pub stands : (at n : ℕ) → at < length text → n ≡ length_of (step_of (drop at text)) → (n ≡ 0 → ⊥) → Stands at n
  stands at n h e z = let (x, f) = measured_some text at n e z in stands_at at n f h

  -- and by the first byte of a text that is well-formed
  pub stands_known : (at : ℕ) → at < length text → text_of (drop at text) ≡ Ok tt → Stands at (known_length (get_or text at 0))
  stands_known at h w =
      stands at (known_length (get_or text at 0)) h (measured_known text at h w) (λ z. absurd (omega (arith, (known_bounds (get_or text at 0)).0)))

  -- what was read at a place tells whether hashtag Continue stands there
  pub read_continues : (at : ℕ) (r : Read) → refusal_of s ≡ none → at < length text → ReadAs s text at r → 0 < r.len
      → Here at r.code r.len × (continues_by r.code r.traits ≡ continues_first s (characters_at text at))
  read_continues at r a h e l =
      let k = here at r.code r.len h (e.some l).0 in
      (k, by_traits s r.code r.traits a (e.some l).1 ∙ ap (continues_first s) (sym k.decoded))

  -- how far a run goes that began at a place
  pub record Running (from at : ℕ) : Type 0 where
    pub above : from ≤ at
    pub within : at ≤ length text
    pub same : from + width_of (run_of s (characters_at text from)) ≡ at + width_of (run_of s (characters_at text at))

  module _ {from at : ℕ} (i : Running from at) where
    abbrev Ends : Type 0
    Ends = (at ≡ from + width_of (run_of s (characters_at text from))) × (at ≤ length text)

    run_over : run_of s (characters_at text at) ≡ [] → Ends
    run_over e = (omega (arith, i.same, ap width_of e), i.within)

    pub run_ill : IllHead (drop at text) → Ends
    run_ill e = run_over (ap (run_of s) (characters_ill text at e) ∙ run_none s)

    pub run_end : length text ≤ at → Ends
    run_end h = run_over (ap (run_of s) (characters_end text at h) ∙ run_none s)

    pub run_stops : continues_first s (characters_at text at) ≡ false → Ends
    run_stops e = run_over (no_run_first s (characters_at text at) e)

    pub run_goes : {x n : ℕ} → Here at x n → continues_first s (characters_at text at) ≡ true → Running from (at + n)
    run_goes {x} {n} h e =
        let c : Character = record { code = x; width = n } in
        let r = characters_at text (at + n) in
        let f : continues s c ≡ true = sym (ap (continues_first s) h.decoded) ∙ e in
        let w = ap (λ (cs : Characters). width_of (run_of s cs)) h.decoded ∙ ap width_of (run_yes s c r f) in
        record { above = omega (arith, i.above); within = h.within; same = omega (arith, i.same) }

  -- what was passed over from one place to another: no hashtag begins there
  pub record Seeking (from before at : ℕ) : Type 0 where
    pub above : from ≤ at
    pub within : at ≤ length text
    pub form : shift at (text_of (drop at text)) ≡ shift from (text_of (drop from text))
    pub rest : hashtags_at s text true from ≡ hashtags_at s text (free_at s text before at) at

  pub seeking_begins : (from : ℕ) → from ≤ length text → Seeking from from from
  seeking_begins from h = record { above = omega arith; within = h; form = refl; rest = rw (le-ltb from from (omega arith)) }

  -- from there on it is as well-formed as from the first place on
  pub seeking_known : {from before at : ℕ} → Seeking from before at → text_of (drop from text) ≡ Ok tt → text_of (drop at text) ≡ Ok tt
  seeking_known {from} {before} {at} i e = unshifted at (text_of (drop at text)) (i.form ∙ ap (shift from) e)

  module _ {from before at : ℕ} (i : Seeking from before at) where
    abbrev free : Bool
    free = free_at s text before at

    -- no character stands here
    sought_no : characters_at text at ≡ [] → (at < length text → IllHead (drop at text)) → NoneFound s text from at
    sought_no e k =
        record { above = i.above; within = i.within; form = i.form; none = i.rest ∙ ap (hashtags_from s free at) e ∙ found_none s free at; ill_head = k }

    pub sought_ill : IllHead (drop at text) → NoneFound s text from at
    sought_ill e = sought_no (characters_ill text at e) (λ _. e)

    pub sought_end : length text ≤ at → NoneFound s text from at
    sought_end h = sought_no (characters_end text at h) (λ l. absurd (omega arith))

    module _ {x n : ℕ} (h : Here at x n) where
      abbrev next : Characters
      next = characters_at text (at + n)

      -- a hashtag begins here
      pub sought_some : is_sign x ≡ true → (free && continues_first s next) ≡ true → SignFound s text from (record { at = at; next = at + n })
      sought_some g b =
          record {
            above = i.above;
            rises = omega (arith, h.some_bytes);
            within = h.within;
            form = sym h.same ∙ i.form;
            some = i.rest ∙ ap (hashtags_from s free at) h.decoded
                ∙ found_begins s free at (record { code = x; width = n }) next (and_left free (continues_first s next) b) g (run_first s next (and_right free (continues_first s next) b));
          }

      -- none does
      pub seeking_over : (is_sign x ≡ false) ⊎ ((free && continues_first s next) ≡ false) → Seeking from at (at + n)
      seeking_over g =
          record {
            above = omega (arith, i.above);
            within = h.within;
            form = sym h.same ∙ i.form;
            rest = i.rest ∙ ap (hashtags_from s free at) h.decoded ∙ found_passes s free at (record { code = x; width = n }) next (passes g)
                ∙ ap (λ (b : Bool). hashtags_from s b (at + n) next) (sym (rw (lt-ltb at (at + n) (omega (arith, h.some_bytes)), h.decoded)));
          }
        where
          no : (b : Bool) → free ≡ b → (b && continues_first s next) ≡ false → (free ≡ false) ⊎ (run_of s next ≡ [])
          no true e f = inr (no_run_first s next f)
          no false e f = inl e

          passes : (is_sign x ≡ false) ⊎ ((free && continues_first s next) ≡ false) → (is_sign x ≡ false) ⊎ ((free ≡ false) ⊎ (run_of s next ≡ []))
          passes (inl e) = inl e
          passes (inr e) = inr (no free refl e)

  -- bytes that are characters by themselves
  one_plain : {from before at : ℕ} → Seeking from before at → at < length text → stop_for false (get_or text at 0) < look → Seeking from at (at + 1)
  one_plain {from} {before} {at} i h e =
      let k = stands_at at 1 (ascii_at text at h (plain_byte (get_or text at 0) e)) h in
      let n = no_stop false (get_or text at 0) e in
      seeking_over i k.here (inl (sym k.sign ∙ sym (no_sign_here text at n.0 n.1)))

  pub seeking_plain : {from before at past : ℕ} → Seeking from before at → Skipped text at past → at < past → Seeking from (past - 1) past
  seeking_plain {from} {before} {at} {past} i p h = go (past - at - 1) past (omega arith) p.passed
    where
      go : (k q : ℕ) → q ≡ at + suc k → BytesPassed false text at q → Seeking from (q - 1) q
      go zero q e p =
          let y : at ≡ q - 1 = omega arith in
          let z : at + 1 ≡ q = omega arith in
          subst (λ (b : ℕ). Seeking from b q) y (subst (Seeking from at) z (one_plain i (omega (arith, p.within)) (p.each at (omega arith) (omega arith))))
      go (suc k) q e p =
          let z : (q - 1) + 1 ≡ q = omega arith in
          let l = p.within in
          let j = go k (q - 1) (omega arith) (record { above = omega arith; within = omega arith; each = λ m u v. p.each m u (omega arith) }) in
          subst (Seeking from (q - 1)) z (one_plain j (omega arith) (p.each (q - 1) (omega arith) (omega arith)))
