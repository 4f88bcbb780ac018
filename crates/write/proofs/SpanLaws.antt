-- Lines past characters that stand one after the other. Assumes nothing.
use Prim.Native.Nat.{ℕ, ◌+◌, ◌≤◌, ◌<◌}
use mathlib.Core.Path.{◌≡◌, refl, sym, ap, subst, ◌∙◌}
use mathlib.Core.Bool.{false}
use mathlib.Core.List.{List, [], ◌∷◌, ◌++◌}
use native.Mathlib.Nat.{add_assoc, add-zero}
use native.Mathlib.Decide.{dec_lt}
use native.Mathlib.Omega.{arith}
use lib.ListN.{length, get_or, drop}
use Rattle.lists.proofs.BoolLaws.{impossible}
use Rattle.utf8.specs.declared.Step.{Step}
use Rattle.utf8.specs.declared.Step.TheVariants.{Scalar, IllFormed, End}
use Rattle.utf8.specs.Head.{step_of}
use Rattle.utf8.specs.Lead.{known_length}
use Rattle.utf8.specs.Text.{Character, Decoded, characters_at, width_of}
use Rattle.utf8.proofs.SequenceLaws.{ill_at}
use Rattle.utf8.proofs.TextLaws.{step_bounds, first_byte, first_at, ascii_at, decode_end, decode_covers, characters_step, characters_ill, characters_end, width_append}
use Rattle.line.specs.Line.{is_line_end, LineAt}
use Rattle.line.specs.Ends.{end_at}
use Rattle.line.proofs.LineLaws.{low, is_line_end_lem, ends_here, end_at_lem, line_counted, counted_few, line_passes}
use Rattle.grammar.specs.All.{All}
use Rattle.write.specs.Records.{Spans}

module _ (text : List ℕ) where
  -- the first of the characters at a place
  record Head (at : ℕ) (c : Character) (r : List Character) : Type 0 where
    step : step_of (drop at text) ≡ Scalar c.code c.width
    rest : characters_at text (at + c.width) ≡ r

  head_at : (at : ℕ) (c : Character) (r : List Character) → characters_at text at ≡ c ∷ r → Head at c r
  head_at at c r e = go (step_of (drop at text)) refl
    where
      go : (t : Step) → step_of (drop at text) ≡ t → Head at c r
      go (Scalar x n) f =
          let g : record { code = x; width = n } ∷ characters_at text (at + n) ≡ c ∷ r = sym (characters_step text at x n f) ∙ e in
          let h : record { code = x; width = n } ≡ c = cc in
          let k : characters_at text (at + n) ≡ r = cc in
          record { step = f ∙ ap (λ (d : Character). Scalar d.code d.width) h; rest = ap (λ (d : Character). characters_at text (at + d.width)) (sym h) ∙ k }
      go (IllFormed n) f = let z = sym (characters_ill text at (ill_at (drop at text) n f)) ∙ e in impossible (cc)
      go End f = let z = ap (λ (d : Decoded). d.characters) (sym (decode_end (drop at text) f)) ∙ e in impossible (cc)

  -- the place past some characters
  pub span_past : (at : ℕ) (u v : List Character) → characters_at text at ≡ u ++ v → characters_at text (at + width_of u) ≡ v
  span_past at [] v e = ap (characters_at text) (add-zero at) ∙ e
  span_past at (c ∷ u) v e =
      ap (characters_at text) (sym (add_assoc at c.width (width_of u))) ∙ span_past (at + c.width) u v (head_at at c (u ++ v) e).rest

module _ {text : List ℕ} where
  -- characters that end no line
  pub line_stays : {at line : ℕ} → LineAt text at line → (u v : List Character) → characters_at text at ≡ u ++ v →
      All (λ c. is_line_end c.code ≡ false) u → LineAt text (at + width_of u) line
  line_stays {at = at} {line = line} i [] v e a = subst (λ (n : ℕ). LineAt text n line) (sym (add-zero at)) i
  line_stays {at = at} {line = line} i (c ∷ u) v e a =
      let h = head_at text at c (u ++ v) e in
      subst (λ (n : ℕ). LineAt text n line) (add_assoc at c.width (width_of u))
      (line_stays {at = at + c.width} (line_passes i c.code c.width h.step a.0) u v h.rest a.1)

  pub line_within : {at line : ℕ} → LineAt text at line → at ≤ length text
  line_within {at} i =
      omega (
        arith,
        i.wide,
        ap width_of i.parted,
        width_append i.front (characters_at text at),
        (decode_covers text).within,
      )

  module _ {at end line : ℕ} (i : LineAt text at line) (p : Spans text at end) where
    pub span_rises : at ≤ end
    span_rises = omega (arith, p.wide)

    pub span_within : end ≤ length text
    span_within =
        omega (
          arith,
          p.wide,
          i.wide,
          ap width_of i.parted,
          width_append i.front (characters_at text at),
          ap width_of p.parted,
          width_append p.units (characters_at text end),
          (decode_covers text).within,
        )

    module _ (l : at < end) where
      -- the first of the characters between two places
      record First : Type 0 where
        first : Character
        others : List Character
        whole : p.units ≡ first ∷ others

      first_of : First
      first_of = go p.units refl
        where
          go : (u : List Character) → p.units ≡ u → First
          go [] e = absurd (omega (arith, p.wide, ap width_of e))
          go (c ∷ u) e = record { first = c; others = u; whole = e }

      head : Head text at first_of.first (first_of.others ++ characters_at text end)
      head = head_at text at _ _ (p.parted ∙ ap (λ (u : List Character). u ++ characters_at text end) first_of.whole)

      pub span_some : at < length text
      span_some = go (dec_lt at (length text))
        where
          go : Dec (at < length text) → at < length text
          go (yes h) = h
          go (no h) =
              let z = sym (characters_end text at (omega arith)) ∙ p.parted ∙ ap (λ (u : List Character). u ++ characters_at text end) first_of.whole in
              impossible (cc)

      -- past it
      pub record Past (n k : ℕ) : Type 0 where
        pub some : 0 < n
        pub within : at + n ≤ end
        pub few : line + k ≤ 2 + length text
        pub lined : LineAt text (at + n) (line + k)
        pub spans : Spans text (at + n) end

      pub span_step : (n k : ℕ) → n ≡ known_length (get_or text at 0) → k ≡ end_at text at → Past n k
      span_step n k e f =
          let c = first_of.first in
          let g : n ≡ c.width = e ∙ ap known_length (sym (first_at text at)) ∙ sym (first_byte (drop at text) c.code c.width head.step).long in
          let m = f ∙ end_at_lem text at c.code c.width head.step in
          let w : end ≡ at + (c.width + width_of first_of.others) = p.wide ∙ ap (λ (u : List Character). at + width_of u) first_of.whole in
          record {
            some = omega (arith, (step_bounds (drop at text) c.code c.width head.step).some_bytes);
            within = omega arith;
            few = counted_few i c.code c.width head.step k m;
            lined = subst (λ (j : ℕ). LineAt text (at + j) (line + k)) (sym g) (line_counted i c.code c.width head.step k m);
            spans =
                record {
                  units = first_of.others;
                  parted = ap (λ (j : ℕ). characters_at text (at + j)) g ∙ head.rest;
                  wide = omega arith;
                };
          }

      -- one LINE FEED
      pub span_feed : get_or text at 0 ≡ 0x0A → LineAt text (at + 1) (line + 1)
      span_feed e =
          let a = ascii_at text at span_some (omega arith) in
          line_counted i (get_or text at 0) 1 a 1 (sym (ends_here (get_or text at 0) (characters_at text (at + 1)) (is_line_end_lem (get_or text at 0) (low (omega arith) (omega arith))) (λ z. absurd (omega arith))))
