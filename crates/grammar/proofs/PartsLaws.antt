-- A mark of a text that has a division is refused exactly in the three cases of docs/RULES.md, "Direction marks". Assumes nothing.
use Prim.Native.Nat.{ℕ}
use mathlib.Core.Path.{◌≡◌, refl, sym, ap, subst, ◌∙◌}
use mathlib.Core.Bool.{Bool, true, false, true≢false, not, ◌&&◌, cond}
use mathlib.Core.List.{List, [], ◌∷◌, ◌++◌, append_assoc}
use mathlib.Core.Option.{Option, none, some}
use mathlib.Core.Logic.{◌↔◌}
use Rattle.lists.proofs.BoolLaws.{impossible}
use Rattle.utf8.specs.Text.{Character}
use Rattle.grammar.specs.White.{blank, line_end, mark}
use Rattle.grammar.specs.Scan.{Tok, units_of}
use Rattle.grammar.specs.Step.{tok}
use Rattle.grammar.specs.Division.{Division}
use Rattle.grammar.specs.Meaning.{Meaning}
use Rattle.grammar.specs.Grammar.{Kind, identifier, syntax, whitespace, Token}
use Rattle.grammar.specs.Kinds.{rules}
use Rattle.grammar.specs.Record.{tokens_width}
use Rattle.grammar.specs.Marks.{first_not_white, last_not_white, RefusedMark}
use Rattle.grammar.specs.Second.{is_mark_kind, parts_still, refuses_mark}
use Rattle.grammar.specs.Beside.{View, other, after_identifier, after_medial, mark_after_identifier, mark_after_medial, medial_after_mark, medial_view, marked_view, next_view, medial_first, Parts, identifiers, medial_right, medial_left}
use Rattle.grammar.proofs.DivisionLaws.{none_at_end, division_front, division_tokens}
use Rattle.grammar.proofs.GrammarLaws.{fits}
use Rattle.grammar.proofs.JoinLaws.{units_append}
use Rattle.grammar.proofs.SecondLaws.{refuses_mark_lem}
use Rattle.grammar.proofs.BesideLaws.{next_identifier, is_identifier, first_identifier, view_of, view_snoc, ahead, given_if, AllTokens, begins_with, last_of, all_after, other_ahead, agrees}

abbrev Tokens : Type 0
Tokens = List (Tok Character Kind)

-- which token leaves the view of a medial after an identifier
record Links (v : View) (k : Kind) (b : Bool) : Type 0 where
  kind : k ≡ syntax
  medial : b ≡ true
  before : v ≡ after_identifier

abbrev is_after_medial : View → Bool
is_after_medial other = false
is_after_medial after_identifier = false
is_after_medial after_medial = true
is_after_medial (mark_after_identifier q) = false
is_after_medial (mark_after_medial q) = false
is_after_medial (medial_after_mark q) = false

view_medial : (v : View) → is_after_medial (medial_view v) ≡ true → v ≡ after_identifier
view_medial other e = absurd (true≢false (sym e))
view_medial after_identifier e = refl
view_medial after_medial e = absurd (true≢false (sym e))
view_medial (mark_after_identifier q) e = absurd (true≢false (sym e))
view_medial (mark_after_medial q) e = absurd (true≢false (sym e))
view_medial (medial_after_mark q) e = absurd (true≢false (sym e))

view_marked : (v : View) (p : ℕ) → is_after_medial (marked_view v p) ≡ false
view_marked other p = refl
view_marked after_identifier p = refl
view_marked after_medial p = refl
view_marked (mark_after_identifier q) p = refl
view_marked (mark_after_medial q) p = refl
view_marked (medial_after_mark q) p = refl

next_medial : (v : View) (p : ℕ) (k : Kind) (b : Bool) → next_view v p k b ≡ after_medial → Links v k b
next_medial v p identifier b e = absurd (true≢false (ap is_after_medial (sym e)))
next_medial v p syntax true e = record { kind = refl; medial = refl; before = view_medial v (ap is_after_medial e) }
next_medial v p syntax false e = absurd (true≢false (ap is_after_medial (sym e)))
next_medial v p (whitespace blank) b e = absurd (true≢false (ap is_after_medial (sym e)))
next_medial v p (whitespace line_end) b e = absurd (true≢false (ap is_after_medial (sym e)))
next_medial v p (whitespace mark) b e = absurd (true≢false (ap is_after_medial (sym e) ∙ view_marked v p))

module _ (m : Meaning Character) where
  -- what the views of an identifier and of a medial after one tell of the last tokens
  ends_identifier : (bs : Tokens) → view_of m bs ≡ after_identifier → (ts : Tokens) × (u : List Character) × (bs ≡ ts ++ tok identifier u ∷ [])
  ends_identifier [] e = impossible (cc)
  ends_identifier (b ∷ bs) e =
      let (xs, x, w) = last_of m b bs in
      let k = next_identifier (view_of m xs) (tokens_width xs) x.kind (medial_first m x.units) (sym (view_snoc m xs x) ∙ sym (ap (view_of m) w) ∙ e) in
      (xs, x.units, w ∙ ap (λ j. xs ++ tok j x.units ∷ []) k)

  ends_medial : (bs : Tokens) → AllTokens m bs → view_of m bs ≡ after_medial →
      (ts : Tokens) × (u : List Character) × (d : Character) × (bs ≡ ts ++ tok identifier u ∷ tok syntax (d ∷ []) ∷ []) × (m.medial d ≡ true)
  ends_medial [] a e = impossible (cc)
  ends_medial (b ∷ bs) a e =
      let (xs, x, w) = last_of m b bs in
      let l = next_medial (view_of m xs) (tokens_width xs) x.kind (medial_first m x.units) (sym (view_snoc m xs x) ∙ sym (ap (view_of m) w) ∙ e) in
      let (ts, u, z) = ends_identifier xs l.before in
      let g = begins_with m x (all_after m xs (x ∷ []) (subst (AllTokens m) w a)).0 in
      let c = g.whole ∙ ap (λ o. g.first ∷ o) (g.alone l.kind) in
      (ts, u, g.first, w ∙ (λ i. z i ++ tok (l.kind i) (c i) ∷ []) ∙ append_assoc ts (tok identifier u ∷ []) (tok syntax (g.first ∷ []) ∷ []), sym (ap (medial_first m) c) ∙ l.medial)

  first_is : (ts : Tokens) → first_identifier ts ≡ true → (v : List Character) × (us : Tokens) × (ts ≡ tok identifier v ∷ us)
  first_is [] e = absurd (true≢false (sym e))
  first_is (t ∷ ts) e = go t.kind refl
    where
      go : (k : Kind) → t.kind ≡ k → (v : List Character) × (us : Tokens) × (t ∷ ts ≡ tok identifier v ∷ us)
      go identifier h = (t.units, ts, ap (λ k. tok k t.units ∷ ts) h)
      go syntax h = absurd (true≢false (sym e ∙ ap is_identifier h))
      go (whitespace w) h = absurd (true≢false (sym e ∙ ap is_identifier h))

  given_true : (b : Bool) → given_if m b 0 ≡ some 0 → b ≡ true
  given_true true e = refl
  given_true false e = impossible (cc)

  module _ (before : Tokens) (ts : Tokens) (u : List Character) (w : before ≡ ts ++ tok identifier u ∷ []) where
    right_parts : (after : Tokens) → AllTokens m after → ahead m (mark_after_identifier 0) after ≡ some 0 → Parts m before after
    right_parts [] a e = impossible (cc)
    right_parts (t ∷ us) a e = go t.kind refl (medial_first m t.units) refl
      where
        go : (k : Kind) → t.kind ≡ k → (b : Bool) → medial_first m t.units ≡ b → Parts m before (t ∷ us)
        go identifier h b f = identifiers ts us u t.units w (ap (λ k. tok k t.units ∷ us) h)
        go syntax h false f = let z : ◌≡◌ {A = Option ℕ} none (some 0) = rw (h, f) at e in impossible (cc)
        go syntax h true f =
            let y : given_if m (first_identifier us) 0 ≡ some 0 = rw (h, f) at e in
            let (v, vs, z) = first_is us (given_true (first_identifier us) y) in
            let g = begins_with m t a.0 in
            let c = g.whole ∙ ap (λ o. g.first ∷ o) (g.alone h) in
            medial_right ts vs u v g.first w (λ i. tok (h i) (c i) ∷ z i) (sym (ap (medial_first m) c) ∙ f)
        go (whitespace w) h b f = let z : ◌≡◌ {A = Option ℕ} none (some 0) = rw h at e in impossible (cc)

  left_parts : (before after ts : Tokens) (u : List Character) (d : Character) → before ≡ ts ++ tok identifier u ∷ tok syntax (d ∷ []) ∷ [] → m.medial d ≡ true →
      ahead m (mark_after_medial 0) after ≡ some 0 → Parts m before after
  left_parts before [] ts u d w f e = impossible (cc)
  left_parts before (t ∷ us) ts u d w f e = go t.kind refl (medial_first m t.units) refl
    where
      go : (k : Kind) → t.kind ≡ k → (b : Bool) → medial_first m t.units ≡ b → Parts m before (t ∷ us)
      go identifier h b g = medial_left ts us u t.units d w f (ap (λ k. tok k t.units ∷ us) h)
      go syntax h true g = let z : ◌≡◌ {A = Option ℕ} none (some 0) = rw (h, g) at e in impossible (cc)
      go syntax h false g = let z : ◌≡◌ {A = Option ℕ} none (some 0) = rw (h, g) at e in impossible (cc)
      go (whitespace w) h b g = let z : ◌≡◌ {A = Option ℕ} none (some 0) = rw h at e in impossible (cc)

  module _ (before : Tokens) (t : Tok Character Kind) (after : Tokens) {left : List Character} (d : Division (Token m) (units_of (before ++ t ∷ after)) (before ++ t ∷ after) left)
      (is-mark : t.kind ≡ whitespace mark) where
    front : Division (Token m) (units_of before) before []
    front = division_front (Token m) (none_at_end (Token m) (rules m) (fits m)) before (t ∷ after) (units_of (t ∷ after)) (units_append before (t ∷ after)) d

    rest : AllTokens m after
    rest = (all_after m before (t ∷ after) (division_tokens (Token m) d)).1

    refuses_by : ahead m (marked_view (view_of m before) 0) after ≡ given_if m (refuses_mark m before t after) 0
    unfolding refuses_mark
    refuses_by = agrees m before after 0 front rest ∙ sym (ap (λ k. given_if m (is_mark_kind k && (last_not_white before && (first_not_white after && not (parts_still m before after)))) 0) is-mark)

    refused_parts : RefusedMark m before t after → Parts m before after
    refused_parts r = go (view_of m before) refl (refuses_by ∙ ap (λ b. given_if m b 0) ((refuses_mark_lem m before t after).1 r))
      where
        nothing : ahead m other after ≡ some 0 → Parts m before after
        nothing e = let z = other_ahead m after in impossible (cc)

        go : (v : View) → view_of m before ≡ v → ahead m (marked_view (view_of m before) 0) after ≡ some 0 → Parts m before after
        go after_identifier h e = let (ts, u, w) = ends_identifier before h in right_parts before ts u w after rest (sym (ap (λ v. ahead m (marked_view v 0) after) h) ∙ e)
        go after_medial h e =
            let (ts, u, c, w, f) = ends_medial before (division_tokens (Token m) front) h in
            left_parts before after ts u c w f (sym (ap (λ v. ahead m (marked_view v 0) after) h) ∙ e)
        go other h e = nothing (sym (ap (λ v. ahead m (marked_view v 0) after) h) ∙ e)
        go (mark_after_identifier q) h e = nothing (sym (ap (λ v. ahead m (marked_view v 0) after) h) ∙ e)
        go (mark_after_medial q) h e = nothing (sym (ap (λ v. ahead m (marked_view v 0) after) h) ∙ e)
        go (medial_after_mark q) h e = nothing (sym (ap (λ v. ahead m (marked_view v 0) after) h) ∙ e)

    parts_refused : Parts m before after → RefusedMark m before t after
    parts_refused p = (refuses_mark_lem m before t after).0 (given_true (refuses_mark m before t after) (sym refuses_by ∙ go p))
      where
        go : Parts m before after → ahead m (marked_view (view_of m before) 0) after ≡ some 0
        go (identifiers ts us u v w z) =
            (λ i. ahead m (marked_view (view_of m (w i)) 0) (z i)) ∙ ap (λ x. ahead m (marked_view x 0) (tok identifier v ∷ us)) (view_snoc m ts (tok identifier u))
        go (medial_right ts us u v c w z f) =
            (λ i. ahead m (marked_view (view_of m (w i)) 0) (z i)) ∙ ap (λ x. ahead m (marked_view x 0) (tok syntax (c ∷ []) ∷ tok identifier v ∷ us)) (view_snoc m ts (tok identifier u))
            ∙ ap (λ b. cond b (given_if m true 0) none) f
        go (medial_left ts us u v c w f z) =
            let x = ts ++ tok identifier u ∷ [] in
            let y : view_of m before ≡ after_medial = ap (view_of m) (w ∙ sym (append_assoc ts (tok identifier u ∷ []) (tok syntax (c ∷ []) ∷ []))) ∙ view_snoc m x (tok syntax (c ∷ []))
            ∙ (λ i. cond (f i) (medial_view (view_snoc m ts (tok identifier u) i)) other) in
            (λ i. ahead m (marked_view (y i) 0) (z i))

    pub parts_exactly : RefusedMark m before t after ↔ Parts m before after
    parts_exactly = (refused_parts, parts_refused)
