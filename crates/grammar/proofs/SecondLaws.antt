-- The reader's form of refusal 14 is its meaning: the mark that it finds is the first that is refused. Assumes nothing.
use Prim.Native.Nat.{ℕ, ◌-◌}
use mathlib.Core.Path.{◌≡◌, refl, sym, ap, subst, ◌∙◌}
use mathlib.Core.Bool.{Bool, true, false, not, false≢true, true≢false, ◌&&◌, cond}
use mathlib.Core.List.{List, [], ◌∷◌, ◌++◌, append_assoc, append-nil}
use mathlib.Core.Option.{Option, none, some}
use mathlib.Core.Logic.{◌↔◌, ◌⊎◌, inl, inr}
use native.Mathlib.Omega.{arith}
use lib.ListN.{length, length-append}
use lib.Dec.{leb, eqb}
use borrow.Author.Tests.{leb-true, eqb-true, not-true}
use Rattle.lists.proofs.BoolLaws.{or_cases, and_left, and_right, split}
use Rattle.grammar.specs.White.{blank, line_end, mark}
use Rattle.grammar.specs.Scan.{Tok, units_of, reading}
use Rattle.grammar.specs.Meaning.{Meaning}
use Rattle.grammar.specs.Grammar.{Kind, identifier, syntax, whitespace}
use Rattle.grammar.specs.Kinds.{rules}
use Rattle.grammar.specs.Marks.{last_not_white, first_not_white, EndsAfter, RefusedMark}
use Rattle.grammar.specs.Second.{is_mark_kind, ends_after, parts_still, refuses_mark, first_refused}
use Rattle.grammar.proofs.DivisionLaws.{append_same}
use Rattle.grammar.proofs.GrammarLaws.{tokens_divide, tokens_unique}
use Rattle.grammar.proofs.JoinLaws.{ends_yes}

mark_means : (k : Kind) → is_mark_kind k ≡ true → k ≡ whitespace mark
mark_means identifier e = absurd (false≢true e)
mark_means syntax e = absurd (false≢true e)
mark_means (whitespace blank) e = absurd (false≢true e)
mark_means (whitespace line_end) e = absurd (false≢true e)
mark_means (whitespace mark) e = refl

module _ {A : Type 0} where
  ends_means : (n : ℕ) (ts : List (Tok A Kind)) → ends_after n ts ≡ true → EndsAfter ts n
  ends_means n [] e = absurd (false≢true e)
  ends_means n (t ∷ ts) e = go (length t.units) refl (or_cases (eqb n (length t.units)) _ e) (λ k. ends_means (n - k) ts)
    where
      go : (k : ℕ) → length t.units ≡ k → (eqb n k ≡ true) ⊎ ((leb k n && ends_after (n - k) ts) ≡ true) →
          ((k : ℕ) → ends_after (n - k) ts ≡ true → EndsAfter ts (n - k)) → EndsAfter (t ∷ ts) n
      go k l (inl h) ih = record { before = []; token = t; after = ts; whole = refl; size = omega (arith, eqb-true n k h) }
      go k l (inr h) ih =
          let i = ih k (and_right (leb k n) (ends_after (n - k) ts) h) in
          record {
            before = t ∷ i.before;
            token = i.token;
            after = i.after;
            whole = ap (λ x. t ∷ x) i.whole;
            size = omega (arith, i.size, length-append t.units (units_of i.before), leb-true k n (and_left (leb k n) (ends_after (n - k) ts) h));
          }

  -- a token ends after n units
  pub ends_after_lem : (n : ℕ) (ts : List (Tok A Kind)) → (ends_after n ts ≡ true) ↔ EndsAfter ts n
  ends_after_lem n ts = (ends_means n ts, λ e. rw e.whole (ends_yes n e.before e.token e.after (sym e.size)))

module _ {A : Type 0} (m : Meaning A) where
  -- the token t between these is a mark that is refused
  pub refuses_mark_lem : (before : List (Tok A Kind)) (t : Tok A Kind) (after : List (Tok A Kind)) → (refuses_mark m before t after ≡ true) ↔ RefusedMark m before t after
  unfolding refuses_mark parts_still
  refuses_mark_lem before t after = (means, meant)
    where
      without : List A
      without = units_of before ++ units_of after

      ends : (ends_after (length (units_of before)) (reading (rules m) without).tokens ≡ true) ↔ EndsAfter (reading (rules m) without).tokens (length (units_of before))
      ends = ends_after_lem (length (units_of before)) (reading (rules m) without).tokens

      means : refuses_mark m before t after ≡ true → RefusedMark m before t after
      means e =
          let (k, (l, (r, p))) = split (is_mark_kind t.kind) (last_not_white before ∷ first_not_white after ∷ not (parts_still m before after) ∷ []) e in
          record {
            kind = mark_means t.kind k;
            left = l;
            right = r;
            second = (reading (rules m) without).tokens;
            rest = (reading (rules m) without).left;
            division = tokens_divide m without;
            joined = λ h. true≢false (sym (ends.1 h) ∙ not-true _ p);
          }

      meant : RefusedMark m before t after → refuses_mark m before t after ≡ true
      meant r = rw (r.kind, r.left, r.right) (go (parts_still m before after) refl)
        where
          go : (b : Bool) → parts_still m before after ≡ b → not b ≡ true
          go true e = absurd (r.joined (rw (tokens_unique m (tokens_divide m without) r.division).0 at (ends.0 e)))
          go false e = refl

  -- every mark of the tokens ts that is refused has the tokens p before it
  abbrev pub From : List (Tok A Kind) → List (Tok A Kind) → Type 0
  From ts p = (b : List (Tok A Kind)) (t : Tok A Kind) (a : List (Tok A Kind)) → ts ≡ b ++ t ∷ a → RefusedMark m b t a → (x : List (Tok A Kind)) × (b ≡ p ++ x)

  -- the first mark of the tokens ts that is refused stands after `before`
  pub record FirstRefused (ts before : List (Tok A Kind)) : Type 0 where
    pub token : Tok A Kind
    pub after : List (Tok A Kind)
    pub whole : ts ≡ before ++ token ∷ after
    pub refused : RefusedMark m before token after
    pub first : From ts before

  -- no mark of them is refused
  abbrev pub NoneRefused : List (Tok A Kind) → Type 0
  NoneRefused ts = (b : List (Tok A Kind)) (t : Tok A Kind) (a : List (Tok A Kind)) → ts ≡ b ++ t ∷ a → RefusedMark m b t a → ⊥

  abbrev Found : List (Tok A Kind) → Option (List (Tok A Kind)) → Type 0
  Found ts none = NoneRefused ts
  Found ts (some before) = FirstRefused ts before

  -- where the token t isn't refused, they have it before them too
  passes : (p : List (Tok A Kind)) (t : Tok A Kind) (ts : List (Tok A Kind)) → refuses_mark m p t ts ≡ false → From (p ++ t ∷ ts) p → From (p ++ t ∷ ts) (p ++ t ∷ [])
  passes p t ts e f b u a w r = let (x, h) = f b u a w r in go x h
    where
      go : (x : List (Tok A Kind)) → b ≡ p ++ x → (y : List (Tok A Kind)) × (b ≡ (p ++ t ∷ []) ++ y)
      go [] h =
          let i : t ∷ ts ≡ u ∷ a = (append_same p p (t ∷ ts) (u ∷ a) (w ∙ ap (λ y. y ++ u ∷ a) (h ∙ append-nil p)) refl).1 in
          let j : u ≡ t = cc in
          let k : a ≡ ts = cc in
          absurd (true≢false (sym ((refuses_mark_lem p t ts).1 (rw (h ∙ append-nil p, j, k) at r)) ∙ e))
      go (y ∷ x) h =
          let i : t ∷ ts ≡ y ∷ (x ++ u ∷ a) = (append_same p p _ _ (w ∙ ap (λ z. z ++ u ∷ a) h ∙ append_assoc p (y ∷ x) (u ∷ a)) refl).1 in
          let j : y ≡ t = cc in
          (x, h ∙ ap (λ z. p ++ z ∷ x) j ∙ sym (append_assoc p (t ∷ []) x))

  finds : (p ts : List (Tok A Kind)) → From (p ++ ts) p → Found (p ++ ts) (first_refused m p ts)
  unfolding first_refused
  finds p [] f = λ b t a w r. let (x, h) = f b t a w r in
      omega (arith, ap length w, ap length h, length-append p [], length-append b (t ∷ a), length-append p x)
  finds p (t ∷ ts) f = go (refuses_mark m p t ts) refl (finds (p ++ t ∷ []) ts)
    where
      go : (b : Bool) → refuses_mark m p t ts ≡ b → (From ((p ++ t ∷ []) ++ ts) (p ++ t ∷ []) → Found ((p ++ t ∷ []) ++ ts) (first_refused m (p ++ t ∷ []) ts)) →
          Found (p ++ t ∷ ts) (cond b (some p) (first_refused m (p ++ t ∷ []) ts))
      go true e ih = record { token = t; after = ts; whole = refl; refused = (refuses_mark_lem p t ts).0 e; first = f }
      go false e ih = rw (append_assoc p (t ∷ []) ts) at (ih (rw (append_assoc p (t ∷ []) ts) (passes p t ts e f)))

  found : (ts : List (Tok A Kind)) → Found ts (first_refused m [] ts)
  found ts = finds [] ts (λ b t a w r. (b, refl))

  -- the reader's first refused mark is the first that is refused
  pub first_refused_lem : (ts before : List (Tok A Kind)) → (first_refused m [] ts ≡ some before) ↔ FirstRefused ts before
  first_refused_lem ts before = (λ e. subst (Found ts) e (found ts), λ f. go f (first_refused m [] ts) (found ts))
    where
      go : FirstRefused ts before → (o : Option (List (Tok A Kind))) → Found ts o → o ≡ some before
      go f none n = absurd (n before f.token f.after f.whole f.refused)
      go f (some b) g =
          let (x, h) = f.first b g.token g.after g.whole g.refused in
          let (y, k) = g.first before f.token f.after f.whole f.refused in
          ap some (same x y h k)
        where
          same : (x y : List (Tok A Kind)) → b ≡ before ++ x → before ≡ b ++ y → b ≡ before
          same [] y h k = h ∙ append-nil before
          same (z ∷ x) y h k = absurd (omega (arith, ap length h, ap length k, length-append before (z ∷ x), length-append b y))

  -- it finds none exactly where none is refused
  pub none_refused : (ts : List (Tok A Kind)) → (first_refused m [] ts ≡ none) ↔ NoneRefused ts
  none_refused ts = (λ e. subst (Found ts) e (found ts), λ n. go n (first_refused m [] ts) (found ts))
    where
      go : NoneRefused ts → (o : Option (List (Tok A Kind))) → Found ts o → o ≡ none
      go n none f = refl
      go n (some b) f = absurd (n b f.token f.after f.whole f.refused)
