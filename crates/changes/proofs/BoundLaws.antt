-- How many changes there are at most: by the records of the two images, and so by the limits of an image. Assumes nothing.
use Prim.Native.Nat.{ℕ, zero, suc, ◌+◌, ◌-◌, ◌*◌, ◌≤◌, ◌<◌}
use mathlib.Core.Path.{◌≡◌, refl, sym, ap, ◌∙◌}
use mathlib.Core.Bool.{Bool, true, false, cond}
use mathlib.Core.List.{List, [], ◌∷◌}
use mathlib.Core.Logic.{◌⊎◌, inl, inr, ⊎_elim}
use mathlib.Core.Option.{none}
use native.Mathlib.Numerals.{add-one}
use native.Mathlib.Omega.{arith}
use native.Mathlib.Decide.{dec_lt}
use lib.Dec.{eqb}
use lib.ListN.{length}
use borrow.Author.Tests.{eqb-true, eqb-false, eq-eqb}
use Rattle.image.specs.Limits.{max_ranges, max_entries}
use Rattle.image.specs.Check.{refusal_of, range_class}
use Rattle.image.specs.declared.Range.{Range}
use Rattle.image.specs.declared.records.Section.{Section}
use Rattle.image.specs.declared.records.Section.TheVariants.{Ranges, Entries}
use Rattle.image.specs.Records.{record_at, record_count, section_class, HasClass, held, in_none}
use Rattle.image.specs.Placed.{Rising}
use Rattle.image.proofs.RisingLaws.{class_cases, class_held, class_of_lem}
use Rattle.image.proofs.SectionLaws.{within_limits, records_rise, entry_role_lem}
use Rattle.pair.specs.Walk.{code_points}
use Rattle.changes.specs.Change.{Change}
use Rattle.changes.specs.ChangeList.{begun_at, goes_on, only, changes_from, runs_of, entries_of}
use Rattle.changes.specs.Answer.{changes_of}

-- how many of n numbers are x or more
module _ (c : ℕ → ℕ) where
  abbrev left : ℕ → ℕ → ℕ
  left zero x = 0
  left (suc n) x = left n x + (1 - (x - c n))

  left_few : (n x : ℕ) → left n x ≤ n
  left_few zero x = omega arith
  left_few (suc n) x = omega (arith, left_few n x)

  left_falls : (n x : ℕ) → left n (x + 1) ≤ left n x
  left_falls zero x = omega arith
  left_falls (suc n) x = omega (arith, left_falls n x)

  -- fewer are above one of them
  left_less : (n i x : ℕ) → i < n → c i ≡ x → left n (x + 1) < left n x
  left_less zero i x l e = absurd (omega arith)
  left_less (suc n) i x l e = go (left_less n i x) (dec_lt i n)
    where
      go : (i < n → c i ≡ x → left n (x + 1) < left n x) → Dec (i < n) → left (suc n) (x + 1) < left (suc n) x
      go f (yes k) = omega (arith, f k e)
      go f (no k) = let z : i ≡ n = omega arith in omega (arith, left_falls n x, ap c z)

-- the changes of two functions, by a number that falls where they change
module _ (f g p : ℕ → ℕ) (falls : (x : ℕ) → p (x + 1) ≤ p x) where
  -- from x on there are p (x + 1) runs at most; one less where the values of x are the same
  record FewRuns (x : ℕ) (l : List Change) : Type 0 where
    most : length l ≤ p (x + 1)
    same : f x ≡ g x → length l ≤ p (x + 1) - 1

  few_runs : ((x : ℕ) → ((f (x + 1) ≡ f x) × (g (x + 1) ≡ g x)) ⊎ (p (x + 1 + 1) < p (x + 1))) → (k x : ℕ) → FewRuns x (changes_from f g true k x)
  unfolding changes_from goes_on
  few_runs moves zero x = record { most = omega arith; same = λ e. omega arith }
  few_runs moves (suc k) x =
      go (eqb (f x) (g x)) refl (moves x) (rw add-one (few_runs moves k (suc x)))
    where
      one_more : (t : Bool) (l : List Change) → length (cond t (begun_at x l) (only f g x ∷ l)) ≤ length l + 1
      one_more true [] = omega arith
      one_more true (c ∷ l) = omega arith
      one_more false l = omega arith

      begun : (l : List Change) → length (begun_at x l) ≡ length l
      begun [] = refl
      begun (c ∷ l) = refl

      go : {l : List Change} (t : Bool) → eqb (f x) (g x) ≡ t → ((f (x + 1) ≡ f x) × (g (x + 1) ≡ g x)) ⊎ (p (x + 1 + 1) < p (x + 1))
          → FewRuns (x + 1) l → FewRuns x (cond t l (cond (goes_on f g x) (begun_at x l) (only f g x ∷ l)))
      go true e (inl (u, v)) h =
          let m = h.same (u ∙ eqb-true _ _ e ∙ sym v) in
          record { most = omega (arith, falls (x + 1)); same = λ _. omega (arith, falls (x + 1)) }
      go true e (inr u) h = record { most = omega (arith, h.most); same = λ _. omega (arith, h.most) }
      go {l} false e (inl (u, v)) h =
          rw (eq-eqb _ _ u, eq-eqb _ _ v)
          (record { most = omega (arith, begun l, h.most, falls (x + 1)); same = λ z. absurd (eqb-false _ _ e z) })
      go {l} false e (inr u) h =
          record { most = omega (arith, one_more (goes_on f g x) l, h.most); same = λ z. absurd (eqb-false _ _ e z) }

  few_singles : ((x : ℕ) → (f x ≡ g x) ⊎ (p (x + 1) < p x)) → (k x : ℕ) → length (changes_from f g false k x) ≤ p x
  unfolding changes_from
  few_singles differ zero x = omega arith
  few_singles differ (suc k) x = go _ (eqb (f x) (g x)) refl (differ x) (rw add-one (few_singles differ k (suc x)))
    where
      go : (l : List Change) (t : Bool) → eqb (f x) (g x) ≡ t → (f x ≡ g x) ⊎ (p (x + 1) < p x) → length l ≤ p (x + 1)
          → length (cond t l (only f g x ∷ l)) ≤ p x
      go l true e d h = omega (arith, falls x)
      go l false e (inl z) h = absurd (eqb-false _ _ e z)
      go l false e (inr u) h = omega arith

-- of two numbers each may fall; both do not, or their sum does
both : {A B : Type 0} {a b c d : ℕ} → A ⊎ (a < b) → B ⊎ (c < d) → a ≤ b → c ≤ d → (A × B) ⊎ (a + c < b + d)
both (inl x) (inl y) h k = inl (x, y)
both (inl x) (inr y) h k = inr (omega arith)
both (inr x) y h k = inr (omega arith)

-- the records of a section: how many begin at x or later, and how many end right before x or later
module _ (s : List ℕ) (section : Section) where
  abbrev n : ℕ
  n = record_count s section

  abbrev at : ℕ → Range
  at = record_at s section

  abbrev firsts : ℕ → ℕ
  firsts = left (λ (i : ℕ). (at i).first) n

  abbrev afters : ℕ → ℕ
  afters = left (λ (i : ℕ). (at i).last + 1) n

  record Edges (x : ℕ) : Type 0 where
    few_firsts : firsts x ≤ n
    few_afters : afters x ≤ n
    firsts_fall : firsts (x + 1) ≤ firsts x
    afters_fall : afters (x + 1) ≤ afters x

  edges : (x : ℕ) → Edges x
  edges x = record { few_firsts = left_few _ n x; few_afters = left_few _ n x; firsts_fall = left_falls _ n x; afters_fall = left_falls _ n x }

  -- fewer after an edge
  abbrev Less : ℕ → Type 0
  Less x = firsts (x + 1) + afters (x + 1) < firsts x + afters x

  edge_at : {i x : ℕ} → i < n → ((at i).first ≡ x) ⊎ ((at i).last + 1 ≡ x) → Less x
  edge_at {i} {x} l (inl e) = omega (arith, left_less (λ (i : ℕ). (at i).first) n i x l e, (edges x).afters_fall)
  edge_at {i} {x} l (inr e) = omega (arith, left_less (λ (i : ℕ). (at i).last + 1) n i x l e, (edges x).firsts_fall)

  -- where the class changes there is an edge
  moves : Rising at n → (x : ℕ) → (section_class s section (x + 1) ≡ section_class s section x) ⊎ Less (x + 1)
  moves up x = go _ _ (class_cases at n (x + 1)) (class_cases at n x)
    where
      go : (c d : ℕ) → HasClass at n (x + 1) c → HasClass at n x d → (c ≡ d) ⊎ Less (x + 1)
      go _ d (held i l a b) h = here (dec_lt x (at i).first)
        where
          here : Dec (x < (at i).first) → ((at i).class ≡ d) ⊎ Less (x + 1)
          here (yes k) = inr (edge_at l (inl (omega arith)))
          here (no k) = inl (sym (class_held at n up i x l (omega arith) (omega arith)) ∙ class_of_lem at n up x d h)
      go _ _ (in_none f) (held i l a b) = inr (edge_at l (inr (here (dec_lt x (at i).last))))
        where
          here : Dec (x < (at i).last) → (at i).last + 1 ≡ x + 1
          here (yes k) = absurd (f i l (omega arith) (omega arith))
          here (no k) = omega arith
      go _ _ (in_none f) (in_none g) = inl refl

  -- where there is a class a record begins, if none that began before holds the number
  begun : (x : ℕ) → ((i : ℕ) → (at i).first ≤ x → x ≤ (at i).last → (at i).first ≡ x) → (section_class s section x ≡ 0) ⊎ (firsts (x + 1) < firsts x)
  begun x f = go _ (class_cases at n x)
    where
      go : (c : ℕ) → HasClass at n x c → (c ≡ 0) ⊎ (firsts (x + 1) < firsts x)
      go _ (held i l a b) = inr (left_less (λ (i : ℕ). (at i).first) n i x l (f i a b))
      go _ (in_none g) = inl refl

module _ (older newer : List ℕ) (oa : refusal_of older ≡ none) (na : refusal_of newer ≡ none) where
  -- by the numbers of records
  pub runs_by_records : length (runs_of older newer) ≤ 2 * (record_count older Ranges + record_count newer Ranges) - 1
  unfolding runs_of range_class
  runs_by_records =
      let o = edges older Ranges in
      let w = edges newer Ranges in
      let few =
      few_runs _ _ (λ x. firsts older Ranges x + afters older Ranges x + (firsts newer Ranges x + afters newer Ranges x))
      (λ x. let p = o x in let q = w x in omega arith)
      (λ x. both (moves older Ranges (records_rise older oa Ranges) x) (moves newer Ranges (records_rise newer na Ranges) x)
      (let p = o (x + 1) in omega arith) (let q = w (x + 1) in omega arith)) code_points 0 in
      let p = o 0 in
      let q = w 0 in
      ⊎_elim (λ (a, b). omega (arith, few.same (a ∙ sym b))) (λ l. omega (arith, few.most))
      (both (begun older Ranges 0 (λ i a b. omega arith)) (begun newer Ranges 0 (λ i a b. omega arith)) p.firsts_fall q.firsts_fall)

  pub entries_by_records : length (entries_of older newer) ≤ record_count older Entries + record_count newer Entries
  unfolding entries_of
  entries_by_records =
      let o = edges older Entries in
      let w = edges newer Entries in
      let few =
      few_singles _ _ (λ x. firsts older Entries x + firsts newer Entries x) (λ x. let p = o x in let q = w x in omega arith)
      (λ x. ⊎_elim (λ (a, b). inl (entry_role_lem older x ∙ a ∙ sym b ∙ sym (entry_role_lem newer x))) inr
      (both (begun older Entries x (λ i a b. omega arith)) (begun newer Entries x (λ i a b. omega arith)) (o x).firsts_fall (w x).firsts_fall))
      code_points 0 in
      omega (arith, few, (o 0).few_firsts, (w 0).few_firsts)

  -- by the limits
  pub runs_by_limits : length (runs_of older newer) ≤ 2 * (max_ranges + max_ranges) - 1
  runs_by_limits = omega (arith, runs_by_records, (within_limits older oa).few_ranges, (within_limits newer na).few_ranges)

  pub entries_by_limits : length (entries_of older newer) ≤ max_entries + max_entries
  entries_by_limits = omega (arith, entries_by_records, (within_limits older oa).few_entries, (within_limits newer na).few_entries)

-- in either section
pub few_changes :
    (section : Section) (older newer : List ℕ) → refusal_of older ≡ none → refusal_of newer ≡ none
    → length (changes_of section older newer) ≤ 2 * (record_count older section + record_count newer section) - 1
few_changes Ranges older newer oa na = runs_by_records older newer oa na
few_changes Entries older newer oa na = omega (arith, entries_by_records older newer oa na)
