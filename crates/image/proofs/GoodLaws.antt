-- The tests of ranges and profile entries say what docs/RULES.md says, each way. Assumes nothing.
use Prim.Native.Nat.{ℕ, ◌+◌, ◌-◌, ◌≤◌, ◌<◌}
use mathlib.Core.Path.{◌≡◌, refl, sym, ◌∙◌}
use mathlib.Core.Bool.{Bool, true, false, not, ◌||◌}
use mathlib.Core.List.{[], ◌∷◌}
use mathlib.Core.Logic.{⊎_elim}
use native.Mathlib.Omega.{arith}
use native.Mathlib.Decide.{dec_lt}
use lib.Dec.{leb, ltb, eqb}
use borrow.Author.Tests.{leb-true, ltb-true, eqb-true, eqb-false, not-true, le-leb, lt-ltb}
use Rattle.lists.specs.First.{Decides}
use Rattle.lists.proofs.BoolLaws.{and_left, and_right, and_in, or_cases, or_left, or_right, split}
use Rattle.utf8.specs.Scalar.{is_scalar}
use Rattle.image.specs.Limits.{first_class, last_class, first_role, last_role, last_code_point, first_surrogate, last_surrogate}
use Rattle.image.specs.Ranges.{good_alone, follows, good_range}
use Rattle.image.specs.Profile.{good_entry_alone, good_entry}
use Rattle.image.specs.Good.{GoodRange, GoodEntry}
use Rattle.image.specs.declared.Range.{Range}

-- a test that is passed at index 0
module _ (i : ℕ) (t : Bool) where
  past_first : (eqb i 0 || t) ≡ true → 0 < i → t ≡ true
  past_first e l = ⊎_elim (λ h. let z = eqb-true i 0 h in absurd (omega arith)) (λ h. h) (or_cases (eqb i 0) t e)

  or_first : (0 < i → t ≡ true) → (b : Bool) → eqb i 0 ≡ b → (b || t) ≡ true
  or_first f true e = refl
  or_first f false e = f (let n = eqb-false i 0 e in omega arith)

module _ (at : ℕ → Range) (i : ℕ) where
  abbrev r : Range
  r = at i

  abbrev p : Range
  p = at (i - 1)

  abbrev outside : Bool
  outside = ltb last_surrogate r.first || ltb r.last first_surrogate

  abbrev apart : Bool
  apart = not (eqb r.class p.class) || not (eqb (p.last + 1) r.first)

  holds_none : outside ≡ true → (x : ℕ) → r.first ≤ x → x ≤ r.last → first_surrogate ≤ x → x ≤ last_surrogate → ⊥
  holds_none e x a b c d =
      ⊎_elim (λ h. let l = ltb-true last_surrogate r.first h in omega arith) (λ h. let l = ltb-true r.last first_surrogate h in omega arith)
      (or_cases (ltb last_surrogate r.first) _ e)

  stands_apart : apart ≡ true → p.class ≡ r.class → p.last + 1 ≡ r.first → ⊥
  stands_apart e c t =
      ⊎_elim (λ h. eqb-false _ _ (not-true _ h) (sym c)) (λ h. eqb-false _ _ (not-true _ h) t) (or_cases (not (eqb r.class p.class)) _ e)

  range_to : good_range at i ≡ true → GoodRange at i
  unfolding good_range good_alone follows
  range_to e =
      let (o, (b, (u, (c, k)))) =
      split (leb r.first r.last) (leb r.last last_code_point ∷ outside ∷ leb first_class r.class ∷ leb r.class last_class ∷ [])
      (and_left (good_alone r) (eqb i 0 || follows p r) e) in
      let f = past_first i (follows p r) (and_right (good_alone r) (eqb i 0 || follows p r) e) in
      record {
        ordered = leb-true _ _ o;
        below = leb-true _ _ b;
        no_surrogate = holds_none u;
        some_class = leb-true _ _ c;
        known_class = leb-true _ _ k;
        after = λ h. ltb-true _ _ (and_left (ltb p.last r.first) apart (f h));
        apart = λ h. stands_apart (and_right (ltb p.last r.first) apart (f h));
      }

  lies_outside : GoodRange at i → outside ≡ true
  lies_outside g = go (dec_lt last_surrogate r.first) (dec_lt r.last first_surrogate) (dec_lt r.first first_surrogate)
    where
      go : Dec (last_surrogate < r.first) → Dec (r.last < first_surrogate) → Dec (r.first < first_surrogate) → outside ≡ true
      go (yes u) d c = or_left _ _ (lt-ltb last_surrogate r.first u)
      go (no u) (yes v) c = or_right (ltb last_surrogate r.first) _ (lt-ltb r.last first_surrogate v)
      go (no u) (no v) (yes w) = absurd (g.no_surrogate first_surrogate (omega arith) (omega arith) (omega arith) (omega arith))
      go (no u) (no v) (no w) = absurd (g.no_surrogate r.first (omega arith) g.ordered (omega arith) (omega arith))

  is_apart :
      GoodRange at i → 0 < i → (c : Bool) → eqb r.class p.class ≡ c → (t : Bool) → eqb (p.last + 1) r.first ≡ t → (not c || not t) ≡ true
  is_apart g h false e t f = refl
  is_apart g h true e false f = refl
  is_apart g h true e true f = absurd (g.apart h (sym (eqb-true _ _ e)) (eqb-true _ _ f))

  range_from : GoodRange at i → good_range at i ≡ true
  unfolding good_range good_alone follows
  range_from g =
      and_in _ _
      (and_in _ _ (le-leb r.first r.last g.ordered)
      (and_in _ _ (le-leb r.last last_code_point g.below)
      (and_in _ _ (lies_outside g) (and_in _ _ (le-leb first_class _ g.some_class) (le-leb _ last_class g.known_class)))))
      (or_first i (follows p r) (λ h. and_in _ _ (lt-ltb _ _ (g.after h)) (is_apart g h _ refl _ refl)) _ refl)

module _ (point role : ℕ → ℕ) (i : ℕ) where
  abbrev risen : Bool
  risen = ltb (point (i - 1)) (point i)

  entry_to : good_entry point role i ≡ true → GoodEntry point role i
  unfolding good_entry good_entry_alone
  entry_to e =
      let (s, (f, l)) =
      split (is_scalar (point i)) (leb first_role (role i) ∷ leb (role i) last_role ∷ []) (and_left (good_entry_alone (point i) (role i)) (eqb i 0 || risen) e) in
      record {
        scalar = s;
        some_role = leb-true _ _ f;
        known_role = leb-true _ _ l;
        rises = λ h. ltb-true _ _ (past_first i risen (and_right (good_entry_alone (point i) (role i)) (eqb i 0 || risen) e) h);
      }

  entry_from : GoodEntry point role i → good_entry point role i ≡ true
  unfolding good_entry good_entry_alone
  entry_from g =
      and_in _ _ (and_in _ _ g.scalar (and_in _ _ (le-leb first_role _ g.some_role) (le-leb _ last_role g.known_role)))
      (or_first i risen (λ h. lt-ltb _ _ (g.rises h)) _ refl)

-- the tests tell the good ranges and the good entries
pub ranges_told : (at : ℕ → Range) → Decides (good_range at) (GoodRange at)
ranges_told at = record { to = range_to at; from = range_from at }

pub entries_told : (point role : ℕ → ℕ) → Decides (good_entry point role) (GoodEntry point role)
entries_told point role = record { to = entry_to point role; from = entry_from point role }

-- whether a record is good depends on it and the one before it
pub good_entry_same : (f g a b : ℕ → ℕ) (i : ℕ) → f i ≡ g i → f (i - 1) ≡ g (i - 1) → a i ≡ b i → good_entry f a i ≡ good_entry g b i
unfolding good_entry
good_entry_same f g a b i e h r = rw (e, h, r)

pub entry_same : {f g a b : ℕ → ℕ} {i : ℕ} → f i ≡ g i → f (i - 1) ≡ g (i - 1) → a i ≡ b i → GoodEntry g b i → GoodEntry f a i
entry_same {f} {g} {a} {b} {i} e h r k = entry_to f a i (good_entry_same f g a b i e h r ∙ entry_from g b i k)

pub range_same : {f g : ℕ → Range} {i : ℕ} → f i ≡ g i → f (i - 1) ≡ g (i - 1) → GoodRange g i → GoodRange f i
unfolding good_range
range_same {f} {g} {i} e h k = range_to f i (rw (e, h) (range_from g i k))
