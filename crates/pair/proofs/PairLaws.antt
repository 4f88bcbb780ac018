-- What each answer of the pair check says of the two images, exactly when. Assumes nothing.
use Prim.Native.Nat.{ℕ, ◌≤◌, ◌<◌}
use mathlib.Core.Path.{◌≡◌, refl, sym, subst, ◌∙◌}
use mathlib.Core.List.{List}
use mathlib.Core.Bool.{Bool, true, false, true≢false, cond}
use mathlib.Core.Option.{Option, none, some}
use native.Mathlib.Omega.{arith}
use lib.Dec.{ltb, eqb}
use Rattle.std.specs.Prelude.{Result, Ok, Err}
use borrow.Author.Tests.{lt-ltb, eq-eqb, eqb-true, ltb-true, ltb-false, not-true, not-false}
use Rattle.lists.specs.First.{first_where}
use Rattle.lists.proofs.BoolLaws.{and_left, and_right, or_false}
use Rattle.lists.proofs.FirstLaws.{first_is, first_none, first_passed, first_holds}
use Rattle.utf8.specs.Scalar.{is_scalar}
use Rattle.utf8.proofs.ScalarLaws.{scalar_le}
use Rattle.refusal.specs.declared.Refusal.{Refusal}
use Rattle.refusal.specs.declared.Refusal.TheVariants as refusal
use Rattle.image.specs.Limits.{last_class}
use Rattle.image.specs.Header.{range_count, entry_count}
use Rattle.image.specs.Ranges.{range_at}
use Rattle.image.specs.Profile.{point_at, role_at}
use Rattle.image.specs.Same.{SameProfile}
use Rattle.image.specs.Check.{refusal_of, range_class}
use Rattle.image.specs.Accepted.{Accepted}
use Rattle.image.proofs.ImageLaws.{accepted, refused_none, refusal_means, means_refusal}
use Rattle.image.proofs.ClassLaws.{class_known}
use Rattle.pair.specs.Judged.{judged_by}
use Rattle.pair.specs.Change.{permitted}
use Rattle.pair.specs.Means.{
  PermittedAt,
  OnlyPermitted,
  FirstChange,
  PairMeans,
  bad_older,
  bad_newer,
  other_profile,
  bad_change,
  all_permitted,
}
use Rattle.pair.specs.Pair.{forbidden_at, first_forbidden, differs_at, same_entries, same_profile, compared_of, pair_by, pair_within, pair_of}
use Rattle.pair.specs.Walk.{code_points}
use Rattle.pair.specs.declared.PairRefusal.{PairRefusal}
use Rattle.pair.specs.declared.PairRefusal.TheVariants.{Neither}
use Rattle.pair.proofs.ChangeLaws.{permitted_is, is_permitted}

module _ (older newer : List ℕ) where
  -- one code point: the test and what it says
  not_forbidden : (x : ℕ) → forbidden_at older newer x ≡ false → is_scalar x ≡ true → PermittedAt older newer x
  unfolding forbidden_at
  not_forbidden x e s = permitted_is _ _ (not-false _ (simp s at e))

  class_small : (s : List ℕ) → Accepted s → (x : ℕ) → range_class s x ≤ last_class
  unfolding range_class
  class_small s a x = class_known (range_at s) (range_count s) a.ranges x

  module _ (a : Accepted older) (b : Accepted newer) where
    permits : (x : ℕ) → PermittedAt older newer x → permitted (range_class older x) (range_class newer x) ≡ true
    permits x p = is_permitted _ _ (class_small older a x) (class_small newer b x) p

    is_forbidden : (x : ℕ) → forbidden_at older newer x ≡ true → PermittedAt older newer x → ⊥
    unfolding forbidden_at
    is_forbidden x e p = true≢false (sym (permits x p) ∙ not-true _ (and_right (is_scalar x) _ e))

    forbids_none : (x : ℕ) → (is_scalar x ≡ true → PermittedAt older newer x) → (b : Bool) → is_scalar x ≡ b → forbidden_at older newer x ≡ false
    unfolding forbidden_at
    forbids_none x f true e = rw (e, permits x (f e))
    forbids_none x f false e = rw e

    forbids :
        (x : ℕ) → is_scalar x ≡ true → (PermittedAt older newer x → ⊥) → (t : Bool) → permitted (range_class older x) (range_class newer x) ≡ t
        → forbidden_at older newer x ≡ true
    unfolding forbidden_at
    forbids x s f true e = absurd (f (permitted_is _ _ e))
    forbids x s f false e = rw (s, e)

    -- the search over all code points
    only_permitted : code_points ≤ first_forbidden older newer → OnlyPermitted older newer
    unfolding first_forbidden
    only_permitted l x s = not_forbidden x (first_passed (forbidden_at older newer) code_points x (let h = scalar_le x s in omega arith)) s

    none_forbidden : OnlyPermitted older newer → first_forbidden older newer ≡ code_points
    unfolding first_forbidden
    none_forbidden f = first_none (forbidden_at older newer) code_points (λ x l. forbids_none x (f x) (is_scalar x) refl)

    first_change : first_forbidden older newer < code_points → FirstChange older newer (first_forbidden older newer)
    unfolding first_forbidden forbidden_at
    first_change l =
        let x = first_forbidden older newer in
        let h : forbidden_at older newer x ≡ true = first_holds (forbidden_at older newer) code_points l in
        record {
          scalar = and_left _ _ h;
          forbidden = is_forbidden x h;
          before = λ y u s. not_forbidden y (first_passed (forbidden_at older newer) code_points y u) s;
        }

    change_first : (x : ℕ) → FirstChange older newer x → first_forbidden older newer ≡ x
    unfolding first_forbidden
    change_first x f =
        first_is (forbidden_at older newer) code_points x (let l = scalar_le x f.scalar in omega arith) (forbids x f.scalar f.forbidden _ refl)
        (λ y u. forbids_none y (f.before y u) (is_scalar y) refl)

  -- profiles: the test and what it says
  entry_same : (i : ℕ) → differs_at older newer i ≡ false → (point_at older i ≡ point_at newer i) × (role_at older i ≡ role_at newer i)
  unfolding differs_at
  entry_same i e = let (p, r) = or_false _ _ e in (eqb-true _ _ (not-false _ p), eqb-true _ _ (not-false _ r))

  same_profile_lem : same_profile older newer ≡ true → SameProfile older newer
  unfolding same_profile same_entries
  same_profile_lem e =
      record { count = sym (eqb-true _ _ (and_left _ _ e)); point = λ i l. (at i l).0; role = λ i l. (at i l).1 }
    where
      at : (i : ℕ) → i < entry_count older → (point_at older i ≡ point_at newer i) × (role_at older i ≡ role_at newer i)
      at i l =
          let z : first_where (differs_at older newer) (entry_count older) ≡ entry_count older =
          eqb-true _ _ (and_right (eqb (entry_count newer) (entry_count older)) _ e) in
          entry_same i (first_passed (differs_at older newer) (entry_count older) i (omega arith))

  profile_same : SameProfile older newer → same_profile older newer ≡ true
  unfolding same_profile same_entries differs_at
  profile_same s =
      let f = first_none (differs_at older newer) (entry_count older) (λ i l. simp (eq-eqb _ _ (s.point i l), eq-eqb _ _ (s.role i l))) in
      simp (eq-eqb _ _ (sym s.count), f, eq-eqb (entry_count older) (entry_count older) refl)

  profile_differs : (SameProfile older newer → ⊥) → (b : Bool) → same_profile older newer ≡ b → b ≡ false
  profile_differs f true e = absurd (f (same_profile_lem e))
  profile_differs f false e = refl

  -- the answers
  module _ (a : Accepted older) (b : Accepted newer) where
    abbrev first : ℕ
    first = first_forbidden older newer

    abbrev changed : Bool → Result (Unit {0}) PairRefusal
    changed t = cond t (Err (Neither (refusal.Change first))) (Ok tt)

    means_change : SameProfile older newer → (t : Bool) → ltb first code_points ≡ t → PairMeans older newer (changed t)
    means_change s true e = bad_change a b s (first_change a b (ltb-true _ _ e))
    means_change s false e = all_permitted a b s (only_permitted a b (ltb-false _ _ e))

    means_compared : (t : Bool) → same_profile older newer ≡ t → PairMeans older newer (cond t (changed (ltb first code_points)) (Err (Neither refusal.Profiles)))
    means_compared true e = means_change (same_profile_lem e) _ refl
    means_compared false e = other_profile a b (λ s. true≢false (sym (profile_same s) ∙ e))

    compared : pair_of older newer ≡ compared_of older newer
    unfolding pair_within
    compared = simp (refused_none older a, refused_none newer b)

  means_by : (o p : Option Refusal) → refusal_of older ≡ o → refusal_of newer ≡ p → PairMeans older newer (pair_by older newer (judged_by o p))
  unfolding compared_of
  means_by (some r) p e f = bad_older (refusal_means older (some r) e)
  means_by none (some r) e f = bad_newer (accepted older e) (refusal_means newer (some r) f)
  means_by none none e f = means_compared (accepted older e) (accepted newer f) _ refl

  -- what an answer says
  pub pair_means : (p : Result (Unit {0}) PairRefusal) → pair_of older newer ≡ p → PairMeans older newer p
  unfolding pair_within
  pair_means p e = subst (PairMeans older newer) e (means_by _ _ refl refl)

  -- and back: where it is so, that is the answer
  pub means_pair : (p : Result (Unit {0}) PairRefusal) → PairMeans older newer p → pair_of older newer ≡ p
  unfolding pair_within compared_of
  means_pair _ (bad_older {r} m) = simp (means_refusal older (some r) m)
  means_pair _ (bad_newer {r} a m) = simp (refused_none older a, means_refusal newer (some r) m)
  means_pair _ (other_profile a b d) = compared a b ∙ simp (profile_differs d _ refl)
  means_pair _ (bad_change {x} a b s f) =
      let l = scalar_le x f.scalar in
      compared a b ∙ simp (profile_same s, change_first a b x f, lt-ltb x code_points (omega arith))
  means_pair _ (all_permitted a b s f) = compared a b ∙ simp (profile_same s, none_forbidden a b f)

  -- the answer yes
  pub permitted_means : pair_of older newer ≡ Ok tt → Accepted older × Accepted newer × SameProfile older newer × OnlyPermitted older newer
  permitted_means e = go (pair_means (Ok tt) e)
    where
      go : PairMeans older newer (Ok tt) → Accepted older × Accepted newer × SameProfile older newer × OnlyPermitted older newer
      go (all_permitted a b s f) = (a, b, s, f)
