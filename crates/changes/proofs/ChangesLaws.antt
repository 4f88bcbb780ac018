-- What the lists of changes between two images say: none, all of the newer image, and the answers of the pair check. Assumes nothing.
use Prim.Native.Nat.{ℕ, ◌<◌}
use mathlib.Core.Path.{◌≡◌, refl, sym, ap, subst, ◌∙◌}
use mathlib.Core.Bool.{Bool, true, false, true≢false, ◌&&◌, cond}
use mathlib.Core.List.Memᴰ
use mathlib.Core.List.{List, [], ◌∷◌, Memᴰ}
use mathlib.Core.Logic.{◌↔◌}
use native.Mathlib.Omega.{arith}
use native.Mathlib.Decide.{dec_lt, ℕ_discrete}
use lib.Dec.{leb}
use borrow.Author.Tests.{leb-true, le-leb}
use Rattle.std.specs.Prelude.{Result, Ok, Err}
use Rattle.lists.proofs.BoolLaws.{and_left, and_right, and_in, impossible}
use Rattle.utf8.specs.Scalar.{is_scalar}
use Rattle.refusal.specs.declared.Refusal.TheVariants as refusal
use Rattle.image.specs.Class.{class_named}
use Rattle.image.specs.Permitted.{same}
use Rattle.image.specs.Profile.{point_at}
use Rattle.image.specs.Same.{SameProfile}
use Rattle.image.specs.Accepted.{Accepted}
use Rattle.image.specs.Check.{range_class, entry_role}
use Rattle.image.proofs.ImageLaws.{refused_none, means_refusal}
use Rattle.image.proofs.ClassLaws.{class_scalar}
use Rattle.image.proofs.RisingLaws.{class_none}
use Rattle.image.proofs.SectionLaws.{range_class_lem, entry_role_lem}
use Rattle.pair.specs.declared.PairRefusal.{PairRefusal}
use Rattle.pair.specs.declared.PairRefusal.TheVariants.{Neither}
use Rattle.pair.specs.Means.{OnlyPermitted, FirstChange, PermittedAt, PairMeans, bad_older, bad_newer, other_profile, bad_change, all_permitted}
use Rattle.pair.specs.Pair.{pair_of}
use Rattle.pair.proofs.PairLaws.{pair_means, means_pair, permitted_means}
use Rattle.changes.specs.Change.{Change, Holds, Each, Neighbours, Before, Changed, AllChanges, Runs, Singles}
use Rattle.changes.specs.ChangeList.{runs_of, entries_of}
use Rattle.changes.specs.Applied.{changed_by, PermittedChange, FirstNot, here, later}
use Rattle.changes.proofs.ProfileLaws.{same_entries, same_roles}
use Rattle.changes.proofs.ChangeListLaws.{
  differs,
  first_held,
  each_cons,
  each_head,
  each_tail,
  next_tail,
  ends_before,
  changes_scalar,
  parted,
  runs_listed,
  singles_listed,
  runs_unique,
  singles_unique,
}

-- no number but a scalar value has a class in the ranges or a role in the profile
module _ (s : List ℕ) (a : Accepted s) (x : ℕ) (e : is_scalar x ≡ false) where
  class_zero : range_class s x ≡ 0
  class_zero = range_class_lem s x ∙ class_scalar _ _ a.ranges x e

  role_zero : entry_role s x ≡ 0
  role_zero =
      entry_role_lem s x
      ∙ class_none _ _ x (λ i l p q. let z : point_at s i ≡ x = omega arith in true≢false (sym (a.entries i l).scalar ∙ ap is_scalar z ∙ e))

-- numbers are equal where it can't be that they differ
stable : {a b : ℕ} → ((a ≡ b → ⊥) → ⊥) → a ≡ b
stable {a} {b} h = go (ℕ_discrete a b)
  where
    go : Dec (a ≡ b) → a ≡ b
    go (yes e) = e
    go (no d) = absurd (h d)

-- what holds of the newer value of a change that holds x, and of v where none does, holds of the value after the changes
changed_by_lem :
    (P : ℕ → Type 0) (l : List Change) (x v : ℕ) → Each (λ (c : Change). Holds c x → P c.newer) l
    → (Each (λ (c : Change). Holds c x → ⊥) l → P v) → P (changed_by l x v)
unfolding changed_by
changed_by_lem P [] x v p q = q (λ c m. absurd (Memᴰ.not-nil m))
changed_by_lem P (c ∷ l) x v p q =
    go (λ n. changed_by_lem P l x v (each_tail p) (λ h. q (each_cons n h))) _ refl
  where
    go : ((Holds c x → ⊥) → P (changed_by l x v)) → (b : Bool) → (leb c.first x && leb x c.last) ≡ b → P (cond b c.newer (changed_by l x v))
    go h true e =
        each_head p (record { from = leb-true _ _ (and_left _ _ e); to = leb-true _ _ (and_right (leb c.first x) _ e) })
    go h false e = h (λ k. true≢false (sym (and_in _ _ (le-leb _ _ k.from) (le-leb _ _ k.to)) ∙ e))

-- the first change for which P does not hold
module _ {P : Change → Type 0} where
  first_one : {l : List Change} {x y : ℕ} → FirstNot P l x → FirstNot P l y → x ≡ y
  first_one (here n) (here m) = refl
  first_one (here n) (later p k) = absurd (n p)
  first_one (later p h) (here m) = absurd (m p)
  first_one (later p h) (later q k) = first_one h k

  not-each : {l : List Change} {x : ℕ} → FirstNot P l x → Each P l → ⊥
  not-each (here n) h = n (each_head h)
  not-each (later p k) h = not-each k (each_tail h)

  first_is :
      {f g : ℕ → ℕ} {c : Change} {l : List Change} → Neighbours Before l → Each (Changed f g) l → Memᴰ c l → (P c → ⊥)
      → Each (λ (d : Change). d.first < c.first → P d) l → FirstNot P l c.first
  first_is n t (Memᴰ.head e) q h = rw e (here (rw e at q))
  first_is n t (Memᴰ.tail m) q h =
      later (each_head h (omega (arith, ends_before n (each_tail t) _ m, (each_head t).some))) (first_is (next_tail n) (each_tail t) m q (each_tail h))

-- a list of changes
module _ {f g : ℕ → ℕ} where
  none_if : (l : List Change) → Each (Changed f g) l → ((x : ℕ) → is_scalar x ≡ true → f x ≡ g x) → l ≡ []
  none_if [] t h = refl
  none_if (c ∷ l) t h =
      let k = each_head t in
      absurd (differs k (h _ (k.scalar _ (first_held k))))

  none_changed : {l : List Change} → AllChanges f g l → (l ≡ []) ↔ ((x : ℕ) → is_scalar x ≡ true → f x ≡ g x)
  none_changed {l} a =
      (λ e x s. stable (λ d. let (c, m, h) = a.covered x s d in Memᴰ.not-nil (subst (Memᴰ c) e m)), none_if l a.told)

  applied :
      {l : List Change} → AllChanges f g l → ((x : ℕ) → is_scalar x ≡ false → f x ≡ 0) → ((x : ℕ) → is_scalar x ≡ false → g x ≡ 0)
      → (x : ℕ) → changed_by l x (f x) ≡ g x
  applied {l} a f_none g_none x =
      changed_by_lem (λ (v : ℕ). v ≡ g x) l x (f x) (λ c m h. sym ((a.told c m).newer_is x h))
      (λ n. stable (λ d. let (c, m, h) = a.covered x (changes_scalar f g f_none g_none x d _ refl) d in n c m h))

module _ (older newer : List ℕ) (a : Accepted older) (b : Accepted newer) where
  -- the lists are what they should be, and no other lists are
  pub runs_are : Runs (range_class older) (range_class newer) (runs_of older newer)
  unfolding runs_of
  runs_are = runs_listed _ _ (class_zero older a) (class_zero newer b)

  -- no run holds both D7FF and E000 hex
  pub runs_parted : {c : Change} → Memᴰ c (runs_of older newer) → Holds c 0xD7FF → Holds c 0xE000 → ⊥
  runs_parted = parted runs_are.all

  pub entries_are : Singles (entry_role older) (entry_role newer) (entries_of older newer)
  unfolding entries_of
  entries_are = singles_listed _ _ (role_zero older a) (role_zero newer b)

  pub are_runs : {l : List Change} → Runs (range_class older) (range_class newer) l → l ≡ runs_of older newer
  are_runs h = runs_unique _ _ (class_zero older a) (class_zero newer b) h runs_are

  pub are_entries : {l : List Change} → Singles (entry_role older) (entry_role newer) l → l ≡ entries_of older newer
  are_entries h = singles_unique _ _ (role_zero older a) (role_zero newer b) h entries_are

  -- there are none exactly where nothing differs
  pub no_runs : (runs_of older newer ≡ []) ↔ ((x : ℕ) → is_scalar x ≡ true → range_class older x ≡ range_class newer x)
  no_runs = none_changed runs_are.all

  pub no_entries : (entries_of older newer ≡ []) ↔ SameProfile older newer
  no_entries =
      let n = none_changed entries_are.all in
      (λ e. same_entries older newer a b (n.0 e), λ p. n.1 (λ x s. same_roles p x))

  -- applied to the older image they give the newer
  pub runs_apply : (x : ℕ) → changed_by (runs_of older newer) x (range_class older x) ≡ range_class newer x
  runs_apply = applied runs_are.all (class_zero older a) (class_zero newer b)

  pub entries_apply : (x : ℕ) → changed_by (entries_of older newer) x (entry_role older x) ≡ entry_role newer x
  entries_apply = applied entries_are.all (role_zero older a) (role_zero newer b)

  abbrev all : AllChanges (range_class older) (range_class newer) (runs_of older newer)
  all = runs_are.all

  -- the change of a run is that of each of its numbers
  of_run : {c : Change} → Memᴰ c (runs_of older newer) → {x : ℕ} → Holds c x → PermittedAt older newer x ↔ PermittedChange c
  of_run {c} m {x} k =
      let t = all.told c m in
      (λ p. rw (t.older_is x k, t.newer_is x k) at p, λ p. rw (t.older_is x k, t.newer_is x k) p)

  run_permitted : Each (λ (c : Change). (is_scalar c.first ≡ true → PermittedAt older newer c.first) → PermittedChange c) (runs_of older newer)
  run_permitted c m h = let k = first_held (all.told c m) in (of_run m k).0 (h ((all.told c m).scalar _ k))

  -- so all changes are permitted where those of the runs are
  only_permitted : Each PermittedChange (runs_of older newer) → OnlyPermitted older newer
  only_permitted h x s = go (ℕ_discrete _ _)
    where
      go : Dec (range_class older x ≡ range_class newer x) → PermittedAt older newer x
      go (yes e) = same (ap class_named e)
      go (no d) = let (c, m, k) = all.covered x s d in (of_run m k).1 (h c m)

  runs_permitted : OnlyPermitted older newer → Each PermittedChange (runs_of older newer)
  runs_permitted h c m = run_permitted c m (h _)

  -- and the first that is not permitted is that of the first such run
  at_change : {x : ℕ} → FirstChange older newer x → FirstNot PermittedChange (runs_of older newer) x
  at_change {x} h =
      let (c, m, k) = all.covered x h.scalar (λ e. h.forbidden (same (ap class_named e))) in
      go c m k (λ p. h.forbidden ((of_run m k).1 p)) (dec_lt _ _)
    where
      go : (c : Change) → Memᴰ c (runs_of older newer) → Holds c x → (PermittedChange c → ⊥) → Dec (c.first < x)
          → FirstNot PermittedChange (runs_of older newer) x
      go c m k n (yes u) = absurd (n (run_permitted c m (h.before _ u)))
      go c m k n (no u) =
          let e : c.first ≡ x = omega arith in
          subst (FirstNot PermittedChange (runs_of older newer)) e
          (first_is all.rises all.told m n (λ d j v. run_permitted d j (h.before _ (omega arith))))

-- the answers of the pair check, yes and refusal 10, in the words of the two lists
module _ (older newer : List ℕ) where
  pub pair_yes :
      (pair_of older newer ≡ Ok tt)
      ↔ (Accepted older × Accepted newer × (entries_of older newer ≡ []) × Each PermittedChange (runs_of older newer))
  pair_yes = (
    λ e. let (a, b, s, h) = permitted_means older newer e in (a, b, (no_entries older newer a b).1 s, runs_permitted older newer a b h),
    λ (a, b, n, h). means_pair older newer _ (all_permitted a b ((no_entries older newer a b).0 n) (only_permitted older newer a b h)),
  )

  abbrev Ten : ℕ → Type 0
  Ten x = Accepted older × Accepted newer × (entries_of older newer ≡ []) × FirstNot PermittedChange (runs_of older newer) x

  is_ten : {x : ℕ} (p : Result (Unit {0}) PairRefusal) → PairMeans older newer p → Ten x → p ≡ Err (Neither (refusal.Change x))
  is_ten _ (bad_older m) (a, b, n, h) = let z = sym (refused_none older a) ∙ means_refusal older _ m in impossible (cc)
  is_ten _ (bad_newer c m) (a, b, n, h) = let z = sym (refused_none newer b) ∙ means_refusal newer _ m in impossible (cc)
  is_ten _ (other_profile c d f) (a, b, n, h) = absurd (f ((no_entries older newer a b).0 n))
  is_ten _ (bad_change c d s f) (a, b, n, h) =
      ap (λ (y : ℕ). Err (Neither (refusal.Change y))) (first_one (at_change older newer a b f) h)
  is_ten _ (all_permitted c d s f) (a, b, n, h) = absurd (not-each h (runs_permitted older newer a b f))

  pub pair_ten :
      (x : ℕ)
      → (pair_of older newer ≡ Err (Neither (refusal.Change x)))
      ↔ (Accepted older × Accepted newer × (entries_of older newer ≡ []) × FirstNot PermittedChange (runs_of older newer) x)
  pair_ten x = (λ e. go (pair_means older newer _ e), λ t. is_ten _ (pair_means older newer _ refl) t)
    where
      go : PairMeans older newer (Err (Neither (refusal.Change x))) → Ten x
      go (bad_change a b s h) = (a, b, (no_entries older newer a b).1 s, at_change older newer a b h)

  pub pair_eleven :
      (pair_of older newer ≡ Err (Neither refusal.Profiles)) ↔ (Accepted older × Accepted newer × (entries_of older newer ≡ [] → ⊥))
  pair_eleven =
      (λ e. go (pair_means older newer _ e), λ (a, b, f). means_pair older newer _ (other_profile a b (λ s. f ((no_entries older newer a b).1 s))))
    where
      go : PairMeans older newer (Err (Neither refusal.Profiles)) → Accepted older × Accepted newer × (entries_of older newer ≡ [] → ⊥)
      go (other_profile a b f) = (a, b, λ e. f ((no_entries older newer a b).0 e))
