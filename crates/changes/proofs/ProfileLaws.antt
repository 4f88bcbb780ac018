-- Two images whose code points have the same roles have the same profile entries, and back. Assumes nothing.
use Prim.Native.Nat.{ℕ, zero, suc, ◌≤◌, ◌<◌}
use mathlib.Core.Path.{◌≡◌, sym, ap, subst, ◌∙◌}
use mathlib.Core.Bool.{true}
use mathlib.Core.List.{List}
use native.Mathlib.Omega.{arith}
use native.Mathlib.Decide.{dec_lt}
use Rattle.utf8.specs.Scalar.{is_scalar}
use Rattle.image.specs.Header.{entry_count}
use Rattle.image.specs.Profile.{point_at, role_at}
use Rattle.image.specs.Same.{SameProfile}
use Rattle.image.specs.Accepted.{Accepted}
use Rattle.image.specs.Check.{entry_role}
use Rattle.image.proofs.ImageLaws.{refused_none}
use Rattle.image.proofs.RoleLaws.{role_same}
use Rattle.image.specs.declared.records.Section.TheVariants.{Entries}
use Rattle.image.specs.Records.{entry_range}
use Rattle.image.specs.Placed.{Rising}
use Rattle.image.specs.Records.{HasClass, held, in_none}
use Rattle.image.proofs.RisingLaws.{class_cases, class_held, rise, one_holds}
use Rattle.image.proofs.SectionLaws.{entry_role_lem, records_rise}

abbrev SameRoles : List ℕ → List ℕ → Type 0
SameRoles s t = (x : ℕ) → is_scalar x ≡ true → entry_role s x ≡ entry_role t x

-- entry j of t is entry i of s
record Matches (s t : List ℕ) (i j : ℕ) : Type 0 where
  within : j < entry_count t
  point : point_at s i ≡ point_at t j
  role : role_at s i ≡ role_at t j

entries_rise : (s : List ℕ) → Accepted s → Rising (entry_range (point_at s) (role_at s)) (entry_count s)
entries_rise s a = records_rise s (refused_none s a) Entries

module _ (s t : List ℕ) (a : Accepted s) (b : Accepted t) (e : SameRoles s t) where
  matched : (i : ℕ) → i < entry_count s → (j : ℕ) × Matches s t i j
  matched i l =
      let x = point_at s i in
      let own = entry_role_lem s x ∙ class_held _ _ (entries_rise s a) i x l (omega arith) (omega arith) in
      go _ (class_cases _ _ x) (sym (entry_role_lem t x) ∙ sym (e x (a.entries i l).scalar) ∙ own)
    where
      go : (c : ℕ) → HasClass (entry_range (point_at t) (role_at t)) (entry_count t) (point_at s i) c → c ≡ role_at s i → (j : ℕ) × Matches s t i j
      go c (held j k p q) z = (j, record { within = k; point = omega arith; role = sym z })
      go c (in_none f) z = absurd (omega (arith, (a.entries i l).some_role))

  -- it is not earlier in t, as the entries rise in both
  later_in : (i : ℕ) → i < entry_count s → (j : ℕ) × Matches s t i j × (i ≤ j)
  later_in zero l = let (j, m) = matched 0 l in (j, m, omega arith)
  later_in (suc i) l =
      let (k, n, u) = later_in i (omega arith) in
      let (j, m) = matched (suc i) l in
      (j, m, go k j n m u (dec_lt k j) (dec_lt j k))
    where
      go : (k j : ℕ) → Matches s t i k → Matches s t (suc i) j → i ≤ k → Dec (k < j) → Dec (j < k) → suc i ≤ j
      go k j n m u (yes v) d = omega arith
      go k j n m u (no v) (yes w) =
          absurd (omega (arith, rise _ _ (entries_rise s a) i (suc i) (omega arith) l, rise _ _ (entries_rise t b) j k w n.within))
      go k j n m u (no v) (no w) =
          let z : j ≡ k = omega arith in
          absurd (omega (arith, rise _ _ (entries_rise s a) i (suc i) (omega arith) l, ap (point_at t) z))

-- so it is at the same place
module _ (s t : List ℕ) (a : Accepted s) (b : Accepted t) (e : SameRoles s t) where
  e' : SameRoles t s
  e' x h = sym (e x h)

  same_place : (i : ℕ) → i < entry_count s → Matches s t i i
  same_place i l =
      let (j, m, u) = later_in s t a b e i l in
      let (k, n, v) = later_in t s b a e' j m.within in
      let z : i ≡ k = one_holds _ _ (entries_rise s a) i k (point_at s i) l n.within (omega arith) (omega arith) (omega arith) (omega arith) in
      let w : j ≡ i = omega arith in
      subst (Matches s t i) w m

  pub same_entries : SameProfile s t
  same_entries = record { count = go (dec_lt _ _) (dec_lt _ _); point = λ i l. (same_place i l).point; role = λ i l. (same_place i l).role }
    where
      go : Dec (entry_count s < entry_count t) → Dec (entry_count t < entry_count s) → entry_count s ≡ entry_count t
      go (yes l) d = let (j, m, u) = later_in t s b a e' (entry_count s) l in absurd (omega arith)
      go (no l) (yes k) = absurd (omega (arith, (same_place (entry_count t) k).within))
      go (no l) (no k) = omega arith

pub same_roles : {s t : List ℕ} → SameProfile s t → (x : ℕ) → entry_role s x ≡ entry_role t x
unfolding entry_role
same_roles {s} {t} p x = rw (← p.count) (role_same (point_at s) (role_at s) (point_at t) (role_at t) (entry_count s) x p.point p.role)
