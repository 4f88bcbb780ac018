-- The list made number by number is the one list of the changes; and what such a list holds. Assumes nothing.
use Prim.Native.Nat.{ℕ, zero, suc, ◌+◌, ◌≤◌, ◌<◌}
use mathlib.Core.Path.{◌≡◌, refl, sym, ap, subst, ◌∙◌}
use mathlib.Core.Bool.{Bool, true, false, true≢false, false≢true, ◌&&◌, cond}
use mathlib.Core.List.Memᴰ
use mathlib.Core.List.{List, [], ◌∷◌, Memᴰ}
use mathlib.Core.Logic.{◌⊎◌, inl, inr, ⊎_elim}
use native.Mathlib.Numerals.{add-one}
use native.Mathlib.Omega.{arith}
use native.Mathlib.Decide.{dec_lt}
use lib.Dec.{eqb}
use borrow.Author.Tests.{eqb-true, eqb-false, eq-eqb}
use Rattle.lists.proofs.BoolLaws.{split}
use Rattle.utf8.specs.Scalar.{is_scalar, surrogate, past_last}
use Rattle.utf8.proofs.ScalarLaws.{means_scalar}
use Rattle.changes.specs.Change.{Change, Holds, Each, Neighbours, empty, one, two, Before, Apart, Alone, Changed, AllChanges, Runs, Singles}
use Rattle.changes.specs.ChangeList.{begun_at, goes_on, only, changes_from}
use Rattle.pair.specs.Walk.{code_points}

-- what holds of x, and of y where that is after x, holds of y
or_later : (P : ℕ → Type 0) {x : ℕ} → P x → (y : ℕ) → x ≤ y → (x < y → P y) → P y
or_later P {x} p y l h = go (dec_lt x y)
  where
    go : Dec (x < y) → P y
    go (yes k) = h k
    go (no k) = subst P (let e : x ≡ y = omega arith in e) p

-- the first change of a list, and those after it
module _ {P : Change → Type 0} {c : Change} {l : List Change} where
  pub each_head : Each P (c ∷ l) → P c
  each_head h = h c (Memᴰ.head refl)

  pub each_tail : Each P (c ∷ l) → Each P l
  each_tail h d m = h d (Memᴰ.tail m)

  pub each_cons : P c → Each P l → Each P (c ∷ l)
  each_cons p h d (Memᴰ.head e) = subst P (sym e) p
  each_cons p h d (Memᴰ.tail m) = h d m

module _ {R : Change → Change → Type 0} {c : Change} where
  pub next_tail : {l : List Change} → Neighbours R (c ∷ l) → Neighbours R l
  next_tail one = empty
  next_tail (two r n) = n

  next_cons : {l : List Change} → Each (R c) l → Neighbours R l → Neighbours R (c ∷ l)
  next_cons h empty = one
  next_cons h one = two (each_head h) one
  next_cons h (two r n) = two (each_head h) (two r n)

module _ {f g : ℕ → ℕ} where
  pub first_held : {c : Change} → Changed f g c → Holds c c.first
  first_held h = record { from = omega arith; to = h.some }

  pub differs : {c : Change} → Changed f g c → f c.first ≡ g c.first → ⊥
  differs h e = let k = first_held h in h.differ (sym (h.older_is _ k) ∙ e ∙ h.newer_is _ k)

  -- a change ends before each later one begins
  pub ends_before : {c : Change} {l : List Change} → Neighbours Before (c ∷ l) → Each (Changed f g) l → Each (Before c) l
  ends_before one t d m = absurd (Memᴰ.not-nil m)
  ends_before (two r n) t d (Memᴰ.head e) = omega (arith, ap (λ (c : Change). c.first) e)
  ends_before (two r n) t d (Memᴰ.tail m) = omega (arith, ends_before n (each_tail t) d m, (each_head t).some)

  only_one :
      {c d : Change} {l : List Change} {x : ℕ} → Neighbours Before l → Each (Changed f g) l → Memᴰ c l → Memᴰ d l → Holds c x → Holds d x
      → c ≡ d
  only_one n t (Memᴰ.head e) (Memᴰ.head k) p q = e ∙ sym k
  only_one n t (Memᴰ.head e) (Memᴰ.tail m) p q =
      absurd (omega (arith, ap (λ (c : Change). c.last) e, ends_before n (each_tail t) _ m))
  only_one n t (Memᴰ.tail m) (Memᴰ.head e) p q =
      absurd (omega (arith, ap (λ (c : Change). c.last) e, ends_before n (each_tail t) _ m))
  only_one n t (Memᴰ.tail m) (Memᴰ.tail k) p q = only_one (next_tail n) (each_tail t) m k p q

  module _ {l : List Change} (a : AllChanges f g l) where
    -- a number is in one change at most
    pub in_one : {c d : Change} {x : ℕ} → Memᴰ c l → Memᴰ d l → Holds c x → Holds d x → c ≡ d
    in_one m k p q = only_one a.rises a.told m k p q

    -- no change goes over the surrogates, which are no scalar values
    pub parted : {c : Change} → Memᴰ c l → Holds c 0xD7FF → Holds c 0xE000 → ⊥
    parted {c} m p q =
        true≢false (sym ((a.told c m).scalar 0xD800 (record { from = omega arith; to = omega arith }))
        ∙ means_scalar 0xD800 false (surrogate (omega arith) (omega arith)))

-- the changes of the numbers from x on
module _ (f g : ℕ → ℕ) where
  -- x has the two values of c
  abbrev Has : Change → ℕ → Type 0
  Has c x = (f x ≡ c.older) × (g x ≡ c.newer)

  -- x is in a change if its values differ
  abbrev Covered : List Change → ℕ → Type 0
  Covered l x = (f x ≡ g x → ⊥) → (c : Change) × Memᴰ c l × Holds c x

  pub record Rest (runs : Bool) (x : ℕ) (l : List Change) : Type 0 where
    told : Each (Changed f g) l
    covered : (y : ℕ) → x ≤ y → Covered l y
    begins : Each (λ (c : Change). x ≤ c.first) l
    rises : Neighbours Before l
    whole : runs ≡ true → Neighbours Apart l
    alone : runs ≡ false → Each Alone l

module _ {f g : ℕ → ℕ} where
  has : {c : Change} {x : ℕ} → Changed f g c → Holds c x → Has f g c x
  has h k = (h.older_is _ k, h.newer_is _ k)

  first_has : {c : Change} → Changed f g c → Has f g c c.first
  first_has h = has h (first_held h)

  -- a run touches no later one with its values
  apart_all : {c : Change} {l : List Change} → Neighbours Before (c ∷ l) → Neighbours Apart (c ∷ l) → Each (Changed f g) l → Each (Apart c) l
  apart_all one w t d m = absurd (Memᴰ.not-nil m)
  apart_all (two r n) (two a w) t d (Memᴰ.head e) = rw e a
  apart_all (two r n) (two a w) t d (Memᴰ.tail m) = λ e _ _. omega (arith, ends_before n (each_tail t) d m, (each_head t).some)

  module _ {runs : Bool} {x : ℕ} {c : Change} {l : List Change} (r : Rest f g runs x (c ∷ l)) where
    own : Changed f g c
    own = each_head r.told

    later : Each (Before c) l
    later = ends_before r.rises (each_tail r.told)

    -- a number that differs is in the first change or in a later one
    held_by : (y : ℕ) → x ≤ y → (f y ≡ g y → ⊥) → Holds c y ⊎ ((d : Change) × Memᴰ d l × Holds d y)
    held_by y u d =
        let (b, m, h) = r.covered y u d in
        ⊎_elim (λ e. inl (rw e at h)) (λ k. inr (b, k, h)) (Memᴰ.cases_cons m)

    after : Rest f g runs (c.last + 1) l
    after =
        record {
          told = each_tail r.told;
          covered = λ y u d. ⊎_elim (λ h. absurd (omega arith)) (λ h. h) (held_by y (omega (arith, own.some, each_head r.begins)) d);
          begins = λ d m. omega (arith, later d m);
          rises = next_tail r.rises;
          whole = λ t. next_tail (r.whole t);
          alone = λ t. each_tail (r.alone t);
        }

    first_le : {y : ℕ} → x ≤ y → (f y ≡ g y → ⊥) → c.first ≤ y
    first_le u d = ⊎_elim (λ h. h.from) (λ (b, m, h). omega (arith, later b m, own.some)) (held_by _ u d)

    -- the number after a run has other values
    ends : runs ≡ true → Has f g c (c.last + 1) → ⊥
    ends t (o, n) =
        ⊎_elim (λ h. omega arith)
        (λ (b, m, h).
        let (o', n') = has (each_tail r.told b m) h in
        apart_all r.rises (r.whole t) (each_tail r.told) b m (omega (arith, later b m)) (sym o ∙ o') (sym n ∙ n'))
        (held_by (c.last + 1) (omega (arith, own.some, each_head r.begins)) (λ e. own.differ (sym o ∙ e ∙ n)))

  -- one more change at the front
  pub rest_cons :
      {runs : Bool} {c : Change} {l : List Change} → Changed f g c → (runs ≡ true → Has f g c (c.last + 1) → ⊥) → (runs ≡ false → Alone c)
      → Rest f g runs (c.last + 1) l → Rest f g runs c.first (c ∷ l)
  rest_cons {c = c} {l = l} h w a r =
      record {
        told = each_cons h r.told;
        covered = λ y u d. go y u d (dec_lt c.last y);
        begins = each_cons (omega arith) (λ d m. omega (arith, r.begins d m, h.some));
        rises = next_cons (λ d m. omega (arith, r.begins d m)) r.rises;
        whole =
            λ t. next_cons
            (λ d m e o n. let (u, v) = first_has (r.told d m) in w t (ap f e ∙ u ∙ sym o, ap g e ∙ v ∙ sym n)) (r.whole t);
        alone = λ t. each_cons (a t) (r.alone t);
      }
    where
      go : (y : ℕ) → c.first ≤ y → (f y ≡ g y → ⊥) → Dec (c.last < y) → (d : Change) × Memᴰ d (c ∷ l) × Holds d y
      go y u d (yes k) = let (b, m, h) = r.covered y (omega arith) d in (b, Memᴰ.tail m, h)
      go y u d (no k) = (c, Memᴰ.head refl, record { from = u; to = omega arith })

  -- numbers before x whose two values are equal are in no change
  pub rest_before : {runs : Bool} {w x : ℕ} {l : List Change} → w ≤ x → ((y : ℕ) → w ≤ y → y < x → f y ≡ g y) → Rest f g runs x l → Rest f g runs w l
  rest_before {w = w} {x = x} {l = l} u e r =
      record {
        told = r.told;
        covered = λ y v d. go y v d (dec_lt y x);
        begins = λ c m. omega (arith, r.begins c m);
        rises = r.rises;
        whole = r.whole;
        alone = r.alone;
      }
    where
      go : (y : ℕ) → w ≤ y → (f y ≡ g y → ⊥) → Dec (y < x) → (c : Change) × Memᴰ c l × Holds c y
      go y v d (yes k) = absurd (d (e y v k))
      go y v d (no k) = r.covered y (omega arith) d

  -- there is one first change, and so one list
  module _ {runs : Bool} where
    module _ {x : ℕ} {c d : Change} {l m : List Change} (r : Rest f g runs x (c ∷ l)) (s : Rest f g runs x (d ∷ m)) where
      values_same : c.first ≡ d.first → (c.older ≡ d.older) × (c.newer ≡ d.newer)
      values_same e =
          let (o, n) = first_has (own r) in
          let (o', n') = first_has (own s) in
          (cc, cc)

      last_le : c.first ≡ d.first → Dec (c.last < d.last) → (b : Bool) → runs ≡ b → d.last ≤ c.last
      last_le e (yes l) true t =
          let (o, n) = has {x = c.last + 1} (own s) (record { from = omega (arith, (own r).some); to = omega arith }) in
          let (u, v) = values_same e in
          absurd (ends r t (o ∙ sym u, n ∙ sym v))
      last_le e (yes l) false t = omega (arith, each_head (r.alone t), each_head (s.alone t))
      last_le e (no l) b t = omega arith

    first_one : {x : ℕ} {c d : Change} {l m : List Change} → Rest f g runs x (c ∷ l) → Rest f g runs x (d ∷ m) → c ≡ d
    first_one {c = c} {d = d} r s =
        let e : c.first ≡ d.first =
        omega (arith, first_le r (each_head s.begins) (differs (own s)), first_le s (each_head r.begins) (differs (own r))) in
        let u : c.last ≡ d.last = omega (arith, last_le r s e (dec_lt _ _) _ refl, last_le s r (sym e) (dec_lt _ _) _ refl) in
        let v = values_same r s e in
        λ i. record { first = e i; last = u i; older = v.0 i; newer = v.1 i }

    pub rest_one : {x : ℕ} (l m : List Change) → Rest f g runs x l → Rest f g runs x m → l ≡ m
    rest_one [] [] r s = refl
    rest_one [] (d ∷ m) r s = absurd (Memᴰ.not-nil (r.covered _ (each_head s.begins) (differs (own s))).1)
    rest_one (c ∷ l) [] r s = absurd (Memᴰ.not-nil (s.covered _ (each_head r.begins) (differs (own r))).1)
    rest_one {x = x} (c ∷ l) (d ∷ m) r s =
        let e = first_one r s in
        let t = rest_one {x = c.last + 1} l m (after r) (subst (λ (c : Change). Rest f g runs (c.last + 1) m) (sym e) (after s)) in
        λ i. e i ∷ t i

module _
    (f g : ℕ → ℕ) (f_none : (x : ℕ) → is_scalar x ≡ false → f x ≡ 0) (g_none : (x : ℕ) → is_scalar x ≡ false → g x ≡ 0)
  where
    -- only scalar values change
    pub changes_scalar : (x : ℕ) → (f x ≡ g x → ⊥) → (b : Bool) → is_scalar x ≡ b → b ≡ true
    changes_scalar x d true e = refl
    changes_scalar x d false e = absurd (d (f_none x e ∙ sym (g_none x e)))

    pub is_changed : {c : Change} → c.first ≤ c.last → ((x : ℕ) → Holds c x → Has f g c x) → (c.older ≡ c.newer → ⊥) → Changed f g c
    is_changed l h d =
        record {
          some = l;
          scalar = λ x k. let (p, q) = h x k in changes_scalar x (λ e. d (sym p ∙ e ∙ q)) _ refl;
          older_is = λ x k. (h x k).0;
          newer_is = λ x k. (h x k).1;
          differ = d;
        }

    past_all : {runs : Bool} {x : ℕ} → code_points ≤ x → Rest f g runs x []
    past_all h =
        record {
          told = λ c m. absurd (Memᴰ.not-nil m);
          covered = λ y u d. let e = means_scalar y false (past_last (omega arith)) in absurd (d (f_none y e ∙ sym (g_none y e)));
          begins = λ c m. absurd (Memᴰ.not-nil m);
          rises = empty;
          whole = λ t. empty;
          alone = λ t c m. absurd (Memᴰ.not-nil m);
        }

    -- one more number: its values are the same; or it is a change by itself; or it begins the first change, which has its values
    module _ {runs : Bool} {x : ℕ} where
      module _ (d : f x ≡ g x → ⊥) where
        added : {l : List Change} → (runs && goes_on f g x) ≡ false → Rest f g runs (x + 1) l → Rest f g runs x (only f g x ∷ l)
        unfolding goes_on
        added t r =
            rest_cons {c = only f g x} (is_changed (omega arith) (λ y k. let e : y ≡ x = omega arith in (ap f e, ap g e)) d)
            (λ z (p, q). true≢false (sym (simp (z, eq-eqb _ _ p, eq-eqb _ _ q)) ∙ t)) (λ z. refl) r

        begun : (l : List Change) → runs ≡ true → f (x + 1) ≡ f x → g (x + 1) ≡ g x → Rest f g runs (x + 1) l → Rest f g runs x (begun_at x l)
        begun [] t p q r = absurd (Memᴰ.not-nil (r.covered (x + 1) (omega arith) (λ e. d (sym p ∙ e ∙ q))).1)
        begun (c ∷ l) t p q r =
            let e : x + 1 ≡ c.first = omega (arith, first_le r {y = x + 1} (omega arith) (λ e. d (sym p ∙ e ∙ q)), each_head r.begins) in
            let (o, n) = first_has (own r) in
            rest_cons {c = record { first = x; last = c.last; older = c.older; newer = c.newer }}
            (is_changed (omega (arith, (own r).some))
            (λ y k. or_later (Has f g c) (sym p ∙ ap f e ∙ o, sym q ∙ ap g e ∙ n) y k.from
            (λ u. has (own r) (record { from = omega arith; to = k.to }))) (own r).differ)
            (ends r) (λ z. absurd (true≢false (sym t ∙ z))) (after r)

      with_number :
          {l : List Change} → Rest f g runs (x + 1) l → (t : Bool) → eqb (f x) (g x) ≡ t → (u : Bool) → (runs && goes_on f g x) ≡ u
          → Rest f g runs x (cond t l (cond u (begun_at x l) (only f g x ∷ l)))
      unfolding goes_on
      with_number r true e u z =
          rest_before (omega arith) (λ y l k. let i : x ≡ y = omega arith in rw (← i) (eqb-true _ _ e)) r
      with_number {l} r false e true z =
          let (t, (p, q)) = split runs (eqb (f (x + 1)) (f x) ∷ eqb (g (x + 1)) (g x) ∷ []) z in
          begun (eqb-false _ _ e) l t (eqb-true _ _ p) (eqb-true _ _ q) r
      with_number r false e false z = added (eqb-false _ _ e) z r

    pub listed : (runs : Bool) (k x : ℕ) → code_points ≤ x + k → Rest f g runs x (changes_from f g runs k x)
    unfolding changes_from
    listed runs zero x h = past_all (omega arith)
    listed runs (suc k) x h = with_number (rw add-one (listed runs k (suc x) (omega arith))) _ refl _ refl

    module _ {runs : Bool} {l : List Change} where
      rest_all : Rest f g runs 0 l → AllChanges f g l
      rest_all r = record { told = r.told; covered = λ x s d. r.covered x (omega arith) d; rises = r.rises }

      all_rest : AllChanges f g l → (runs ≡ true → Neighbours Apart l) → (runs ≡ false → Each Alone l) → Rest f g runs 0 l
      all_rest a w o =
          record {
            told = a.told;
            covered = λ x u d. a.covered x (changes_scalar x d _ refl) d;
            begins = λ c m. omega arith;
            rises = a.rises;
            whole = w;
            alone = o;
          }

    runs_rest : {l : List Change} → Runs f g l → Rest f g true 0 l
    runs_rest r = all_rest r.all (λ _. r.whole) (λ t. absurd (true≢false t))

    singles_rest : {l : List Change} → Singles f g l → Rest f g false 0 l
    singles_rest r = all_rest r.all (λ t. absurd (false≢true t)) (λ _. r.alone)

    -- the list made number by number is one, and the only one
    pub runs_listed : Runs f g (changes_from f g true code_points 0)
    runs_listed = let r = listed true code_points 0 (omega arith) in record { all = rest_all r; whole = r.whole refl }

    pub singles_listed : Singles f g (changes_from f g false code_points 0)
    singles_listed = let r = listed false code_points 0 (omega arith) in record { all = rest_all r; alone = r.alone refl }

    pub runs_unique : {l m : List Change} → Runs f g l → Runs f g m → l ≡ m
    runs_unique p q = rest_one _ _ (runs_rest p) (runs_rest q)

    pub singles_unique : {l m : List Change} → Singles f g l → Singles f g m → l ≡ m
    singles_unique p q = rest_one _ _ (singles_rest p) (singles_rest q)
