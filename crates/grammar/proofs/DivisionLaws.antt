-- A text has one division only, and a one-pass reader that fits the tokens gives it. Assumes nothing.
use mathlib.Core.Path.{◌≡◌, refl, sym, ◌∙◌, ap, subst}
use mathlib.Core.Bool.{Bool, true, false}
use mathlib.Core.List.{List, [], ◌∷◌, ◌++◌, append_assoc}
use mathlib.Core.Option.{Option, none, some}
use Prim.Native.Nat.{suc, ◌≤◌}
use native.Mathlib.Omega.{arith}
use lib.ListN.{length}
use Rattle.lists.proofs.BoolLaws.{impossible}
use Rattle.grammar.specs.All.{All}
use Rattle.grammar.specs.Scan.{Rules, Tok, Reading, units_of, goes, walk, reading}
use Rattle.grammar.specs.Division.{Longest, NoToken, Division, ends, takes}
use Rattle.grammar.proofs.ScanLaws.{walk_nil, walk_more, walk_stop, walk_open, run_none}

pub append_same : {A : Type 0} (u v r s : List A) → u ++ r ≡ v ++ s → length u ≡ length v → (u ≡ v) × (r ≡ s)
append_same [] [] r s e h = (refl, e)
append_same [] (y ∷ v) r s e h = absurd (omega arith)
append_same (x ∷ u) [] r s e h = absurd (omega arith)
append_same (x ∷ u) (y ∷ v) r s e h =
    let p : (u ≡ v) × (r ≡ s) = append_same u v r s (cc) (omega arith) in
    let q : u ≡ v = p.0 in
    let x=y : x ≡ y = cc in
    (cc, p.1)

module _ {A K : Type 0} (Token : K → List A → Type 0) where
  -- where no units are tokens of two kinds, there is one division
  module _ (one_kind : (u : List A) (j k : K) → Token j u → Token k u → j ≡ k) where
    longest_unique : {s : List A} (j k : K) (u v r t : List A) → Longest Token s j u r → Longest Token s k v t → (j ≡ k) × (u ≡ v) × (r ≡ t)
    longest_unique j k u v r t L M =
        let n : length u ≡ length v = omega (arith, L.longest k v t M.whole M.token, M.longest j u r L.whole L.token) in
        let p : (u ≡ v) × (r ≡ t) = append_same u v r t (sym L.whole ∙ M.whole) n in
        (one_kind v j k (rw p.0 at L.token) M.token, p.0, p.1)

    pub unique : {s l l' : List A} {ts ts' : List (Tok A K)} → Division Token s ts l → Division Token s ts' l' → (ts ≡ ts') × (l ≡ l')
    unique (ends n) (ends m) = (refl, refl)
    unique (ends n) (takes {k = k} {u = u} {rest = r} L d) = absurd (n k u r L.whole L.token)
    unique (takes {k = k} {u = u} {rest = r} L d) (ends n) = absurd (n k u r L.whole L.token)
    unique (takes {k = j} {u = u} {rest = r} L d) (takes {k = k} {u = v} {rest = t} {ts = us} {left = l'} M e) =
        let p = longest_unique j k u v r t L M in
        let q = unique d (subst (λ x. Division Token x us l') (sym p.2) e) in
        (λ i. record { kind = p.0 i; units = p.1 i } ∷ q.0 i, q.1)

  -- what makes a one-pass reader the reader of these tokens: a token begins with a unit of its kind;
  -- such a unit and the run after it are a token; and no token that begins with it has more units
  pub record Fits (R : Rules A K) : Type 0 where
    pub starts : (k : K) (u : List A) → Token k u → (c : A) × (v : List A) × (u ≡ c ∷ v) × (R.kind_of c ≡ some k)
    pub sound : (k : K) (c : A) (r : List A) → R.kind_of c ≡ some k → Token k (c ∷ (walk R (some k) r).run)
    pub bound : (k : K) (c : A) (v w : List A) → Token k (c ∷ v) → length v ≤ length (walk R (some k) (v ++ w)).run

  module _ (R : Rules A K) (F : Fits R) where
    pub fits_one_kind : (u : List A) (j k : K) → Token j u → Token k u → j ≡ k
    fits_one_kind u j k s t =
        let p = F.starts j u s in
        let q = F.starts k u t in
        let e : p.0 ∷ p.1 ≡ q.0 ∷ q.1 = sym p.2 ∙ q.2 in
        let f = p.3 in
        let g = q.3 in
        cc

    begins : {s : List A} (j : K) (v w : List A) → s ≡ v ++ w → Token j v → (c : A) × (x : List A) × (v ≡ c ∷ x) × (s ≡ c ∷ (x ++ w)) × (R.kind_of c ≡ some j)
    begins j v w e t =
        let p = F.starts j v t in
        (p.0, p.1, p.2, e ∙ ap (λ x. x ++ w) p.2, p.3)

    pub none_at_end : NoToken Token []
    none_at_end j v w e t =
        let q = (begins j v w e t).3 in
        impossible (cc)

    none_without_kind : (c : A) (r : List A) → R.kind_of c ≡ none → NoToken Token (c ∷ r)
    none_without_kind c r f j v w e t =
        let b = begins j v w e t in
        let q = b.3 in
        let g = b.4 in
        impossible (cc)

    within : (k j : K) (c d : A) (r x w : List A) → R.kind_of c ≡ some k → c ∷ r ≡ d ∷ (x ++ w) → R.kind_of d ≡ some j → Token j (d ∷ x) →
        length x ≤ length (walk R (some k) r).run
    within k j c d r x w f e g t =
        let same_kind : j ≡ k = cc in
        let same_rest : x ++ w ≡ r = cc in
        rw (same_kind, same_rest) at (F.bound j d x w t)

    no_longer : (k : K) (c : A) (r : List A) → R.kind_of c ≡ some k → (j : K) (v w : List A) → c ∷ r ≡ v ++ w → Token j v →
        length v ≤ suc (length (walk R (some k) r).run)
    no_longer k c r f j v w e t =
        let b = begins j v w e t in
        let n = ap length b.2 in
        omega (arith, within k j c b.0 r b.1 w f b.3 b.4 (rw b.2 at t))

    -- after the run comes a text that the tokens divide
    abbrev Reads : List A → Reading A K → Type 0
    Reads r w = (s : List A) × (r ≡ w.run ++ s) × Division Token s w.tokens w.left

    reads_step : (k : Option K) (c : A) (r : List A) → Reads r (walk R k r) → ((j : K) → Reads r (walk R (some j) r)) →
        (b : Bool) → goes R k (c ∷ r) ≡ b → (o : Option K) → R.kind_of c ≡ o → Reads (c ∷ r) (walk R k (c ∷ r))
    reads_step k c r here there true e o f = rw (walk_more R k c r e) (here.0, ap (λ x. c ∷ x) here.1, here.2)
    reads_step k c r here there false e none f = rw (walk_stop R k c r e f) (c ∷ r, refl, ends (none_without_kind c r f))
    reads_step k c r here there false e (some j) f =
        let h = there j in
        rw (walk_open R k c r j e f)
        (c ∷ r, refl, takes (record { whole = ap (λ x. c ∷ x) h.1; token = F.sound j c r f; longest = no_longer j c r f }) h.2)

    reads : (k : Option K) (r : List A) → Reads r (walk R k r)
    reads k [] = rw (walk_nil R k) ([], refl, ends none_at_end)
    reads k (c ∷ r) = reads_step k c r (reads k r) (λ j. reads (some j) r) (goes R k (c ∷ r)) refl (R.kind_of c) refl

    -- the one-pass reading of a text is its division
    pub divides : (s : List A) → Division Token s (reading R s).tokens (reading R s).left
    divides s =
        let p = reads none s in
        let e : p.0 ≡ s = sym (p.1 ∙ ap (λ x. x ++ p.0) (run_none R s)) in
        rw e at p.2

module _ {A K : Type 0} (Token : K → List A → Type 0) where
  -- the tokens' units and what is left are the text, and no token begins what is left
  pub division_covers : {s left : List A} {ts : List (Tok A K)} → Division Token s ts left → s ≡ units_of ts ++ left
  division_covers (ends n) = refl
  division_covers (takes {u = u} {ts = ts} {left = left} L d) =
      L.whole ∙ ap (λ x. u ++ x) (division_covers d) ∙ sym (append_assoc u (units_of ts) left)

  pub division_ends : {s left : List A} {ts : List (Tok A K)} → Division Token s ts left → NoToken Token left
  division_ends (ends n) = n
  division_ends (takes L d) = division_ends d

  -- each token is one
  pub division_tokens : {s left : List A} {ts : List (Tok A K)} → Division Token s ts left → All (λ t. Token t.kind t.units) ts
  division_tokens (ends n) = tt
  division_tokens (takes L d) = (L.token, division_tokens d)

  -- the tokens before one are the division of the units before it
  pub division_front : NoToken Token [] → (us ts : List (Tok A K)) {s left : List A} (r : List A) → s ≡ units_of us ++ r →
      Division Token s (us ++ ts) left → Division Token (units_of us) us []
  division_front n [] ts r e d = ends n
  division_front n (t ∷ us) ts r e (takes {k = k} {u = u} {rest = rest} L d) =
      let f : rest ≡ units_of us ++ r = (append_same u u rest (units_of us ++ r) (sym L.whole ∙ e ∙ append_assoc u (units_of us) r) refl).1 in
      let longest : (j : K) (v w : List A) → u ++ units_of us ≡ v ++ w → Token j v → length v ≤ length u =
      λ j v w g h. L.longest j v (w ++ r) (e ∙ ap (λ x. x ++ r) g ∙ append_assoc v w r) h in
      takes (record { whole = refl; token = L.token; longest = longest }) (division_front n us ts r f d)
