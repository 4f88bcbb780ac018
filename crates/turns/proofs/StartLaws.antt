-- Where tokens start, as numbers: the token under way is the next of the text's reading, whatever follows. Assumes nothing.
use Prim.Native.Nat.{ℕ, ◌+◌, ◌/◌, ◌%◌, ◌≤◌, ◌<◌}
use mathlib.Core.Path.{◌≡◌, refl, sym, ap, subst, ◌∙◌}
use mathlib.Core.Bool.{Bool, true, false, true≢false, cond}
use mathlib.Core.List.{List, [], ◌∷◌, ◌++◌}
use native.Mathlib.Omega.{arith}
use native.Mathlib.Decide.{dec_lt}
use lib.ListN.{length, get_or, set}
use lib.Seq.{get_or-set_same, get_or-set_other}
use lib.Dec.{ltb}
use borrow.Author.Tests.{lt-ltb, le-ltb}
use Rattle.utf8.specs.Text.{Character, characters_at}
use Rattle.grammar.specs.Step.{idle, under, held, tok, step, goes_first}
use Rattle.grammar.specs.Grammar.{Kind, identifier}
use Rattle.grammar.specs.Kinds.{kind_number}
use Rattle.grammar.specs.Record.{tokens_width}
use Rattle.grammar.proofs.StepLaws.{read_from, meant, read_step, settles_first}
use Rattle.turns.specs.Turns.{waiting, after_of}
use Rattle.turns.specs.Starts.{StartOf, Started}
use Rattle.turns.proofs.TurnLaws.{Tokens, Under, L, kind_less}
use Rattle.turns.proofs.ReachLaws.{Reached, tokens_come}

-- the number of the kind that is under way in a state: while a medial waits, that of the identifier before it
abbrev pub under_kind : ℕ → ℕ
under_kind state = cond (ltb state waiting) state (kind_number identifier)

module _ (s : List ℕ) (k : Kind) (u : List Character) where
  -- the next token has the kind of the one under way
  abbrev First : Tokens → Type 0
  First ts = (v : List Character) × (vs : Tokens) × (ts ≡ tok k v ∷ vs)

  reads_under : (cs : List Character) → First (read_from (L s) (under k u) cs).tokens
  unfolding read_from
  reads_under cs = (_, _, refl)

module _ (s : List ℕ) (k : Kind) (u : List Character) (d : Character) where
  reads_held : (cs : List Character) → First s k u (read_from (L s) (held k u d) cs).tokens
  unfolding step
  reads_held cs = go cs (goes_first (L s) k cs) refl
    where
      go : (cs : List Character) (b : Bool) → goes_first (L s) k cs ≡ b → First s k u (read_from (L s) (held k u d) cs).tokens
      go cs false e = (u, _, ap (λ w. w.tokens) (settles_first (L s) k u d cs e))
      go [] true e = absurd (true≢false (sym e))
      go (c ∷ r) true e =
          let (v, vs, f) = reads_under s k (u ++ d ∷ c ∷ []) r in
          let g : (meant (L s) (step (L s) (held k u d) c) r).tokens ≡ (read_from (L s) (under k (u ++ d ∷ c ∷ [])) r).tokens = rw e in
          (v, vs, ap (λ w. w.tokens) (read_step (L s) (held k u d) c r) ∙ g ∙ f)

module _ {s text : List ℕ} {state mid at : ℕ} {ts : Tokens} where
  start_by : (k : Kind) (q : Under) → Reached s text state mid at ts q → (v : List Character) (vs : Tokens) →
      (read_from (L s) q (characters_at text at)).tokens ≡ tok k v ∷ vs → (c : ℕ) → c / 16 ≡ tokens_width ts → after_of (c % 16) ≡ kind_number k → StartOf s text (length ts) c
  start_by k q i v vs e c p a = record { front = ts; token = tok k v; back = vs; parted = tokens_come i ∙ ap (λ l. ts ++ l) e; number = refl; place = p; kind = a }

  -- the token under way is the one after those that are complete
  pub start_under : (q : Under) → Reached s text state mid at ts q → 0 < state → (c : ℕ) → c / 16 ≡ tokens_width ts → after_of (c % 16) ≡ under_kind state →
      StartOf s text (length ts) c
  start_under idle i h c p a = absurd (omega (arith, i.stands.0))
  start_under (under k u) i h c p a =
      let l : state < waiting = omega (arith, i.stands.0, kind_less k) in
      let (v, vs, e) = reads_under s k u (characters_at text at) in
      start_by k (under k u) i v vs e c p (a ∙ rw (lt-ltb state waiting l) i.stands.0)
  start_under (held k u d) i h c p a =
      let l : waiting ≤ state = omega (arith, i.stands.0) in
      let (v, vs, e) = reads_held s k u d (characters_at text at) in
      start_by k (held k u d) i v vs e c p (a ∙ rw (le-ltb state waiting l) (sym (ap kind_number i.stands.3)))

-- starts that are marked stay so, and one more is
module _ {s text starts : List ℕ} {done : ℕ} where
  pub started_fewer : (n m : ℕ) → m ≤ n → Started s text starts done n → Started s text starts done m
  started_fewer n m h a = record { each = λ (j : ℕ) (l : j < m). a.each j (omega arith) }

  pub started_set : (n i x : ℕ) → n ≤ i → Started s text starts done n → Started s text (set starts i x) done n
  started_set n i x h a =
      record { each = λ (j : ℕ) (l : j < n). subst (StartOf s text (done + j)) (sym (get_or-set_other starts i j x 0 (λ z. absurd (omega arith)))) (a.each j l) }

  pub started_more : (n x : ℕ) → n < length starts → StartOf s text (done + n) x → Started s text starts done n → Started s text (set starts n x) done (n + 1)
  started_more n x h b a = record { each = λ (j : ℕ) (l : j < n + 1). go j l (dec_lt j n) }
    where
      go : (j : ℕ) → j < n + 1 → Dec (j < n) → StartOf s text (done + j) (get_or (set starts n x) j 0)
      go j l (yes m) = (started_set n n x (omega arith) a).each j m
      go j l (no m) =
          let e : j ≡ n = omega arith in
          subst (λ (j : ℕ). StartOf s text (done + j) (get_or (set starts n x) j 0)) (sym e) (subst (StartOf s text (done + n)) (sym (get_or-set_same starts n x 0 h)) b)

  -- the last start, put at the front, is where the next piece begins
  pub started_next : (n : ℕ) → 0 < length starts → Started s text starts done (n + 1) → Started s text (set starts 0 (get_or starts n 0)) (done + n) 1
  started_next n h a =
      record {
        each = λ (j : ℕ) (l : j < 1).
            let e : j ≡ 0 = omega arith in
            subst (λ (j : ℕ). StartOf s text (done + n + j) (get_or (set starts 0 (get_or starts n 0)) j 0)) (sym e)
            (subst (λ (x : ℕ). StartOf s text (done + n + 0) x) (sym (get_or-set_same starts 0 (get_or starts n 0) 0 h)) (subst (λ (m : ℕ). StartOf s text m (get_or starts n 0)) (omega arith) (a.each n (omega arith))));
      }
