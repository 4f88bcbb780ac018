-- Demand 2 for tokens: "counting and writing refuse a well-formed text within the length limit for its characters exactly when it has no
-- such division"; with 14 exactly when a mark in the division is refused, at the first (docs/RULES.md, "Direction marks"); and they accept
-- exactly the rest. The division is unique (`divided_unique`), and counting and writing give it (`MeansLaws.antt`). Assumes nothing.
use Prim.Native.Nat.{ℕ, ◌≤◌}
use mathlib.Core.Path.{◌≡◌, refl}
use mathlib.Core.List.{List, [], ◌∷◌}
use mathlib.Core.Logic.{◌↔◌}
use lib.ListN.{length}
use Rattle.lists.proofs.BoolLaws.{impossible}
use Rattle.refusal.specs.declared.Refusal.TheVariants as refusal
use Rattle.refusal.specs.Outcome.{given, refused}
use Rattle.utf8.specs.Text.{Character}
use Rattle.grammar.specs.Scan.{Tok}
use Rattle.grammar.specs.Grammar.{Kind}
use Rattle.grammar.specs.Record.{room_of, tokens_width}
use Rattle.grammar.specs.Reading.{reading_of, count_of, list_of}
use Rattle.demands.specs.Demand2.{Readable, Divided, Stopped, NoDivision, FirstMark, NoMark}
use Rattle.demands.specs.Means.{no_token, mark, CountMeans, counts, count_refuses, ListMeans, lists, list_refuses}
use Rattle.demands.proofs.DividedLaws.{reading_divides, divided_unique}
use Rattle.demands.proofs.MeansLaws.{refuses_stopped, refuses_marked, count_means, means_count, list_means, means_list}

module _ {s text : List ℕ} {cs : List Character} (readable : Readable s text cs) where
  stops : NoDivision s text → (p : ℕ) × Stopped s text p
  stops n = go (reading_of s text).tokens (reading_of s text).left (reading_divides readable)
    where
      go : (ts : List (Tok Character Kind)) (left : List Character) → Divided s text ts left → (p : ℕ) × Stopped s text p
      go ts [] d = absurd (n ts d)
      go ts (c ∷ r) d = (tokens_width ts, record { tokens = ts; first = c; others = r; divided = d; place = refl })

  undivided : {p : ℕ} → Stopped s text p → NoDivision s text
  undivided t ts d = let e = (divided_unique d t.divided).1 in impossible (cc)

  pub count_exactly : ((p : ℕ) × (count_of s text ≡ refused (refusal.Characters p))) ↔ NoDivision s text
  count_exactly = (λ (p, e). go (count_means s text _ e), λ n. let (p, t) = stops n in (p, means_count s text _ (count_refuses (no_token t))))
    where
      go : {p : ℕ} → CountMeans s text (refused (refusal.Characters p)) → NoDivision s text
      go (count_refuses x) = undivided (refuses_stopped x)

  pub list_exactly : (words : ℕ) → ((p : ℕ) × (list_of s text words ≡ refused (refusal.Characters p))) ↔ NoDivision s text
  list_exactly words = (λ (p, e). go (list_means s text words _ e), λ n. let (p, t) = stops n in (p, means_list s text words _ (list_refuses (no_token t))))
    where
      go : {p : ℕ} → ListMeans s text words (refused (refusal.Characters p)) → NoDivision s text
      go (list_refuses x) = undivided (refuses_stopped x)

module _ (s text : List ℕ) where
  -- 14
  pub count_mark : (p : ℕ) → (count_of s text ≡ refused (refusal.Mark p)) ↔ FirstMark s text p
  count_mark p = (λ e. go (count_means s text _ e), λ f. means_count s text _ (count_refuses (mark f)))
    where
      go : CountMeans s text (refused (refusal.Mark p)) → FirstMark s text p
      go (count_refuses x) = refuses_marked x

  pub list_mark : (words p : ℕ) → (list_of s text words ≡ refused (refusal.Mark p)) ↔ FirstMark s text p
  list_mark words p = (λ e. go (list_means s text words _ e), λ f. means_list s text words _ (list_refuses (mark f)))
    where
      go : ListMeans s text words (refused (refusal.Mark p)) → FirstMark s text p
      go (list_refuses x) = refuses_marked x

  -- accepted
  pub count_accepted : ((n : ℕ) × (count_of s text ≡ given n)) ↔ ((ts : List (Tok Character Kind)) × Divided s text ts [] × NoMark s text)
  count_accepted = (λ (n, e). go (count_means s text _ e), λ (ts, d, m). (length ts, means_count s text _ (counts d m refl)))
    where
      go : {n : ℕ} → CountMeans s text (given n) → (ts : List (Tok Character Kind)) × Divided s text ts [] × NoMark s text
      go (counts d m l) = (_, d, m)

  pub list_accepted : (words : ℕ) →
      ((n : ℕ) × (list_of s text words ≡ given n)) ↔ ((ts : List (Tok Character Kind)) × Divided s text ts [] × NoMark s text × (length ts ≤ room_of words))
  list_accepted words = (λ (n, e). go (list_means s text words _ e), λ (ts, d, m, h). (length ts, means_list s text words _ (lists d m refl h)))
    where
      go : {n : ℕ} → ListMeans s text words (given n) → (ts : List (Tok Character Kind)) × Divided s text ts [] × NoMark s text × (length ts ≤ room_of words)
      go (lists d m l h) = (_, d, m, rw l h)
