-- The first mark of a text's division that is refused: the second reading finds it. Assumes nothing.
use Prim.Native.Nat.{ℕ}
use mathlib.Core.Path.{◌≡◌, refl, ap}
use mathlib.Core.List.{List, []}
use mathlib.Core.Option.{Option, none, some}
use native.Mathlib.Omega.{arith}
use Rattle.utf8.specs.Text.{Character}
use Rattle.grammar.specs.Scan.{Tok}
use Rattle.grammar.specs.Grammar.{Kind}
use Rattle.grammar.specs.Second.{first_refused}
use Rattle.grammar.specs.Record.{tokens_width}
use Rattle.grammar.specs.Reading.{meaning_of}
use Rattle.grammar.proofs.RecordLaws.{tokens_append}
use Rattle.grammar.proofs.SecondLaws.{FirstRefused, first_refused_lem, none_refused}
use Rattle.grammar.proofs.BesideLaws.{place_of}
use Rattle.demands.specs.Demand2.{Divided, FirstMark, NoMark}
use Rattle.demands.proofs.DividedLaws.{divided_unique}

-- no mark is refused, or the first that is stands at a byte
abbrev pub Marked : List ℕ → List ℕ → Option ℕ → Type 0
Marked s text none = NoMark s text
Marked s text (some p) = FirstMark s text p

module _ {s text : List ℕ} where
  first_mark : {ts before : List (Tok Character Kind)} → Divided s text ts [] → FirstRefused (meaning_of s) ts before → FirstMark s text (tokens_width before)
  first_mark {ts} {before} d f =
      record {
        mark = record { before = before; mark = f.token; after = f.after; divided = rw f.whole at d; refused = f.refused; place = refl };
        first = λ q m. let (x, h) = f.first m.before m.mark m.after (divided_unique d m.divided).0 m.refused in
            omega (arith, m.place, ap tokens_width h, tokens_append before x);
      }

  pub marks : {ts : List (Tok Character Kind)} → Divided s text ts [] → Marked s text (place_of (first_refused (meaning_of s) [] ts))
  marks {ts} d = go (first_refused (meaning_of s) [] ts) refl
    where
      go : (o : Option (List (Tok Character Kind))) → first_refused (meaning_of s) [] ts ≡ o → Marked s text (place_of o)
      go none e = λ p m. (none_refused (meaning_of s) ts).0 e m.before m.mark m.after (divided_unique d m.divided).0 m.refused
      go (some b) e = first_mark d ((first_refused_lem (meaning_of s) ts b).0 e)

  -- it is one of the two, and there is one first mark
  pub marked_some : {p : ℕ} (o : Option ℕ) → Marked s text o → FirstMark s text p → o ≡ some p
  marked_some none n f = absurd (n _ f.mark)
  marked_some {p} (some q) g f = let e : q ≡ p = omega (arith, g.first p f.mark, f.first q g.mark) in ap some e

  pub marked_none : (o : Option ℕ) → Marked s text o → NoMark s text → o ≡ none
  marked_none none m n = refl
  marked_none (some q) g n = absurd (n q g.mark)
