-- A medial that is itself Continue is simply Continue (docs/RULES.md, "Tokens"). Assumes nothing.
use mathlib.Core.Path.{◌≡◌, refl}
use mathlib.Core.Bool.{Bool, true, false, not, ◌&&◌}
use mathlib.Core.List.{List, ◌∷◌}
use mathlib.Core.Logic.{◌↔◌}
use Rattle.lists.proofs.BoolLaws.{and_left, and_in}
use Rattle.grammar.specs.Meaning.{Meaning}
use Rattle.grammar.specs.Grammar.{Identifier}
use Rattle.grammar.specs.Kinds.{is_continue}
use Rattle.grammar.proofs.GrammarLaws.{continue_means}
use Rattle.grammar.proofs.TailLaws.{Tail, no_more, continued, linked, identifier_begun, tail_identifier}

-- the meaning that takes the medial mark from every unit that is Continue
abbrev pub unmarked : {A : Type 0} → Meaning A → Meaning A
unmarked m = record { class = m.class; white = m.white; medial = λ c. m.medial c && not (is_continue (m.class c)) }

module _ {A : Type 0} (m : Meaning A) where
  take_marks : {r : List A} → Tail m r → Tail (unmarked m) r
  take_marks no_more = no_more
  take_marks (continued e t) = continued e (take_marks t)
  take_marks (linked {d = d} {c = c} {r = r} e h t) = go (is_continue (m.class d)) refl (take_marks t)
    where
      go : (b : Bool) → is_continue (m.class d) ≡ b → Tail (unmarked m) r → Tail (unmarked m) (d ∷ c ∷ r)
      go true f s = continued (continue_means (m.class d) f) (continued h s)
      go false f s = linked (and_in (m.medial d) (not (is_continue (m.class d))) e (rw f)) h s

  give_marks : {r : List A} → Tail (unmarked m) r → Tail m r
  give_marks no_more = no_more
  give_marks (continued e t) = continued e (give_marks t)
  give_marks (linked {d = d} e h t) = linked (and_left (m.medial d) (not (is_continue (m.class d))) e) h (give_marks t)

  -- exactly the same units are identifiers
  pub identifier_unmarked : (u : List A) → Identifier m u ↔ Identifier (unmarked m) u
  identifier_unmarked u = (
    λ i. let b = identifier_begun m i in rw b.whole (tail_identifier (unmarked m) b.start (take_marks b.tail)),
    λ i. let b = identifier_begun (unmarked m) i in rw b.whole (tail_identifier m b.start (give_marks b.tail)),
  )
