-- An identifier, unit by unit. Assumes nothing.
use mathlib.Core.Path.{◌≡◌, refl, ap}
use mathlib.Core.List.{List, [], ◌∷◌, ◌++◌}
use Rattle.grammar.specs.All.{All}
use Rattle.grammar.specs.Meaning.{Meaning}
use Rattle.grammar.specs.Grammar.{IsContinue, IsMedial, Groups, no_group, group, Identifier}
use Rattle.image.specs.Class.{Start}

module _ {A : Type 0} (m : Meaning A) where
  -- what may follow an identifier's first unit: Continues, and medials with a Continue after each
  pub data Tail : List A → Type 0 where
    no_more : Tail []
    continued : {c : A} {r : List A} → IsContinue m c → Tail r → Tail (c ∷ r)
    linked : {d c : A} {r : List A} → IsMedial m d → IsContinue m c → Tail r → Tail (d ∷ c ∷ r)

  plain_tail : (cs : List A) {gs : List A} → All (IsContinue m) cs → Tail gs → Tail (cs ++ gs)
  plain_tail [] a t = t
  plain_tail (c ∷ cs) a t = continued a.0 (plain_tail cs a.1 t)

  groups_tail : {gs : List A} → Groups m gs → Tail gs
  groups_tail no_group = no_more
  groups_tail (group cs d e a g) = linked d e (plain_tail cs a (groups_tail g))

  -- a tail is plain units, then groups
  tail_split : {r : List A} → Tail r → (cs : List A) × (gs : List A) × (r ≡ cs ++ gs) × All (IsContinue m) cs × Groups m gs
  tail_split no_more = ([], [], refl, tt, no_group)
  tail_split (continued {c = c} e t) = let s = tail_split t in (c ∷ s.0, s.1, ap (λ x. c ∷ x) s.2, (e, s.3), s.4)
  tail_split (linked {d = d} {c = c} e h t) =
      let s = tail_split t in
      ([], d ∷ c ∷ (s.0 ++ s.1), ap (λ x. d ∷ c ∷ x) s.2, tt, group s.0 e h s.3 s.4)

  -- an identifier is a Start and a tail
  pub record Begun (u : List A) : Type 0 where
    pub first : A
    pub after : List A
    pub whole : u ≡ first ∷ after
    pub start : m.class first ≡ Start
    pub tail : Tail after

  pub identifier_begun : {u : List A} → Identifier m u → Begun u
  identifier_begun i =
      record { first = i.first; after = i.plain ++ i.groups; whole = i.whole; start = i.start; tail = plain_tail i.plain i.continued (groups_tail i.grouped) }

  pub tail_identifier : {c : A} {r : List A} → m.class c ≡ Start → Tail r → Identifier m (c ∷ r)
  tail_identifier {c} e t =
      let (cs, gs, w, a, g) = tail_split t in
      record { first = c; plain = cs; groups = gs; whole = ap (λ x. c ∷ x) w; start = e; continued = a; grouped = g }

  pub begun_identifier : {u : List A} → Begun u → Identifier m u
  begun_identifier b = rw b.whole (tail_identifier b.start b.tail)

  pub tail_append : {u v : List A} → Tail u → Tail v → Tail (u ++ v)
  tail_append no_more t = t
  tail_append (continued e s) t = continued e (tail_append s t)
  tail_append (linked e h s) t = linked e h (tail_append s t)

  -- the units from any place in a tail on
  pub tail_from : (u : List A) {v : List A} → Tail (u ++ v) → Tail v
  tail_from [] t = t
  tail_from (c ∷ u) t = tail_from u (next t)
    where
      next : {d : A} {r : List A} → Tail (d ∷ r) → Tail r
      next (continued e s) = s
      next (linked e h s) = continued h s
