-- The halving search (docs/RULES.md, "Lookup and its count"), over ranges given by a function of the index:
-- those of an image, or its profile entries (`Records.antt`).
use Rattle.std.specs.Prelude.{ℕ, zero, suc, ◌+◌, ◌-◌, ◌/◌, cond, leb, ltb}
use Rattle.image.specs.Ranges.{holds}
use Rattle.image.specs.declared.Range.{Range}
use Rattle.lookup.specs.declared.Probe.{Probe}

-- nothing is left: no range was looked at
abbrev pub nothing : Probe
nothing = record { class = 0; count = 0 }

-- one more step
abbrev pub more : Probe → Probe
more p = record { class = p.class; count = p.count + 1 }

-- a step looks at range m: where it holds x the search stops; otherwise `f` searches the half that remains,
-- the one below m where x is before the range, else the one above m
abbrev pub look : (ℕ → ℕ → Probe) → (ℕ → Range) → ℕ → ℕ → ℕ → ℕ → Probe
look f at x lo hi m =
    cond (holds (at m) x) (record { class = (at m).class; count = 1 }) (cond (ltb x (at m).first) (more (f lo m)) (more (f (m + 1) hi)))

-- at most k steps, from lo to hi
abbrev pub seek_in : ℕ → (ℕ → Range) → ℕ → ℕ → ℕ → Probe
seek_in zero at lo hi x = nothing
seek_in (suc k) at lo hi x = cond (leb hi lo) nothing (look (λ a b. seek_in k at a b x) at x lo hi ((lo + hi) / 2))

-- the search from lo to hi: the class it finds, and the number of its steps
unfoldable pub seek_of : (ℕ → Range) → ℕ → ℕ → ℕ → Probe
seek_of at lo hi x = seek_in (hi - lo) at lo hi x
