-- A reader of tokens in one pass, over any units, kinds and rules. It is the reader's form of docs/RULES.md, "Tokens";
-- `proofs/DivisionLaws.antt` joins it to the division of a text.
--
--   Tok             a token that was read: its kind and its units
--   Reading         what was read: the rest of the token under way, the tokens after it, the units that are left
--   Rules           what a reader goes by
--   units_of         the units of tokens, one after the other
--   grown, opened   a reading with one more unit of the token under way; with a token that begins
--   stopped         the reading of units where no token begins
--   read_by          the reading of a unit and those after it
--   goes            whether the token under way, if there is one, goes on
--   walk, reading   the reading of what follows, where a token of a kind is under way, or none; of a text
use Rattle.std.specs.Prelude.{Bool, true, false, List, [], ◌∷◌, ◌++◌}
use Rattle.std.proofs.Math.Option.{Option, none, some}

pub record Tok (A K : Type 0) : Type 0 where
  pub kind : K
  pub units : List A

-- left: the units from the first on that begins no token
pub record Reading (A K : Type 0) : Type 0 where
  pub run : List A
  pub tokens : List (Tok A K)
  pub left : List A

-- the kind of token that a unit begins, and whether a token of a kind goes on with the units that follow
pub record Rules (A K : Type 0) : Type 0 where
  pub kind_of : A → Option K
  pub more : K → List A → Bool

module _ {A K : Type 0} where
  abbrev pub units_of : List (Tok A K) → List A
  units_of [] = []
  units_of (t ∷ ts) = t.units ++ units_of ts

  abbrev pub grown : A → Reading A K → Reading A K
  grown c w = record { run = c ∷ w.run; tokens = w.tokens; left = w.left }

  -- a token of kind k that begins with c; what was under way is its rest
  abbrev pub opened : K → A → Reading A K → Reading A K
  opened k c w = record { run = []; tokens = record { kind = k; units = c ∷ w.run } ∷ w.tokens; left = w.left }

  abbrev pub stopped : List A → Reading A K
  stopped s = record { run = []; tokens = []; left = s }

  -- by whether the token under way goes on with c ∷ r, and by the kind of token that c begins;
  -- `here` is the reading of r with the same token under way, `there` with one of another kind
  abbrev pub read_by : Bool → Option K → A → List A → Reading A K → (K → Reading A K) → Reading A K
  read_by true o c r here there = grown c here
  read_by false none c r here there = stopped (c ∷ r)
  read_by false (some j) c r here there = opened j c (there j)

  abbrev pub goes : Rules A K → Option K → List A → Bool
  goes R none s = false
  goes R (some k) s = R.more k s

  unfoldable pub walk : Rules A K → Option K → List A → Reading A K
  walk R k [] = stopped []
  walk R k (c ∷ r) = read_by (goes R k (c ∷ r)) (R.kind_of c) c r (walk R k r) (λ (j : K). walk R (some j) r)

  abbrev pub reading : Rules A K → List A → Reading A K
  reading R s = walk R none s
