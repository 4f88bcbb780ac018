-- What a turn of counting tells of the marks, by what stands before the token. Assumes nothing.
use Prim.Native.Nat.{ℕ, zero, suc, ◌-◌, ◌≤◌, ◌<◌}
use mathlib.Core.Path.{◌≡◌, refl, sym, ap, ◌∙◌}
use mathlib.Core.Bool.{Bool, true, false, false≢true, cond}
use mathlib.Core.Option.{Option, none, some}
use mathlib.Core.Logic.{◌⊎◌, inl, inr}
use native.Mathlib.Omega.{arith}
use lib.Dec.{leb}
use borrow.Author.Tests.{eq-eqb, ne_eqb}
use Rattle.lists.proofs.BoolLaws.{impossible}
use Rattle.grammar.specs.White.{blank, line_end, mark}
use Rattle.grammar.specs.Grammar.{Kind, identifier, syntax, whitespace}
use Rattle.grammar.specs.Kinds.{kind_number, kind_of, goes_with}
use Rattle.grammar.specs.Beside.{View, other, after_identifier, next_view, parted_by, refused_by, either}
use Rattle.turns.specs.Turns.{waiting, trait_meaning, begun_by, turn_by, turn_of}
use Rattle.turns.proofs.TurnLaws.{phase_waits}
use Rattle.count.specs.Turns.{Side, free, of_identifier, of_medial, of_identifier_mark, of_medial_mark, of_mark_medial, placed, side_named, plain_of, view_by, beside_by, goes_by, count_turn_by, state_for, count_waiting, refused_beside}
use Rattle.count.specs.Counting.{RefusedAt}

-- the view of a token beside which no mark stands
abbrev pub plain_view : Kind → View
plain_view identifier = after_identifier
plain_view syntax = other
plain_view (whitespace w) = other

-- what the turn of a token that begins tells: d stands before it, with its mark at byte q
pub data Beside (d : Side) (q : ℕ) (k : Kind) (b : Bool) : ℕ → Type 0 where
  apart : ((p : ℕ) → next_view (placed d q) p k b ≡ plain_view k) → refused_by (placed d q) k ≡ none → Beside d q k b 1
  marks : k ≡ whitespace mark → (d ≡ of_identifier) ⊎ (d ≡ of_medial) → Beside d q k b 5
  links : k ≡ syntax → b ≡ true → d ≡ of_identifier_mark → Beside d q k b 6
  joins : k ≡ identifier → parted_by (placed d q) ≡ some q → Beside d q k b 7
  waits : d ≡ of_identifier → k ≡ syntax → b ≡ true → Beside d q k b 9

beside_identifier : (d : Side) (q : ℕ) (b : Bool) → Beside d q identifier b (beside_by d identifier b)
beside_identifier free q b = apart (λ p. refl) refl
beside_identifier of_identifier q b = apart (λ p. refl) refl
beside_identifier of_medial q b = apart (λ p. refl) refl
beside_identifier of_identifier_mark q b = joins refl refl
beside_identifier of_medial_mark q b = joins refl refl
beside_identifier of_mark_medial q b = joins refl refl

beside_medial : (d : Side) (q : ℕ) → Beside d q syntax true (beside_by d syntax true)
beside_medial free q = apart (λ p. refl) refl
beside_medial of_identifier q = waits refl refl refl
beside_medial of_medial q = apart (λ p. refl) refl
beside_medial of_identifier_mark q = links refl refl refl
beside_medial of_medial_mark q = apart (λ p. refl) refl
beside_medial of_mark_medial q = apart (λ p. refl) refl

beside_mark : (d : Side) (q : ℕ) (b : Bool) → Beside d q (whitespace mark) b (beside_by d (whitespace mark) b)
beside_mark free q b = apart (λ p. refl) refl
beside_mark of_identifier q b = marks refl (inl refl)
beside_mark of_medial q b = marks refl (inr refl)
beside_mark of_identifier_mark q b = apart (λ p. refl) refl
beside_mark of_medial_mark q b = apart (λ p. refl) refl
beside_mark of_mark_medial q b = apart (λ p. refl) refl

beside : (d : Side) (q : ℕ) (k : Kind) (b : Bool) → Beside d q k b (beside_by d k b)
beside d q identifier b = beside_identifier d q b
beside d q syntax true = beside_medial d q
beside d q syntax false = apart (λ p. refl) refl
beside d q (whitespace blank) b = apart (λ p. refl) refl
beside d q (whitespace line_end) b = apart (λ p. refl) refl
beside d q (whitespace mark) b = beside_mark d q b

-- what a turn of counting tells, where n is the turn in `turns` and o the kind of token that the character begins
pub data Told (d : Side) (q : ℕ) (b : Bool) : ℕ → Option Kind → ℕ → Type 0 where
  goes : {o : Option Kind} → goes_by d ≡ 0 → Told d q b 0 o 0
  stays : {o : Option Kind} → goes_by d ≡ 4 → Told d q b 0 o 4
  begins : {k : Kind} {r : ℕ} → Beside d q k b r → Told d q b 1 (some k) r
  begins_none : Told d q b 1 none 8
  waits : {o : Option Kind} → Told d q b 2 o 2
  settles : {o : Option Kind} → Told d q b 3 o 3
  stops : {n : ℕ} {o : Option Kind} → 4 ≤ n → Told d q b n o 8

told_goes : (d : Side) (q : ℕ) (b : Bool) (o : Option Kind) → Told d q b 0 o (goes_by d)
told_goes free q b o = goes refl
told_goes of_identifier q b o = goes refl
told_goes of_medial q b o = goes refl
told_goes of_identifier_mark q b o = stays refl
told_goes of_medial_mark q b o = stays refl
told_goes of_mark_medial q b o = goes refl

pub told : (d : Side) (q : ℕ) (b : Bool) (n : ℕ) (o : Option Kind) → Told d q b n o (count_turn_by d n o b)
told d q b zero o = told_goes d q b o
told d q b (suc zero) none = begins_none
told d q b (suc zero) (some k) = begins (beside d q k b)
told d q b (suc (suc zero)) o = waits
told d q b (suc (suc (suc zero))) o = settles
told d q b (suc (suc (suc (suc n)))) o = let h : 4 ≤ suc (suc (suc (suc n))) = omega arith in stops h

-- where a medial waits or is settled, the turn is that of `turns`
pub told_same : {d : Side} {q n r : ℕ} {b : Bool} {o : Option Kind} → Told d q b n o r → 2 ≤ r → r ≤ 3 → n ≡ r
told_same waits l h = refl
told_same settles l h = refl
told_same (goes e) l h = absurd (omega arith)
told_same (stays e) l h = absurd (omega arith)
told_same (begins (apart e f)) l h = absurd (omega arith)
told_same (begins (marks e f)) l h = absurd (omega arith)
told_same (begins (links e f g)) l h = absurd (omega arith)
told_same (begins (joins e f)) l h = absurd (omega arith)
told_same (begins (waits e f g)) l h = absurd (omega arith)
told_same begins_none l h = absurd (omega arith)
told_same (stops e) l h = absurd (omega arith)

-- the states of tokens beside which no mark stands
pub plain_state : (k : Kind) → plain_of (state_for (kind_number k)) ≡ kind_number k
plain_state identifier = refl
plain_state syntax = refl
plain_state (whitespace blank) = refl
plain_state (whitespace line_end) = refl
plain_state (whitespace mark) = refl

pub plain_side : (k : Kind) (q : ℕ) → view_by (state_for (kind_number k)) q ≡ plain_view k
plain_side identifier q = refl
plain_side syntax q = refl
plain_side (whitespace blank) q = refl
plain_side (whitespace line_end) q = refl
plain_side (whitespace mark) q = refl

pub state_less : (k : Kind) → state_for (kind_number k) < count_waiting
state_less identifier = omega arith
state_less syntax = omega arith
state_less (whitespace blank) = omega arith
state_less (whitespace line_end) = omega arith
state_less (whitespace mark) = omega arith

-- those of a medial after an identifier that stands for itself
pub settled_state : (k : Kind) → plain_of (kind_number k) ≡ kind_number k
settled_state identifier = refl
settled_state syntax = refl
settled_state (whitespace blank) = refl
settled_state (whitespace line_end) = refl
settled_state (whitespace mark) = refl

pub settled_view : (k : Kind) (q : ℕ) → view_by (kind_number k) q ≡ next_view after_identifier q k true
settled_view identifier q = refl
settled_view syntax q = refl
settled_view (whitespace blank) q = refl
settled_view (whitespace line_end) q = refl
settled_view (whitespace mark) q = refl

-- the numbers of states: those that wait, and those of some sides
pub record Stated (n : ℕ) : Type 0 where
  pub waits : count_waiting ≤ n → (plain_of n ≡ n - 4) × (side_named n ≡ of_identifier)
  pub plain : waiting ≤ plain_of n → count_waiting ≤ n
  pub nothing : plain_of n ≡ 0 → n ≡ 0
  pub identifier : n < count_waiting → side_named n ≡ of_identifier → n ≡ 1
  pub medial : side_named n ≡ of_medial → n ≡ 2
  pub marked : goes_by (side_named n) ≡ 4 → plain_of n ≡ kind_number (whitespace mark)

pub stated : (n : ℕ) → Stated n
stated zero = record { waits = λ h. absurd (omega arith); plain = λ h. absurd (omega arith); nothing = λ e. refl; identifier = λ h e. impossible (cc); medial = λ e. impossible (cc); marked = λ e. absurd (omega arith) }
stated (suc zero) = record { waits = λ h. absurd (omega arith); plain = λ h. absurd (omega arith); nothing = λ e. absurd (omega arith); identifier = λ h e. refl; medial = λ e. impossible (cc); marked = λ e. absurd (omega arith) }
stated (suc (suc zero)) = record { waits = λ h. absurd (omega arith); plain = λ h. absurd (omega arith); nothing = λ e. absurd (omega arith); identifier = λ h e. impossible (cc); medial = λ e. refl; marked = λ e. absurd (omega arith) }
stated (suc (suc (suc zero))) = record { waits = λ h. absurd (omega arith); plain = λ h. absurd (omega arith); nothing = λ e. absurd (omega arith); identifier = λ h e. impossible (cc); medial = λ e. impossible (cc); marked = λ e. absurd (omega arith) }
stated (suc (suc (suc (suc zero)))) = record { waits = λ h. absurd (omega arith); plain = λ h. absurd (omega arith); nothing = λ e. absurd (omega arith); identifier = λ h e. impossible (cc); medial = λ e. impossible (cc); marked = λ e. absurd (omega arith) }
stated (suc (suc (suc (suc (suc zero))))) = record { waits = λ h. absurd (omega arith); plain = λ h. absurd (omega arith); nothing = λ e. absurd (omega arith); identifier = λ h e. impossible (cc); medial = λ e. impossible (cc); marked = λ e. refl }
stated (suc (suc (suc (suc (suc (suc zero)))))) = record { waits = λ h. absurd (omega arith); plain = λ h. absurd (omega arith); nothing = λ e. absurd (omega arith); identifier = λ h e. impossible (cc); medial = λ e. impossible (cc); marked = λ e. absurd (omega arith) }
stated (suc (suc (suc (suc (suc (suc (suc zero))))))) = record { waits = λ h. absurd (omega arith); plain = λ h. absurd (omega arith); nothing = λ e. absurd (omega arith); identifier = λ h e. impossible (cc); medial = λ e. impossible (cc); marked = λ e. absurd (omega arith) }
stated (suc (suc (suc (suc (suc (suc (suc (suc zero)))))))) = record { waits = λ h. absurd (omega arith); plain = λ h. absurd (omega arith); nothing = λ e. absurd (omega arith); identifier = λ h e. impossible (cc); medial = λ e. impossible (cc); marked = λ e. refl }
stated (suc (suc (suc (suc (suc (suc (suc (suc (suc zero))))))))) = record { waits = λ h. absurd (omega arith); plain = λ h. absurd (omega arith); nothing = λ e. absurd (omega arith); identifier = λ h e. impossible (cc); medial = λ e. impossible (cc); marked = λ e. absurd (omega arith) }
stated (suc (suc (suc (suc (suc (suc (suc (suc (suc (suc n)))))))))) = record { waits = λ h. (omega arith, refl); plain = λ h. omega arith; nothing = λ e. absurd (omega arith); identifier = λ h e. absurd (omega arith); medial = λ e. impossible (cc); marked = λ e. absurd (omega arith) }

-- while a medial waits no token is complete with the character's own turn; a medial after an identifier waits
pub waits_turn : (n t : ℕ) → waiting ≤ n → turn_of n t ≡ 1 → ⊥
unfolding turn_of
waits_turn n t h e = go (goes_with trait_meaning identifier t) (ap (λ p. turn_by trait_meaning p t) (sym (phase_waits n h)) ∙ e)
  where
    go : (b : Bool) → cond {A = ℕ} b 0 3 ≡ 1 → ⊥
    go true f = omega arith
    go false f = omega arith

pub identifier_turn : (t : ℕ) → turn_of 1 t ≡ 1 → leb 8 t ≡ true → ⊥
unfolding turn_of
identifier_turn t e f = go (goes_with trait_meaning identifier t) (leb 8 t) f e
  where
    go : (a b : Bool) → b ≡ true → cond {A = ℕ} a 0 (cond b 2 (begun_by 1 (kind_of trait_meaning t))) ≡ 1 → ⊥
    go true b g h = omega arith
    go false true g h = omega arith
    go false false g h = false≢true g

pub refused_more : (n : ℕ) (o : Option ℕ) (r q : ℕ) → RefusedAt n o r → q < n → RefusedAt n (either o (some q)) (refused_beside 7 r q n)
refused_more n none r q e h = rw (eq-eqb r n e) (refl, h)
refused_more n (some p) r q e h = rw (ne_eqb r n (λ z. absurd (omega (arith, e.0, e.1)))) e
