-- A reply of equal answers is the same, and a result tells whether the answer is a refusal. Assumes nothing.
use Prim.Native.Nat.{ℕ, ◌≤◌}
use mathlib.Core.Path.{◌≡◌, subst, sym, ap}
use mathlib.Core.List.{List}
use native.Mathlib.Omega.{arith}
use Rattle.std.specs.Prelude.{Result, Err}
use Rattle.refusal.specs.Refusal.{number_of}
use Rattle.refusal.specs.declared.Refusal.{Refusal}
use Rattle.refusal.specs.declared.Refusal.TheVariants.{
  Length,
  Header,
  Range,
  Entry,
  TextLength,
  IllFormed,
  Characters,
  Room,
  NotScalar,
  Change,
  Profiles,
  Buffer,
  Shape,
  Mark,
}
use Rattle.image.specs.declared.Summary.{Summary}
use Rattle.image.specs.declared.Checked.{Checked}
use Rattle.reply.specs.Reply.{Reply, Tells, refuses}
use Rattle.reply.specs.TokenReply.{done}
use Rattle.reply.specs.ImageReply.{checked_by, array_by, TellsChecked}

pub told : {T : Type 0} (reply : T → Reply) {x y : T} {n : ℕ} {a : List ℕ} → x ≡ y → Tells (reply y) n a → Tells (reply x) n a
told reply {n = n} {a} e h = subst (λ z. Tells (reply z) n a) (sym e) h

-- a refusal has a number of 1 to 14
pub known : (r : Refusal) → (1 ≤ number_of r) × (number_of r ≤ 14)
known Length = (omega arith, omega arith)
known Header = (omega arith, omega arith)
known (Range i) = (omega arith, omega arith)
known (Entry i) = (omega arith, omega arith)
known TextLength = (omega arith, omega arith)
known (IllFormed p n) = (omega arith, omega arith)
known (Characters p) = (omega arith, omega arith)
known (Room n) = (omega arith, omega arith)
known (NotScalar x) = (omega arith, omega arith)
known (Change x) = (omega arith, omega arith)
known Profiles = (omega arith, omega arith)
known (Buffer n) = (omega arith, omega arith)
known Shape = (omega arith, omega arith)
known (Mark p) = (omega arith, omega arith)

-- so the result tells a refusal from the other answers
pub apart : (r : Refusal) → (number_of r ≡ 0 → ⊥) × (number_of r ≡ done → ⊥)
apart r = (λ e. omega (arith, known r), λ e. omega (arith, known r))

-- a refused check or read, told: the arrays stay
module _ (k : Checked) {ps rs a : List ℕ} where
  pub told_refused : {r : Refusal} {n : ℕ} → k.answer ≡ Err r → Tells (refuses r) n a → TellsChecked k ps rs n a ps rs
  told_refused e h = record {
    told = told (λ (x : Result Summary Refusal). checked_by x k.profile.used) e h;
    points_kept = ap (λ (x : Result Summary Refusal). array_by x k.profile.points ps) (sym e);
    roles_kept = ap (λ (x : Result Summary Refusal). array_by x k.profile.roles rs) (sym e);
  }

pub told_checked : {k l : Checked} {ps rs : List ℕ} {n : ℕ} {a ps' rs' : List ℕ} → k ≡ l → TellsChecked k ps rs n a ps' rs' → TellsChecked l ps rs n a ps' rs'
told_checked {ps = ps} {rs} {n} {a} {ps'} {rs'} e h = subst (λ (x : Checked). TellsChecked x ps rs n a ps' rs') e h
