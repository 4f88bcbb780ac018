-- What each answer of the pair check says of the two images (docs/RULES.md, "Permitted changes", "Named refusals"), exactly when.
-- `proofs/PairLaws.antt` joins this to the answers of `Pair.antt`.
use Rattle.std.specs.Prelude.{ℕ, ◌<◌, ◌≡◌, List, true, Result, Ok, Err}
use Rattle.std.proofs.Math.Option.{some}
use Rattle.utf8.specs.Scalar.{is_scalar}
use Rattle.refusal.specs.declared.Refusal.{Refusal}
use Rattle.refusal.specs.declared.Refusal.TheVariants as refusal
use Rattle.image.specs.Class.{class_named}
use Rattle.image.specs.Permitted.{Permitted}
use Rattle.image.specs.Same.{SameProfile}
use Rattle.image.specs.Check.{range_class}
use Rattle.image.specs.Accepted.{Accepted}
use Rattle.image.specs.Means.{RefusalMeans}
use Rattle.pair.specs.declared.PairRefusal.{PairRefusal}
use Rattle.pair.specs.declared.PairRefusal.TheVariants.{Older, Newer, Neither}

-- the change of x from the older image's ranges to the newer's is permitted
abbrev pub PermittedAt : List ℕ → List ℕ → ℕ → Type 0
PermittedAt older newer x = Permitted (class_named (range_class older x)) (class_named (range_class newer x))

-- the newer differs from the older only by permitted changes
abbrev pub OnlyPermitted : List ℕ → List ℕ → Type 0
OnlyPermitted older newer = (x : ℕ) → is_scalar x ≡ true → PermittedAt older newer x

-- x is the smallest scalar value with a forbidden change
pub record FirstChange (older newer : List ℕ) (x : ℕ) : Type 0 where
  pub scalar : is_scalar x ≡ true
  pub forbidden : PermittedAt older newer x → ⊥
  pub before : (y : ℕ) → y < x → is_scalar y ≡ true → PermittedAt older newer y

-- the older image's refusal of 1 to 4; then the newer's; then 11; then 10 with the smallest scalar value; or yes
pub data PairMeans (older newer : List ℕ) : Result (Unit {0}) PairRefusal → Type 0 where
  bad_older : {r : Refusal} → RefusalMeans older (some r) → PairMeans older newer (Err (Older r))
  bad_newer : {r : Refusal} → Accepted older → RefusalMeans newer (some r) → PairMeans older newer (Err (Newer r))
  other_profile : Accepted older → Accepted newer → (SameProfile older newer → ⊥) → PairMeans older newer (Err (Neither refusal.Profiles))
  bad_change :
      {x : ℕ} → Accepted older → Accepted newer → SameProfile older newer → FirstChange older newer x
      → PairMeans older newer (Err (Neither (refusal.Change x)))
  all_permitted : Accepted older → Accepted newer → SameProfile older newer → OnlyPermitted older newer → PairMeans older newer (Ok tt)
