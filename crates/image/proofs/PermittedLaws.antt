-- Where two images have the same profile, a change that is permitted in the ranges is permitted after the profile. Assumes nothing.
use Prim.Native.Nat.{ℕ}
use mathlib.Core.Path.{◌≡◌, refl, sym, ap, ◌∙◌}
use mathlib.Core.Bool.{Bool, true, false, cond}
use mathlib.Core.List.{List}
use lib.Dec.{eqb}
use Rattle.image.specs.Class.{class_named}
use Rattle.image.specs.Profile.{role_of, after_role, is_medial}
use Rattle.image.specs.Permitted.{Permitted, same}
use Rattle.image.specs.Same.{SameProfile}
use Rattle.image.specs.Check.{range_class, entry_role, class_of, medial_of}
use Rattle.image.proofs.ImageLaws.{profiles_equal}
use Rattle.image.proofs.RoleLaws.{role_in_record, class_after, medial_by}

by_role : (start nonstart other : Bool) (a b : ℕ) → Permitted (class_named a) (class_named b) →
    Permitted (class_named (cond start 1 (cond nonstart 2 (cond other 5 a)))) (class_named (cond start 1 (cond nonstart 2 (cond other 5 b))))
by_role true nonstart other a b p = same refl
by_role false true other a b p = same refl
by_role false false true a b p = same refl
by_role false false false a b p = p

after_role_lem : (role a b : ℕ) → Permitted (class_named a) (class_named b) → Permitted (class_named (after_role role a)) (class_named (after_role role b))
unfolding after_role
after_role_lem role a b p = by_role (eqb role 1) (eqb role 2) (eqb role 4) a b p

module _ (older newer : List ℕ) (profiles : SameProfile older newer) (x : ℕ) where
  same_role : entry_role newer x ≡ entry_role older x
  same_role = role_in_record newer x ∙ ap (λ p. role_of p x) (sym (profiles_equal older newer profiles)) ∙ sym (role_in_record older x)

  pub permitted_after : Permitted (class_named (range_class older x)) (class_named (range_class newer x)) → Permitted (class_named (class_of older x)) (class_named (class_of newer x))
  permitted_after p = rw (class_after older x, class_after newer x, same_role) (after_role_lem (entry_role older x) (range_class older x) (range_class newer x) p)

  pub medial_same : medial_of newer x ≡ medial_of older x
  medial_same = medial_by newer x ∙ ap is_medial same_role ∙ sym (medial_by older x)
